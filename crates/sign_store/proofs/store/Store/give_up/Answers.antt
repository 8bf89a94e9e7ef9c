use Rattle.std.proofs.Common.{sym, ap, subst, arith}
use Rattle.sign_store.specs.declared.map.RecordMap.{RecordMap}
use Rattle.sign_store.specs.Maps.{map_in, HasRecord}
use Rattle.sign_store.proofs.TicketLemmas.{out_beside}
use Rattle.sign_store.proofs.store.Store.give_up.Goals as goal

pub returns-clause-outs : goal.returns-clause-outs
returns-clause-outs c = record {
  each = λ rec ticket differs out.
      out_beside c.args.self.now c.free.new.self rec ticket out
      (record {
        held = subst (λ (map : RecordMap). HasRecord map rec ticket.number) (sym c.free.ensures.map) out.own.held;
        put = out.own.put;
        withdrawal = out.own.withdrawal;
      })
      (ap map_in c.free.ensures.map) (omega (arith, c.free.ensures.rooms.rooms)) (c.free.ensures.rooms.others ticket.room differs);
}

pub returns-clause-freed : goal.returns-clause-freed
returns-clause-freed c = record { rooms = c.free.ensures.rooms; none = c.free.ensures.none }
