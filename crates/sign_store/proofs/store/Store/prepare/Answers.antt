use Rattle.std.proofs.Common.{List, [], ◌∷◌, ℕ, length, slice_index, refl, sym, ap, subst, ◌∙◌, arith}
use Rattle.std.proofs.lemmas.List.{length-append}
use Rattle.sign_store.specs.declared.map.RecordMap.{RecordMap}
use Rattle.sign_store.specs.Maps.{map_in, HasRecord}
use Rattle.sign_store.proofs.TicketLemmas.{out_beside, kept_room, untouched}
use Rattle.sign_store.proofs.store.Store.prepare.Goals as goal

pub returns-in_err-number-clause-tickets : goal.returns-in_err-number-clause-tickets
returns-in_err-number-clause-tickets c = record {
  each = λ rec ticket is. record {
    held = c.add.ensures.keeps rec ticket.number is.held;
    put = is.put;
    withdrawal = is.withdrawal;
  };
}

pub returns-in_err-number-clause-outs : goal.returns-in_err-number-clause-outs
returns-in_err-number-clause-outs c = record {
  each = λ rec ticket out.
      out_beside c.args.self.now _ rec ticket out (record { held = c.add.ensures.keeps rec ticket.number out.own.held; put = out.own.put; withdrawal = out.own.withdrawal })
      c.add.ensures.same (omega arith) refl;
}

pub returns-in_err-room-clause-tickets : goal.returns-in_err-room-clause-tickets
returns-in_err-room-clause-tickets c = record {
  each = λ rec ticket is. record {
    held = subst (λ (map : RecordMap). HasRecord map rec ticket.number) (sym c.keep_room.ensures.map) (c.add.ensures.keeps rec ticket.number is.held);
    put = is.put;
    withdrawal = is.withdrawal;
  };
}

pub returns-in_err-room-clause-outs : goal.returns-in_err-room-clause-outs
returns-in_err-room-clause-outs c = record {
  each = λ rec ticket out.
      out_beside c.args.self.now c.keep_room.new.self rec ticket out
      (record {
        held = subst (λ (map : RecordMap). HasRecord map rec ticket.number) (sym c.keep_room.ensures.map) (c.add.ensures.keeps rec ticket.number out.own.held);
        put = out.own.put;
        withdrawal = out.own.withdrawal;
      })
      (ap map_in c.keep_room.ensures.map ∙ c.add.ensures.same) (omega (arith, ap length c.in_err-room.ensures.same)) (ap (λ (x : List ℕ). slice_index x ticket.room) c.in_err-room.ensures.same);
}

pub returns-clause-tickets : goal.returns-clause-tickets
returns-clause-tickets c = record {
  each = λ rec ticket is. record {
    held = subst (λ (map : RecordMap). HasRecord map rec ticket.number) (sym c.keep_room.ensures.map) (c.add.ensures.keeps rec ticket.number is.held);
    put = is.put;
    withdrawal = is.withdrawal;
  };
}

pub returns-clause-outs : goal.returns-clause-outs
returns-clause-outs c = record {
  each = λ rec ticket out.
      out_beside c.args.self.now c.keep_room.new.self rec ticket out
      (record {
        held = subst (λ (map : RecordMap). HasRecord map rec ticket.number) (sym c.keep_room.ensures.map) (c.add.ensures.keeps rec ticket.number out.own.held);
        put = out.own.put;
        withdrawal = out.own.withdrawal;
      })
      (ap map_in c.keep_room.ensures.map ∙ c.add.ensures.same) (omega (arith, ap length c.in_ok-room.ensures.rooms, length-append c.args.self.now.rooms.items (c.entries_len-entries.result ∷ [])))
      (kept_room c.args.self.now.rooms.items c.keep_room.new.self.rooms.items c.entries_len-entries.result ticket.room c.in_ok-room.ensures.rooms out.room.inside);
}

pub returns-in_err-number-clause-same : goal.returns-in_err-number-clause-same
returns-in_err-number-clause-same c = untouched c.from_residual-in_err-number.result c.args.self.now _ c.add.ensures.same refl refl refl

pub returns-in_err-room-clause-same : goal.returns-in_err-room-clause-same
returns-in_err-room-clause-same c =
    untouched c.from_residual-in_err-room.result c.args.self.now c.keep_room.new.self (ap map_in c.keep_room.ensures.map ∙ c.add.ensures.same) c.keep_room.ensures.banks.bank c.keep_room.ensures.banks.end c.in_err-room.ensures.same
