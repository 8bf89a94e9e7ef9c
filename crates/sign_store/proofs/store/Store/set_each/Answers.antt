use Rattle.std.proofs.Common.{◌≡◌, ◌∙◌, ◌∷◌, Contains, refl, sym, ap, subst}
use Rattle.sign_store.specs.declared.map.RecordMap.{RecordMap}
use Rattle.sign_store.specs.Maps.{HasRecord}
use Rattle.sign_store.specs.Putting.{map_with}
use Rattle.sign_store.proofs.GroupLemmas.{FreedSoFar, SetSoFar, first_in, freed_first, freed_next, later_in, left_parts, set_first, set_next}
use Rattle.sign_store.proofs.store.Store.set_each.Goals as goal

pub loop-left-init : goal.loop-left-init
loop-left-init g c = record {
  map = λ are. set_first c.args.self.now c.args.held.now are;
  freed = freed_first c.args.held.now c.args.self.now.rooms.items;
  records = refl;
  tickets = record { each = λ rec ticket is. is };
  live = refl;
  banks = record { bank = refl; end = refl };
  among = λ x h. h;
}

pub loop-left-preserved : goal.loop-left-preserved
loop-left-preserved g c =
    let before = c.loop-left.invariant in
    let one = c.one-item.result in
    let parts = left_parts c.loop-left.left.now one c.in-len1-up.len_at_least c.one-item.is in
    let here = before.among one (subst (λ all. Contains all one) (sym parts) (first_in _ one)) in
    record {
      map = λ are.
          set_next c.loop-left.self.map c.free.new.self.map c.set.new.self one _ _ c.free.ensures.map c.set.ensures.map c.set.ensures.records c.set.ensures.keeps
          (subst (λ all. SetSoFar c.loop-left.self.map all (map_with c.args.self.now c.args.held.now)) parts (before.map are));
      freed = freed_next c.args.held.now one _ c.args.self.now.rooms.items c.loop-left.self.rooms.items c.free.new.self.rooms.items here c.free.ensures.rooms.rooms c.free.ensures.rooms.others c.free.ensures.none
          (subst (λ all. FreedSoFar c.args.held.now all c.args.self.now.rooms.items c.loop-left.self.rooms.items) parts before.freed);
      records = c.set.ensures.records ∙ ap (λ (map : RecordMap). map.records.items) c.free.ensures.map ∙ before.records;
      tickets = record {
        each = λ rec ticket is.
            let still = before.tickets.each rec ticket is in
            record {
              held = c.set.ensures.keeps rec ticket.number (subst (λ (map : RecordMap). HasRecord map rec ticket.number) (sym c.free.ensures.map) still.held);
              put = still.put;
              withdrawal = still.withdrawal;
            };
      };
      live = c.free.ensures.live ∙ before.live;
      banks = record { bank = c.free.ensures.banks.bank ∙ before.banks.bank; end = c.free.ensures.banks.end ∙ before.banks.end };
      among = λ x h. before.among x (subst (λ all. Contains all x) (sym parts) (later_in _ one x h));
    }
