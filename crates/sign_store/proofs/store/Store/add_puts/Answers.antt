use Rattle.std.proofs.Common.{◌≡◌, ◌∙◌, ◌∷◌, ℕ, List, Contains, length, refl, sym, subst, arith}
use Rattle.world_api.specs.declared.disk.Bank.{Bank}
use Rattle.sign_store.specs.Putting.{AreStagedFrom, put_over}
use Rattle.sign_store.specs.Reached.{Writes}
use Rattle.sign_store.specs.Staging.{IsEntry}
use Rattle.sign_store.specs.Stores.{HasRoom}
use Rattle.sign_store.specs.Tables.{Map}
use Rattle.sign_store.proofs.DiskLemmas.{writes_joined, writes_same}
use Rattle.sign_store.proofs.GroupLemmas.{AddedSoFar, added_next, first_in, later_in, left_parts, rooms_kept, rooms_on}
use Rattle.sign_store.proofs.StageLemmas.{behind_as, behind_same, behind_then}
use Rattle.sign_store.proofs.store.Store.add_puts.Goals as goal

pub loop-left-init : goal.loop-left-init
loop-left-init g c =
    let m = g.W.Disk.meaning in
    let world = c.args.world.now in
    record {
      map = refl;
      bank = refl;
      behind = c.requires.behind;
      live = refl;
      within = c.requires.within;
      writes = writes_same m c.args.self.now.bank world;
      counts = refl;
      stays = behind_same m world c.args.self.now.bank c.args.start (g.met.W.Disk.only_now world);
      staged = λ from mid are staged. record { cur = mid; staged = staged; still = are; reaches = refl };
      rooms = rooms_kept c.args.held.now c.args.self.now;
      among = λ x h. h;
    }

pub loop-left-preserved : goal.loop-left-preserved
loop-left-preserved g c =
    let m = g.W.Disk.meaning in
    let before = c.loop-left.invariant in
    let one = c.first-item.result in
    let parts = left_parts c.loop-left.left.now one c.in-len1-up.len_at_least c.first-item.is in
    let here = before.among one (subst (λ all. Contains all one) (sym parts) (first_in _ one)) in
    let entry = subst
    (λ (x : List ℕ). (from mid map : Map) → HasRoom c.loop-left.self one.ticket.room (length x) → IsEntry mid map x → AreStagedFrom m c.loop-left.world c.loop-left.self c.args.start from mid → AreStagedFrom m c.add.new.world c.add.new.self c.args.start from map)
    c.as_slice.ensures.value c.in_ok-add.ensures.staged in
    record {
      map = c.add.ensures.map ∙ before.map;
      bank = c.add.ensures.bank ∙ before.bank;
      behind = c.add.ensures.behind;
      live = c.add.ensures.live ∙ before.live;
      within = c.in_ok-add.ensures.within;
      writes = writes_joined m c.args.self.now.bank c.args.world.now c.loop-left.world c.add.new.world before.writes (subst (λ (b : Bank). Writes m b c.loop-left.world c.add.new.world) before.bank c.add.ensures.writes);
      counts = c.in_ok-add.ensures.kept ∙ before.counts;
      stays = behind_then m c.args.world.now c.loop-left.world c.add.new.world c.args.self.now.bank c.args.start before.writes.around before.stays
          (behind_as m c.loop-left.world c.add.new.world c.args.self.now.bank c.loop-left.self.bank c.args.start before.bank c.add.ensures.stays);
      staged = λ from mid are staged.
          added_next m c.loop-left.world c.add.new.world c.loop-left.self c.add.new.self c.args.start from _ one _ entry c.add.ensures.map c.add.ensures.others
          (subst (λ all. AddedSoFar m c.loop-left.world c.loop-left.self c.args.start from (put_over c.args.self.now.map.records.items c.args.held.now mid) all) parts (before.staged from mid are staged));
      rooms = rooms_on c.args.held.now one c.args.self.now c.loop-left.self c.add.new.self here before.rooms c.add.ensures.others;
      among = λ x h. before.among x (subst (λ all. Contains all x) (sym parts) (later_in _ one x h));
    }

pub returns-in_err-add-clause-rooms : goal.returns-in_err-add-clause-rooms
returns-in_err-add-clause-rooms g c =
    let before = c.loop-left.invariant in
    let one = c.first-item.result in
    let parts = left_parts c.loop-left.left.now one c.in-len1-up.len_at_least c.first-item.is in
    rooms_on c.args.held.now one c.args.self.now c.loop-left.self c.add.new.self (before.among one (subst (λ all. Contains all one) (sym parts) (first_in _ one))) before.rooms c.add.ensures.others

pub returns-in_err-add-clause-writes : goal.returns-in_err-add-clause-writes
returns-in_err-add-clause-writes g c =
    let m = g.W.Disk.meaning in
    let before = c.loop-left.invariant in
    writes_joined m c.args.self.now.bank c.args.world.now c.loop-left.world c.add.new.world before.writes (subst (λ (b : Bank). Writes m b c.loop-left.world c.add.new.world) before.bank c.add.ensures.writes)
