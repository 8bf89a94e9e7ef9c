use Rattle.std.proofs.Common.{◌∙◌, ℕ, List, length, sym, ap, subst}
use Rattle.world_api.specs.declared.disk.Bank.{Bank}
use Rattle.sign_store.specs.Ends.{KeepsAt}
use Rattle.sign_store.specs.Maps.{map_in}
use Rattle.sign_store.specs.Putting.{map_with, map_without}
use Rattle.sign_store.specs.Staging.{IsEntry}
use Rattle.sign_store.specs.Stores.{HasRoom, TakesRoom}
use Rattle.world_api.specs.Meaning.{IsSettled}
use Rattle.sign_store.specs.Reached.{Writes}
use Rattle.sign_store.proofs.DiskLemmas.{both_ok, held_ok, writes_joined}
use Rattle.sign_store.proofs.FillLemmas.{settled_on}
use Rattle.sign_store.proofs.WriteLemmas.{either_first}
use Rattle.sign_store.proofs.GroupLemmas.{room_apart, takes_beside, withdraw_entry}
use Rattle.sign_store.proofs.StageLemmas.{behind_as, behind_then, group_kept, group_written, staged_at}
use Rattle.sign_store.proofs.TicketLemmas.{withdrawal_has_room}
use Rattle.sign_store.proofs.store.Store.write_with.Goals as goal

pub returns-in_err-add_puts-clause-moments : goal.returns-in_err-add_puts-clause-moments
returns-in_err-add_puts-clause-moments g c = λ rec with keeps.
    let m = g.W.Disk.meaning in
    let map = map_in c.args.self.now.map in
    let at = subst (λ n. KeepsAt m c.args.world.now c.args.self.now.bank n map) (sym c.requires.behind) keeps in
    either_first m c.args.world.now c.add_puts.new.world (m.around c.args.world.now) map (map_without c.args.self.now c.args.held.now rec) (c.add_puts.ensures.stays.moments map at)

pub returns-in_err-add-clause-moments : goal.returns-in_err-add-clause-moments
returns-in_err-add-clause-moments g c = λ rec with keeps.
    let m = g.W.Disk.meaning in
    let map = map_in c.args.self.now.map in
    let at = subst (λ n. KeepsAt m c.args.world.now c.args.self.now.bank n map) (sym c.requires.behind) keeps in
    let stays = behind_then m c.args.world.now c.add_puts.new.world c.add.new.world c.args.self.now.bank c.args.start c.add_puts.ensures.around c.add_puts.ensures.stays
    (behind_as m c.add_puts.new.world c.add.new.world c.args.self.now.bank c.add_puts.new.self.bank c.args.start c.add_puts.ensures.bank c.add.ensures.stays) in
    either_first m c.args.world.now c.add.new.world (m.around c.args.world.now) map (map_without c.args.self.now c.args.held.now rec) (stays.moments map at)

pub returns-clause-moments : goal.returns-clause-moments
returns-clause-moments g c = λ rec with keeps.
    let m = g.W.Disk.meaning in
    let map = map_in c.args.self.now.map in
    let bytes = c.as_slice.ensures.value in
    let at = subst (λ n. KeepsAt m c.args.world.now c.args.self.now.bank n map) (sym c.requires.behind) keeps in
    let stays = behind_then m c.args.world.now c.add_puts.new.world c.add.new.world c.args.self.now.bank c.args.start c.add_puts.ensures.around c.add_puts.ensures.stays
    (behind_as m c.add_puts.new.world c.add.new.world c.args.self.now.bank c.add_puts.new.self.bank c.args.start c.add_puts.ensures.bank c.add.ensures.stays) in
    let staged = c.in_ok-add_puts.ensures.staged map map with.are (λ told. staged_at c.args.start c.args.self.now.end map _ c.requires.behind) in
    let room = room_apart c.args.self.now c.add_puts.new.self c.args.ticket.now c.args.held.now (length c.args.ticket.now.withdrawal.items) with.apart.rooms c.add_puts.ensures.rooms
    (withdrawal_has_room c.args.self.now rec c.args.ticket.now with.out (c.requires.some rec with.out.own)) in
    let whole = map_with c.args.self.now c.args.held.now in
    let added = c.in_ok-add.ensures.staged map whole (map_without c.args.self.now c.args.held.now rec)
    (subst (λ (x : List ℕ). HasRoom c.add_puts.new.self c.args.ticket.now.room (length x)) (sym bytes) room) (subst (IsEntry whole (map_without c.args.self.now c.args.held.now rec)) (sym bytes) (withdraw_entry c.args.self.now rec c.args.ticket.now with.out whole)) staged in
    group_written m c.args.world.now c.add.new.world c.publish.new.world c.args.self.now.bank c.add.new.self.bank c.args.start c.add.new.self.end map (map_without c.args.self.now c.args.held.now rec)
    (c.add.ensures.bank ∙ c.add_puts.ensures.bank) (λ told. c.add.ensures.around told ∙ c.add_puts.ensures.around (c.add.ensures.told.told told)) at stays added c.publish.ensures.moments

pub returns-clause-keeps : goal.returns-clause-keeps
returns-clause-keeps g c = λ rec with keeps.
    let m = g.W.Disk.meaning in
    let map = map_in c.args.self.now.map in
    let bytes = c.as_slice.ensures.value in
    let at = subst (λ n. KeepsAt m c.args.world.now c.args.self.now.bank n map) (sym c.requires.behind) keeps in
    let stays = behind_then m c.args.world.now c.add_puts.new.world c.add.new.world c.args.self.now.bank c.args.start c.add_puts.ensures.around c.add_puts.ensures.stays
    (behind_as m c.add_puts.new.world c.add.new.world c.args.self.now.bank c.add_puts.new.self.bank c.args.start c.add_puts.ensures.bank c.add.ensures.stays) in
    let staged = c.in_ok-add_puts.ensures.staged map map with.are (λ told. staged_at c.args.start c.args.self.now.end map _ c.requires.behind) in
    let room = room_apart c.args.self.now c.add_puts.new.self c.args.ticket.now c.args.held.now (length c.args.ticket.now.withdrawal.items) with.apart.rooms c.add_puts.ensures.rooms
    (withdrawal_has_room c.args.self.now rec c.args.ticket.now with.out (c.requires.some rec with.out.own)) in
    let whole = map_with c.args.self.now c.args.held.now in
    let added = c.in_ok-add.ensures.staged map whole (map_without c.args.self.now c.args.held.now rec)
    (subst (λ (x : List ℕ). HasRoom c.add_puts.new.self c.args.ticket.now.room (length x)) (sym bytes) room) (subst (IsEntry whole (map_without c.args.self.now c.args.held.now rec)) (sym bytes) (withdraw_entry c.args.self.now rec c.args.ticket.now with.out whole)) staged in
    group_kept m c.args.world.now c.add.new.world c.publish.new.world c.args.self.now.bank c.add.new.self.bank c.args.start c.add.new.self.end map (map_without c.args.self.now c.args.held.now rec) _
    (c.add.ensures.bank ∙ c.add_puts.ensures.bank) at stays added c.publish.ensures.keeps

pub returns-clause-rooms : goal.returns-clause-rooms
returns-clause-rooms g c = λ rec with.
    let bytes = c.as_slice.ensures.value in
    let room = room_apart c.args.self.now c.add_puts.new.self c.args.ticket.now c.args.held.now (length c.args.ticket.now.withdrawal.items) with.apart.rooms c.add_puts.ensures.rooms
    (withdrawal_has_room c.args.self.now rec c.args.ticket.now with.out (c.requires.some rec with.out.own)) in
    let takes = c.in_ok-add.ensures.rooms (subst (λ (x : List ℕ). HasRoom c.add_puts.new.self c.args.ticket.now.room (length x)) (sym bytes) room) in
    held_ok c.publish.result
    (takes_beside c.args.held.now c.args.ticket.now (length c.args.ticket.now.withdrawal.items) c.args.self.now c.add_puts.new.self c.add.new.self with.apart.rooms c.add_puts.ensures.rooms
    (subst (λ (x : List ℕ). TakesRoom c.args.ticket.now.room (length x) c.add_puts.new.self c.add.new.self) bytes takes))

pub returns-in_err-add-clause-writes : goal.returns-in_err-add-clause-writes
returns-in_err-add-clause-writes g c =
    writes_joined g.W.Disk.meaning c.args.self.now.bank c.args.world.now c.add_puts.new.world c.add.new.world c.add_puts.ensures.writes
    (subst (λ (b : Bank). Writes g.W.Disk.meaning b c.add_puts.new.world c.add.new.world) c.add_puts.ensures.bank c.add.ensures.writes)

pub returns-clause-writes : goal.returns-clause-writes
returns-clause-writes g c =
    let m = g.W.Disk.meaning in
    let bank = c.args.self.now.bank in
    writes_joined m bank c.args.world.now c.add.new.world c.publish.new.world
    (writes_joined m bank c.args.world.now c.add_puts.new.world c.add.new.world c.add_puts.ensures.writes
    (subst (λ (b : Bank). Writes m b c.add_puts.new.world c.add.new.world) c.add_puts.ensures.bank c.add.ensures.writes))
    (subst (λ (b : Bank). Writes m b c.add.new.world c.publish.new.world) (c.add.ensures.bank ∙ c.add_puts.ensures.bank) c.publish.ensures.writes)

pub returns-clause-settled : goal.returns-clause-settled
returns-clause-settled g c =
    let m = g.W.Disk.meaning in
    both_ok c.publish.result c.publish.ensures.settled c.publish.ensures.settled (λ settled _. record {
      on = λ told rest.
          settled_on m c.args.world.now c.publish.new.world c.args.self.now.bank rest
          (subst (λ (b : Bank). IsSettled m c.publish.new.world b) (c.add.ensures.bank ∙ c.add_puts.ensures.bank) (settled told)) ((returns-clause-writes g c).other told);
    })
