use Rattle.std.proofs.Common.{◌≡◌, ◌∙◌, ℕ, None, length, refl, sym, ap, subst}
use Rattle.world_api.specs.Meaning.{Throughout}
use Rattle.sign_store.specs.Ends.{IsEither, KeepsAt}
use Rattle.sign_store.specs.Maps.{map_in}
use Rattle.sign_store.specs.Putting.{map_without}
use Rattle.sign_store.specs.Tables.{Map, has_any}
use Rattle.sign_store.proofs.DiskLemmas.{then_ok}
use Rattle.sign_store.proofs.GroupLemmas.{out_beside_withdrawn, out_itself_withdrawn, set_with, takes_all, takes_as, takes_none, ticket_same, tickets_held, tickets_stay, without_none}
use Rattle.sign_store.proofs.TicketLemmas.{no_withdrawal, whole_withdrawal}
use Rattle.sign_store.proofs.store.Store.withdraw.Goals as goal

pub returns-then-not-has_record-clause-map : goal.returns-then-not-has_record-clause-map
returns-then-not-has_record-clause-map g c = λ rec with.
    then_ok c.put.result (c.put.ensures.map (tickets_held c.args.self.now c.args.held.now with.are))
    (λ map. map ∙ without_none c.args.self.now rec c.args.ticket.now c.args.held.now with.apart (sym (c.has_record.ensures rec with.out.own) ∙ c.if-not-has_record.true))

pub returns-then-not-has_record-clause-moments : goal.returns-then-not-has_record-clause-moments
returns-then-not-has_record-clause-moments g c = λ rec with keeps.
    let none = without_none c.args.self.now rec c.args.ticket.now c.args.held.now with.apart (sym (c.has_record.ensures rec with.out.own) ∙ c.if-not-has_record.true) in
    subst (λ (after : Map). Throughout g.W.Disk.meaning c.args.world.now c.put.new.world (IsEither (g.W.Disk.meaning.around c.args.world.now) (map_in c.args.self.now.map) after)) none (c.put.ensures.moments with.are keeps)

pub returns-then-not-has_record-clause-keeps : goal.returns-then-not-has_record-clause-keeps
returns-then-not-has_record-clause-keeps g c = λ rec with keeps. c.put.ensures.keeps with.are keeps

pub returns-then-not-has_record-clause-out : goal.returns-then-not-has_record-clause-out
returns-then-not-has_record-clause-out g c = λ rec with. c.put.ensures.outs rec c.args.ticket.now with.are with.apart with.out

pub returns-then-not-has_record-clause-outs : goal.returns-then-not-has_record-clause-outs
returns-then-not-has_record-clause-outs g c = λ rec other_rec other with differs apart out. c.put.ensures.outs other_rec other with.are apart out

pub returns-then-not-has_record-clause-rooms : goal.returns-then-not-has_record-clause-rooms
returns-then-not-has_record-clause-rooms g c = λ rec with.
    then_ok c.put.result c.put.ensures.freed (λ frees.
    takes_none c.args.held.now c.args.ticket.now _ c.args.self.now c.put.new.self
    (no_withdrawal (has_any (map_in c.args.self.now.map) rec.targets) _ (sym (c.has_record.ensures rec with.out.own) ∙ c.if-not-has_record.true)) with.apart.rooms frees)

pub write_with-requires-clause-some : goal.write_with-requires-clause-some
write_with-requires-clause-some g c = λ rec is. sym (c.has_record.ensures rec is) ∙ c.if-not-has_record.false

pub returns-in-Ok-clause-map : goal.returns-in-Ok-clause-map
returns-in-Ok-clause-map g c = λ rec with.
    set_with c.args.self.now c.write_with.new.self c.set_each.new.self c.unset.new.self c.args.held.now rec c.args.ticket.now c.write_with.ensures.map c.set_each.ensures.map c.set_each.ensures.tickets c.unset.ensures.map with

pub returns-in-Ok-clause-moments : goal.returns-in-Ok-clause-moments
returns-in-Ok-clause-moments g c = c.write_with.ensures.moments

pub returns-in-Err-clause-moments : goal.returns-in-Err-clause-moments
returns-in-Err-clause-moments g c = c.write_with.ensures.moments

pub returns-in-Ok-clause-keeps : goal.returns-in-Ok-clause-keeps
returns-in-Ok-clause-keeps g c = λ rec with keeps.
    let map : map_in c.unset.new.self ≡ map_without c.args.self.now c.args.held.now rec =
    set_with c.args.self.now c.write_with.new.self c.set_each.new.self c.unset.new.self c.args.held.now rec c.args.ticket.now c.write_with.ensures.map c.set_each.ensures.map c.set_each.ensures.tickets c.unset.ensures.map with in
    rw (c.set_each.ensures.banks.bank, c.set_each.ensures.banks.end)
    (subst (λ (m : Map). KeepsAt g.W.Disk.meaning c.write_with.new.world c.write_with.new.self.bank c.write_with.new.self.end m) (sym map) (c.in-Ok.ensures.keeps rec with keeps))

pub returns-in-Ok-clause-tickets : goal.returns-in-Ok-clause-tickets
returns-in-Ok-clause-tickets g c = record {
  each = λ rec ticket is.
      let before = c.set_each.ensures.tickets.each rec ticket (ticket_same c.args.self.now c.write_with.new.self rec ticket c.write_with.ensures.map is) in
      record { held = c.unset.ensures.keeps rec ticket.number before.held; put = before.put; withdrawal = before.withdrawal };
}

pub returns-in-Err-clause-tickets : goal.returns-in-Err-clause-tickets
returns-in-Err-clause-tickets g c = tickets_stay c.args.self.now c.die.new.self (c.die.ensures.map ∙ c.write_with.ensures.map)

pub returns-in-Err-clause-same : goal.returns-in-Err-clause-same
returns-in-Err-clause-same g c = ap map_in (c.die.ensures.map ∙ c.write_with.ensures.map)

pub returns-in-Ok-clause-rooms : goal.returns-in-Ok-clause-rooms
returns-in-Ok-clause-rooms g c = λ rec with.
    let some = sym (c.has_record.ensures rec with.out.own) ∙ c.if-not-has_record.false in
    let takes = takes_all c.args.held.now c.args.ticket.now (length c.args.ticket.now.withdrawal.items) c.args.self.now c.write_with.new.self c.set_each.new.self with.apart.rooms (c.in-Ok.ensures.rooms rec with) c.set_each.ensures.freed in
    let len = whole_withdrawal (has_any (map_in c.args.self.now.map) rec.targets) (length c.args.ticket.now.withdrawal.items) some in
    takes_as c.args.held.now c.args.ticket.now.room _ _ c.args.self.now c.set_each.new.self _ len refl takes

pub returns-in-Ok-clause-out : goal.returns-in-Ok-clause-out
returns-in-Ok-clause-out g c = λ rec with.
    let some = sym (c.has_record.ensures rec with.out.own) ∙ c.if-not-has_record.false in
    let takes = takes_all c.args.held.now c.args.ticket.now (length c.args.ticket.now.withdrawal.items) c.args.self.now c.write_with.new.self c.set_each.new.self with.apart.rooms (c.in-Ok.ensures.rooms rec with) c.set_each.ensures.freed in
    let map = set_with c.args.self.now c.write_with.new.self c.set_each.new.self c.unset.new.self c.args.held.now rec c.args.ticket.now c.write_with.ensures.map c.set_each.ensures.map c.set_each.ensures.tickets c.unset.ensures.map with in
    out_itself_withdrawn c.args.self.now _ rec c.args.ticket.now c.args.held.now some
    (takes_as c.args.held.now c.args.ticket.now.room _ _ c.args.self.now c.set_each.new.self _ refl refl takes) (returns-in-Ok-clause-tickets g c) map with.out

pub returns-in-Ok-clause-outs : goal.returns-in-Ok-clause-outs
returns-in-Ok-clause-outs g c = λ rec other_rec other with differs apart out.
    let takes = takes_all c.args.held.now c.args.ticket.now (length c.args.ticket.now.withdrawal.items) c.args.self.now c.write_with.new.self c.set_each.new.self with.apart.rooms (c.in-Ok.ensures.rooms rec with) c.set_each.ensures.freed in
    let map = set_with c.args.self.now c.write_with.new.self c.set_each.new.self c.unset.new.self c.args.held.now rec c.args.ticket.now c.write_with.ensures.map c.set_each.ensures.map c.set_each.ensures.tickets c.unset.ensures.map with in
    out_beside_withdrawn c.args.self.now _ rec other_rec c.args.ticket.now other (length c.args.ticket.now.withdrawal.items) c.args.held.now differs apart
    (takes_as c.args.held.now c.args.ticket.now.room _ _ c.args.self.now c.set_each.new.self _ refl refl takes) (returns-in-Ok-clause-tickets g c) map out
