use Rattle.std.proofs.Common.{◌≡◌, ◌∙◌, ℕ, refl, sym, ap, subst, inl, arith}
use Rattle.std.proofs.lemmas.Bool.{eqb-true}
use Rattle.world_api.proofs.Moments.{begins}
use Rattle.sign_store.specs.Ends.{IsEither, KeepsAt}
use Rattle.sign_store.specs.Maps.{map_in}
use Rattle.sign_store.specs.Putting.{map_with}
use Rattle.sign_store.specs.Tables.{Map}
use Rattle.sign_store.proofs.GroupLemmas.{free_none, frees_on, keeps_tickets, nothing_held, out_apart, put_none, tickets_held, tickets_same, tickets_stay, with_same}
use Rattle.sign_store.proofs.store.Store.put.Goals as goal

pub returns-then-is_empty-clause-map : goal.returns-then-is_empty-clause-map
returns-then-is_empty-clause-map g c = λ are. put_none c.args.self.now c.args.held.now (nothing_held c.args.held.now (eqb-true _ _ (sym c.is_empty.ensures ∙ c.if-is_empty.true)))

pub returns-then-is_empty-clause-freed : goal.returns-then-is_empty-clause-freed
returns-then-is_empty-clause-freed g c = free_none c.args.self.now c.args.held.now (nothing_held c.args.held.now (eqb-true _ _ (sym c.is_empty.ensures ∙ c.if-is_empty.true)))

pub returns-then-is_empty-clause-moments : goal.returns-then-is_empty-clause-moments
returns-then-is_empty-clause-moments g c = λ are keeps.
    begins g.W.Disk.meaning c.args.world.now (IsEither (g.W.Disk.meaning.around c.args.world.now) (map_in c.args.self.now.map) (map_with c.args.self.now c.args.held.now))
    (g.met.W.Disk.only_now c.args.world.now)
    (λ told banks image. record { same = refl; map = inl (keeps.each told banks image).image })

pub returns-in-Ok-clause-map : goal.returns-in-Ok-clause-map
returns-in-Ok-clause-map g c = λ are.
    c.set_each.ensures.map (tickets_same c.args.self.now c.write_puts.new.self c.args.held.now c.write_puts.ensures.map are)
    ∙ with_same c.args.self.now c.write_puts.new.self c.args.held.now c.write_puts.ensures.map

pub returns-in-Ok-clause-freed : goal.returns-in-Ok-clause-freed
returns-in-Ok-clause-freed g c = frees_on c.args.held.now c.args.self.now c.write_puts.new.self c.set_each.new.self c.write_puts.ensures.rooms c.set_each.ensures.freed

pub returns-in-Ok-clause-moments : goal.returns-in-Ok-clause-moments
returns-in-Ok-clause-moments g c = c.write_puts.ensures.moments

pub returns-in-Ok-clause-keeps : goal.returns-in-Ok-clause-keeps
returns-in-Ok-clause-keeps g c = λ are keeps.
    let tickets = tickets_held c.args.self.now c.args.held.now are in
    let map : map_in c.set_each.new.self.map ≡ map_with c.args.self.now c.args.held.now =
    c.set_each.ensures.map (tickets_same c.args.self.now c.write_puts.new.self c.args.held.now c.write_puts.ensures.map tickets)
    ∙ with_same c.args.self.now c.write_puts.new.self c.args.held.now c.write_puts.ensures.map in
    rw (c.set_each.ensures.banks.bank, c.set_each.ensures.banks.end)
    (subst (λ (m : Map). KeepsAt g.W.Disk.meaning c.write_puts.new.world c.write_puts.new.self.bank c.write_puts.new.self.end m) (sym map) (c.in-Ok.ensures.keeps are keeps))

pub returns-in-Ok-clause-outs : goal.returns-in-Ok-clause-outs
returns-in-Ok-clause-outs g c = λ rec ticket are apart out.
    let tickets = tickets_held c.args.self.now c.args.held.now are in
    out_apart c.args.self.now c.set_each.new.self rec ticket c.args.held.now apart
    (frees_on c.args.held.now c.args.self.now c.write_puts.new.self c.set_each.new.self c.write_puts.ensures.rooms c.set_each.ensures.freed)
    (keeps_tickets c.args.self.now c.write_puts.new.self c.set_each.new.self c.write_puts.ensures.map c.set_each.ensures.tickets)
    (c.set_each.ensures.map (tickets_same c.args.self.now c.write_puts.new.self c.args.held.now c.write_puts.ensures.map tickets)
    ∙ with_same c.args.self.now c.write_puts.new.self c.args.held.now c.write_puts.ensures.map) out

pub returns-in-Ok-clause-tickets : goal.returns-in-Ok-clause-tickets
returns-in-Ok-clause-tickets g c = keeps_tickets c.args.self.now c.write_puts.new.self c.set_each.new.self c.write_puts.ensures.map c.set_each.ensures.tickets

pub returns-in-Err-clause-tickets : goal.returns-in-Err-clause-tickets
returns-in-Err-clause-tickets g c = tickets_stay c.args.self.now c.die.new.self (c.die.ensures.map ∙ c.write_puts.ensures.map)

pub returns-in-Err-clause-same : goal.returns-in-Err-clause-same
returns-in-Err-clause-same g c = ap map_in (c.die.ensures.map ∙ c.write_puts.ensures.map)

pub returns-in-Err-clause-moments : goal.returns-in-Err-clause-moments
returns-in-Err-clause-moments g c = c.write_puts.ensures.moments
