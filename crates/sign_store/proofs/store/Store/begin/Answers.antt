use Rattle.std.proofs.Common.{ℕ, ap, sym, subst, ◌∙◌}
use Rattle.world_api.specs.declared.disk.Bank.{Bank}
use Rattle.sign_store.specs.declared.map.RecordMap.{RecordMap}
use Rattle.sign_store.specs.Beginnings.{IsBegunOver}
use Rattle.sign_store.specs.Ends.{KeepsAt, image_in}
use Rattle.sign_store.specs.Maps.{map_in}
use Rattle.sign_store.proofs.OpenLemmas.{current_keeps}
use Rattle.sign_store.proofs.store.Store.begin.Goals as goal

pub returns-clause-keeps : goal.returns-clause-keeps
returns-clause-keeps g c =
    let m = g.W.Disk.meaning in
    let opened = c.in_ok-opened.opened in
    let keeps = current_keeps m (m.around c.args.world.now) (image_in (m.seen c.args.world.now)) c.open.new.world opened c.in_ok-opened.ensures.opened in
    subst (λ (h : RecordMap). KeepsAt m c.open.new.world c.over.result.bank c.over.result.end (map_in h)) (sym c.over.ensures.map)
    (subst (λ (b : Bank). KeepsAt m c.open.new.world b c.over.result.end (map_in opened.map)) (sym c.over.ensures.bank)
    (subst (λ (e : ℕ). KeepsAt m c.open.new.world opened.bank e (map_in opened.map)) (sym c.over.ensures.end) keeps))

pub returns-clause-map : goal.returns-clause-map
returns-clause-map g c = λ told. ap map_in c.over.ensures.map ∙ c.in_ok-opened.ensures.opened.opens.held told

pub returns-clause-settled : goal.returns-clause-settled
returns-clause-settled g c = λ told. c.in_ok-opened.ensures.opened.opens.rest.settled told

pub returns-clause-begun : goal.returns-clause-begun
returns-clause-begun g c = λ told.
    let banks = g.W.Disk.meaning.seen c.args.world.now in
    let opened = c.in_ok-opened.opened in
    subst (λ (h : RecordMap). IsBegunOver banks h c.over.result.bank c.over.result.end) (sym c.over.ensures.map)
    (subst (λ (b : Bank). IsBegunOver banks opened.map b c.over.result.end) (sym c.over.ensures.bank)
    (subst (λ (e : ℕ). IsBegunOver banks opened.map opened.bank e) (sym c.over.ensures.end) (c.in_ok-opened.ensures.begun told)))
