use Rattle.std.proofs.Common.{◌≡◌, ◌∙◌, sym, ap, map, rules}
use Rattle.scons_base.specs.Resolve.{walk, enter}
use Rattle.scons_base.proofs.Walks.{walk_first, walk_last}
use Rattle.scons_base.proofs.resolve.walk.Goals as goal

pub parts-preserved : goal.parts-preserved
parts-preserved c =
    let new : map (λ x. x.now) c.enter.new.place.items ≡ enter (map (λ x. x.now) c.parts.place.items) c.in-Some.part.now = c.in_ok-enter.ensures {u = tt} in (
      ap (λ p. walk p c.in-Some.after.now) new ∙ sym (walk_first _ _ _ _ c.split_once.ensures.cases c.in-Some.is) ∙ c.parts.invariant.0,
      search rules,
    )

pub returns : goal.returns
returns c =
    let whole : walk (map (λ x. x.now) c.args.place.now.items) c.args.text.now ≡ enter (map (λ x. x.now) c.parts.place.items) c.parts.rest.now =
    sym c.parts.invariant.0 ∙ walk_last _ _ _ c.split_once.ensures.cases c.in_default.is in
    rw whole c.enter-2.ensures
