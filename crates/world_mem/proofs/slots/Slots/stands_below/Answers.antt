use Rattle.std.proofs.Common.{◌≡◌, ◌∙◌, ℕ, List, [], ◌∷◌, ◌++◌, sym, ap, subst, true, false}
use Rattle.world_mem.proofs.Directories.{Rest, begins, goes_on, stops}
use Rattle.world_mem.specs.Blocked.{LiesBelow}
use Rattle.world_mem.proofs.slots.Slots.stands_below.Goals as goal

pub loop-key-init : goal.loop-key-init
loop-key-init c =
    let part = c.range-key-items.ensures in
    subst (Rest c.args.self.now c.args.path.now) (sym c.into_iter-key-iterator.ensures.into_iter_gives)
    (begins c.args.self.now c.args.path.now c.push.new.self c.range-key-items.result
    (c.in_ok-push.ensures.items ∙ ap (λ (bytes : List ℕ). bytes ++ 47 ∷ []) c.in_ok-from.ensures.items)
    (part.between tt) part.ordered (λ k d lt. ((part.in_range tt).0 k d lt).0.0) (λ k d lt. ((part.in_range tt).0 k d lt).1))

pub returns-then-not-is_below : goal.returns-then-not-is_below
returns-then-not-is_below c =
    let path = c.args.path.now in
    let rest = subst (Rest c.args.self.now path) c.in-Some.ensures.steps c.loop-key.invariant in (
      λ e. absurd (cc e),
      λ h. absurd (stops c.args.self.now path (c.in-Some.key.now, c.in-Some.slot.now) c.next.new.self rest
          (λ below. let x : true ≡ false = sym (c.is_below.ensures.1 (subst (λ (bytes : List ℕ). LiesBelow bytes path) (sym c.as_slice.ensures.value) below)) ∙ c.if-not-is_below.true in cc x)
          h.0 h.1 h.2),
    )

pub loop-key-preserved : goal.loop-key-preserved
loop-key-preserved c =
    let path = c.args.path.now in
    let rest = subst (Rest c.args.self.now path) c.in-Some.ensures.steps c.loop-key.invariant in
    goes_on c.args.self.now path (c.in-Some.key.now, c.in-Some.slot.now) c.next.new.self rest (sym c.is_live.ensures ∙ c.if-is_live.false)
