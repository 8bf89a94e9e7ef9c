use Rattle.std.proofs.Common.{arith, ◌≡◌, ◌∙◌, ℕ, ◌-◌, List, [], ◌∷◌, ◌++◌, false, length, take, replicate, append-nil, refl, ap}
use Rattle.task_plan.specs.Rooted.{makers_in}
use Rattle.scons_report.specs.Overs.{needs_over}
use Rattle.scons_report.proofs.WalkEnds.{enters_falls, leaves_falls}
use Rattle.scons_report.proofs.CleanSteps.{begins, ends, leaves_on, enters_on}
use Rattle.scons_report.proofs.order.build_order.Goals as goal

-- a list of which nothing could be taken off is empty
nothing_off : {X : Type 0} (old new : List X) (n : ℕ) → old ≡ new ++ [] → new ≡ take (n - 1) old → n ≡ 0 → old ≡ []
nothing_off old new n e f z =
    let none : n - 1 ≡ 0 = omega arith in
    e ∙ append-nil new ∙ f ∙ ap (λ k. take k old) none

pub walk-init : goal.walk-init
walk-init c =
    let g = c.args.graph.now in
    let none = (c.in_ok-seen.ensures {u = tt}).items_if_clones_equal (λ y h. cc) ∙ ap (λ n. replicate n false) c.rules.ensures.len in
    begins (length g.rules) (needs_over g c.args.plan.now) (makers_in g c.args.requested.now) c.in_ok-seen.seen.items c.enter_all.new.steps.items c.new-order.result.items none
    (c.in_ok-enter_all.ensures {u = tt} ∙ ap (λ s. s) cc) c.new-order.ensures.items

pub walk-preserved-in-Continue-branch-3 : goal.walk-preserved-in-Continue-branch-3
walk-preserved-in-Continue-branch-3 c =
    let g = c.args.graph.now in
    let l = c.walk in
    let rest = c.pop.new.self.items in
    let e = c.in_ok-enter-in-Enter.ensures {u = tt} in
    let popped = (c.in-Some.ensures {u = tt}).items ∙ ap (λ s. rest ++ s ∷ []) c.in-Enter.is in
    enters_on (length g.rules) (needs_over g c.args.plan.now) (makers_in g c.args.requested.now) l.seen.items c.enter.new.seen.items l.steps.items rest c.enter.new.steps.items l.order.items
    c.in-Enter.rule l.invariant popped e.seen e.steps

pub walk-preserved : goal.walk-preserved
walk-preserved c =
    let g = c.args.graph.now in
    let l = c.walk in
    let rest = c.pop.new.self.items in
    let popped = (c.in-Some.ensures {u = tt}).items ∙ ap (λ s. rest ++ s ∷ []) c.in-Leave.is in
    leaves_on (length g.rules) (needs_over g c.args.plan.now) (makers_in g c.args.requested.now) l.seen.items l.steps.items rest l.order.items c.push.new.self.items
    c.in-Leave.rule l.invariant popped (c.in_ok-push-in-Leave.ensures {u = tt}).items

-- the measure falls

pub walk-smaller-in-Continue-branch-3 : goal.walk-smaller-in-Continue-branch-3
walk-smaller-in-Continue-branch-3 c =
    let g = c.args.graph.now in
    let l = c.walk in
    let rest = c.pop.new.self.items in
    let e = c.in_ok-enter-in-Enter.ensures {u = tt} in
    let popped = (c.in-Some.ensures {u = tt}).items ∙ ap (λ s. rest ++ s ∷ []) c.in-Enter.is in
    enters_falls (needs_over g c.args.plan.now) l.seen.items c.enter.new.seen.items l.steps.items rest c.enter.new.steps.items c.in-Enter.rule popped e.seen e.steps

pub walk-smaller : goal.walk-smaller
walk-smaller c =
    let g = c.args.graph.now in
    let l = c.walk in
    let rest = c.pop.new.self.items in
    let popped = (c.in-Some.ensures {u = tt}).items ∙ ap (λ s. rest ++ s ∷ []) c.in-Leave.is in
    leaves_falls (needs_over g c.args.plan.now) l.seen.items l.seen.items l.steps.items rest c.in-Leave.rule popped refl

pub returns : goal.returns
returns c =
    let g = c.args.graph.now in
    let needs = needs_over g c.args.plan.now in
    let w = c.walk.invariant in
    let p = c.in_default.ensures {u = tt} in
    let none = nothing_off c.walk.steps.items c.pop.new.self.items _ p.items p.rest p.cases.0 in
    record {
      met = w.met;
      visits = ends (length g.rules) needs (makers_in g c.args.requested.now) c.walk.seen.items c.walk.steps.items c.walk.order.items w none;
    }
