use Rattle.std.proofs.Common.{arith, ◌≡◌, ◌∙◌, ℕ, ◌-◌, List, [], ◌∷◌, ◌++◌, false, length, take, replicate, append-nil, ap, sym}
use Rattle.std.specs.Prelude.{map}
use Rattle.std.proofs.lemmas.List.{length-map}
use Rattle.task_plan.specs.Settled.{kept_of}
use Rattle.task_plan.specs.Orders.{needed_of}
use Rattle.task_plan.proofs.OrderLemmas.{begins, ends, leaves_on, enters_on}
use Rattle.task_plan.proofs.ReachedLemmas.{order_reached}
use Rattle.task_plan.proofs.BehindLemmas.{order_behind, order_only}
use Rattle.task_plan.proofs.order.depth_first.Goals as goal
use Rattle.task_plan.proofs.order.depth_first.Goals.{in-Enter+in_ok-enter-in-Enter, in-Leave+in_ok-push-in-Leave}

-- a list of which nothing could be taken off is empty
nothing_off : {X : Type 0} (old new : List X) (n : ℕ) → old ≡ new ++ [] → new ≡ take (n - 1) old → n ≡ 0 → old ≡ []
nothing_off old new n e f z =
    let none : n - 1 ≡ 0 = omega arith in
    e ∙ append-nil new ∙ f ∙ ap (λ k. take k old) none

pub loop-step-init : goal.loop-step-init
loop-step-init c =
    let count = length (map kept_of c.args.tasks.now) in
    let needed = needed_of (map kept_of c.args.tasks.now) c.args.files.now.origins.items in
    let none = (c.in_ok-seen.ensures {u = tt}).items_if_clones_equal (λ y h. cc) ∙ ap (λ n. replicate n false) (sym (length-map c.args.tasks.now kept_of)) in
    begins count needed c.args.roots.now c.in_ok-seen.seen.items c.in_ok-steps.steps.items c.new-order.result.items none (c.in_ok-steps.ensures {u = tt}) c.new-order.ensures.items

pub loop-step-preserved : goal.loop-step-preserved
loop-step-preserved c =
    let count = length (map kept_of c.args.tasks.now) in
    let needed = needed_of (map kept_of c.args.tasks.now) c.args.files.now.origins.items in
    let l = c.loop-step in
    let rest = c.pop.new.self.items in
    let taken = (c.in-Some.ensures {u = tt}).items in
    elim c.match-step.branch [
      | in-Enter+in_ok-enter-in-Enter w ↦
          let e = w.in_ok-enter-in-Enter.ensures {u = tt} in
          let popped = taken ∙ ap (λ s. rest ++ s ∷ []) w.in-Enter.is in
          rw (w.seen-is, w.steps-is, w.order-is)
          (enters_on count needed c.args.roots.now l.seen.items w.enter.new.seen.items l.steps.items rest w.enter.new.steps.items l.order.items w.in-Enter.rule l.invariant popped e.seen e.steps)
      | in-Leave+in_ok-push-in-Leave w ↦
          let popped = taken ∙ ap (λ s. rest ++ s ∷ []) w.in-Leave.is in
          let pushed = (w.in_ok-push-in-Leave.ensures {u = tt}).items in
          rw (w.seen-is, w.steps-is, w.order-is)
          (leaves_on count needed c.args.roots.now l.seen.items l.steps.items rest l.order.items w.push.new.self.items w.in-Leave.rule l.invariant popped pushed)
    ]

pub returns-in_default-clause-order : goal.returns-in_default-clause-order
returns-in_default-clause-order c =
    let count = length (map kept_of c.args.tasks.now) in
    let needed = needed_of (map kept_of c.args.tasks.now) c.args.files.now.origins.items in
    let w = c.loop-step.invariant in
    let p = c.in_default.ensures {u = tt} in
    let none = nothing_off c.loop-step.steps.items c.pop.new.self.items _ p.items p.rest p.cases.0 in
    record { met = w.met; visits = ends count needed c.args.roots.now c.loop-step.seen.items c.loop-step.steps.items c.loop-step.order.items w none }

pub returns-in_default-clause-reached : goal.returns-in_default-clause-reached
returns-in_default-clause-reached c =
    order_reached (map kept_of c.args.tasks.now) c.args.files.now.origins.items c.args.roots.now c.loop-step.order.items (returns-in_default-clause-order c)

pub returns-in_default-clause-only : goal.returns-in_default-clause-only
returns-in_default-clause-only c = λ other o.
    order_only (map kept_of c.args.tasks.now) c.args.files.now.origins.items c.args.roots.now c.loop-step.order.items other (returns-in_default-clause-order c) o

pub returns-in_default-clause-needs_first : goal.returns-in_default-clause-needs_first
returns-in_default-clause-needs_first c =
    order_behind (map kept_of c.args.tasks.now) c.args.files.now.origins.items c.args.roots.now c.loop-step.order.items (returns-in_default-clause-order c)
