use Rattle.std.proofs.Common.{◌∙◌, ◌++◌, ap, ℕ}
use Rattle.task_plan.specs.States.{state_of}
use Rattle.task_plan.specs.Rooted.{makers_in}
use Rattle.task_plan.proofs.AdmitLemmas.{knows_first, fits_first}
use Rattle.task_plan.proofs.MetNeeds.{all_met_first, from_nothing, reached_needed}
use Rattle.task_plan.proofs.BeginLemmas.{keeps_first}
use Rattle.task_plan.proofs.plan.Plan.new.Goals as goal

pub returns-clause-states : goal.returns-clause-states
returns-clause-states c = rw c.in_ok-plan.ensures.states at c.begin.ensures.meets.states

pub returns-clause-knows : goal.returns-clause-knows
returns-clause-knows c =
    knows_first c.args.graph.now c.in_ok-plan.plan c.begin.new.self (λ r. ap (λ s. state_of s r) c.in_ok-plan.ensures.states) c.in_ok-begin.ensures.admits

pub returns-clause-fits : goal.returns-clause-fits
returns-clause-fits c =
    fits_first c.args.graph.now c.begin.new.self
    (knows_first c.args.graph.now c.in_ok-plan.plan c.begin.new.self (λ r. ap (λ s. state_of s r) c.in_ok-plan.ensures.states) c.in_ok-begin.ensures.admits)

pub returns-clause-origins : goal.returns-clause-origins
returns-clause-origins c = c.in_ok-begin.ensures.finds.from (from_nothing c.args.graph.now c.in_ok-plan.plan c.in_ok-plan.ensures.origins)

pub returns-clause-needs : goal.returns-clause-needs
returns-clause-needs c =
    all_met_first c.args.graph.now c.in_ok-plan.plan c.begin.new.self (λ r. ap (λ s. state_of s r) c.in_ok-plan.ensures.states) c.in_ok-begin.ensures.admits

pub returns-clause-met : goal.returns-clause-met
returns-clause-met c = c.in_ok-begin.ensures.finds.met

pub returns-clause-reached : goal.returns-clause-reached
returns-clause-reached c =
    let g = c.args.graph.now in
    let a = c.in_ok-plan.plan in
    let b = c.begin.new.self in
    let none = λ (r : ℕ). ap (λ s. state_of s r) c.in_ok-plan.ensures.states in
    let k = c.in_ok-begin.ensures in
    let from = k.finds.from (from_nothing g a c.in_ok-plan.ensures.origins) in
    record {
      each = λ below rule i. reached_needed g b c.args.requested.now (knows_first g a b none k.admits) from (all_met_first g a b none k.admits) (k.finds.met below) rule i;
    }

pub returns-clause-complete : goal.returns-clause-complete
returns-clause-complete c = c.in_ok-begin.ensures.complete c.in_ok-plan.ensures.states c.in_ok-plan.ensures.origins c.in_ok-plan.ensures.roots c.in_ok-plan.ensures.ordered

pub returns-clause-only : goal.returns-clause-only
returns-clause-only c = c.in_ok-begin.ensures.only c.in_ok-plan.ensures.states c.in_ok-plan.ensures.origins c.in_ok-plan.ensures.roots

pub returns-clause-sought : goal.returns-clause-sought
returns-clause-sought c = c.in_ok-begin.ensures.sought c.in_ok-plan.ensures.states c.in_ok-plan.ensures.origins c.in_ok-plan.ensures.roots

pub returns-clause-roots : goal.returns-clause-roots
returns-clause-roots c = c.in_ok-begin.ensures.roots ∙ ap (λ r. r ++ makers_in c.args.graph.now c.args.requested.now) c.in_ok-plan.ensures.roots

pub returns-clause-order : goal.returns-clause-order
returns-clause-order c =
    let a = c.in_ok-plan.plan in
    let from = c.in_ok-begin.ensures.finds.from (from_nothing c.args.graph.now a c.in_ok-plan.ensures.origins) in
    keeps_first c.args.graph.now a c.begin.new.self (λ r. ap (λ s. state_of s r) c.in_ok-plan.ensures.states) c.begin.ensures.meets.states from
    (c.in_ok-begin.ensures.order c.in_ok-plan.ensures.roots c.in_ok-plan.ensures.ordered)
