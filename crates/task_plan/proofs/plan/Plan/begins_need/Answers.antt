use Rattle.std.proofs.Common.{arith, length-set, refl, sym}
use Rattle.task_plan.proofs.PlanLemmas.{met_set}
use Rattle.task_plan.proofs.TrackLemmas.{tracked_met}
use Rattle.task_plan.proofs.AdmitLemmas.{begun_set, begun_needed}
use Rattle.task_plan.specs.declared.states.RuleState.TheVariants.{Waiting}
use Rattle.task_plan.proofs.plan.Plan.begins_need.Goals as goal

pub invariant_of-self : goal.invariant_of-self
invariant_of-self c =
    let i = c.self.inside in
    let met = met_set i.states c.args.rule.0 (c.is_unneeded.ensures.unneeded c.if-not-is_unneeded.false) in
    let n = length-set i.states c.args.rule.0 Waiting in
    let l = c.self.invariant.room in
    rw c.set.ensures (tracked_met i.states _ i.queue i.tasks.items i.files.origins.items i.scannable met (omega arith) c.self.invariant)

pub returns-then-not-is_unneeded-clause-needed : goal.returns-then-not-is_unneeded-clause-needed
returns-then-not-is_unneeded-clause-needed c = rw (sym c.self.view_is) (c.is_unneeded.ensures.needed c.if-not-is_unneeded.true)

pub returns-clause-begun : goal.returns-clause-begun
returns-clause-begun c = λ yes. rw (sym c.self.view_is) (begun_set _ _ c.args.rule.0 (c.is_unneeded.ensures.unneeded c.if-not-is_unneeded.false) c.set.ensures refl refl)

pub returns-clause-needed : goal.returns-clause-needed
returns-clause-needed c = begun_needed c.self.inside.states c.set.new.self c.args.rule.0 (rw (sym c.self.view_is) at c.requires) c.set.ensures
