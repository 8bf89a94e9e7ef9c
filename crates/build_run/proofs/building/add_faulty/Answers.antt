use Rattle.std.proofs.Common.{List, [], ◌∷◌, subst, sym}
use Rattle.scons_base.specs.declared.ids.RuleId.{RuleId}
use Rattle.build_run.specs.Skips.{AreAtFault}
use Rattle.build_run.proofs.Skipping.{more_at_fault, one_at_fault}
use Rattle.build_run.proofs.building.add_faulty.Goals as goal

pub returns-clause-at_fault : goal.returns-clause-at_fault
returns-clause-at_fault c = λ a.
    subst (λ (rules : List RuleId). AreAtFault c.args.plan.now rules) (sym c.in_ok-push.ensures.items)
    (more_at_fault c.args.plan.now c.args.faulty.now.items (c.args.rule ∷ []) a
    (one_at_fault c.args.plan.now c.args.rule (sym c.if-not-is_faulty.ensures)))
