use Rattle.std.proofs.Common.{arith, List, refl, subst, sym, take}
use Rattle.std.proofs.lemmas.List.{take_all, take_more}
use Rattle.scons_base.specs.declared.ids.RuleId.{RuleId}
use Rattle.build_run.specs.Skips.{AreAtFault, TakesFaulty}
use Rattle.build_run.proofs.Skipping.{more_at_fault, none_at_fault, taken_behind, takes_none}
use Rattle.build_run.proofs.building.faulty_of.Goals as goal

pub loop-rule-init : goal.loop-rule-init
loop-rule-init c = record {
  at_fault = subst (λ (rules : List RuleId). AreAtFault c.args.plan.now rules) (sym c.new-faulty.ensures.items) (none_at_fault c.args.plan.now);
  takes = takes_none c.args.plan.now (take 0 c.args.noted.now) refl _;
}

pub loop-rule-preserved : goal.loop-rule-preserved
loop-rule-preserved c =
    let i = c.loop-rule.invariant in
    let k = c.in_ok-add_faulty.ensures in
    record {
      at_fault = k.at_fault i.at_fault;
      takes =
          subst (λ (noted : List RuleId). TakesFaulty c.args.plan.now noted c.add_faulty.new.faulty.items)
          (sym (take_more c.args.noted.now c.loop-rule.rule-index _ (omega arith))) (k.takes (take c.loop-rule.rule-index c.args.noted.now) i.takes);
    }

pub returns-clause-at_fault : goal.returns-clause-at_fault
returns-clause-at_fault c =
    subst (λ (rules : List RuleId). AreAtFault c.args.plan.now rules) (sym c.in_ok-extend_from_slice.ensures.items)
    (more_at_fault c.args.plan.now c.loop-rule.faulty.items c.args.cycle.now c.loop-rule.invariant.at_fault c.requires)

pub returns-clause-takes : goal.returns-clause-takes
returns-clause-takes c =
    let noted = subst (λ (rules : List RuleId). TakesFaulty c.args.plan.now rules c.loop-rule.faulty.items)
    (take_all c.loop-rule.rule-index c.args.noted.now (omega arith)) c.loop-rule.invariant.takes in
    subst (λ (rules : List RuleId). TakesFaulty c.args.plan.now c.args.noted.now rules) (sym c.in_ok-extend_from_slice.ensures.items)
    (taken_behind c.args.plan.now c.args.noted.now c.loop-rule.faulty.items c.args.cycle.now noted)
