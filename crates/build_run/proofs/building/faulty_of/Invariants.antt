use Rattle.std.proofs.Common.{take}
use Rattle.build_run.specs.Skips.{AreAtFault, TakesFaulty}
use Rattle.build_run.proofs.building.faulty_of.Given as goal

abbrev pub invariant-loop-rule : goal.invariant-loop-rule
invariant-loop-rule l = record {
  at_fault : AreAtFault l.plan l.faulty.items;
  takes : TakesFaulty l.plan (take l.rule-index l.noted) l.faulty.items;
}
