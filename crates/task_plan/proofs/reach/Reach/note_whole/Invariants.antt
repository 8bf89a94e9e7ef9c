use Rattle.std.proofs.Common.{◌≡◌, ◌-◌, length}
use Rattle.task_plan.specs.Settled.{AreScannedIn}
use Rattle.task_plan.proofs.reach.Reach.note_whole.Given as goal

abbrev pub invariant-loop-self : goal.invariant-loop-self
invariant-loop-self l = record {
  rest : l.self ≡ record l.initial.self { whole = l.self.whole };
  whole : AreScannedIn l.self.found.entries l.self.files.keys l.self.whole;
}

abbrev pub decreases-loop-self : goal.decreases-loop-self
decreases-loop-self l = length l.self.files.keys - l.self.whole
