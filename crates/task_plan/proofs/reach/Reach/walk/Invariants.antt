use Rattle.std.proofs.Common.{◌≡◌}
use Rattle.task_plan.specs.Settled.{IsLonger}
use Rattle.task_plan.specs.Listed.{IsWalking}
use Rattle.task_plan.proofs.reach.Reach.walk.Given as goal

abbrev pub invariant-loop-place : goal.invariant-loop-place
invariant-loop-place l = record {
  rest : l.self ≡ record l.initial.self { files = l.self.files; front = l.self.front };
  longer : IsLonger l.initial.self.files.keys l.self.files.keys;
  walking : IsWalking l.self l.place;
}
