use Rattle.std.proofs.Common.{◌≡◌, false, take}
use Rattle.task_plan.specs.Admits.{queues}
use Rattle.task_plan.proofs.cycles.place_of.Given as goal

abbrev pub invariant-loop-place : goal.invariant-loop-place
invariant-loop-place l = queues (take l.place l.chain) l.rule.0 ≡ false
