use Rattle.std.proofs.Common.{take}
use Rattle.build_history.proofs.Truth.{IsSoFar}
use Rattle.build_history.proofs.course.history.Given as goal

abbrev pub invariant-loop-place : goal.invariant-loop-place
invariant-loop-place l = IsSoFar l.fn.world (take l.place l.events) l.told
