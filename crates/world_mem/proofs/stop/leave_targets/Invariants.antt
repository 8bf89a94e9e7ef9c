use Rattle.std.proofs.Common.{◌≡◌, ◌++◌, take}
use Rattle.world_mem.specs.Left.{left_over, number_after}
use Rattle.world_mem.proofs.stop.leave_targets.Given as goal

abbrev pub invariant-loop-path : goal.invariant-loop-path
invariant-loop-path l = record {
  left : l.left ≡ l.initial.left ++ left_over l.first (take l.path-index l.path-items);
  next : l.number ≡ number_after l.first (take l.path-index l.path-items);
}
