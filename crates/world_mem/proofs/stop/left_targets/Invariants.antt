use Rattle.std.proofs.Common.{◌≡◌, take}
use Rattle.std.specs.List.{flat_map}
use Rattle.world_mem.specs.Left.{left_over, number_after}
use Rattle.world_mem.specs.declared.running.RunningJob.{RunningJob}
use Rattle.world_mem.proofs.stop.left_targets.Given as goal

abbrev pub invariant-loop-run : goal.invariant-loop-run
invariant-loop-run l = record {
  left : l.left ≡ left_over l.pick (flat_map (λ (run : RunningJob). run.made) (take l.run-index l.state.running.items));
  next : l.number ≡ number_after l.pick (flat_map (λ (run : RunningJob). run.made) (take l.run-index l.state.running.items));
}
