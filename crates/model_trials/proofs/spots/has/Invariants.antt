use Rattle.std.proofs.Common.{◌≡◌, drop}
use Rattle.build_model.specs.Reach.{has as is_in}
use Rattle.model_trials.proofs.spots.has.Given as goal

abbrev pub invariant-loop-other : goal.invariant-loop-other
invariant-loop-other l = is_in l.path (drop l.other-index l.paths) ≡ is_in l.path l.paths
