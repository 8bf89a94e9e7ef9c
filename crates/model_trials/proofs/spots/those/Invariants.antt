use Rattle.std.proofs.Common.{◌≡◌, ◌++◌, drop}
use Rattle.build_model.specs.Reach.{those as those_of}
use Rattle.model_trials.proofs.spots.those.Given as goal

abbrev pub invariant-loop-path : goal.invariant-loop-path
invariant-loop-path l = l.found.items ++ those_of l.wanted (drop l.path-index l.paths) ≡ those_of l.wanted l.paths
