use Rattle.std.proofs.Common.{◌≡◌, ◌++◌, drop}
use Rattle.build_model.specs.Reach.{unseen as unseen_of}
use Rattle.model_trials.proofs.spots.add_unseen.Given as goal

abbrev pub invariant-loop-path : goal.invariant-loop-path
invariant-loop-path l =
    l.found.items ++ unseen_of l.seen.items (drop l.path-index l.paths) ≡ l.initial.found.items ++ unseen_of l.initial.seen.items l.paths
