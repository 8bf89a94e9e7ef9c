use Rattle.std.proofs.Common.{◌≡◌, drop}
use Rattle.model_trials.specs.Staling.{file_at as file_at_of}
use Rattle.model_trials.proofs.stale.file_at.Given as goal

abbrev pub invariant-loop-file : goal.invariant-loop-file
invariant-loop-file l = file_at_of (drop l.file-index l.files) l.path ≡ file_at_of l.files l.path
