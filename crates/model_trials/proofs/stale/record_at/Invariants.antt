use Rattle.std.proofs.Common.{◌≡◌, drop}
use Rattle.model_trials.specs.Staling.{records_of}
use Rattle.model_trials.proofs.stale.record_at.Given as goal

abbrev pub invariant-loop-place : goal.invariant-loop-place
invariant-loop-place l = records_of (drop l.place-index l.records) l.path ≡ records_of l.records l.path
