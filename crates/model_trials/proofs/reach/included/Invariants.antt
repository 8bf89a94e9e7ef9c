use Rattle.std.proofs.Common.{◌≡◌, drop}
use Rattle.model_trials.specs.Plain.{included as included_of}
use Rattle.model_trials.proofs.reach.included.Given as goal

abbrev pub invariant-loop-scan : goal.invariant-loop-scan
invariant-loop-scan l = included_of (drop l.scan-index l.scans) l.file ≡ included_of l.scans l.file
