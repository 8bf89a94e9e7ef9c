use Rattle.scons_report.proofs.Ringing.{IsLeastSoFar}
use Rattle.scons_report.proofs.dry.place_of_least.Given as goal

abbrev pub invariant-loop-place : goal.invariant-loop-place
invariant-loop-place l = IsLeastSoFar l.paths l.place l.least
