use Rattle.std.proofs.Common.{◌≡◌, map, take}
use Rattle.deciders.specs.Records.{name_of}
use Rattle.build_run.proofs.start.job_of.Given as goal

abbrev pub invariant-loop-dep : goal.invariant-loop-dep
invariant-loop-dep l = l.deps.items ≡ map name_of (take l.dep-index l.dep-items)
