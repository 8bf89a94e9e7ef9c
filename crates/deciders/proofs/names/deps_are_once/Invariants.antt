use Rattle.std.proofs.Common.{◌≡◌, [], drop, map}
use Rattle.deciders.specs.Records.{named_once, name_of}
use Rattle.deciders.proofs.names.deps_are_once.Given as goal

abbrev pub invariant-loop-dep : goal.invariant-loop-dep
invariant-loop-dep l = named_once l.names (map name_of (drop l.dep-index l.deps)) ≡ named_once [] (map name_of l.deps)
