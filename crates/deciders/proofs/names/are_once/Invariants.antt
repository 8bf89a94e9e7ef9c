use Rattle.std.proofs.Common.{◌≡◌, [], drop}
use Rattle.deciders.specs.Records.{named_once}
use Rattle.deciders.proofs.names.are_once.Given as goal

abbrev pub invariant-loop-path : goal.invariant-loop-path
invariant-loop-path l = named_once l.names (drop l.path-index l.paths) ≡ named_once [] l.paths
