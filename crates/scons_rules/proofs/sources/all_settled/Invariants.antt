use Rattle.std.proofs.Common.{◌≡◌, map, take}
use Rattle.scons_decls.specs.State.{declared_of}
use Rattle.scons_rules.specs.Settled.{settled}
use Rattle.scons_rules.proofs.sources.all_settled.Given as goal

abbrev pub invariant-loop-path : goal.invariant-loop-path
invariant-loop-path l = l.files ≡ map (settled (declared_of l.state)) (take l.path-index l.paths)
