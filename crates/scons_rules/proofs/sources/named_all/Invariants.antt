use Rattle.std.proofs.Common.{◌≡◌, map, take}
use Rattle.scons_decls.specs.State.{declared_of}
use Rattle.scons_rules.specs.Settled.{named}
use Rattle.scons_rules.proofs.sources.named_all.Given as goal

abbrev pub invariant-loop-path : goal.invariant-loop-path
invariant-loop-path l = l.nodes.items ≡ map (named (declared_of l.state)) (take l.path-index l.paths)
