use Rattle.std.proofs.Common.{◌≡◌, take, map}
use Rattle.scons_decls.specs.declared.given.Given.TheVariants.{File}
use Rattle.scons_decls.proofs.expand.as_nodes.Given as goal

abbrev pub invariant-loop-path : goal.invariant-loop-path
invariant-loop-path l = l.nodes ≡ map File (take l.path-index l.paths)
