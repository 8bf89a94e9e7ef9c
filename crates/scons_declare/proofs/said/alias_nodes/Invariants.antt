use Rattle.std.proofs.Common.{◌≡◌, take, map}
use Rattle.scons_decls.specs.declared.given.Given.TheVariants.{Alias}
use Rattle.scons_declare.proofs.said.alias_nodes.Given as goal

abbrev pub invariant-loop-name : goal.invariant-loop-name
invariant-loop-name l = l.nodes ≡ map Alias (take l.name-index l.names)
