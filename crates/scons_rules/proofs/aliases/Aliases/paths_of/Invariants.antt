use Rattle.std.proofs.Common.{◌≡◌, take}
use Rattle.std.specs.List.{flat_map}
use Rattle.scons_rules.specs.AliasTable.{names_in}
use Rattle.scons_rules.specs.Aliased.{paths_in}
use Rattle.scons_rules.proofs.aliases.Aliases.paths_of.Given as goal

abbrev pub invariant-loop-node : goal.invariant-loop-node
invariant-loop-node l = l.paths ≡ flat_map (paths_in (names_in l.state.aliases) l.self) (take l.node-index l.nodes)
