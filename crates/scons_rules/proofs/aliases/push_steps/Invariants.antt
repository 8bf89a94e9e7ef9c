use Rattle.std.proofs.Common.{◌≡◌, ◌++◌, List, take}
use Rattle.std.specs.List.{filter_map}
use Rattle.scons_decls.specs.declared.given.Given.{Given}
use Rattle.scons_rules.specs.AliasTable.{names_in}
use Rattle.scons_rules.specs.Aliased.{Leaves, step_of}
use Rattle.scons_rules.proofs.aliases.push_steps.Given as goal

abbrev pub invariant-loop-node : goal.invariant-loop-node
invariant-loop-node l = (left : List Given) → Leaves left l.ignored → l.steps ≡ l.initial.steps ++ filter_map (step_of (names_in l.state.aliases) left) (take l.node-index l.nodes)
