use Rattle.std.proofs.Common.{◌≡◌, [], map, drop}
use Rattle.py_tree.specs.Tree.{trees, parameter_tree}
use Rattle.py_meaning.specs.LocalNames.{parameter_names}
use Rattle.py_state.proofs.locals.local_names.Given as goal

abbrev pub invariant-parameters : goal.invariant-parameters
invariant-parameters l = parameter_names l.names.keys (trees (map parameter_tree (drop l.parameter-index l.parameters))) ≡ parameter_names [] (trees (map parameter_tree l.parameters))
