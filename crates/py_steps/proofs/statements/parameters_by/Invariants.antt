use Rattle.std.proofs.Common.{◌≡◌, ◌++◌, map, drop}
use Rattle.py_tree.specs.Tree.{trees, parameter_tree}
use Rattle.py_meaning.specs.Arguments.{parameters_by}
use Rattle.py_steps.proofs.statements.parameters_by.Given as goal

abbrev pub invariant-parameters : goal.invariant-parameters
invariant-parameters l = l.made.items ++ parameters_by (trees (map parameter_tree (drop l.parameter-index l.parameters))) l.left ≡ parameters_by (trees (map parameter_tree l.parameters)) l.values
