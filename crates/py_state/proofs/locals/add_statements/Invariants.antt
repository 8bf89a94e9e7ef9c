use Rattle.std.proofs.Common.{◌≡◌, map, drop}
use Rattle.py_tree.specs.Tree.{trees, simple_tree}
use Rattle.py_meaning.specs.LocalNames.{bound_names}
use Rattle.py_state.proofs.locals.add_statements.Given as goal

abbrev pub invariant-statements : goal.invariant-statements
invariant-statements l = bound_names l.names.keys (trees (map simple_tree (drop l.statement-index l.statements))) ≡ bound_names l.initial.names.keys (trees (map simple_tree l.statements))
