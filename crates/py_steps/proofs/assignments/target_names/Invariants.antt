use Rattle.std.proofs.Common.{◌≡◌, ◌++◌, map, drop}
use Rattle.py_tree.specs.Tree.{trees, expr_tree}
use Rattle.py_meaning.specs.Loops.{names_of}
use Rattle.py_steps.proofs.assignments.target_names.Given as goal

abbrev pub invariant-targets : goal.invariant-targets
invariant-targets l = l.names.items ++ names_of (trees (map expr_tree (drop l.target-index l.targets))) ≡ names_of (trees (map expr_tree l.targets))
