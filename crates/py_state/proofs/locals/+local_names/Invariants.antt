use Rattle.std.proofs.Common.{◌≡◌, map, drop}
use Rattle.py_tree.specs.Tree.{trees, line_tree, branch_tree}
use Rattle.py_meaning.specs.LocalNames.{bound_names}
use Rattle.py_state.proofs.locals.+local_names.Given as goal

abbrev pub invariant-add_lines-lines : goal.invariant-add_lines-lines
invariant-add_lines-lines l = bound_names l.names.keys (trees (map line_tree (drop l.line-index l.lines))) ≡ bound_names l.initial.names.keys (trees (map line_tree l.lines))

abbrev pub invariant-add_branches-branches : goal.invariant-add_branches-branches
invariant-add_branches-branches l = bound_names l.names.keys (trees (map branch_tree (drop l.branch-index l.branches))) ≡ bound_names l.initial.names.keys (trees (map branch_tree l.branches))
