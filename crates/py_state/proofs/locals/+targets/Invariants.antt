use Rattle.std.proofs.Common.{◌≡◌, map, drop}
use Rattle.py_tree.specs.Tree.{trees, expr_tree}
use Rattle.py_meaning.specs.LocalNames.{target_names}
use Rattle.py_state.proofs.locals.+targets.Given as goal

abbrev pub invariant-add_targets-targets : goal.invariant-add_targets-targets
invariant-add_targets-targets l = target_names l.names.keys (trees (map expr_tree (drop l.target-index l.targets))) ≡ target_names l.initial.names.keys (trees (map expr_tree l.targets))
