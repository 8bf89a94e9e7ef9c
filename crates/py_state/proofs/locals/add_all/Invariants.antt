use Rattle.std.proofs.Common.{◌≡◌, map, drop}
use Rattle.py_tree.specs.Tree.{trees, word}
use Rattle.py_meaning.specs.LocalNames.{target_names}
use Rattle.py_state.proofs.locals.add_all.Given as goal

abbrev pub invariant-names : goal.invariant-names
invariant-names l = target_names l.names.keys (trees (map word (drop l.name-index l.bound))) ≡ target_names l.initial.names.keys (trees (map word l.bound))
