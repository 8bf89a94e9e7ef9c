use Rattle.std.proofs.Common.{◌≡◌, map, drop}
use Rattle.py_host.specs.Calls.{arguments_of}
use Rattle.py_tree.specs.Tree.{trees, argument_tree}
use Rattle.py_meaning.specs.Arguments.{arguments_onto, arguments_by}
use Rattle.py_state.proofs.arguments.arguments_by.Given as goal

abbrev pub invariant-arguments : goal.invariant-arguments
invariant-arguments l = arguments_onto (arguments_of l.args) (trees (map argument_tree (drop l.place l.arguments))) (drop l.place l.values) ≡ arguments_by (trees (map argument_tree l.arguments)) l.values
