use Rattle.std.proofs.Common.{length, map}
use Rattle.py_tree.specs.Tree.{parameter_tree}
use Rattle.py_parse.proofs.Params.{ParamsGoOn}
use Rattle.py_parse.proofs.parameters.parse_parameter_list.Given as goal

abbrev pub invariant-parameters : goal.invariant-parameters
invariant-parameters l = ParamsGoOn l.depth l.tokens l.seen (map parameter_tree l.found.items) l.rest

abbrev pub decreases-parameters : goal.decreases-parameters
decreases-parameters l = length l.rest
