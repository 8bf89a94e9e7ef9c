use Rattle.std.proofs.Common.{length, map}
use Rattle.py_tree.specs.Tree.{simple_tree}
use Rattle.py_parse.specs.Grammar as grammar
use Rattle.py_parse.proofs.Loops.{Continues}
use Rattle.py_parse.proofs.statements.parse_statements.Given as goal

abbrev pub invariant-statements : goal.invariant-statements
invariant-statements l = Continues l.depth (grammar.statements l.site) l.tokens l.rest (map simple_tree l.found.items)

abbrev pub decreases-statements : goal.decreases-statements
decreases-statements l = length l.rest
