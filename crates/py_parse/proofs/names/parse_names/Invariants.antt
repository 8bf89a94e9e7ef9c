use Rattle.std.proofs.Common.{ℕ, length, map}
use Rattle.py_tree.specs.Tree.{word}
use Rattle.py_parse.specs.Grammar as grammar
use Rattle.py_parse.proofs.Loops.{Continues}
use Rattle.py_parse.proofs.names.parse_names.Given as goal

abbrev pub invariant-names : goal.invariant-names
invariant-names l = (d : ℕ) → Continues d grammar.names l.tokens l.rest (map word l.found.items)

abbrev pub decreases-names : goal.decreases-names
decreases-names l = length l.rest
