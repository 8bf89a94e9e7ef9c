use Rattle.std.proofs.Common.{length, map}
use Rattle.py_tree.specs.Tree.{Tree, expr_tree}
use Rattle.py_parse.specs.Agrees.{onto}
use Rattle.py_parse.specs.Reading.{Outcome, Reads}
use Rattle.py_parse.specs.Grammar.{reads, gives}
use Rattle.py_parse.specs.Grammar as grammar
use Rattle.py_parse.proofs.expression_list.parse_items.Given as goal

abbrev pub invariant-items : goal.invariant-items
invariant-items l =
    (f : Tree → Tree) (o : Outcome) → Reads l.depth (reads grammar.items (λ u. gives (f (onto (map expr_tree l.items.items) u)))) l.rest o →
    Reads l.depth (reads grammar.items (λ u. gives (f (onto (map expr_tree l.fn.items.items) u)))) l.tokens o

abbrev pub decreases-items : goal.decreases-items
decreases-items l = length l.rest
