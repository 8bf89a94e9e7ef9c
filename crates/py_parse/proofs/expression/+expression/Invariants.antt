use Rattle.std.proofs.Common.{◌+◌, ◌-◌, ◌*◌, List, length, map}
use Rattle.py_token.specs.declared.token.Token.{Token}
use Rattle.py_tree.specs.Tree.{expr_tree, link_tree, operation_tree, piece_tree}
use Rattle.py_parse.specs.Agrees.{level_rank}
use Rattle.py_parse.specs.Open.{GoesOn, LinkGoesOn, PiecesGoOn, display_after, link_after, field_from, is_plain, wanted}
use Rattle.py_parse.specs.Reading.{Outcome, Reads, pick, ok}
use Rattle.py_parse.specs.Grammar.{Body, reads}
use Rattle.py_parse.specs.Grammar as grammar
use Rattle.py_parse.proofs.Loops.{Continues}
use Rattle.py_parse.proofs.expression.+expression.Given as goal

abbrev pub decreases-parse_display : goal.decreases-parse_display
decreases-parse_display l = 27 * l.depth + 23

abbrev pub decreases-parse_brackets : goal.decreases-parse_brackets
decreases-parse_brackets l = 27 * l.depth + 23

abbrev pub decreases-parse_choice : goal.decreases-parse_choice
decreases-parse_choice l = 27 * l.depth + 21

abbrev pub decreases-parse_test : goal.decreases-parse_test
decreases-parse_test l = 27 * l.depth + 22

abbrev pub decreases-parse_wanted : goal.decreases-parse_wanted
decreases-parse_wanted l = 27 * l.depth + 22

abbrev pub decreases-parse_text : goal.decreases-parse_text
decreases-parse_text l = 27 * l.depth + 3

abbrev pub decreases-parse_pieces : goal.decreases-parse_pieces
decreases-parse_pieces l = 27 * l.depth + 2

abbrev pub decreases-parse_field : goal.decreases-parse_field
decreases-parse_field l = 27 * l.depth + 1

abbrev pub decreases-parse_chain : goal.decreases-parse_chain
decreases-parse_chain l = 27 * l.depth + (level_rank l.level + 3)

abbrev pub decreases-parse_operand : goal.decreases-parse_operand
decreases-parse_operand l = 27 * l.depth + (level_rank l.level + 2)

abbrev pub decreases-parse_not : goal.decreases-parse_not
decreases-parse_not l = 27 * l.depth + 15

abbrev pub decreases-parse_comparison : goal.decreases-parse_comparison
decreases-parse_comparison l = 27 * l.depth + 14

abbrev pub decreases-parse_right : goal.decreases-parse_right
decreases-parse_right l = 27 * l.depth + 12

abbrev pub decreases-parse_unary : goal.decreases-parse_unary
decreases-parse_unary l = 27 * l.depth + 6

abbrev pub decreases-parse_post : goal.decreases-parse_post
decreases-parse_post l = 27 * l.depth + 5

abbrev pub decreases-parse_atom : goal.decreases-parse_atom
decreases-parse_atom l = 27 * l.depth + 4

abbrev pub decreases-parse_link : goal.decreases-parse_link
decreases-parse_link l = 27 * l.depth + 1

abbrev pub invariant-parse_chain-operations : goal.invariant-parse_chain-operations
invariant-parse_chain-operations l =
    Reads l.depth (pick (grammar.operand l.level) l.tokens) l.tokens (ok (expr_tree l.first.value) l.initial.rest) ×
    Continues l.depth (grammar.operations l.level) l.initial.rest l.rest (map operation_tree l.operations.items)

abbrev pub decreases-parse_chain-operations : goal.decreases-parse_chain-operations
decreases-parse_chain-operations l = length l.rest

abbrev pub invariant-parse_post-links : goal.invariant-parse_post-links
invariant-parse_post-links l =
    Reads l.depth (pick grammar.atom l.tokens) l.tokens (ok (expr_tree l.atom.value) l.initial.rest) ×
    Continues l.depth grammar.links l.initial.rest l.rest (map link_tree l.links.items)

abbrev pub decreases-parse_post-links : goal.decreases-parse_post-links
decreases-parse_post-links l = length l.rest

abbrev pub invariant-parse_display-expressions : goal.invariant-parse_display-expressions
invariant-parse_display-expressions l =
    (b : Body) (ts : List Token) → GoesOn b ts l.fn.next → (o : Outcome) →
    Reads l.depth (reads (wanted (is_plain l.open.value)) (λ t. display_after l.open.value t)) l.rest o → Reads l.depth b ts o

abbrev pub decreases-parse_display-expressions : goal.decreases-parse_display-expressions
decreases-parse_display-expressions l = length l.rest

abbrev pub invariant-parse_brackets-expressions : goal.invariant-parse_brackets-expressions
invariant-parse_brackets-expressions l =
    (b : Body) (ts : List Token) → LinkGoesOn b ts l.fn.next → (o : Outcome) →
    Reads l.depth (reads grammar.expr (λ t. link_after l.open.value t)) l.rest o → Reads l.depth b ts o

abbrev pub decreases-parse_brackets-expressions : goal.decreases-parse_brackets-expressions
decreases-parse_brackets-expressions l = length l.rest

abbrev pub invariant-parse_pieces-fields : goal.invariant-parse_pieces-fields
invariant-parse_pieces-fields l =
    (b : Body) (ts : List Token) → PiecesGoOn l.line b ts l.fn.next → (o : Outcome) →
    Reads l.depth (field_from l.line (map piece_tree l.pieces.items)) l.rest o → Reads l.depth b ts o

abbrev pub decreases-parse_pieces-fields : goal.decreases-parse_pieces-fields
decreases-parse_pieces-fields l = length l.rest
