-- Brackets that are open: what is still read behind an expression that stands in one, up to its closing bracket.
use Rattle.std.specs.Prelude.{◌≡◌, ℕ, ◌<◌, ◌≤◌, ◌++◌, Bool, true, false, List, [], ◌∷◌, map, length, Result, Ok, Err}
use Rattle.py_token.specs.declared.mark.Mark.TheVariants as mark'
use Rattle.py_token.specs.declared.token.Token.{Token}
use Rattle.py_tree.specs.Tree.{Tree, cons, group, tuple, list, comprehension, dict, pair, call, named, slice, words}
use Rattle.py_tree.specs.Tree.{expr_tree, link_tree, pair_tree, argument_tree, piece_tree, joined}
use Rattle.py_parse.specs.declared.display.OpenDisplay.{OpenDisplay}
use Rattle.py_parse.specs.declared.display.OpenDisplay.TheVariants as display'
use Rattle.py_parse.specs.declared.display.NextDisplay.{NextDisplay}
use Rattle.py_parse.specs.declared.display.NextDisplay.TheVariants as next'
use Rattle.py_parse.specs.declared.link.OpenLink.{OpenLink}
use Rattle.py_parse.specs.declared.link.OpenLink.TheVariants as open'
use Rattle.py_parse.specs.declared.link.NextLink.{NextLink}
use Rattle.py_parse.specs.declared.link.NextLink.TheVariants as follow'
use Rattle.py_parse.specs.declared.pieces.NextPiece.{NextPiece}
use Rattle.py_parse.specs.declared.pieces.NextPiece.TheVariants as piece'
use Rattle.py_parse.specs.declared.pieces.PieceStep.{PieceStep}
use Rattle.py_parse.specs.declared.pieces.PieceStep.TheVariants as step'
use Rattle.py_parse.specs.declared.terminal.Terminal.TheVariants as terminal'
use Rattle.py_parse.specs.Terminals.{Want, one, heads}
use Rattle.py_parse.specs.declared.stop.Stop.{Stop}
use Rattle.py_parse.specs.Grammar.{Part, Body, gives, takes, reads, mark, expr, plain, exprs_rest, items_rest, listed_rest, tests}
use Rattle.py_parse.specs.Grammar.{parts, more_pieces, field_body, opens, deeper, pairs_rest, args_rest, named_args, named_rest, subscript_rest, closed, trails}
use Rattle.py_parse.specs.Reading.{Outcome, ok, Reads}
use Rattle.py_parse.specs.Agrees.{AgreesOnStop, Taken, onto, optional_box}

-- parentheses
abbrev pub group_end : ℕ → Tree → Body
group_end l t = takes (mark mark'.CloseParen) (λ _. gives (group l t))

abbrev pub grouped_after : ℕ → Tree → Body
grouped_after l t = reads (exprs_rest t) (λ e. group_end l e)

abbrev pub tuple_from : ℕ → ℕ → List Tree → Body
tuple_from l c found = reads items_rest (λ u. group_end l (tuple c (closed (onto found u)) (trails (onto found u))))

abbrev pub tuple_after : ℕ → ℕ → List Tree → Tree → Body
tuple_after l c found t =
    reads items_rest (λ u. group_end l (tuple c (closed (onto found (cons t u))) (trails (onto found (cons t u)))))

-- brackets
abbrev pub list_end : ℕ → Tree → Body
list_end l t = takes (mark mark'.CloseBracket) (λ _. gives (list l t))

abbrev pub list_after : ℕ → Tree → Body
list_after l t = reads (listed_rest l t) gives

abbrev pub item_after : ℕ → List Tree → Tree → Body
item_after l found t = reads items_rest (λ u. list_end l (closed (onto found (cons t u))))

abbrev pub tests_from : ℕ → Tree → Tree → Tree → List Tree → Body
tests_from l t n s found =
    reads tests (λ u. takes (mark mark'.CloseBracket) (λ _. gives (comprehension l t n s (onto found u))))

abbrev pub source_after : ℕ → Tree → Tree → Tree → Body
source_after l t n s = reads tests (λ u. takes (mark mark'.CloseBracket) (λ _. gives (comprehension l t n s u)))

abbrev pub test_after : ℕ → Tree → Tree → Tree → List Tree → Tree → Body
test_after l t n s found v =
    reads tests (λ u. takes (mark mark'.CloseBracket) (λ _. gives (comprehension l t n s (onto found (cons v u)))))

-- braces
abbrev pub dict_end : ℕ → Tree → Body
dict_end l t = takes (mark mark'.CloseBrace) (λ _. gives (dict l t))

abbrev pub value_after : ℕ → List Tree → Tree → ℕ → Tree → Body
value_after l found k c v = reads pairs_rest (λ u. dict_end l (onto found (cons (pair c k v) u)))

abbrev pub key_after : ℕ → List Tree → Tree → Body
key_after l found k = takes (mark mark'.Colon) (λ x. reads expr (λ v. value_after l found k x.line v))

-- what is read behind the next expression of a display
abbrev pub display_after : OpenDisplay → Tree → Body
display_after (display'.Group l) t = grouped_after l t
display_after (display'.Tuple l c ts) t = tuple_after l c (map expr_tree ts.items) t
display_after (display'.First l) t = list_after l t
display_after (display'.Item l ts) t = item_after l (map expr_tree ts.items) t
display_after (display'.Source l e ns) t = source_after l (expr_tree e.value) (words ns.items) t
display_after (display'.Test l e ns s ts) t =
    test_after l (expr_tree e.value) (words ns.items) (expr_tree s.value) (map expr_tree ts.items) t
display_after (display'.Key l ps) t = key_after l (map pair_tree ps.items) t
display_after (display'.Value l ps k c) t = value_after l (map pair_tree ps.items) (expr_tree k) c t

-- the next expression of a display: what a comprehension goes over and its tests are no conditional ones
abbrev pub is_plain : OpenDisplay → Bool
is_plain (display'.Source l e ns) = true
is_plain (display'.Test l e ns s ts) = true
is_plain other = false

abbrev pub wanted : Bool → Part
wanted true = plain
wanted false = expr

-- Reading the body at these tokens goes on so, at every budget: it ends as reading an expression and what stands behind
-- it does, from fewer tokens on; or it ended; or it stops.
abbrev pub GoesOn : Body → List Token → NextDisplay → Type 0
GoesOn b ts (next'.More s rest) =
    (d : ℕ) (o : Outcome) → Reads d (reads (wanted (is_plain s)) (λ t. display_after s t)) rest.now o → Reads d b ts o
GoesOn b ts (next'.Closed e rest) = (d : ℕ) → Reads d b ts (ok (expr_tree e) rest.now)

abbrev pub Continues : Body → List Token → Result NextDisplay Stop → Type 0
Continues b ts (Ok n) = GoesOn b ts n
Continues b ts (Err s) = AgreesOnStop s (λ o. (d : ℕ) → Reads d b ts o)

-- it goes on from fewer tokens
abbrev pub Shrinks : List Token → Result NextDisplay Stop → Type 0
Shrinks ts (Ok (next'.More s rest)) = length rest.now < length ts
Shrinks ts (Ok (next'.Closed e rest)) = Unit {0}
Shrinks ts (Err s) = Unit {0}

-- texts behind the pieces found: from a part of an f-text on, or behind a text
abbrev pub pieces_from : Bool → ℕ → List Tree → Body
pieces_from true l found = reads parts (λ u. gives (joined l (onto found u)))
pieces_from false l found = reads more_pieces (λ u. gives (joined l (onto found u)))

-- what is read from a field on
abbrev pub field_from : ℕ → List Tree → Body
field_from l found =
    opens (mark mark'.OpenBrace) (λ x. deeper (field_body x.line) (λ t. pieces_from true l (found ++ t ∷ [])))

-- a field stands at these tokens; or the texts ended
abbrev pub PiecesGoOn : ℕ → Body → List Token → NextPiece → Type 0
PiecesGoOn l b ts (piece'.Field found rest) =
    (d : ℕ) (o : Outcome) → Reads d (field_from l (map piece_tree found.items)) rest.now o → Reads d b ts o
PiecesGoOn l b ts (piece'.Ended e rest) = (d : ℕ) → Reads d b ts (ok (expr_tree e) rest.now)

abbrev pub PiecesContinue : ℕ → Body → List Token → Result NextPiece Stop → Type 0
PiecesContinue l b ts (Ok n) = PiecesGoOn l b ts n
PiecesContinue l b ts (Err s) = AgreesOnStop s (λ o. (d : ℕ) → Reads d b ts o)

-- it goes on from no more tokens
abbrev pub PiecesStay : List Token → Result NextPiece Stop → Type 0
PiecesStay ts (Ok (piece'.Field found rest)) = length rest.now ≤ length ts
PiecesStay ts (Ok (piece'.Ended e rest)) = Unit {0}
PiecesStay ts (Err s) = Unit {0}

-- what the first token is, in an f-text or behind a text
abbrev pub part_wanted : Bool → Want
part_wanted true = one terminal'.FPart
part_wanted false = one terminal'.Text

abbrev pub turn_wanted : Bool → Want
turn_wanted true = one terminal'.FEnd
turn_wanted false = one terminal'.FStart

abbrev pub no_part_heads : Bool → List Token → Type 0
no_part_heads inside ts = heads (part_wanted inside) ts ≡ false

abbrev pub StepsTo : Bool → List Token → PieceStep → Type 0
StepsTo inside ts (step'.Part x rest) = Taken (part_wanted inside) ts x.now rest.now
StepsTo inside ts (step'.Turns rest) =
    (x : Token) × Taken (turn_wanted inside) ts x rest.now × no_part_heads inside ts ×
    (inside ≡ true → heads (mark mark'.OpenBrace) ts ≡ false)
StepsTo inside ts step'.Field = (inside ≡ true) × no_part_heads inside ts × (heads (mark mark'.OpenBrace) ts ≡ true)
StepsTo inside ts step'.Ends =
    (inside ≡ false) × no_part_heads inside ts × (heads (turn_wanted inside) ts ≡ false)
StepsTo inside ts step'.Unfit =
    (inside ≡ true) × no_part_heads inside ts × (heads (mark mark'.OpenBrace) ts ≡ false) ×
    (heads (turn_wanted inside) ts ≡ false)

-- calls
abbrev pub call_end : ℕ → Tree → Body
call_end l t = takes (mark mark'.CloseParen) (λ _. gives (call l t))

abbrev pub argument_after : ℕ → List Tree → Tree → Body
argument_after l found t = reads (args_rest t) (λ u. call_end l (onto found u))

abbrev pub named_after : ℕ → List Tree → List (List ℕ) → ℕ → List ℕ → Tree → Body
named_after l found seen nl n v = reads (named_rest seen) (λ u. call_end l (onto found (cons (named nl n v) u)))

abbrev pub named_from_here : ℕ → List Tree → List (List ℕ) → Body
named_from_here l found seen = reads (named_args seen) (λ u. call_end l (onto found u))

-- subscripts
abbrev pub lower_after : ℕ → Tree → Body
lower_after l t = reads (subscript_rest l t) gives

abbrev pub upper_after : ℕ → Tree → Tree → Body
upper_after l t u = takes (mark mark'.CloseBracket) (λ _. gives (slice l t u))

-- what is read behind the next expression of a call or subscript
abbrev pub link_after : OpenLink → Tree → Body
link_after (open'.Argument l as') t = argument_after l (map argument_tree as'.items) t
link_after (open'.Named l as' seen nl n) t = named_after l (map argument_tree as'.items) seen nl n t
link_after (open'.Lower l) t = lower_after l t
link_after (open'.Upper l lower) t = upper_after l (optional_box lower) t

abbrev pub LinkGoesOn : Body → List Token → NextLink → Type 0
LinkGoesOn b ts (follow'.More s rest) =
    (d : ℕ) (o : Outcome) → Reads d (reads expr (λ t. link_after s t)) rest.now o → Reads d b ts o
LinkGoesOn b ts (follow'.Closed e rest) = (d : ℕ) → Reads d b ts (ok (link_tree e) rest.now)

abbrev pub LinkContinues : Body → List Token → Result NextLink Stop → Type 0
LinkContinues b ts (Ok n) = LinkGoesOn b ts n
LinkContinues b ts (Err s) = AgreesOnStop s (λ o. (d : ℕ) → Reads d b ts o)

abbrev pub LinkShrinks : List Token → Result NextLink Stop → Type 0
LinkShrinks ts (Ok (follow'.More s rest)) = length rest.now < length ts
LinkShrinks ts (Ok (follow'.Closed e rest)) = Unit {0}
LinkShrinks ts (Err s) = Unit {0}

abbrev pub LinkStays : List Token → Result NextLink Stop → Type 0
LinkStays ts (Ok (follow'.More s rest)) = length rest.now ≤ length ts
LinkStays ts (Ok (follow'.Closed e rest)) = Unit {0}
LinkStays ts (Err s) = Unit {0}
