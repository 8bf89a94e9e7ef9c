-- The grammar: for each part of a script its productions, as in chapters 6 to 9 of the Python language reference, cut
-- down to the subset. A production takes tokens and reads parts from left to right, and gives the tree in the end.
use Rattle.std.specs.Prelude.{ℕ, List, [], ◌∷◌, ◌++◌, Bool, true, false, ◌&&◌}
use Rattle.py_token.specs.declared.keyword.Keyword.{Keyword}
use Rattle.py_token.specs.declared.keyword.Keyword.TheVariants as keyword'
use Rattle.py_token.specs.declared.mark.Mark.{Mark}
use Rattle.py_token.specs.declared.mark.Mark.TheVariants as mark'
use Rattle.py_token.specs.declared.token.Token.{Token}
use Rattle.py_token.specs.declared.token.TokenKind.{TokenKind}
use Rattle.py_token.specs.declared.token.TokenKind.TheVariants as kind'
use Rattle.py_tree.specs.declared.expr.Comparison.TheVariants as comparison'
use Rattle.py_tree.specs.Tree.{Tree, nil, cons, absent, word, name, integer, text, constant, group, tuple, list}
use Rattle.py_tree.specs.Tree.{comprehension, dict, pair, post, attribute, call, named, index, slice, negative, not}
use Rattle.py_tree.specs.Tree.{chain, operation, compare, assign, augment, expression, pass, break, continue, return}
use Rattle.py_tree.specs.Tree.{imports, simple, branching, branch, for', while', def, parameter, joined, field, choice}
use Rattle.py_parse.specs.declared.terminal.Terminal.TheVariants as terminal'
use Rattle.py_parse.specs.declared.level.Level.{Level}
use Rattle.py_parse.specs.declared.level.Level.TheVariants as level'
use Rattle.py_parse.specs.declared.site.Site.{Site}
use Rattle.py_parse.specs.Terminals.{Want, one, fresh, name_in, operator_in, augment_in, comparison_in, constant_in, text_in}

-- The parts of the grammar. A part that goes on with something keeps what it goes on with.
pub data Part : Type 0 where
  -- lines
  script : Part
  line : Site → Part
  branches : Site → Part
  block : Site → Part
  more_lines : Site → Part
  statements : Site → Part
  statements_rest : Site → Part
  statements_more : Site → Part
  small : Site → Part
  returned : Part
  assigned : Tree → Part
  parameters : Part
  params : List (List ℕ) → Part
  param_rest : List (List ℕ) → ℕ → List ℕ → Part
  defaults : List (List ℕ) → Part
  defaults_rest : List (List ℕ) → Part
  -- expressions
  exprs : Part
  exprs_rest : Tree → Part
  items : Part
  items_rest : Part
  expr : Part
  choice_rest : Tree → Part
  choice_body : ℕ → Tree → Part
  chained : Level → Part
  operations : Level → Part
  negation : Part
  comparison : Part
  compared : Tree → Part
  is_right : ℕ → Tree → Part
  constants : Part
  unary : Part
  posted : Part
  links : Part
  one_link : Part
  call_body : ℕ → Part
  atom : Part
  text_rest : ℕ → List ℕ → Part
  some_pieces : Part
  more_pieces : Part
  parts : Part
  field_body : ℕ → Part
  grouped : ℕ → Part
  listed : ℕ → Part
  listed_rest : ℕ → Tree → Part
  names : Part
  names_rest : Part
  tests : Part
  dict_body : ℕ → Part
  one_pair : Part
  pairs : Part
  pairs_rest : Part
  subscript : ℕ → Part
  subscript_rest : ℕ → Tree → Part
  upper : Part
  args : Part
  args_rest : Tree → Part
  named_args : List (List ℕ) → Part
  named_rest : List (List ℕ) → Part

-- What stands in a part: a tree that is given, or a token or part and then what stands behind it. What stands behind
-- `opens` and `deeper` is one level of nesting deeper.
pub data Body : Type 0 where
  gives : Tree → Body
  takes : Want → (Token → Body) → Body
  opens : Want → (Token → Body) → Body
  reads : Part → (Tree → Body) → Body
  deeper : Part → (Tree → Body) → Body

abbrev pub mark : Mark → Want
mark m = one (terminal'.Mark m)

abbrev pub keyword : Keyword → Want
keyword w = one (terminal'.Word w)

-- an expression that isn't a conditional one
abbrev pub plain : Part
plain = chained level'.Or

-- Operator precedence: section 6.17. What the operators of a level join is the next level above.
abbrev pub operand : Level → Part
operand level'.Or = chained level'.And
operand level'.And = negation
operand level'.Sum = chained level'.Product
operand level'.Product = unary

-- a chain with no operator is its operand alone, and likewise an atom with nothing behind it
abbrev pub chain_of : Tree → Tree → Tree
chain_of t (cons o os) = chain t (cons o os)
chain_of t _ = t

abbrev pub post_of : Tree → Tree → Tree
post_of t (cons l ls) = post t (cons l ls)
post_of t _ = t

-- a further branch in front
abbrev pub with_branch : Tree → Tree → Tree
with_branch b (branching bs e) = branching (cons b bs) e
with_branch b _ = nil

-- Targets: section 7.2, "Assignment statements", without attributes, lists and parentheses.
abbrev pub is_index : Tree → Bool
is_index (index l t) = true
is_index _ = false

abbrev pub ends_in_index : Tree → Bool
ends_in_index (cons l nil) = is_index l
ends_in_index (cons l ls) = ends_in_index ls
ends_in_index _ = false

abbrev pub is_place : Tree → Bool
is_place (name l n) = true
is_place (post t ls) = ends_in_index ls
is_place _ = false

abbrev pub is_name : Tree → Bool
is_name (name l n) = true
is_name _ = false

abbrev pub are_names : Tree → Bool
are_names (cons t ts) = is_name t && are_names ts
are_names _ = true

-- one place, or two and more names without a comma behind them
abbrev pub is_targets : Tree → Bool
is_targets (tuple l (cons t (cons u us)) false) = are_names (cons t (cons u us))
is_targets t = is_place t

-- A list whose end says whether a comma stands behind the last item: `absent` where one does.
abbrev pub closed : Tree → Tree
closed (cons t ts) = cons t (closed ts)
closed _ = nil

abbrev pub trails : Tree → Bool
trails (cons t ts) = trails ts
trails absent = true
trails _ = false

-- The places of statements: below an `if`, in a loop, in a function.
abbrev pub top : Site
top = record { outermost = true; in_def = false; in_for = false }

abbrev pub below : Site → Site
below s = record { outermost = false; in_def = s.in_def; in_for = s.in_for }

abbrev pub in_loop : Site → Site
in_loop s = record { outermost = false; in_def = s.in_def; in_for = true }

abbrev pub in_function : Site
in_function = record { outermost = false; in_def = true; in_for = false }

-- a production that stands only under a condition
abbrev pub when : Bool → Body → List Body → List Body
when true b bs = b ∷ bs
when false b bs = bs

-- a name followed by `=` is the first named argument
abbrev pub first_named : Tree → List Body → List Body
first_named (name l n) bs =
    takes (mark mark'.Assign) (λ _.
    reads expr (λ v. reads (named_rest (n ∷ [])) (λ u. gives (cons (named l n v) u)))) ∷ bs
first_named _ bs = bs

abbrev pub leaf_at : ℕ → TokenKind → Tree
leaf_at l (kind'.Name n) = name l n
leaf_at l (kind'.Integer n) = integer l n
leaf_at l k = constant l (constant_in k)

abbrev pub mark_display : ℕ → Mark → Part
mark_display l mark'.OpenParen = grouped l
mark_display l mark'.OpenBracket = listed l
mark_display l _ = dict_body l

abbrev pub display_at : ℕ → TokenKind → Part
display_at l (kind'.Mark m) = mark_display l m
display_at l _ = dict_body l

-- A name, a number or a constant.
abbrev pub leaf_of : Token → Tree
leaf_of x = leaf_at x.line x.kind

-- What stands behind an opening bracket, with the closing one.
abbrev pub display_of : Token → Part
display_of x = display_at x.line x.kind

-- The characters that a text or a part of an f-text holds, as a piece.
abbrev pub piece_of : Token → Tree
piece_of x = text x.line (text_in x.kind)

-- A field of an f-text, with its braces.
abbrev pub one_field : Body
one_field = opens (mark mark'.OpenBrace) (λ x. deeper (field_body x.line) gives)

-- The rest of a comprehension behind its `for`. What it goes over and its tests are no conditional expressions.
abbrev pub comprehended : ℕ → Tree → Body
comprehended l t =
    reads names (λ n. takes (keyword keyword'.In) (λ _. reads plain (λ s. reads tests (λ u.
    takes (mark mark'.CloseBracket) (λ _. gives (comprehension l t n s u))))))

-- An `if` or `elif` behind its word, with the branches behind it.
abbrev pub conditional : ℕ → Site → Body
conditional l s =
    reads expr (λ c. takes (mark mark'.Colon) (λ _. deeper (block (below s)) (λ b.
    reads (branches s) (λ e. gives (with_branch (branch l c b) e)))))

abbrev pub loop_body : ℕ → Site → Body
loop_body l s =
    reads names (λ n. takes (keyword keyword'.In) (λ _. reads exprs (λ e. takes (mark mark'.Colon) (λ _.
    deeper (block (in_loop s)) (λ b. gives (for' l n e b))))))

abbrev pub while_body : ℕ → Site → Body
while_body l s =
    reads expr (λ c. takes (mark mark'.Colon) (λ _. deeper (block (in_loop s)) (λ b. gives (while' l c b))))

abbrev pub function_body : ℕ → Body
function_body l =
    takes (one terminal'.Name) (λ n. opens (mark mark'.OpenParen) (λ _. deeper parameters (λ ps.
    takes (mark mark'.Colon) (λ _. deeper (block in_function) (λ b. gives (def l (name_in n.kind) ps b))))))

-- The lines of a block behind its first indentation.
abbrev pub indented : Site → Body
indented s = reads (line s) (λ t. reads (more_lines s) (λ u. gives (cons t u)))

abbrev pub import_body : ℕ → Body
import_body l =
    takes (one terminal'.Scons) (λ _. takes (mark mark'.Dot) (λ _. takes (one terminal'.Script) (λ _.
    takes (keyword keyword'.Import) (λ _. takes (mark mark'.Star) (λ _. gives (imports l))))))

abbrev pub return_body : ℕ → Body
return_body l = reads returned (λ t. gives (return l t))

abbrev pub assignment : Body
assignment = reads exprs (λ t. reads (assigned t) gives)

abbrev pub augment_body : Tree → Token → Body
augment_body t x = reads exprs (λ e. gives (augment x.line (augment_in x.kind) t e))

-- A slice behind its colon.
abbrev pub sliced : ℕ → Tree → Body
sliced l t = reads upper (λ u. takes (mark mark'.CloseBracket) (λ _. gives (slice l t u)))

abbrev pub productions : Part → List Body
-- A script: section 8, "Compound statements". A `def` stands at the outermost level alone.
productions script = reads (line top) (λ t. reads script (λ u. gives (cons t u))) ∷ gives nil ∷ []
productions (line s) =
    opens (keyword keyword'.If) (λ x. conditional x.line s) ∷
    opens (keyword keyword'.For) (λ x. loop_body x.line s) ∷
    opens (keyword keyword'.While) (λ x. while_body x.line s) ∷
    when s.outermost
    (opens (keyword keyword'.Def) (λ x. function_body x.line))
    (reads (statements s) (λ t. gives (simple t)) ∷ [])
productions (branches s) =
    opens (keyword keyword'.Elif) (λ x. conditional x.line s) ∷
    opens (keyword keyword'.Else) (λ _.
    takes (mark mark'.Colon) (λ _. deeper (block (below s)) (λ b. gives (branching nil b)))) ∷
    gives (branching nil nil) ∷ []
productions (block s) =
    takes (one terminal'.Newline) (λ _. takes (one terminal'.Indent) (λ _. indented s)) ∷
    reads (statements s) (λ t. gives (cons (simple t) nil)) ∷ []
productions (more_lines s) =
    takes (one terminal'.Dedent) (λ _. gives nil) ∷ indented s ∷ []
-- Simple statements: section 7. The tree of a line is the list of its statements.
productions (statements s) = reads (small s) (λ t. reads (statements_rest s) (λ u. gives (cons t u))) ∷ []
productions (statements_rest s) =
    takes (one terminal'.Newline) (λ _. gives nil) ∷
    takes (mark mark'.Semicolon) (λ _. reads (statements_more s) gives) ∷ []
productions (statements_more s) = takes (one terminal'.Newline) (λ _. gives nil) ∷ reads (statements s) gives ∷ []
productions (small s) =
    takes (keyword keyword'.Pass) (λ x. gives (pass x.line)) ∷
    takes (keyword keyword'.From) (λ x. import_body x.line) ∷
    when s.in_for (takes (keyword keyword'.Break) (λ x. gives (break x.line)))
    (when s.in_for (takes (keyword keyword'.Continue) (λ x. gives (continue x.line)))
    (when s.in_def (takes (keyword keyword'.Return) (λ x. return_body x.line))
    (assignment ∷ [])))
productions returned = reads exprs gives ∷ gives absent ∷ []
productions (assigned t) =
    when (is_targets t) (takes (mark mark'.Assign) (λ x. reads exprs (λ e. gives (assign x.line t e))))
    (when (is_place t) (takes (one terminal'.Augment) (augment_body t))
    (gives (expression t) ∷ []))
-- Function definitions: section 8.7. No name comes twice, and behind a default each parameter has one.
productions parameters = reads (params []) (λ ps. takes (mark mark'.CloseParen) (λ _. gives ps)) ∷ []
productions (params seen) =
    takes (fresh seen) (λ x. reads (param_rest (seen ++ name_in x.kind ∷ []) x.line (name_in x.kind)) gives) ∷
    gives nil ∷ []
productions (param_rest seen l n) =
    takes (mark mark'.Assign) (λ _.
    reads expr (λ v. reads (defaults_rest seen) (λ u. gives (cons (parameter l n v) u)))) ∷
    takes (mark mark'.Comma) (λ _. reads (params seen) (λ u. gives (cons (parameter l n absent) u))) ∷
    gives (cons (parameter l n absent) nil) ∷ []
productions (defaults seen) =
    takes (fresh seen) (λ x. takes (mark mark'.Assign) (λ _. reads expr (λ v.
    reads (defaults_rest (seen ++ name_in x.kind ∷ [])) (λ u.
    gives (cons (parameter x.line (name_in x.kind) v) u))))) ∷
    gives nil ∷ []
productions (defaults_rest seen) = takes (mark mark'.Comma) (λ _. reads (defaults seen) gives) ∷ gives nil ∷ []
-- Expression lists: section 6.15. A comma makes a tuple.
productions exprs = reads expr (λ t. reads (exprs_rest t) gives) ∷ []
productions (exprs_rest t) =
    takes (mark mark'.Comma) (λ x. reads items (λ u. gives (tuple x.line (cons t (closed u)) (trails (cons t u))))) ∷
    gives t ∷ []
productions items = reads expr (λ t. reads items_rest (λ u. gives (cons t u))) ∷ gives absent ∷ []
productions items_rest = takes (mark mark'.Comma) (λ _. reads items gives) ∷ gives nil ∷ []
-- Conditional expressions: section 6.13. What stands behind the `if` is one level deeper.
productions expr = reads plain (λ t. reads (choice_rest t) gives) ∷ []
productions (choice_rest t) =
    opens (keyword keyword'.If) (λ x. deeper (choice_body x.line t) gives) ∷ gives t ∷ []
productions (choice_body l t) =
    reads plain (λ c. takes (keyword keyword'.Else) (λ _. reads expr (λ e. gives (choice l t c e)))) ∷ []
-- Boolean operations, binary arithmetic operations: sections 6.11 and 6.7.
productions (chained l) = reads (operand l) (λ t. reads (operations l) (λ u. gives (chain_of t u))) ∷ []
productions (operations l) =
    takes (one (terminal'.Operator l)) (λ x. reads (operand l) (λ t. reads (operations l) (λ u.
    gives (cons (operation x.line (operator_in l x.kind) t) u)))) ∷
    gives nil ∷ []
productions negation =
    opens (keyword keyword'.Not) (λ x. deeper negation (λ t. gives (not x.line t))) ∷ reads comparison gives ∷ []
-- Comparisons: section 6.10, without chains. Behind `is` only None, True and False stand.
productions comparison = reads (chained level'.Sum) (λ t. reads (compared t) gives) ∷ []
productions (compared t) =
    takes (keyword keyword'.Not) (λ x. takes (keyword keyword'.In) (λ _. reads (chained level'.Sum) (λ u.
    gives (compare x.line comparison'.NotIn t u)))) ∷
    takes (keyword keyword'.Is) (λ x. reads (is_right x.line t) gives) ∷
    takes (one terminal'.Comparison) (λ x.
    reads (chained level'.Sum) (λ u. gives (compare x.line (comparison_in x.kind) t u))) ∷
    gives t ∷ []
productions (is_right l t) =
    takes (keyword keyword'.Not) (λ _. reads constants (λ u. gives (compare l comparison'.IsNot t u))) ∷
    reads constants (λ u. gives (compare l comparison'.Is t u)) ∷ []
productions constants = takes (one terminal'.Constant) (λ x. gives (constant x.line (constant_in x.kind))) ∷ []
-- Unary minus: section 6.6. Calls, subscriptions, slicings, attribute references: section 6.3.
productions unary =
    opens (mark mark'.Minus) (λ x. deeper unary (λ t. gives (negative x.line t))) ∷ reads posted gives ∷ []
productions posted = reads atom (λ t. reads links (λ u. gives (post_of t u))) ∷ []
productions links = reads one_link (λ t. reads links (λ u. gives (cons t u))) ∷ gives nil ∷ []
productions one_link =
    opens (mark mark'.OpenParen) (λ x. deeper (call_body x.line) gives) ∷
    opens (mark mark'.OpenBracket) (λ x. deeper (subscript x.line) gives) ∷
    takes (mark mark'.Dot) (λ _. takes (one terminal'.Name) (λ x. gives (attribute x.line (name_in x.kind)))) ∷ []
productions (call_body l) = reads args (λ u. takes (mark mark'.CloseParen) (λ _. gives (call l u))) ∷ []
productions (subscript l) =
    takes (mark mark'.Colon) (λ _. sliced l absent) ∷
    reads expr (λ t. reads (subscript_rest l t) gives) ∷ []
productions (subscript_rest l t) =
    takes (mark mark'.Colon) (λ _. sliced l t) ∷
    takes (mark mark'.CloseBracket) (λ _. gives (index l t)) ∷ []
productions upper = reads expr gives ∷ gives absent ∷ []
-- Arguments: positional ones, then named ones, and no name comes twice.
productions args = reads expr (λ t. reads (args_rest t) gives) ∷ gives nil ∷ []
productions (args_rest t) =
    first_named t (takes (mark mark'.Comma) (λ _. reads args (λ u. gives (cons t u))) ∷ gives (cons t nil) ∷ [])
productions (named_args seen) =
    takes (fresh seen) (λ x. takes (mark mark'.Assign) (λ _. reads expr (λ v.
    reads (named_rest (seen ++ name_in x.kind ∷ [])) (λ u. gives (cons (named x.line (name_in x.kind) v) u))))) ∷
    gives nil ∷ []
productions (named_rest seen) = takes (mark mark'.Comma) (λ _. reads (named_args seen) gives) ∷ gives nil ∷ []
-- Atoms: section 6.2.
productions atom =
    opens (one terminal'.Bracket) (λ x. deeper (display_of x) gives) ∷
    takes (one terminal'.Text) (λ x. reads (text_rest x.line (text_in x.kind)) gives) ∷
    takes (one terminal'.FStart) (λ x. reads parts (λ u. gives (joined x.line u))) ∷
    takes (one terminal'.Leaf) (λ x. gives (leaf_of x)) ∷ []
-- Texts behind one another are one: section 2.4.2. A field of an f-text is one level deeper: section 2.4.3, without
-- conversions, formats and `=`.
productions (text_rest l t) =
    reads some_pieces (λ u. gives (joined l (cons (text l t) u))) ∷ gives (text l t) ∷ []
productions some_pieces =
    takes (one terminal'.Text) (λ x. reads more_pieces (λ u. gives (cons (piece_of x) u))) ∷
    takes (one terminal'.FStart) (λ _. reads parts gives) ∷ []
productions more_pieces = reads some_pieces gives ∷ gives nil ∷ []
productions parts =
    takes (one terminal'.FPart) (λ x. reads parts (λ u. gives (cons (piece_of x) u))) ∷
    opens (mark mark'.OpenBrace) (λ x. deeper (field_body x.line) (λ t. reads parts (λ u. gives (cons t u)))) ∷
    takes (one terminal'.FEnd) (λ _. reads more_pieces gives) ∷ []
productions (field_body l) = reads expr (λ t. takes (mark mark'.CloseBrace) (λ _. gives (field l t))) ∷ []
productions (grouped l) =
    takes (mark mark'.CloseParen) (λ _. gives (group l (tuple l nil false))) ∷
    reads exprs (λ t. takes (mark mark'.CloseParen) (λ _. gives (group l t))) ∷ []
productions (listed l) =
    takes (mark mark'.CloseBracket) (λ _. gives (list l nil)) ∷
    reads expr (λ t. reads (listed_rest l t) gives) ∷ []
productions (listed_rest l t) =
    takes (keyword keyword'.For) (λ _. comprehended l t) ∷
    reads items_rest (λ u. takes (mark mark'.CloseBracket) (λ _. gives (list l (cons t (closed u))))) ∷ []
productions names =
    takes (one terminal'.Name) (λ x. reads names_rest (λ u. gives (cons (word (name_in x.kind)) u))) ∷ []
productions names_rest = takes (mark mark'.Comma) (λ _. reads names gives) ∷ gives nil ∷ []
productions tests =
    takes (keyword keyword'.If) (λ _. reads plain (λ t. reads tests (λ u. gives (cons t u)))) ∷ gives nil ∷ []
productions one_pair = reads expr (λ k. takes (mark mark'.Colon) (λ x. reads expr (λ v. gives (pair x.line k v)))) ∷ []
productions (dict_body l) = reads pairs (λ u. takes (mark mark'.CloseBrace) (λ _. gives (dict l u))) ∷ []
productions pairs = reads one_pair (λ t. reads pairs_rest (λ u. gives (cons t u))) ∷ gives nil ∷ []
productions pairs_rest = takes (mark mark'.Comma) (λ _. reads pairs gives) ∷ gives nil ∷ []
