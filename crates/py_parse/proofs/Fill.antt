-- Every part can be spelled at every limit, and so whatever stands behind what was read can be filled in.
use Rattle.std.proofs.Common.{◌≡◌, ℕ, suc, ◌<◌, ◌≤◌, List, [], ◌∷◌, ◌++◌, Bool, true, false, ◌&&◌, refl, length, arith, length-append, eq-eqb}
use Rattle.std.specs.Prelude.{nat_eq, codes}
use Rattle.std.specs.Cmp.Lexicographic.{pointwise}
use Rattle.py_token.specs.declared.keyword.Keyword.TheVariants as keyword'
use Rattle.py_token.specs.declared.mark.Mark.TheVariants as mark'
use Rattle.py_token.specs.declared.token.Token.{Token}
use Rattle.py_token.specs.declared.token.TokenKind.{TokenKind}
use Rattle.py_token.specs.declared.token.TokenKind.TheVariants as kind'
use Rattle.py_tree.specs.Tree as tree
use Rattle.py_tree.specs.Tree.{Tree}
use Rattle.py_parse.specs.declared.site.Site.{Site}
use Rattle.py_parse.specs.declared.level.Level.{Level}
use Rattle.py_parse.specs.declared.level.Level.TheVariants as level'
use Rattle.py_parse.specs.declared.terminal.Terminal.{Terminal}
use Rattle.py_parse.specs.declared.terminal.Terminal.TheVariants as terminal'
use Rattle.py_parse.specs.Terminals.{Want, one, fresh, fits, is_of, has, keyword_number, mark_number}
use Rattle.py_parse.specs.Grammar as g
use Rattle.py_parse.specs.Grammar.{Part, Body, productions, gives, takes, opens, reads, deeper}
use Rattle.py_parse.specs.Parses.{Among, here, there, Spells, given, taken, opened, read, nested}

abbrev operator_kind : Level → TokenKind
operator_kind level'.Or = kind'.Word keyword'.Or
operator_kind level'.And = kind'.Word keyword'.And
operator_kind level'.Sum = kind'.Mark mark'.Plus
operator_kind level'.Product = kind'.Mark mark'.Star

-- a token of each terminal
abbrev pub kind_for : Terminal → TokenKind
kind_for terminal'.Name = kind'.Name []
kind_for terminal'.Integer = kind'.Integer 0
kind_for terminal'.Text = kind'.Text []
kind_for terminal'.FStart = kind'.FStart
kind_for terminal'.FPart = kind'.FPart []
kind_for terminal'.FEnd = kind'.FEnd
kind_for terminal'.Piece = kind'.FStart
kind_for terminal'.Newline = kind'.Newline
kind_for terminal'.Indent = kind'.Indent
kind_for terminal'.Dedent = kind'.Dedent
kind_for (terminal'.Word w) = kind'.Word w
kind_for (terminal'.Mark m) = kind'.Mark m
kind_for terminal'.Scons = kind'.Name (codes "SCons")
kind_for terminal'.Script = kind'.Name (codes "Script")
kind_for (terminal'.Operator l) = operator_kind l
kind_for terminal'.Augment = kind'.Mark mark'.PlusAssign
kind_for terminal'.Comparison = kind'.Mark mark'.Equal
kind_for terminal'.Constant = kind'.Word keyword'.NoneValue
kind_for terminal'.Leaf = kind'.Name []
kind_for terminal'.Bracket = kind'.Mark mark'.OpenParen
kind_for terminal'.Link = kind'.Mark mark'.Dot
kind_for terminal'.Expression = kind'.Name []
kind_for terminal'.Any = kind'.Newline

operator_fits : (l : Level) → is_of (terminal'.Operator l) (operator_kind l) ≡ true
operator_fits level'.Or = refl
operator_fits level'.And = refl
operator_fits level'.Sum = refl
operator_fits level'.Product = refl

kind_fits : (t : Terminal) → is_of t (kind_for t) ≡ true
kind_fits terminal'.Name = refl
kind_fits terminal'.Integer = refl
kind_fits terminal'.Text = refl
kind_fits terminal'.FStart = refl
kind_fits terminal'.FPart = refl
kind_fits terminal'.FEnd = refl
kind_fits terminal'.Piece = refl
kind_fits terminal'.Newline = refl
kind_fits terminal'.Indent = refl
kind_fits terminal'.Dedent = refl
kind_fits (terminal'.Word w) = eq-eqb (keyword_number w) (keyword_number w) refl
kind_fits (terminal'.Mark m) = eq-eqb (mark_number m) (mark_number m) refl
kind_fits terminal'.Scons = refl
kind_fits terminal'.Script = refl
kind_fits (terminal'.Operator l) = operator_fits l
kind_fits terminal'.Augment = refl
kind_fits terminal'.Comparison = refl
kind_fits terminal'.Constant = refl
kind_fits terminal'.Leaf = refl
kind_fits terminal'.Bracket = refl
kind_fits terminal'.Link = refl
kind_fits terminal'.Expression = refl
kind_fits terminal'.Any = refl

-- a name longer than each of these is none of them
abbrev longer : List (List ℕ) → List ℕ
longer [] = []
longer (m ∷ ms) = 0 ∷ (m ++ longer ms)

abbrev Below : List (List ℕ) → ℕ → Type 0
Below [] n = Unit {0}
Below (m ∷ ms) n = (length m < n) × Below ms n

below_more : (ms : List (List ℕ)) (k n : ℕ) → k ≤ n → Below ms k → Below ms n
below_more [] k n h b = tt
below_more (m ∷ ms) k n h b = let p = b.0 in (omega (arith, p), below_more ms k n h b.1)

longer_below : (ms : List (List ℕ)) → Below ms (length (longer ms))
longer_below [] = tt
longer_below (m ∷ ms) =
    let e = length-append m (longer ms) in
    (omega (arith, e), below_more ms (length (longer ms)) (length (longer (m ∷ ms))) (omega (arith, e)) (longer_below ms))

and_false : (b : Bool) → (b && false) ≡ false
and_false true = refl
and_false false = refl

apart : (m n : List ℕ) → length m < length n → pointwise nat_eq m n ≡ false
apart [] [] h = absurd (omega arith)
apart [] (y ∷ ys) h = refl
apart (x ∷ xs) [] h = absurd (omega arith)
apart (x ∷ xs) (y ∷ ys) h = rw (apart xs ys (omega arith)) (and_false (nat_eq x y))

has_none : (ms : List (List ℕ)) (n : List ℕ) → Below ms (length n) → has ms n ≡ false
has_none [] n b = refl
has_none (m ∷ ms) n b = rw (apart m n b.0) (has_none ms n b.1)

abbrev pub token_kind : Want → TokenKind
token_kind (one t) = kind_for t
token_kind (fresh seen) = kind'.Name (longer seen)

pub want_fits : (w : Want) → fits w (token_kind w) ≡ true
want_fits (one t) = kind_fits t
want_fits (fresh seen) = rw (has_none seen (longer seen) (longer_below seen)) refl

abbrev pub token_for : Want → Token
token_for w = record { line = 0; kind = token_kind w }

pub record Sample (d : ℕ) (p : Part) : Type 0 where
  pub body : Body
  pub among : Among body (productions p)
  pub tokens : List Token
  pub tree : Tree
  pub spelling : Spells d body tokens tree

pub record Filled (d : ℕ) (b : Body) : Type 0 where
  pub tokens : List Token
  pub tree : Tree
  pub spelling : Spells d b tokens tree

-- a body of parts that have samples can be filled in
fill_token : {d : ℕ} (w : Want) (k : Token → Body) → Filled d (k (token_for w)) → Filled d (takes w k)
fill_token w k f = record { tokens = token_for w ∷ f.tokens; tree = f.tree; spelling = taken (want_fits w) f.spelling }

fill_part : {d : ℕ} (p : Part) (k : Tree → Body) (s : Sample d p) → Filled d (k s.tree) → Filled d (reads p k)
fill_part p k s f = record { tokens = s.tokens ++ f.tokens; tree = f.tree; spelling = read s.body s.tokens f.tokens s.among s.spelling f.spelling }

fill_end : {d : ℕ} (t : Tree) → Filled d (gives t)
fill_end t = record { tokens = []; tree = t; spelling = given }

sample_by : {d : ℕ} {p : Part} (b : Body) → Among b (productions p) → Filled d b → Sample d p
sample_by b a f = record { body = b; among = a; tokens = f.tokens; tree = f.tree; spelling = f.spelling }

-- a part that may be nothing
nothing : {d : ℕ} {p : Part} (t : Tree) → Among (gives t) (productions p) → Sample d p
nothing t a = sample_by (gives t) a (fill_end t)

through : {d : ℕ} {p : Part} (q : Part) → Among (reads q gives) (productions p) → Sample d q → Sample d p
through q a s = sample_by (reads q gives) a (fill_part q gives s (fill_end s.tree))

s_leaf : (d : ℕ) → Sample d g.atom
s_leaf d = sample_by _ (there (there (there here))) (fill_token (one terminal'.Leaf) (λ x. gives (g.leaf_of x)) (fill_end _))

s_links : (d : ℕ) → Sample d g.links
s_links d = nothing tree.nil (there here)

s_posted : (d : ℕ) → Sample d g.posted
s_posted d = sample_by _ here (fill_part g.atom _ (s_leaf d) (fill_part g.links _ (s_links d) (fill_end _)))

s_unary : (d : ℕ) → Sample d g.unary
s_unary d = through g.posted (there here) (s_posted d)

s_operations : (d : ℕ) (l : Level) → Sample d (g.operations l)
s_operations d l = nothing tree.nil (there here)

s_chain : (d : ℕ) (l : Level) → Sample d (g.operand l) → Sample d (g.chained l)
s_chain d l s = sample_by _ here (fill_part (g.operand l) _ s (fill_part (g.operations l) _ (s_operations d l) (fill_end _)))

s_product : (d : ℕ) → Sample d (g.chained level'.Product)
s_product d = s_chain d level'.Product (s_unary d)

s_sum : (d : ℕ) → Sample d (g.chained level'.Sum)
s_sum d = s_chain d level'.Sum (s_product d)

s_compared : (d : ℕ) (t : Tree) → Sample d (g.compared t)
s_compared d t = nothing t (there (there (there here)))

s_comparison : (d : ℕ) → Sample d g.comparison
s_comparison d = sample_by _ here (fill_part (g.chained level'.Sum) _ (s_sum d) (fill_part (g.compared _) _ (s_compared d _) (fill_end _)))

s_negation : (d : ℕ) → Sample d g.negation
s_negation d = through g.comparison (there here) (s_comparison d)

s_and : (d : ℕ) → Sample d (g.chained level'.And)
s_and d = s_chain d level'.And (s_negation d)

s_plain : (d : ℕ) → Sample d g.plain
s_plain d = s_chain d level'.Or (s_and d)

s_choice_rest : (d : ℕ) (t : Tree) → Sample d (g.choice_rest t)
s_choice_rest d t = nothing t (there here)

s_expr : (d : ℕ) → Sample d g.expr
s_expr d = sample_by _ here (fill_part g.plain _ (s_plain d) (fill_part (g.choice_rest _) _ (s_choice_rest d _) (fill_end _)))

s_parts : (d : ℕ) → Sample d g.parts
s_parts d = sample_by _ (there (there here)) (fill_token (one terminal'.FEnd) _ (fill_part g.more_pieces _ (nothing tree.nil (there here)) (fill_end _)))

s_exprs_rest : (d : ℕ) (t : Tree) → Sample d (g.exprs_rest t)
s_exprs_rest d t = nothing t (there here)

s_exprs : (d : ℕ) → Sample d g.exprs
s_exprs d = sample_by _ here (fill_part g.expr _ (s_expr d) (fill_part (g.exprs_rest _) _ (s_exprs_rest d _) (fill_end _)))

s_names : (d : ℕ) → Sample d g.names
s_names d = sample_by _ here (fill_token (one terminal'.Name) _ (fill_part g.names_rest _ (nothing tree.nil (there here)) (fill_end _)))

s_constants : (d : ℕ) → Sample d g.constants
s_constants d = sample_by _ here (fill_token (one terminal'.Constant) _ (fill_end _))

s_small : (d : ℕ) (s : Site) → Sample d (g.small s)
s_small d s = sample_by _ here (fill_token (g.keyword keyword'.Pass) _ (fill_end _))

s_statements : (d : ℕ) (s : Site) → Sample d (g.statements s)
s_statements d s = sample_by _ here (fill_part (g.small s) _ (s_small d s) (fill_part (g.statements_rest s) _ (sample_by _ here (fill_token (one terminal'.Newline) _ (fill_end _))) (fill_end _)))

last_of_line : (v : Bool) (a b : Body) → Among b (g.when v a (b ∷ []))
last_of_line true a b = there here
last_of_line false a b = here

s_line : (d : ℕ) (s : Site) → Sample d (g.line s)
s_line d s = sample_by _ (there (there (there (last_of_line s.outermost _ _)))) (fill_part (g.statements s) _ (s_statements d s) (fill_end _))

last_of_two : (v w : Bool) (a b c : Body) → Among c (g.when v a (g.when w b (c ∷ [])))
last_of_two true true a b c = there (there here)
last_of_two true false a b c = there here
last_of_two false true a b c = there here
last_of_two false false a b c = here

last_named : (t : Tree) (a b : Body) → Among b (g.first_named t (a ∷ b ∷ []))
last_named (tree.name l n) a b = there (there here)
last_named _ a b = there here

-- a sample of every part
pub sample : (d : ℕ) (p : Part) → Sample d p
sample d g.script = nothing tree.nil (there here)
sample d (g.line a) = s_line d a
sample d (g.branches a) = nothing (tree.branching tree.nil tree.nil) (there (there here))
sample d (g.block a) = sample_by _ (there here) (fill_part (g.statements a) _ (s_statements d a) (fill_end _))
sample d (g.more_lines a) = sample_by _ here (fill_token (one terminal'.Dedent) _ (fill_end _))
sample d (g.statements a) = s_statements d a
sample d (g.statements_rest a) = sample_by _ here (fill_token (one terminal'.Newline) _ (fill_end _))
sample d (g.statements_more a) = sample_by _ here (fill_token (one terminal'.Newline) _ (fill_end _))
sample d (g.small a) = s_small d a
sample d g.returned = nothing tree.absent (there here)
sample d (g.assigned a) = nothing (tree.expression a) (last_of_two (g.is_targets a) (g.is_place a) _ _ _)
sample d g.parameters = sample_by _ here (fill_part (g.params []) _ (nothing tree.nil (there here)) (fill_token (g.mark mark'.CloseParen) _ (fill_end _)))
sample d (g.params a) = nothing tree.nil (there here)
sample d (g.param_rest a b c) = nothing (tree.cons (tree.parameter b c tree.absent) tree.nil) (there (there here))
sample d (g.defaults a) = nothing tree.nil (there here)
sample d (g.defaults_rest a) = nothing tree.nil (there here)
sample d g.exprs = s_exprs d
sample d (g.exprs_rest a) = s_exprs_rest d a
sample d g.items = nothing tree.absent (there here)
sample d g.items_rest = nothing tree.nil (there here)
sample d g.expr = s_expr d
sample d (g.choice_rest a) = s_choice_rest d a
sample d (g.choice_body a b) = sample_by _ here (fill_part g.plain _ (s_plain d) (fill_token (g.keyword keyword'.Else) _ (fill_part g.expr _ (s_expr d) (fill_end _))))
sample d (g.chained level'.Or) = s_plain d
sample d (g.chained level'.And) = s_and d
sample d (g.chained level'.Sum) = s_sum d
sample d (g.chained level'.Product) = s_product d
sample d (g.operations a) = s_operations d a
sample d g.negation = s_negation d
sample d g.comparison = s_comparison d
sample d (g.compared a) = s_compared d a
sample d (g.is_right a b) = sample_by _ (there here) (fill_part g.constants _ (s_constants d) (fill_end _))
sample d g.constants = s_constants d
sample d g.unary = s_unary d
sample d g.posted = s_posted d
sample d g.links = s_links d
sample d g.one_link = sample_by _ (there (there here)) (fill_token (g.mark mark'.Dot) _ (fill_token (one terminal'.Name) _ (fill_end _)))
sample d (g.call_body a) = sample_by _ here (fill_part g.args _ (nothing tree.nil (there here)) (fill_token (g.mark mark'.CloseParen) _ (fill_end _)))
sample d g.atom = s_leaf d
sample d (g.text_rest a b) = nothing (tree.text a b) (there here)
sample d g.some_pieces = sample_by _ (there here) (fill_token (one terminal'.FStart) _ (fill_part g.parts _ (s_parts d) (fill_end _)))
sample d g.more_pieces = nothing tree.nil (there here)
sample d g.parts = s_parts d
sample d (g.field_body a) = sample_by _ here (fill_part g.expr _ (s_expr d) (fill_token (g.mark mark'.CloseBrace) _ (fill_end _)))
sample d (g.grouped a) = sample_by _ here (fill_token (g.mark mark'.CloseParen) _ (fill_end _))
sample d (g.listed a) = sample_by _ here (fill_token (g.mark mark'.CloseBracket) _ (fill_end _))
sample d (g.listed_rest a b) = sample_by _ (there here) (fill_part g.items_rest _ (nothing tree.nil (there here)) (fill_token (g.mark mark'.CloseBracket) _ (fill_end _)))
sample d g.names = s_names d
sample d g.names_rest = nothing tree.nil (there here)
sample d g.tests = nothing tree.nil (there here)
sample d (g.dict_body a) = sample_by _ here (fill_part g.pairs _ (nothing tree.nil (there here)) (fill_token (g.mark mark'.CloseBrace) _ (fill_end _)))
sample d g.one_pair = sample_by _ here (fill_part g.expr _ (s_expr d) (fill_token (g.mark mark'.Colon) _ (fill_part g.expr _ (s_expr d) (fill_end _))))
sample d g.pairs = nothing tree.nil (there here)
sample d g.pairs_rest = nothing tree.nil (there here)
sample d (g.subscript a) = sample_by _ here (fill_token (g.mark mark'.Colon) _ (fill_part g.upper _ (nothing tree.absent (there here)) (fill_token (g.mark mark'.CloseBracket) _ (fill_end _))))
sample d (g.subscript_rest a b) = sample_by _ (there here) (fill_token (g.mark mark'.CloseBracket) _ (fill_end _))
sample d g.upper = nothing tree.absent (there here)
sample d g.args = nothing tree.nil (there here)
sample d (g.args_rest a) = nothing (tree.cons a tree.nil) (last_named a _ _)
sample d (g.named_args a) = nothing tree.nil (there here)
sample d (g.named_rest a) = nothing tree.nil (there here)

-- with a level left every body can be filled in
pub fill : (d : ℕ) (b : Body) → Filled (suc d) b
fill d (gives t) = fill_end t
fill d (takes w k) = fill_token w k (fill d (k (token_for w)))
fill d (opens w k) =
    let f = fill d (k (token_for w)) in
    record { tokens = token_for w ∷ f.tokens; tree = f.tree; spelling = opened (want_fits w) f.spelling }
fill d (reads p k) = let s = sample (suc d) p in fill_part p k s (fill d (k s.tree))
fill d (deeper p k) =
    let s = sample d p in
    let f = fill d (k s.tree) in
    record { tokens = s.tokens ++ f.tokens; tree = f.tree; spelling = nested s.body s.tokens f.tokens s.among s.spelling f.spelling }
