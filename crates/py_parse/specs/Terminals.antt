-- What a place of the grammar wants of a token, and which tokens are that.
use Rattle.std.specs.Prelude.{ℕ, Option, Some, None, is_some, unwrap_or, List, [], ◌∷◌, Bool, true, false, not}
use Rattle.std.specs.Prelude.{nat_eq, codes}
use Rattle.std.specs.List.{list_any}
use Rattle.std.specs.Cmp.Lexicographic.{pointwise}
use Rattle.py_token.specs.declared.keyword.Keyword.{Keyword}
use Rattle.py_token.specs.declared.keyword.Keyword.TheVariants as keyword'
use Rattle.py_token.specs.declared.mark.Mark.{Mark}
use Rattle.py_token.specs.declared.mark.Mark.TheVariants as mark'
use Rattle.py_token.specs.declared.token.Token.{Token}
use Rattle.py_token.specs.declared.token.TokenKind.{TokenKind}
use Rattle.py_token.specs.declared.token.TokenKind.TheVariants as kind'
use Rattle.py_tree.specs.declared.expr.Constant.{Constant}
use Rattle.py_tree.specs.declared.expr.Constant.TheVariants as constant'
use Rattle.py_tree.specs.declared.expr.Operator.{Operator}
use Rattle.py_tree.specs.declared.expr.Operator.TheVariants as operator'
use Rattle.py_tree.specs.declared.expr.Comparison.{Comparison}
use Rattle.py_tree.specs.declared.expr.Comparison.TheVariants as comparison'
use Rattle.py_parse.specs.declared.level.Level.{Level}
use Rattle.py_parse.specs.declared.level.Level.TheVariants as level'
use Rattle.py_parse.specs.declared.terminal.Terminal.{Terminal}
use Rattle.py_parse.specs.declared.terminal.Terminal.TheVariants as terminal'

-- the place of a keyword, and of a mark, in the list of all of them
abbrev pub keyword_number : Keyword → ℕ
keyword_number keyword'.FalseValue = 0
keyword_number keyword'.NoneValue = 1
keyword_number keyword'.TrueValue = 2
keyword_number keyword'.And = 3
keyword_number keyword'.As = 4
keyword_number keyword'.Assert = 5
keyword_number keyword'.Async = 6
keyword_number keyword'.Await = 7
keyword_number keyword'.Break = 8
keyword_number keyword'.Class = 9
keyword_number keyword'.Continue = 10
keyword_number keyword'.Def = 11
keyword_number keyword'.Del = 12
keyword_number keyword'.Elif = 13
keyword_number keyword'.Else = 14
keyword_number keyword'.Except = 15
keyword_number keyword'.Finally = 16
keyword_number keyword'.For = 17
keyword_number keyword'.From = 18
keyword_number keyword'.Global = 19
keyword_number keyword'.If = 20
keyword_number keyword'.Import = 21
keyword_number keyword'.In = 22
keyword_number keyword'.Is = 23
keyword_number keyword'.Lambda = 24
keyword_number keyword'.Nonlocal = 25
keyword_number keyword'.Not = 26
keyword_number keyword'.Or = 27
keyword_number keyword'.Pass = 28
keyword_number keyword'.Raise = 29
keyword_number keyword'.Return = 30
keyword_number keyword'.Try = 31
keyword_number keyword'.While = 32
keyword_number keyword'.With = 33
keyword_number keyword'.Yield = 34

abbrev pub mark_number : Mark → ℕ
mark_number mark'.OpenParen = 0
mark_number mark'.CloseParen = 1
mark_number mark'.OpenBracket = 2
mark_number mark'.CloseBracket = 3
mark_number mark'.OpenBrace = 4
mark_number mark'.CloseBrace = 5
mark_number mark'.Comma = 6
mark_number mark'.Colon = 7
mark_number mark'.Dot = 8
mark_number mark'.Semicolon = 9
mark_number mark'.Assign = 10
mark_number mark'.PlusAssign = 11
mark_number mark'.MinusAssign = 12
mark_number mark'.StarAssign = 13
mark_number mark'.Equal = 14
mark_number mark'.NotEqual = 15
mark_number mark'.Less = 16
mark_number mark'.LessEqual = 17
mark_number mark'.Greater = 18
mark_number mark'.GreaterEqual = 19
mark_number mark'.Plus = 20
mark_number mark'.Minus = 21
mark_number mark'.Star = 22
mark_number mark'.FloorDivide = 23
mark_number mark'.Percent = 24
mark_number mark'.Slash = 25
mark_number mark'.Power = 26
mark_number mark'.At = 27
mark_number mark'.Bar = 28
mark_number mark'.Ampersand = 29
mark_number mark'.Caret = 30
mark_number mark'.Tilde = 31
mark_number mark'.ShiftLeft = 32
mark_number mark'.ShiftRight = 33
mark_number mark'.Arrow = 34
mark_number mark'.Walrus = 35

-- The operators of each level: sections 6.7 and 6.11 of the Python language reference.
abbrev pub word_operator : Level → Keyword → Option Operator
word_operator level'.Or keyword'.Or = Some operator'.Or
word_operator level'.And keyword'.And = Some operator'.And
word_operator _ _ = None

abbrev pub mark_operator : Level → Mark → Option Operator
mark_operator level'.Sum mark'.Plus = Some operator'.Add
mark_operator level'.Sum mark'.Minus = Some operator'.Subtract
mark_operator level'.Product mark'.Star = Some operator'.Multiply
mark_operator level'.Product mark'.FloorDivide = Some operator'.FloorDivide
mark_operator level'.Product mark'.Percent = Some operator'.Remainder
mark_operator _ _ = None

abbrev pub operator_of : Level → TokenKind → Option Operator
operator_of l (kind'.Word w) = word_operator l w
operator_of l (kind'.Mark m) = mark_operator l m
operator_of l _ = None

-- Augmented assignment: section 7.2.1.
abbrev pub mark_augment : Mark → Option Operator
mark_augment mark'.PlusAssign = Some operator'.Add
mark_augment mark'.MinusAssign = Some operator'.Subtract
mark_augment mark'.StarAssign = Some operator'.Multiply
mark_augment _ = None

abbrev pub augment_of : TokenKind → Option Operator
augment_of (kind'.Mark m) = mark_augment m
augment_of _ = None

-- Comparisons of one token with any right side: section 6.10.
abbrev pub mark_comparison : Mark → Option Comparison
mark_comparison mark'.Equal = Some comparison'.Equal
mark_comparison mark'.NotEqual = Some comparison'.NotEqual
mark_comparison mark'.Less = Some comparison'.Less
mark_comparison mark'.LessEqual = Some comparison'.LessEqual
mark_comparison mark'.Greater = Some comparison'.Greater
mark_comparison mark'.GreaterEqual = Some comparison'.GreaterEqual
mark_comparison _ = None

abbrev pub word_comparison : Keyword → Option Comparison
word_comparison keyword'.In = Some comparison'.In
word_comparison _ = None

abbrev pub comparison_of : TokenKind → Option Comparison
comparison_of (kind'.Mark m) = mark_comparison m
comparison_of (kind'.Word w) = word_comparison w
comparison_of _ = None

abbrev pub word_constant : Keyword → Option Constant
word_constant keyword'.TrueValue = Some constant'.True
word_constant keyword'.FalseValue = Some constant'.False
word_constant keyword'.NoneValue = Some constant'.None
word_constant _ = None

abbrev pub constant_of : TokenKind → Option Constant
constant_of (kind'.Word w) = word_constant w
constant_of _ = None

-- Names, numbers and constants.
abbrev pub is_leaf : TokenKind → Bool
is_leaf (kind'.Name n) = true
is_leaf (kind'.Integer n) = true
is_leaf (kind'.Word w) = is_some (word_constant w)
is_leaf _ = false

-- How a text begins.
abbrev pub is_piece : TokenKind → Bool
is_piece (kind'.Text t) = true
is_piece kind'.FStart = true
is_piece _ = false

abbrev pub is_bracket : Mark → Bool
is_bracket mark'.OpenParen = true
is_bracket mark'.OpenBracket = true
is_bracket mark'.OpenBrace = true
is_bracket _ = false

abbrev pub is_link : Mark → Bool
is_link mark'.OpenParen = true
is_link mark'.OpenBracket = true
is_link mark'.Dot = true
is_link _ = false

-- How an expression may begin.
abbrev pub word_starts : Keyword → Bool
word_starts keyword'.TrueValue = true
word_starts keyword'.FalseValue = true
word_starts keyword'.NoneValue = true
word_starts keyword'.Not = true
word_starts _ = false

abbrev pub mark_starts : Mark → Bool
mark_starts mark'.Minus = true
mark_starts mark'.OpenParen = true
mark_starts mark'.OpenBracket = true
mark_starts mark'.OpenBrace = true
mark_starts _ = false

abbrev pub starts_of : TokenKind → Bool
starts_of (kind'.Name n) = true
starts_of (kind'.Integer n) = true
starts_of (kind'.Text t) = true
starts_of kind'.FStart = true
starts_of (kind'.Word w) = word_starts w
starts_of (kind'.Mark m) = mark_starts m
starts_of _ = false

abbrev pub bracket_of : TokenKind → Bool
bracket_of (kind'.Mark m) = is_bracket m
bracket_of _ = false

abbrev pub link_of : TokenKind → Bool
link_of (kind'.Mark m) = is_link m
link_of _ = false

-- a token of this kind is what is wanted
abbrev pub is_of : Terminal → TokenKind → Bool
is_of terminal'.Name (kind'.Name n) = true
is_of terminal'.Name _ = false
is_of terminal'.Integer (kind'.Integer n) = true
is_of terminal'.Integer _ = false
is_of terminal'.Text (kind'.Text t) = true
is_of terminal'.Text _ = false
is_of terminal'.FStart kind'.FStart = true
is_of terminal'.FStart _ = false
is_of terminal'.FPart (kind'.FPart t) = true
is_of terminal'.FPart _ = false
is_of terminal'.FEnd kind'.FEnd = true
is_of terminal'.FEnd _ = false
is_of terminal'.Newline kind'.Newline = true
is_of terminal'.Newline _ = false
is_of terminal'.Indent kind'.Indent = true
is_of terminal'.Indent _ = false
is_of terminal'.Dedent kind'.Dedent = true
is_of terminal'.Dedent _ = false
is_of (terminal'.Word w) (kind'.Word v) = nat_eq (keyword_number w) (keyword_number v)
is_of (terminal'.Word w) _ = false
is_of (terminal'.Mark m) (kind'.Mark n) = nat_eq (mark_number m) (mark_number n)
is_of (terminal'.Mark m) _ = false
is_of terminal'.Scons (kind'.Name n) = pointwise nat_eq n (codes "SCons")
is_of terminal'.Scons _ = false
is_of terminal'.Script (kind'.Name n) = pointwise nat_eq n (codes "Script")
is_of terminal'.Script _ = false
is_of (terminal'.Operator l) k = is_some (operator_of l k)
is_of terminal'.Augment k = is_some (augment_of k)
is_of terminal'.Comparison k = is_some (comparison_of k)
is_of terminal'.Constant k = is_some (constant_of k)
is_of terminal'.Leaf k = is_leaf k
is_of terminal'.Piece k = is_piece k
is_of terminal'.Bracket k = bracket_of k
is_of terminal'.Link k = link_of k
is_of terminal'.Expression k = starts_of k
is_of terminal'.Any k = true

-- the name is one of these
abbrev pub has : List (List ℕ) → List ℕ → Bool
has seen n = list_any (λ m. pointwise nat_eq m n) seen

-- a terminal, or a name that is none of these
pub data Want : Type 0 where
  one : Terminal → Want
  fresh : List (List ℕ) → Want

abbrev pub fits : Want → TokenKind → Bool
fits (one t) k = is_of t k
fits (fresh seen) (kind'.Name n) = not (has seen n)
fits (fresh seen) _ = false

-- the first of these tokens is what is wanted
abbrev pub heads : Want → List Token → Bool
heads w [] = false
heads w (x ∷ ts) = fits w x.kind

-- what a token holds
abbrev pub name_in : TokenKind → List ℕ
name_in (kind'.Name n) = n
name_in _ = []

abbrev pub number_in : TokenKind → ℕ
number_in (kind'.Integer n) = n
number_in _ = 0

abbrev pub text_in : TokenKind → List ℕ
text_in (kind'.Text t) = t
text_in (kind'.FPart t) = t
text_in _ = []

abbrev pub operator_in : Level → TokenKind → Operator
operator_in l k = unwrap_or (operator_of l k) operator'.Or

abbrev pub augment_in : TokenKind → Operator
augment_in k = unwrap_or (augment_of k) operator'.Add

abbrev pub comparison_in : TokenKind → Comparison
comparison_in k = unwrap_or (comparison_of k) comparison'.Equal

abbrev pub constant_in : TokenKind → Constant
constant_in k = unwrap_or (constant_of k) constant'.None
