-- What of Python a script hasn't, by what a token is and by what stands around it. The words for it are the project's own.
use Rattle.std.specs.Prelude.{◌-◌, ◌&&◌, ◌||◌, ℕ, Bool, true, false, is_some, List, [], ◌∷◌, Option, Some, None, drop}
use Rattle.std.specs.Prelude.{length, codes, if◌then◌else◌}
use Rattle.py_token.specs.declared.keyword.Keyword.{Keyword}
use Rattle.py_token.specs.declared.keyword.Keyword.TheVariants as keyword'
use Rattle.py_token.specs.declared.mark.Mark.{Mark}
use Rattle.py_token.specs.declared.mark.Mark.TheVariants as mark'
use Rattle.py_token.specs.declared.token.Token.{Token}
use Rattle.py_token.specs.declared.token.TokenKind.{TokenKind}
use Rattle.py_token.specs.declared.token.TokenKind.TheVariants as kind'
use Rattle.py_token.specs.Keywords.{word_of}
use Rattle.py_token.specs.Marks.{mark_text}
use Rattle.py_parse.specs.declared.level.Level.TheVariants as level'
use Rattle.py_parse.specs.declared.terminal.Terminal.{Terminal}
use Rattle.py_parse.specs.declared.terminal.Terminal.TheVariants as terminal'
use Rattle.py_parse.specs.declared.fault.Unsupported.{Unsupported}
use Rattle.py_parse.specs.declared.fault.Unsupported.TheVariants as unsupported'
use Rattle.py_parse.specs.Terminals.{is_of, one, heads, mark_comparison}

abbrev pub spelling_of : Unsupported → List ℕ
spelling_of (unsupported'.Word w) = word_of w
spelling_of (unsupported'.Mark m) = mark_text m
spelling_of unsupported'.Chain = codes "chain"

-- The keywords of statements and expressions that no script has: chapters 6 to 8 of the Python language reference. And
-- `def`, which is refused only in a place that no script has it in.
abbrev pub unsupported_word : Keyword → Bool
unsupported_word keyword'.As = true
unsupported_word keyword'.Assert = true
unsupported_word keyword'.Async = true
unsupported_word keyword'.Await = true
unsupported_word keyword'.Class = true
unsupported_word keyword'.Def = true
unsupported_word keyword'.Del = true
unsupported_word keyword'.Except = true
unsupported_word keyword'.Finally = true
unsupported_word keyword'.Global = true
unsupported_word keyword'.Import = true
unsupported_word keyword'.Lambda = true
unsupported_word keyword'.Nonlocal = true
unsupported_word keyword'.Raise = true
unsupported_word keyword'.Try = true
unsupported_word keyword'.With = true
unsupported_word keyword'.Yield = true
unsupported_word _ = false

-- The operators and delimiters that no script has.
abbrev pub unsupported_mark : Mark → Bool
unsupported_mark mark'.Slash = true
unsupported_mark mark'.Power = true
unsupported_mark mark'.At = true
unsupported_mark mark'.Bar = true
unsupported_mark mark'.Ampersand = true
unsupported_mark mark'.Caret = true
unsupported_mark mark'.Tilde = true
unsupported_mark mark'.ShiftLeft = true
unsupported_mark mark'.ShiftRight = true
unsupported_mark mark'.Arrow = true
unsupported_mark mark'.Walrus = true
unsupported_mark _ = false

abbrev pub unsupported_token : TokenKind → Option Unsupported
unsupported_token (kind'.Word w) = if unsupported_word w then Some (unsupported'.Word w) else None
unsupported_token (kind'.Mark m) = if unsupported_mark m then Some (unsupported'.Mark m) else None
unsupported_token _ = None

-- these tokens, no more and no fewer, are what is wanted
abbrev pub are : List Terminal → List Token → Bool
are [] [] = true
are (t ∷ ts) (x ∷ xs) = is_of t x.kind && are ts xs
are _ _ = false

abbrev pub end_in : List Terminal → List Token → Bool
end_in ts xs = are ts (drop (length xs - length ts) xs)

abbrev pub word : Keyword → Terminal
word w = terminal'.Word w

abbrev pub mark : Mark → Terminal
mark m = terminal'.Mark m

abbrev pub end_in_is : List Token → Bool
end_in_is front = end_in (word keyword'.Is ∷ []) front || end_in (word keyword'.Is ∷ word keyword'.Not ∷ []) front

abbrev pub end_in_is_constant : List Token → Bool
end_in_is_constant front =
    end_in (word keyword'.Is ∷ terminal'.Constant ∷ []) front ||
    end_in (word keyword'.Is ∷ word keyword'.Not ∷ terminal'.Constant ∷ []) front

abbrev pub begins_operand : TokenKind → Bool
begins_operand k =
    is_of terminal'.Leaf k || is_of terminal'.Piece k || is_of (mark mark'.Minus) k || is_of terminal'.Bracket k

abbrev pub continues_operand : TokenKind → Bool
continues_operand k =
    is_of (terminal'.Operator level'.Sum) k || is_of (terminal'.Operator level'.Product) k || is_of terminal'.Link k

-- Another right side of `is` than a constant begins here, or goes on.
abbrev pub is_bad_right_side : List Token → TokenKind → Bool
is_bad_right_side front k = (end_in_is front && begins_operand k) || (end_in_is_constant front && continues_operand k)

-- Within `from SCons.Script import *`, in front of each of its tokens but the first.
abbrev pub end_in_import : List Token → Bool
end_in_import front =
    end_in (word keyword'.From ∷ []) front ||
    end_in (word keyword'.From ∷ terminal'.Scons ∷ []) front ||
    end_in (word keyword'.From ∷ terminal'.Scons ∷ mark mark'.Dot ∷ []) front ||
    end_in (word keyword'.From ∷ terminal'.Scons ∷ mark mark'.Dot ∷ terminal'.Script ∷ []) front ||
    end_in (word keyword'.From ∷ terminal'.Scons ∷ mark mark'.Dot ∷ terminal'.Script ∷ word keyword'.Import ∷ []) front

-- The name of another module, or another name of this one.
abbrev pub is_other_import : List Token → TokenKind → Bool
is_other_import front k = end_in_import front && (is_of terminal'.Name k || is_of (mark mark'.Dot) k)

abbrev pub unsupported_here : List Token → TokenKind → Option Unsupported
unsupported_here front k =
    if is_bad_right_side front k then Some (unsupported'.Word keyword'.Is)
    else (if is_other_import front k then Some (unsupported'.Word keyword'.Import) else unsupported_token k)

-- A comparison begins with this token.
abbrev pub word_compares : Keyword → List Token → Bool
word_compares keyword'.In rest = true
word_compares keyword'.Is rest = true
word_compares keyword'.Not rest = heads (one (word keyword'.In)) rest
word_compares _ rest = false

abbrev pub compares : TokenKind → List Token → Bool
compares (kind'.Word w) rest = word_compares w rest
compares (kind'.Mark m) rest = is_some (mark_comparison m)
compares _ rest = false

-- What is refused behind an expression, and elsewhere is none: a second comparison.
abbrev pub unsupported_behind : List Token → Option Unsupported
unsupported_behind [] = None
unsupported_behind (x ∷ rest) = if compares x.kind rest then Some unsupported'.Chain else None

abbrev pub unsupported_at : List Token → List Token → Option Unsupported
unsupported_at front [] = None
unsupported_at front (x ∷ rest) = unsupported_here front x.kind
