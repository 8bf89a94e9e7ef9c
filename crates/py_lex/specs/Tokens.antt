-- The tokens of a line: sections 2.3 to 2.6 of the Python language reference.
use Rattle.std.specs.Prelude.{◌≡◌, ℕ, ◌+◌, ◌-◌, Bool, true, false, ◌||◌, ◌&&◌, ◌==◌, List, [], ◌∷◌, length, drop, Option, None, Some, is_some, if◌then◌else◌}
use Rattle.std.specs.List.{list_all}
use Rattle.std.specs.Char.{is_ascii_digit}
use Rattle.py_token.specs.declared.keyword.Keyword.{Keyword}
use Rattle.py_token.specs.Keywords.{keyword_of}
use Rattle.py_token.specs.declared.mark.Mark.{Mark}
use Rattle.py_token.specs.declared.mark.Mark.TheVariants.{OpenParen, CloseParen, OpenBracket, CloseBracket, OpenBrace, CloseBrace}
use Rattle.py_token.specs.Marks.{mark_text}
use Rattle.py_token.specs.declared.token.TokenKind.{TokenKind}
use Rattle.py_token.specs.declared.token.TokenKind.TheVariants as token
use Rattle.py_lex.specs.declared.bytes.TheConstants.{NO_TEXT}
use Rattle.py_lex.specs.declared.piece.Style.{Style}
use Rattle.py_lex.specs.Bytes.{after_line_end}
use Rattle.py_lex.specs.declared.fault.LexKind.{LexKind}
use Rattle.py_lex.specs.declared.fault.LexKind.TheVariants as kinds
use Rattle.py_lex.specs.declared.token.Class.{Class}
use Rattle.py_lex.specs.declared.token.Class.TheVariants.{Quote, Digit, Letter, NoText, Sign}
use Rattle.py_lex.specs.declared.token.Lead.{Lead}
use Rattle.py_lex.specs.declared.token.Lead.TheVariants as lead
use Rattle.scons_base.specs.Runs.{is_name_byte, front_run, after_run}
use Rattle.py_lex.specs.Marks.{mark_at}
use Rattle.py_lex.specs.Numbers.{number_of}
use Rattle.py_lex.specs.Texts.{Spelling, closed, unclosed, refused, Spells, opening}

-- what reading a token gives: the token, the lines that end in it, the open brackets and what follows; or that an f-text
-- begins, how it is written and what follows its opening quotes; or a fault and the lines that end in front of it
pub data Read : Type 0 where
  takes : TokenKind → ℕ → ℕ → List ℕ → Read
  begins : Style → List ℕ → Read
  refuses : LexKind → ℕ → Read

abbrev pub class_of : ℕ → Class
class_of b =
    if b == 39 || b == 34 then Quote
    else (if is_ascii_digit b then Digit
    else (if is_name_byte b then Letter
    else (if b == NO_TEXT then NoText else Sign)))

-- a text stands for its characters; it is one rule, so that one which isn't closed is a fault where it begins
abbrev pub text_read : ℕ → Spelling → Read
text_read depth (closed value lines rest) = takes (token.Text value) lines depth rest
text_read depth unclosed = refuses kinds.Unclosed 0
text_read depth (refused kind lines) = refuses kind lines

-- behind the first quote of a text (2.4.1)
abbrev pub TextAt : Bool → ℕ → ℕ → List ℕ → Read → Type 0
TextAt raw quote depth rest t =
    let open_ = opening raw quote rest in
    (s : Spelling) × (Spells open_.0 open_.1 s × (t ≡ text_read depth s))

abbrev begins_with_point : List ℕ → Bool
begins_with_point [] = false
begins_with_point (b ∷ rest) = b == 46

-- a point directly behind decimal digits
abbrev pub is_float : List ℕ → List ℕ → Bool
is_float literal rest = begins_with_point rest && list_all is_ascii_digit literal

abbrev pub integer_read : ℕ → List ℕ → Option ℕ → Read
integer_read depth rest (Some value) = takes (token.Integer value) 0 depth rest
integer_read depth rest None = refuses kinds.BadNumber 0

-- a literal is the whole run of letters, digits and underscores (2.4.5)
abbrev pub number_turn : ℕ → List ℕ → Read
number_turn depth bytes =
    if is_float (front_run is_name_byte bytes) (after_run is_name_byte bytes) then refuses kinds.BadNumber 0
    else integer_read depth (after_run is_name_byte bytes) (number_of (front_run is_name_byte bytes))

abbrev pub is_r : ℕ → Bool
is_r b = b == 114 || b == 82

abbrev pub is_b : ℕ → Bool
is_b b = b == 98 || b == 66

abbrev pub is_f : ℕ → Bool
is_f b = b == 102 || b == 70

-- what a name is in front of a quote (2.4.1): `r` is the prefix of a raw text, `f` that of an f-text, both in either order
-- that of a raw f-text; Python's other prefixes are refused
abbrev pub lead_of : List ℕ → Lead
lead_of [] = lead.Name
lead_of (a ∷ []) =
    if is_r a then lead.Raw
    else (if is_f a then lead.Format
    else (if is_b a || (a == 117 || a == 85) then lead.Refused else lead.Name))
lead_of (a ∷ b ∷ []) =
    if is_r a && is_f b || is_f a && is_r b then lead.RawFormat
    else (if is_r a && is_b b || is_b a && is_r b then lead.Refused else lead.Name)
lead_of (a ∷ b ∷ c ∷ rest) = lead.Name

abbrev pub quoted : List ℕ → Option (ℕ × List ℕ)
quoted [] = None
quoted (b ∷ rest) = if b == 39 || b == 34 then Some (b, rest) else None

abbrev pub word_or : List ℕ → Option Keyword → TokenKind
word_or name (Some keyword) = token.Word keyword
word_or name None = token.Name name

-- a keyword (2.3.1) or a name (2.3)
abbrev pub named : List ℕ → TokenKind
named name = word_or name (keyword_of name)

-- an f-text is read behind its opening quotes
abbrev pub begun_read : Bool → ℕ → List ℕ → Read
begun_read raw quote inside = begins (opening raw quote inside).0 (opening raw quote inside).1

abbrev pub LeadAt : Lead → ℕ → ℕ → List ℕ → List ℕ → List ℕ → Read → Type 0
LeadAt lead.Raw depth quote inside name rest t = TextAt true quote depth inside t
LeadAt lead.Format depth quote inside name rest t = t ≡ begun_read false quote inside
LeadAt lead.RawFormat depth quote inside name rest t = t ≡ begun_read true quote inside
LeadAt lead.Refused depth quote inside name rest t = t ≡ refuses kinds.BadByte 0
LeadAt lead.Name depth quote inside name rest t = t ≡ takes (named name) 0 depth rest

abbrev pub QuotedAt : Option (ℕ × List ℕ) → ℕ → List ℕ → List ℕ → Read → Type 0
QuotedAt None depth name rest t = t ≡ takes (named name) 0 depth rest
QuotedAt (Some p) depth name rest t = LeadAt (lead_of name) depth p.0 p.1 name rest t

-- a name is the whole run of letters, digits and underscores
abbrev pub NameAt : ℕ → List ℕ → Read → Type 0
NameAt depth bytes t =
    let rest = after_run is_name_byte bytes in QuotedAt (quoted rest) depth (front_run is_name_byte bytes) rest t

-- a point and a digit begin a float
abbrev pub is_fraction : List ℕ → Bool
is_fraction [] = false
is_fraction (a ∷ []) = false
is_fraction (a ∷ b ∷ rest) = a == 46 && is_ascii_digit b

-- the open brackets behind a mark
abbrev pub depth_after : Mark → ℕ → ℕ
depth_after OpenParen depth = depth + 1
depth_after OpenBracket depth = depth + 1
depth_after OpenBrace depth = depth + 1
depth_after CloseParen depth = depth - 1
depth_after CloseBracket depth = depth - 1
depth_after CloseBrace depth = depth - 1
depth_after _ depth = depth

abbrev pub mark_read : ℕ → List ℕ → Option Mark → Read
mark_read depth bytes (Some mark) = takes (token.Mark mark) 0 (depth_after mark depth) (drop (length (mark_text mark)) bytes)
mark_read depth bytes None = refuses kinds.BadByte 0

-- the longest mark; where none stands the byte begins no token
abbrev pub sign_turn : ℕ → List ℕ → Read
sign_turn depth bytes = if is_fraction bytes then refuses kinds.BadNumber 0 else mark_read depth bytes (mark_at bytes)

abbrev pub ClassAt : Class → ℕ → ℕ → List ℕ → Read → Type 0
ClassAt Quote depth b rest t = TextAt false b depth rest t
ClassAt Digit depth b rest t = t ≡ number_turn depth (b ∷ rest)
ClassAt Letter depth b rest t = NameAt depth (b ∷ rest) t
ClassAt NoText depth b rest t = t ≡ refuses kinds.NotUtf8 0
ClassAt Sign depth b rest t = t ≡ sign_turn depth (b ∷ rest)

-- the token in front, inside so many brackets
abbrev pub TokenAt : ℕ → List ℕ → Read → Type 0
TokenAt depth [] t = ⊥
TokenAt depth (b ∷ rest) t = ClassAt (class_of b) depth b rest t

-- a backslash, a comment or a line end
abbrev pub ends_field : List ℕ → Bool
ends_field [] = false
ends_field (b ∷ rest) = b == 92 || (b == 35 || is_some (after_line_end (b ∷ rest)))

abbrev pub field_sign : ℕ → List ℕ → Read
field_sign inner bytes = if ends_field bytes then refuses kinds.BadField 0 else sign_turn inner bytes

abbrev pub field_class : Class → ℕ → List ℕ → Read
field_class Quote inner bytes = refuses kinds.BadField 0
field_class Digit inner bytes = number_turn inner bytes
field_class Letter inner bytes = takes (named (front_run is_name_byte bytes)) 0 inner (after_run is_name_byte bytes)
field_class NoText inner bytes = refuses kinds.NotUtf8 0
field_class Sign inner bytes = field_sign inner bytes

-- the token of a field in front, inside so many brackets of the field (2.4.3): a field stands on one line, and holds no text,
-- no backslash and no comment (own where the quotes are others than those of the f-text)
abbrev pub field_read : ℕ → List ℕ → Read
field_read inner [] = refuses kinds.Unclosed 0
field_read inner (b ∷ rest) = field_class (class_of b) inner (b ∷ rest)

abbrev pub is_name_first : List ℕ → Bool
is_name_first [] = false
is_name_first (b ∷ rest) = is_name_byte b
