-- A script is what its tokens are written as and the gaps between them, one after another: section 2 of the Python language
-- reference, "Lexical analysis".
use Rattle.std.specs.Prelude.{◌≡◌, ◌⊎◌, ℕ, Bool, true, false, ◌==◌, ◌||◌, List, [], ◌∷◌, ◌++◌, Some}
use Rattle.std.specs.List.{list_all}
use Rattle.py_token.specs.declared.token.Token.{Token}
use Rattle.py_token.specs.declared.token.TokenKind.{TokenKind}
use Rattle.py_token.specs.declared.token.TokenKind.TheVariants as token
use Rattle.py_token.specs.Keywords.{word_of}
use Rattle.py_token.specs.Marks.{mark_text}
use Rattle.py_lex.specs.Bytes.{is_blank, is_comment_byte, after_line_end}
use Rattle.scons_base.specs.Runs.{is_name_byte}
use Rattle.py_lex.specs.Numbers.{number_of}
use Rattle.py_lex.specs.Texts.{closed, Spells, opening}
use Rattle.py_lex.specs.declared.piece.Style.{Style}
use Rattle.py_lex.specs.Parts.{ends, Parts}
use Rattle.py_lex.specs.declared.token.Lead.TheVariants as lead
use Rattle.py_lex.specs.Tokens.{is_r, lead_of}
use Rattle.py_lex.specs.Steps.{token_at, part_tokens, end_of_part}

-- a line end alone (2.1.2)
abbrev pub IsLineEnd : List ℕ → Type 0
IsLineEnd bytes = after_line_end bytes ≡ Some []

-- what may stand between tokens: blanks (2.1.9), a comment (2.1.3), a line end, a backslash and a line end (2.1.5)
pub data IsGap : List ℕ → Type 0 where
  blanks : {bytes : List ℕ} → list_all is_blank bytes ≡ true → IsGap bytes
  comment : {bytes : List ℕ} → list_all is_comment_byte bytes ≡ true → IsGap (35 ∷ bytes)
  line_end : {bytes : List ℕ} → IsLineEnd bytes → IsGap bytes
  joined : {bytes : List ℕ} → IsLineEnd bytes → IsGap (92 ∷ bytes)

-- in front of the quotes stands nothing, or the `r` of a raw text
abbrev pub IsPrefix : Bool → List ℕ → Type 0
IsPrefix false bytes = bytes ≡ []
IsPrefix true bytes = (r : ℕ) × (is_r r ≡ true) × (bytes ≡ r ∷ [])

-- a whole text literal (2.4.1): its prefix, its quotes and what stands for the text between them
pub record IsLiteral (value bytes : List ℕ) : Type 0 where
  pub raw : Bool
  pub front : List ℕ
  pub quote : ℕ
  pub inside : List ℕ
  pub lines : ℕ
  pub parts : bytes ≡ front ++ quote ∷ inside
  pub prefixed : IsPrefix raw front
  pub quotes : (quote == 39 || quote == 34) ≡ true
  pub stands_for : Spells (opening raw quote inside).0 (opening raw quote inside).1 (closed value lines [])

-- in front of the quotes of an f-text stands its `f`, with the `r` of a raw one in front of it or behind it
abbrev pub IsFormatPrefix : List ℕ → Type 0
IsFormatPrefix bytes = (lead_of bytes ≡ lead.Format) ⊎ (lead_of bytes ≡ lead.RawFormat)

-- one quote, or three of them
abbrev pub AreQuotes : List ℕ → Type 0
AreQuotes bytes =
    (quote : ℕ) × ((quote == 39 || quote == 34) ≡ true) ×
    ((bytes ≡ quote ∷ []) ⊎ (bytes ≡ quote ∷ quote ∷ quote ∷ []))

-- how an f-text begins (2.4.3)
pub record IsStart (bytes : List ℕ) : Type 0 where
  pub front : List ℕ
  pub quotes : List ℕ
  pub parts : bytes ≡ front ++ quotes
  pub prefixed : IsFormatPrefix front
  pub quoted : AreQuotes quotes

-- a part of an f-text with what stands behind it: the brace of a field, or the quotes that end the f-text
pub record IsPart (field : Bool) (value bytes : List ℕ) : Type 0 where
  pub style : Style
  pub lines : ℕ
  pub quotes : (style.quote == 39 || style.quote == 34) ≡ true
  pub stands_for : Parts style bytes (ends field value lines [])

-- letters, digits and underscores (2.3, 2.4.5)
abbrev pub IsWord : List ℕ → Type 0
IsWord bytes = list_all is_name_byte bytes ≡ true

-- how a token is written. The end of a line is written as a line end, and as nothing where the script ends; where a block
-- begins or ends nothing is written (2.1.8). A part of an f-text is written with what stands behind it.
abbrev pub IsSpelling : TokenKind → List ℕ → Type 0
IsSpelling (token.Name name) bytes = IsWord bytes × (bytes ≡ name)
IsSpelling (token.Integer value) bytes = IsWord bytes × (number_of bytes ≡ Some value)
IsSpelling (token.Text value) bytes = IsLiteral value bytes
IsSpelling (token.Word keyword) bytes = bytes ≡ word_of keyword
IsSpelling (token.Mark mark) bytes = bytes ≡ mark_text mark
IsSpelling token.FStart bytes = IsStart bytes
IsSpelling (token.FPart value) bytes = ⊥
IsSpelling token.FEnd bytes = ⊥
IsSpelling token.Newline bytes = IsLineEnd bytes ⊎ (bytes ≡ [])
IsSpelling token.Indent bytes = bytes ≡ []
IsSpelling token.Dedent bytes = bytes ≡ []

-- the tokens are written so: gaps and spellings, one after another; literals with no other token between them are one
-- text (2.4.2), and a part that stands for no characters is no token
pub data Written : List Token → List ℕ → Type 0 where
  nothing : Written [] []
  gap : (tokens : List Token) (bytes between : List ℕ) → IsGap between → Written tokens bytes → Written tokens (bytes ++ between)
  spelled : (tokens : List Token) (t : Token) (bytes spelling : List ℕ) → IsSpelling t.kind spelling → Written tokens bytes → Written (tokens ++ t ∷ []) (bytes ++ spelling)
  joined_text : (tokens : List Token) (line : ℕ) (front value bytes spelling : List ℕ) → IsLiteral value spelling → Written (tokens ++ token_at line (token.Text front) ∷ []) bytes → Written (tokens ++ token_at line (token.Text (front ++ value)) ∷ []) (bytes ++ spelling)
  part_of_text : (tokens : List Token) (line after : ℕ) (field : Bool) (value bytes spelling : List ℕ) → IsPart field value spelling → Written tokens bytes → Written (tokens ++ part_tokens line value ++ token_at after (end_of_part field) ∷ []) (bytes ++ spelling)
