-- A script is read step by step: a gap or a token a step.
use Rattle.std.specs.Prelude.{◌≡◌, ℕ, ◌+◌, ◌-◌, Bool, true, false, ◌&&◌, ◌==◌, List, [], ◌∷◌, ◌++◌, length, drop, replicate, if◌then◌else◌}
use Rattle.py_token.specs.declared.token.Token.{Token}
use Rattle.py_token.specs.declared.token.TokenKind.{TokenKind}
use Rattle.py_token.specs.declared.token.TokenKind.TheVariants as token
use Rattle.py_lex.specs.declared.fault.LexKind.{LexKind}
use Rattle.py_lex.specs.declared.fault.LexKind.TheVariants as kinds
use Rattle.py_lex.specs.declared.gap.Gap.{Gap}
use Rattle.py_lex.specs.declared.gap.Gap.TheVariants.{Blanks, Comment, LineEnd, Joined, Nothing}
use Rattle.py_lex.specs.declared.levels.Level.{Level}
use Rattle.py_lex.specs.declared.levels.Level.TheVariants.{Closes, Opens, Refused}
use Rattle.py_lex.specs.declared.reader.Place.{Place}
use Rattle.py_lex.specs.declared.reader.Place.TheVariants.{LineStart, Inside}
use Rattle.py_lex.specs.declared.reader.OpenText.{OpenText}
use Rattle.py_lex.specs.declared.reader.Mode.{Mode}
use Rattle.py_lex.specs.declared.reader.Mode.TheVariants.{Line, Part, Field}
use Rattle.py_token.specs.declared.mark.Mark.TheVariants.{OpenBrace, CloseBrace}
use Rattle.py_lex.specs.Bytes.{is_blank}
use Rattle.scons_base.specs.Runs.{front_run, after_run}
use Rattle.py_lex.specs.Gaps.{gap_at}
use Rattle.py_lex.specs.Levels.{level_of}
use Rattle.py_lex.specs.Parts.{PartSpelling, Parts}
use Rattle.py_lex.specs.Parts as parts
use Rattle.py_lex.specs.Tokens.{Read, takes, begins, refuses, TokenAt, field_read}

-- a script that is read up to a place: whether an f-text is open there, the place, the indentation of the line, the open
-- levels, innermost first, the line's number, what is left, and the tokens so far
pub record State : Type 0 where
  pub mode : Mode
  pub place : Place
  pub indentation : List ℕ
  pub levels : List (List ℕ)
  pub line : ℕ
  pub rest : List ℕ
  pub tokens : List Token

-- what a step gives: the next state; all tokens; or the line and the kind of a fault
pub data Move : Type 0 where
  goes : State → Move
  ends : List Token → Move
  stops : ℕ → LexKind → Move

abbrev pub token_at : ℕ → TokenKind → Token
token_at line kind = record { line = line; kind = kind }

abbrev pub text_behind : TokenKind → Token → ℕ → List ℕ → List Token
text_behind (token.Text front) last line text = token_at last.line (token.Text (front ++ text)) ∷ []
text_behind _ last line text = last ∷ token_at line (token.Text text) ∷ []

abbrev pub with_text : List Token → ℕ → List ℕ → List Token
with_text [] line text = token_at line (token.Text text) ∷ []
with_text (a ∷ []) line text = text_behind a.kind a line text
with_text (a ∷ b ∷ more) line text = a ∷ with_text (b ∷ more) line text

-- a token behind the others; a text directly behind a text is joined to it (2.4.2)
abbrev pub added : TokenKind → List Token → ℕ → List Token
added (token.Text text) tokens line = with_text tokens line text
added kind tokens line = tokens ++ token_at line kind ∷ []

-- so many blocks close
abbrev pub dedents : ℕ → ℕ → List Token
dedents line count = replicate count (token_at line token.Dedent)

-- the next line begins with its indentation
abbrev pub next_line : State → List ℕ → State
next_line s after = record s {
  place = LineStart;
  indentation = front_run is_blank after;
  line = s.line + 1;
  rest = after_run is_blank after;
}

-- a line end: none of a line's tokens stands in front (2.1.7), a bracket is open (2.1.6), or the line is over (2.1.1)
abbrev pub line_end : Place → State → List ℕ → State
line_end LineStart s after = next_line s after
line_end (Inside depth) s after =
    if depth == 0 then next_line (record s { tokens = s.tokens ++ token_at s.line token.Newline ∷ [] }) after
    else record s { line = s.line + 1; rest = after }

abbrev pub level_move : Level → State → Move
level_move (Closes count) s =
    goes (record s { place = Inside 0; levels = drop count s.levels; tokens = s.tokens ++ dedents s.line count })
level_move Opens s =
    goes (record s { place = Inside 0; levels = s.indentation ∷ s.levels; tokens = s.tokens ++ token_at s.line token.Indent ∷ [] })
level_move (Refused kind) s = stops s.line kind

-- the first token of a line (2.1.8)
abbrev pub begin_line : State → Move
begin_line s = level_move (level_of s.levels s.indentation) s

abbrev closing_tokens : State → List Token
closing_tokens s = dedents s.line (length s.levels - 1)

-- the end of the script: the last line is over, and all blocks close; a bracket that is still open is a fault
abbrev pub finish : Place → State → Move
finish LineStart s = ends (s.tokens ++ closing_tokens s)
finish (Inside depth) s =
    if depth == 0 then ends (s.tokens ++ token_at s.line token.Newline ∷ [] ++ closing_tokens s) else stops s.line kinds.Unclosed

abbrev pub read_move : State → Read → Move
read_move s (takes kind lines depth rest) =
    goes (record s { place = Inside depth; line = s.line + lines; rest = rest; tokens = added kind s.tokens s.line })
read_move s (begins style rest) =
    goes (record s {
      mode = Part (record { style = style; line = s.line });
      rest = rest;
      tokens = s.tokens ++ token_at s.line token.FStart ∷ [];
    })
read_move s (refuses kind lines) = stops (s.line + lines) kind

abbrev pub TakesToken : ℕ → State → Move → Type 0
TakesToken depth s m = (t : Read) × (TokenAt depth s.rest t × (m ≡ read_move s t))

abbrev pub TokenMove : Place → State → Move → Type 0
TokenMove LineStart s m = m ≡ begin_line s
TokenMove (Inside depth) s m = TakesToken depth s m

abbrev pub GapMove : Gap → List ℕ → State → Move → Type 0
GapMove Blanks after s m = m ≡ goes (record s { rest = after })
GapMove Comment after s m = m ≡ goes (record s { rest = after })
GapMove Joined after s m = m ≡ goes (record s { line = s.line + 1; rest = after })
GapMove LineEnd after s m = m ≡ goes (line_end s.place s after)
GapMove Nothing after s m = TokenMove s.place s m

abbrev pub RestMove : List ℕ → State → Move → Type 0
RestMove [] s m = m ≡ finish s.place s
RestMove (b ∷ bytes) s m = GapMove (gap_at (b ∷ bytes)).0 (gap_at (b ∷ bytes)).1 s m

-- the characters of a part, if there are any
abbrev pub part_tokens : ℕ → List ℕ → List Token
part_tokens line [] = []
part_tokens line (b ∷ value) = token_at line (token.FPart (b ∷ value)) ∷ []

-- what stands behind a part: the brace of a field, or the end of the f-text
abbrev pub end_of_part : Bool → TokenKind
end_of_part true = token.Mark OpenBrace
end_of_part false = token.FEnd

abbrev pub mode_behind : OpenText → Bool → Mode
mode_behind text true = Field text 0
mode_behind text false = Line

-- a part of an f-text (2.4.3); an f-text that isn't closed is a fault where it begins
abbrev pub part_move : OpenText → State → PartSpelling → Move
part_move text s (parts.ends field value lines rest) =
    goes (record s {
      mode = mode_behind text field;
      line = s.line + lines;
      rest = rest;
      tokens = s.tokens ++ part_tokens s.line value ++ token_at (s.line + lines) (end_of_part field) ∷ [];
    })
part_move text s parts.unclosed = stops text.line kinds.Unclosed
part_move text s (parts.refused kind lines) = stops (s.line + lines) kind

abbrev pub TakesPart : OpenText → State → Move → Type 0
TakesPart text s m = (p : PartSpelling) × (Parts text.style s.rest p × (m ≡ part_move text s p))

-- a token of a field
abbrev pub field_token_move : OpenText → State → Read → Move
field_token_move text s (takes kind lines inner rest) =
    goes (record s {
      mode = Field text inner;
      line = s.line + lines;
      rest = rest;
      tokens = s.tokens ++ token_at s.line kind ∷ [];
    })
field_token_move text s (begins style rest) = stops s.line kinds.BadField
field_token_move text s (refuses kind lines) = stops (s.line + lines) kind

-- the end of a field: a closing brace, where no bracket of the field is open
abbrev pub field_over : OpenText → State → List ℕ → Move
field_over text s rest =
    goes (record s { mode = Part text; rest = rest; tokens = s.tokens ++ token_at s.line (token.Mark CloseBrace) ∷ [] })

abbrev pub field_move : OpenText → ℕ → State → List ℕ → Move
field_move text inner s [] = stops text.line kinds.Unclosed
field_move text inner s (b ∷ bytes) =
    if is_blank b then goes (record s { rest = after_run is_blank bytes })
    else (if b == 125 && inner == 0 then field_over text s bytes
    else field_token_move text s (field_read inner (b ∷ bytes)))

abbrev pub ModeMove : Mode → State → Move → Type 0
ModeMove Line s m = RestMove s.rest s m
ModeMove (Part text) s m = TakesPart text s m
ModeMove (Field text inner) s m = m ≡ field_move text inner s s.rest

-- the step at a state
abbrev pub Steps : State → Move → Type 0
Steps s m = ModeMove s.mode s m

-- nothing is read yet
abbrev pub start : List ℕ → State
start script = record {
  mode = Line;
  place = LineStart;
  indentation = front_run is_blank script;
  levels = [] ∷ [];
  line = 1;
  rest = after_run is_blank script;
  tokens = [];
}
