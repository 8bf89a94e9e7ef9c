-- A script has one outcome.
use Rattle.std.proofs.Common.{◌≡◌, ℕ, Bool, true, false, List, [], ◌∷◌, Option, Some, None, refl, sym, ap, ◌∙◌, subst}
use Rattle.py_token.specs.declared.token.Token.{Token}
use Rattle.py_lex.specs.declared.fault.LexKind.{LexKind}
use Rattle.py_lex.specs.declared.fault.LexKind.TheVariants as kinds
use Rattle.py_lex.specs.declared.gap.Gap.{Gap}
use Rattle.py_lex.specs.declared.gap.Gap.TheVariants.{Blanks, Comment, LineEnd, Joined, Nothing}
use Rattle.py_lex.specs.declared.piece.Style.{Style}
use Rattle.py_lex.specs.declared.piece.Piece.{Piece}
use Rattle.py_lex.specs.declared.piece.Piece.TheVariants.{Closes, Unclosed, BadEscape, NotUtf8, Stands, EndsLine}
use Rattle.py_lex.specs.declared.reader.Place.{Place}
use Rattle.py_lex.specs.declared.reader.Place.TheVariants.{LineStart, Inside}
use Rattle.py_lex.specs.declared.token.Class.{Class}
use Rattle.py_lex.specs.declared.token.Class.TheVariants.{Quote, Digit, Letter, NoText, Sign}
use Rattle.py_lex.specs.declared.token.Lead.{Lead}
use Rattle.py_lex.specs.declared.token.Lead.TheVariants as lead
use Rattle.scons_base.specs.Runs.{is_name_byte, front_run, after_run}
use Rattle.py_lex.specs.Gaps.{gap_at}
use Rattle.py_lex.specs.Texts.{piece_at, bytes_of, Spelling, closed, unclosed, refused, behind, Spells, closes, has_no_end, has_bad_escape, is_not_utf8, stands, ends_line}
use Rattle.py_lex.specs.Tokens.{Read, class_of, lead_of, quoted, text_read, TextAt, LeadAt, QuotedAt, ClassAt, TokenAt}
use Rattle.py_lex.specs.declared.part.PartPiece.{PartPiece}
use Rattle.py_lex.specs.declared.part.PartPiece.TheVariants.{Opens, Lone, Plain}
use Rattle.py_lex.specs.declared.reader.Mode.{Mode}
use Rattle.py_lex.specs.declared.reader.Mode.TheVariants.{Line, Part, Field}
use Rattle.py_lex.specs.Parts.{PartSpelling, part_behind, part_piece_at, Parts, opens_field, closes_text, part_has_no_end, has_lone_brace, part_has_bad_escape, part_is_not_utf8, part_stands, part_ends_line}
use Rattle.py_lex.specs.Parts as parts
use Rattle.py_lex.specs.Steps.{State, Move, goes, ends, stops, read_move, part_move, TokenMove, GapMove, RestMove, ModeMove, Steps}
use Rattle.std.specs.Prelude.{Result, Ok, Err}
use Rattle.py_token.specs.declared.token.Tokens.{Tokens}
use Rattle.py_lex.specs.declared.fault.LexFault.{LexFault}
use Rattle.py_lex.specs.declared.fault.LexFault.TheVariants.{At, Memory}
use Rattle.py_lex.specs.Lexes.{Lexes, FaultAt, Agrees, Gives, Tells, Outcome, lexed, faulty, Reads, goes_on, ends_with, stops_at, ReadIf, IsRead}

both : {X : Type 0} {a b c : X} → a ≡ c → b ≡ c → a ≡ b
both e f = e ∙ sym f

-- what a piece says of the text that it begins
abbrev Begins : Style → Piece → List ℕ → Spelling → Type 0
Begins style Closes rest s = s ≡ closed [] 0 rest
Begins style Unclosed rest s = s ≡ unclosed
Begins style BadEscape rest s = s ≡ refused kinds.BadEscape 0
Begins style NotUtf8 rest s = s ≡ refused kinds.NotUtf8 0
Begins style (Stands c) rest s = (t : Spelling) × (Spells style rest t × (s ≡ behind (bytes_of c) 0 t))
Begins style (EndsLine c) rest s = (t : Spelling) × (Spells style rest t × (s ≡ behind (bytes_of c) 1 t))

begins : {style : Style} {bytes : List ℕ} {s : Spelling} → Spells style bytes s → Begins style (piece_at style bytes).0 (piece_at style bytes).1 s
begins {style = style} (closes rest e) = subst (λ p. Begins style p.0 p.1 (closed [] 0 rest)) (sym e) refl
begins {style = style} (has_no_end rest e) = subst (λ p. Begins style p.0 p.1 unclosed) (sym e) refl
begins {style = style} (has_bad_escape rest e) = subst (λ p. Begins style p.0 p.1 (refused kinds.BadEscape 0)) (sym e) refl
begins {style = style} (is_not_utf8 rest e) = subst (λ p. Begins style p.0 p.1 (refused kinds.NotUtf8 0)) (sym e) refl
begins {style = style} (stands {s = t} c rest e r) = subst (λ p. Begins style p.0 p.1 (behind (bytes_of c) 0 t)) (sym e) (t, (r, refl))
begins {style = style} (ends_line {s = t} c rest e r) = subst (λ p. Begins style p.0 p.1 (behind (bytes_of c) 1 t)) (sym e) (t, (r, refl))

begins_at : {style : Style} {bytes : List ℕ} {s : Spelling} (piece : Piece) (rest : List ℕ) → Spells style bytes s → piece_at style bytes ≡ (piece, rest) → Begins style piece rest s
begins_at {style = style} {s = s} piece rest r e = subst (λ p. Begins style p.0 p.1 s) e (begins r)

pub Spells-one : {style : Style} {bytes : List ℕ} {s t : Spelling} → Spells style bytes s → Spells style bytes t → s ≡ t
Spells-one (closes rest e) r = sym (begins_at Closes rest r e)
Spells-one (has_no_end rest e) r = sym (begins_at Unclosed rest r e)
Spells-one (has_bad_escape rest e) r = sym (begins_at BadEscape rest r e)
Spells-one (is_not_utf8 rest e) r = sym (begins_at NotUtf8 rest r e)
Spells-one (stands c rest e q) r =
    let next = begins_at (Stands c) rest r e in ap (λ x. behind (bytes_of c) 0 x) (Spells-one q next.1.0) ∙ sym next.1.1
Spells-one (ends_line c rest e q) r =
    let next = begins_at (EndsLine c) rest r e in ap (λ x. behind (bytes_of c) 1 x) (Spells-one q next.1.0) ∙ sym next.1.1

-- what a piece says of the part that it begins
abbrev BeginsPart : Style → PartPiece → List ℕ → PartSpelling → Type 0
BeginsPart style Opens rest s = s ≡ parts.ends true [] 0 rest
BeginsPart style Lone rest s = s ≡ parts.refused kinds.BadField 0
BeginsPart style (Plain Closes) rest s = s ≡ parts.ends false [] 0 rest
BeginsPart style (Plain Unclosed) rest s = s ≡ parts.unclosed
BeginsPart style (Plain BadEscape) rest s = s ≡ parts.refused kinds.BadEscape 0
BeginsPart style (Plain NotUtf8) rest s = s ≡ parts.refused kinds.NotUtf8 0
BeginsPart style (Plain (Stands c)) rest s = (t : PartSpelling) × (Parts style rest t × (s ≡ part_behind (bytes_of c) 0 t))
BeginsPart style (Plain (EndsLine c)) rest s = (t : PartSpelling) × (Parts style rest t × (s ≡ part_behind (bytes_of c) 1 t))

begins_part : {style : Style} {bytes : List ℕ} {s : PartSpelling} → Parts style bytes s → BeginsPart style (part_piece_at style bytes).0 (part_piece_at style bytes).1 s
begins_part {style = style} (opens_field rest e) = subst (λ p. BeginsPart style p.0 p.1 (parts.ends true [] 0 rest)) (sym e) refl
begins_part {style = style} (closes_text rest e) = subst (λ p. BeginsPart style p.0 p.1 (parts.ends false [] 0 rest)) (sym e) refl
begins_part {style = style} (part_has_no_end rest e) = subst (λ p. BeginsPart style p.0 p.1 parts.unclosed) (sym e) refl
begins_part {style = style} (has_lone_brace rest e) = subst (λ p. BeginsPart style p.0 p.1 (parts.refused kinds.BadField 0)) (sym e) refl
begins_part {style = style} (part_has_bad_escape rest e) = subst (λ p. BeginsPart style p.0 p.1 (parts.refused kinds.BadEscape 0)) (sym e) refl
begins_part {style = style} (part_is_not_utf8 rest e) = subst (λ p. BeginsPart style p.0 p.1 (parts.refused kinds.NotUtf8 0)) (sym e) refl
begins_part {style = style} (part_stands {s = t} c rest e r) = subst (λ p. BeginsPart style p.0 p.1 (part_behind (bytes_of c) 0 t)) (sym e) (t, (r, refl))
begins_part {style = style} (part_ends_line {s = t} c rest e r) = subst (λ p. BeginsPart style p.0 p.1 (part_behind (bytes_of c) 1 t)) (sym e) (t, (r, refl))

begins_part_at : {style : Style} {bytes : List ℕ} {s : PartSpelling} (piece : PartPiece) (rest : List ℕ) → Parts style bytes s → part_piece_at style bytes ≡ (piece, rest) → BeginsPart style piece rest s
begins_part_at {style = style} {s = s} piece rest r e = subst (λ p. BeginsPart style p.0 p.1 s) e (begins_part r)

pub Parts-one : {style : Style} {bytes : List ℕ} {s t : PartSpelling} → Parts style bytes s → Parts style bytes t → s ≡ t
Parts-one (opens_field rest e) r = sym (begins_part_at Opens rest r e)
Parts-one (closes_text rest e) r = sym (begins_part_at (Plain Closes) rest r e)
Parts-one (part_has_no_end rest e) r = sym (begins_part_at (Plain Unclosed) rest r e)
Parts-one (has_lone_brace rest e) r = sym (begins_part_at Lone rest r e)
Parts-one (part_has_bad_escape rest e) r = sym (begins_part_at (Plain BadEscape) rest r e)
Parts-one (part_is_not_utf8 rest e) r = sym (begins_part_at (Plain NotUtf8) rest r e)
Parts-one (part_stands c rest e q) r =
    let next = begins_part_at (Plain (Stands c)) rest r e in ap (λ x. part_behind (bytes_of c) 0 x) (Parts-one q next.1.0) ∙ sym next.1.1
Parts-one (part_ends_line c rest e q) r =
    let next = begins_part_at (Plain (EndsLine c)) rest r e in ap (λ x. part_behind (bytes_of c) 1 x) (Parts-one q next.1.0) ∙ sym next.1.1

TextAt-one : (raw : Bool) (q depth : ℕ) (rest : List ℕ) (t u : Read) → TextAt raw q depth rest t → TextAt raw q depth rest u → t ≡ u
TextAt-one raw q depth rest t u x y = x.1.1 ∙ ap (λ s. text_read depth s) (Spells-one x.1.0 y.1.0) ∙ sym y.1.1

LeadAt-one : (l : Lead) (depth q : ℕ) (inside name rest : List ℕ) (t u : Read) → LeadAt l depth q inside name rest t → LeadAt l depth q inside name rest u → t ≡ u
LeadAt-one lead.Raw depth q inside name rest t u x y = TextAt-one true q depth inside t u x y
LeadAt-one lead.Format depth q inside name rest t u x y = both x y
LeadAt-one lead.RawFormat depth q inside name rest t u x y = both x y
LeadAt-one lead.Refused depth q inside name rest t u x y = both x y
LeadAt-one lead.Name depth q inside name rest t u x y = both x y

QuotedAt-one : (p : Option (ℕ × List ℕ)) (depth : ℕ) (name rest : List ℕ) (t u : Read) → QuotedAt p depth name rest t → QuotedAt p depth name rest u → t ≡ u
QuotedAt-one None depth name rest t u x y = both x y
QuotedAt-one (Some p) depth name rest t u x y = LeadAt-one (lead_of name) depth p.0 p.1 name rest t u x y

ClassAt-one : (k : Class) (depth b : ℕ) (rest : List ℕ) (t u : Read) → ClassAt k depth b rest t → ClassAt k depth b rest u → t ≡ u
ClassAt-one Quote depth b rest t u x y = TextAt-one false b depth rest t u x y
ClassAt-one Digit depth b rest t u x y = both x y
ClassAt-one Letter depth b rest t u x y = QuotedAt-one (quoted (after_run is_name_byte (b ∷ rest))) depth (front_run is_name_byte (b ∷ rest)) (after_run is_name_byte (b ∷ rest)) t u x y
ClassAt-one NoText depth b rest t u x y = both x y
ClassAt-one Sign depth b rest t u x y = both x y

TokenAt-one : (depth : ℕ) (bytes : List ℕ) (t u : Read) → TokenAt depth bytes t → TokenAt depth bytes u → t ≡ u
TokenAt-one depth [] t u x y = absurd x
TokenAt-one depth (b ∷ rest) t u x y = ClassAt-one (class_of b) depth b rest t u x y

TokenMove-one : (p : Place) (s : State) (m n : Move) → TokenMove p s m → TokenMove p s n → m ≡ n
TokenMove-one LineStart s m n x y = both x y
TokenMove-one (Inside depth) s m n x y = x.1.1 ∙ ap (λ t. read_move s t) (TokenAt-one depth s.rest x.0 y.0 x.1.0 y.1.0) ∙ sym y.1.1

GapMove-one : (g : Gap) (after : List ℕ) (s : State) (m n : Move) → GapMove g after s m → GapMove g after s n → m ≡ n
GapMove-one Blanks after s m n x y = both x y
GapMove-one Comment after s m n x y = both x y
GapMove-one Joined after s m n x y = both x y
GapMove-one LineEnd after s m n x y = both x y
GapMove-one Nothing after s m n x y = TokenMove-one s.place s m n x y

RestMove-one : (rest : List ℕ) (s : State) (m n : Move) → RestMove rest s m → RestMove rest s n → m ≡ n
RestMove-one [] s m n x y = both x y
RestMove-one (b ∷ bytes) s m n x y = GapMove-one (gap_at (b ∷ bytes)).0 (gap_at (b ∷ bytes)).1 s m n x y

ModeMove-one : (mode : Mode) (s : State) (m n : Move) → ModeMove mode s m → ModeMove mode s n → m ≡ n
ModeMove-one Line s m n x y = RestMove-one s.rest s m n x y
ModeMove-one (Part text) s m n x y = x.1.1 ∙ ap (λ p. part_move text s p) (Parts-one x.1.0 y.1.0) ∙ sym y.1.1
ModeMove-one (Field text inner) s m n x y = both x y

pub Steps-one : (s : State) (m n : Move) → Steps s m → Steps s n → m ≡ n
Steps-one s m n x y = ModeMove-one s.mode s m n x y

same_state : (t u : State) → goes t ≡ goes u → t ≡ u
same_state t u e = cc

pub Reads-one : {s : State} {o p : Outcome} → Reads s o → Reads s p → o ≡ p
Reads-one {s = s} {p = p} (goes_on t x r) (goes_on u y q) = Reads-one r (subst (λ v. Reads v p) (sym (same_state t u (Steps-one s _ _ x y))) q)
Reads-one {s = s} (goes_on t x r) (ends_with ts y) = let e = Steps-one s (goes t) (ends ts) x y in absurd (cc)
Reads-one {s = s} (goes_on t x r) (stops_at l k y) = let e = Steps-one s (goes t) (stops l k) x y in absurd (cc)
Reads-one {s = s} (ends_with ts x) (goes_on u y q) = let e = Steps-one s (ends ts) (goes u) x y in absurd (cc)
Reads-one {s = s} (ends_with ts x) (ends_with us y) = let e = Steps-one s (ends ts) (ends us) x y in (cc)
Reads-one {s = s} (ends_with ts x) (stops_at l k y) = let e = Steps-one s (ends ts) (stops l k) x y in absurd (cc)
Reads-one {s = s} (stops_at l k x) (goes_on u y q) = let e = Steps-one s (stops l k) (goes u) x y in absurd (cc)
Reads-one {s = s} (stops_at l k x) (ends_with ts y) = let e = Steps-one s (stops l k) (ends ts) x y in absurd (cc)
Reads-one {s = s} (stops_at l k x) (stops_at m j y) = let e = Steps-one s (stops l k) (stops m j) x y in (cc)

ReadIf-one : (b : Bool) (bytes : List ℕ) (o p : Outcome) → ReadIf b bytes o → ReadIf b bytes p → o ≡ p
ReadIf-one true bytes o p x y = both x y
ReadIf-one false bytes o p x y = Reads-one x y

pub IsRead-one : (bytes : List ℕ) (o p : Outcome) → IsRead bytes o → IsRead bytes p → o ≡ p
IsRead-one bytes o p x y = ReadIf-one _ bytes o p x y

pub only_at : (bytes : List ℕ) (r : Result Tokens LexFault) → Agrees r (IsRead bytes) → (tokens : List Token) → Lexes bytes tokens → Gives r tokens
only_at bytes (Ok given) found tokens is = let e = IsRead-one bytes (lexed given) (lexed tokens) found is in (cc)
only_at bytes (Err (At line kind)) found tokens is = let e = IsRead-one bytes (faulty line kind) (lexed tokens) found is in (cc)
only_at bytes (Err Memory) found tokens is = tt

pub refused_at : (bytes : List ℕ) (r : Result Tokens LexFault) → Agrees r (IsRead bytes) → (line : ℕ) (kind : LexKind) → FaultAt bytes line kind → Tells r line kind
refused_at bytes (Ok given) found line kind is = let e = IsRead-one bytes (lexed given) (faulty line kind) found is in (cc)
refused_at bytes (Err (At at why)) found line kind is = let e = IsRead-one bytes (faulty at why) (faulty line kind) found is in (cc, cc)
refused_at bytes (Err Memory) found line kind is = tt
