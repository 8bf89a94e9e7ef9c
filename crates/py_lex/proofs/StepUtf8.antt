-- Each step leaves what is UTF-8 up to its mark.
use Rattle.std.proofs.Common.{◌≡◌, ℕ, ◌+◌, ◌<◌, Bool, true, false, not, ◌&&◌, ◌||◌, ◌==◌, nat_eq, cond, List, [], ◌∷◌, ◌++◌, length, take, drop, refl, sym, ◌∙◌, subst, arith, add-one, add_comm, append_assoc, Option, Some, None}
use Rattle.std.specs.Prelude.{nat_lt, if◌then◌else◌}
use Rattle.std.specs.List.{list_all, prefix_len, starts_with}
use Rattle.std.specs.Cmp.Lexicographic.{pointwise}
use Rattle.std.proofs.lemmas.List.Folds.{list_all-append}
use Rattle.std.proofs.lemmas.Bool.{eqb-true}
use Rattle.std.proofs.lemmas.Bool.Decides.{nat_tests}
use Rattle.py_token.specs.declared.mark.Mark.{Mark}
use Rattle.py_token.specs.declared.mark.Mark.TheVariants.{OpenParen, CloseParen, OpenBracket, CloseBracket, OpenBrace, CloseBrace, Comma, Colon, Dot, Semicolon, Assign, PlusAssign, MinusAssign, StarAssign, Equal, NotEqual, Less, LessEqual, Greater, GreaterEqual, Plus, Minus, Star, FloorDivide, Percent, Slash, Power, At, Bar, Ampersand, Caret, Tilde, ShiftLeft, ShiftRight, Arrow, Walrus}
use Rattle.py_token.specs.Marks.{mark_text}
use Rattle.py_lex.specs.declared.levels.Level.{Level}
use Rattle.py_lex.specs.declared.levels.Level.TheVariants as level
use Rattle.py_lex.specs.declared.reader.Place.{Place}
use Rattle.py_lex.specs.declared.reader.Place.TheVariants.{LineStart, Inside}
use Rattle.py_lex.specs.declared.token.Class.{Class}
use Rattle.py_lex.specs.declared.token.Class.TheVariants.{Quote, Digit, Letter, NoText, Sign}
use Rattle.py_lex.specs.declared.token.Lead.{Lead}
use Rattle.py_lex.specs.declared.token.Lead.TheVariants as lead
use Rattle.py_lex.specs.declared.gap.Gap.{Gap}
use Rattle.py_lex.specs.declared.gap.Gap.TheVariants.{Blanks, Comment, LineEnd, Joined, Nothing}
use Rattle.py_lex.specs.Bytes.{is_blank, is_comment_byte, after_line_end}
use Rattle.scons_base.specs.Runs.{is_name_byte, front_run, after_run}
use Rattle.py_lex.specs.Gaps.{gap_at, joined_or, line_end_or}
use Rattle.py_lex.specs.Levels.{level_of}
use Rattle.py_lex.specs.Marks.{marks, mark_at}
use Rattle.py_lex.specs.Numbers.{number_of}
use Rattle.py_lex.specs.Texts.{Spelling, closed, unclosed, refused, Spells, opening}
use Rattle.py_lex.specs.declared.reader.OpenText.{OpenText}
use Rattle.py_lex.specs.declared.reader.Mode.{Mode}
use Rattle.py_lex.specs.declared.reader.Mode.TheVariants.{Line, Part, Field}
use Rattle.py_lex.specs.Sizes.{quote_of}
use Rattle.py_lex.specs.Parts.{PartSpelling, Parts}
use Rattle.py_lex.specs.Parts as parts
use Rattle.py_lex.specs.Tokens.{Read, takes, begins, refuses, field_read, field_class, ends_field, class_of, lead_of, quoted, text_read, is_float, integer_read, is_fraction, mark_read, TextAt, LeadAt, QuotedAt, ClassAt, TokenAt}
use Rattle.py_lex.specs.Steps.{State, Move, goes, ends, stops, line_end, level_move, finish, read_move, part_move, field_move, field_token_move, TokenMove, GapMove, RestMove, ModeMove, Steps}
use Rattle.py_lex.specs.Utf8.{IsClean}
use Rattle.scons_base.proofs.Ascii.{name_byte_is_ascii}
use Rattle.py_lex.proofs.Clean.{is_no_mark, split, clean_next, clean_none, clean_mark, clean_behind}
use Rattle.py_lex.proofs.Signs.{find_passes}
use Rattle.py_lex.proofs.TextUtf8.{line_end_clean, text_is_utf8, opening_is_clean}
use Rattle.py_lex.proofs.PartUtf8.{part_is_utf8}

run_is_clean : (p : ℕ → Bool) → ((b : ℕ) → p b ≡ true → b < 128) → (xs : List ℕ) → IsClean xs → IsClean (after_run p xs)
run_is_clean p h [] clean = clean
run_is_clean p h (x ∷ xs) clean = by_test (p x) refl (prefix_len p xs) (λ c. run_is_clean p h xs c)
  where
    by_test : (t : Bool) → p x ≡ t → (n : ℕ) → (IsClean xs → IsClean (drop n xs)) → IsClean (drop (cond t (1 + n) 0) (x ∷ xs))
    by_test true e n ih = subst (λ k. IsClean (drop k (x ∷ xs))) (sym (add-one n) ∙ add_comm n 1) (ih (clean_next x xs clean (h x e)))
    by_test false e n ih = clean

blank_is_ascii : (b : ℕ) → is_blank b ≡ true → b < 128
blank_is_ascii b e = grind (arith, nat_tests)

pub blanks_are_clean : (xs : List ℕ) → IsClean xs → IsClean (after_run is_blank xs)
blanks_are_clean xs clean = run_is_clean is_blank blank_is_ascii xs clean

pub name_is_clean : (xs : List ℕ) → IsClean xs → IsClean (after_run is_name_byte xs)
name_is_clean xs clean = run_is_clean is_name_byte name_byte_is_ascii xs clean

comment_is_clean : (front xs : List ℕ) → list_all is_no_mark front ≡ true → IsClean (front ++ xs) → IsClean (after_run is_comment_byte xs)
comment_is_clean front [] n clean = clean_none
comment_is_clean front (x ∷ xs) n clean =
    by_test (x == 10) (x == 255) refl refl (prefix_len is_comment_byte xs)
    (λ m. comment_is_clean (front ++ x ∷ []) xs m (subst (λ y. IsClean y) (sym (append_assoc front (x ∷ []) xs)) clean))
  where
    goes_on : (a t : Bool) → a ≡ true → t ≡ false → (a && (not t && true)) ≡ true
    goes_on a t e f = cc

    by_test : (s t : Bool) → (x == 10) ≡ s → (x == 255) ≡ t → (k : ℕ) → (list_all is_no_mark (front ++ x ∷ []) ≡ true → IsClean (drop k xs)) → IsClean (drop (cond (not (s || t)) (1 + k) 0) (x ∷ xs))
    by_test true t e f k ih =
        let is : x ≡ 10 = eqb-true x 10 e in
        let ascii : x < 128 = omega (arith, is) in
        clean_behind x xs ascii (split front x xs n clean ascii).1
    by_test false true e f k ih = subst (λ y. IsClean (y ∷ xs)) (sym (eqb-true x 255 f)) (clean_mark xs)
    by_test false false e f k ih = subst (λ m. IsClean (drop m (x ∷ xs))) (sym (add-one k) ∙ add_comm k 1) (ih (list_all-append is_no_mark front (x ∷ []) ∙ goes_on _ (x == 255) n f))

record GapIs (p : Gap × List ℕ) : Type 0 where
  rest : IsClean p.1

if_gap : (t : Bool) (X Y : Gap × List ℕ) → (t ≡ true → GapIs X) → (t ≡ false → GapIs Y) → GapIs (if t then X else Y)
if_gap true X Y x y = x refl
if_gap false X Y x y = y refl

joined_is_clean : (bytes : List ℕ) (r : Option (List ℕ)) → IsClean bytes → ((rest : List ℕ) → r ≡ Some rest → IsClean rest) → GapIs (joined_or bytes r)
joined_is_clean bytes None clean h = record { rest = clean }
joined_is_clean bytes (Some []) clean h = record { rest = clean }
joined_is_clean bytes (Some (b ∷ rest)) clean h = record { rest = h (b ∷ rest) refl }

ended_is_clean : (bytes : List ℕ) (r : Option (List ℕ)) → IsClean bytes → ((rest : List ℕ) → r ≡ Some rest → IsClean rest) → GapIs (line_end_or bytes r)
ended_is_clean bytes None clean h = record { rest = clean }
ended_is_clean bytes (Some rest) clean h = record { rest = h rest refl }

end_is_clean : (bytes rest : List ℕ) → IsClean bytes → after_line_end bytes ≡ Some rest → IsClean rest
end_is_clean [] rest clean e = cc
end_is_clean (b ∷ more) rest clean e = let l = line_end_clean b more rest e in l.1 (clean_next b more clean l.0)

gap_is_clean : (bytes : List ℕ) → IsClean bytes → GapIs (gap_at bytes)
gap_is_clean [] clean = record { rest = clean }
gap_is_clean (b ∷ rest) clean =
    if_gap (is_blank b) _ _ (λ e. record { rest = blanks_are_clean rest (clean_next b rest clean (blank_is_ascii b e)) })
    (λ _. if_gap (b == 35) _ _ (λ e. let is : b ≡ 35 = eqb-true b 35 e in record { rest = comment_is_clean [] rest refl (clean_next b rest clean (omega (arith, is))) })
    (λ _. if_gap (b == 92) _ _ (λ e. let is : b ≡ 92 = eqb-true b 92 e in joined_is_clean (b ∷ rest) _ clean (λ r f. end_is_clean rest r (clean_next b rest clean (omega (arith, is))) f))
    (λ _. ended_is_clean (b ∷ rest) _ clean (λ r f. end_is_clean (b ∷ rest) r clean f))))

-- what a token leaves
abbrev ReadIs : Read → Type 0
ReadIs (takes kind lines depth rest) = IsClean rest
ReadIs (begins style rest) = IsClean rest
ReadIs (refuses kind lines) = Unit {0}

text_at_is : (raw : Bool) (q depth : ℕ) (rest : List ℕ) (t : Read) → q < 128 → IsClean rest → TextAt raw q depth rest t → ReadIs t
text_at_is raw q depth rest t h clean x = subst (λ r. ReadIs r) (sym x.1.1) (by_spelling x.0 x.1.0)
  where
    by_spelling : (s : Spelling) → Spells (opening raw q rest).0 (opening raw q rest).1 s → ReadIs (text_read depth s)
    by_spelling (closed value lines after) r = let o = opening_is_clean raw q rest h clean in (text_is_utf8 o.quote r o.inside).1
    by_spelling unclosed r = tt
    by_spelling (refused kind lines) r = tt

quote_test : (b : ℕ) → (b == 39 || b == 34) ≡ true → b < 128
quote_test b e = grind (arith, nat_tests)

pub quoted_is : (bytes : List ℕ) (q : ℕ) (inside : List ℕ) → quoted bytes ≡ Some (q, inside) → IsClean bytes → (q < 128) × IsClean inside
quoted_is [] q inside e clean = cc
quoted_is (b ∷ rest) q inside e clean = by_test (b == 39 || b == 34) (b, rest) (q, inside) refl e refl
  where
    by_test : (t : Bool) (p r : ℕ × List ℕ) → (b == 39 || b == 34) ≡ t → (if t then Some p else None) ≡ Some r → p ≡ (b, rest) → (r.0 < 128) × IsClean r.1
    by_test true p r t e is =
        let same : p ≡ r = cc in
        let ascii = quote_test b t in
        subst (λ x. (x.0 < 128) × IsClean x.1) (sym is ∙ same) (ascii, clean_next b rest clean ascii)
    by_test false p r t e is = cc

lead_at_is : (l : Lead) (depth q : ℕ) (inside name rest : List ℕ) (t : Read) → q < 128 → IsClean inside → IsClean rest → LeadAt l depth q inside name rest t → ReadIs t
lead_at_is lead.Raw depth q inside name rest t h i r x = text_at_is true q depth inside t h i x
lead_at_is lead.Format depth q inside name rest t h i r x = subst (λ r. ReadIs r) (sym x) (opening_is_clean false q inside h i).inside
lead_at_is lead.RawFormat depth q inside name rest t h i r x = subst (λ r. ReadIs r) (sym x) (opening_is_clean true q inside h i).inside
lead_at_is lead.Refused depth q inside name rest t h i r x = subst (λ r. ReadIs r) (sym x) tt
lead_at_is lead.Name depth q inside name rest t h i r x = subst (λ r. ReadIs r) (sym x) r

quoted_at_is : (p : Option (ℕ × List ℕ)) (depth : ℕ) (name rest : List ℕ) (t : Read) → quoted rest ≡ p → IsClean rest → QuotedAt p depth name rest t → ReadIs t
quoted_at_is None depth name rest t e clean x = subst (λ r. ReadIs r) (sym x) clean
quoted_at_is (Some (q, inside)) depth name rest t e clean x =
    let s = quoted_is rest q inside e clean in lead_at_is (lead_of name) depth q inside name rest t s.0 s.1 clean x

if_read : (t : Bool) (X Y : Read) → ReadIs X → ReadIs Y → ReadIs (if t then X else Y)
if_read true X Y x y = x
if_read false X Y x y = y

integer_is : (depth : ℕ) (rest : List ℕ) (r : Option ℕ) → IsClean rest → ReadIs (integer_read depth rest r)
integer_is depth rest (Some value) clean = clean
integer_is depth rest None clean = tt

-- by the table
pub mark_is_ascii : (m : Mark) → list_all (λ b. nat_lt b 128) (mark_text m) ≡ true
mark_is_ascii OpenParen = refl
mark_is_ascii CloseParen = refl
mark_is_ascii OpenBracket = refl
mark_is_ascii CloseBracket = refl
mark_is_ascii OpenBrace = refl
mark_is_ascii CloseBrace = refl
mark_is_ascii Comma = refl
mark_is_ascii Colon = refl
mark_is_ascii Dot = refl
mark_is_ascii Semicolon = refl
mark_is_ascii Assign = refl
mark_is_ascii PlusAssign = refl
mark_is_ascii MinusAssign = refl
mark_is_ascii StarAssign = refl
mark_is_ascii Equal = refl
mark_is_ascii NotEqual = refl
mark_is_ascii Less = refl
mark_is_ascii LessEqual = refl
mark_is_ascii Greater = refl
mark_is_ascii GreaterEqual = refl
mark_is_ascii Plus = refl
mark_is_ascii Minus = refl
mark_is_ascii Star = refl
mark_is_ascii FloorDivide = refl
mark_is_ascii Percent = refl
mark_is_ascii Slash = refl
mark_is_ascii Power = refl
mark_is_ascii At = refl
mark_is_ascii Bar = refl
mark_is_ascii Ampersand = refl
mark_is_ascii Caret = refl
mark_is_ascii Tilde = refl
mark_is_ascii ShiftLeft = refl
mark_is_ascii ShiftRight = refl
mark_is_ascii Arrow = refl
mark_is_ascii Walrus = refl

prefix_is_clean : (text bytes : List ℕ) → list_all (λ b. nat_lt b 128) text ≡ true → pointwise nat_eq text (take (length text) bytes) ≡ true → IsClean bytes → IsClean (drop (length text) bytes)
prefix_is_clean [] bytes a e clean = clean
prefix_is_clean (x ∷ text) [] a e clean = cc
prefix_is_clean (x ∷ text) (b ∷ bytes) a e clean =
    let s = split_true _ _ a in
    let r = split_true _ _ e in
    prefix_is_clean text bytes s.1 r.1 (clean_next b bytes clean (below x b s.0 r.0))
  where
    split_true : (a b : Bool) → (a && b) ≡ true → (a ≡ true) × (b ≡ true)
    split_true true true e = (refl, refl)
    split_true true false e = cc
    split_true false b e = cc

    below : (x b : ℕ) → nat_lt x 128 ≡ true → nat_eq x b ≡ true → b < 128
    below x b e f = grind (arith, nat_tests)

mark_is : (depth : ℕ) (bytes : List ℕ) (r : Option Mark) → mark_at bytes ≡ r → IsClean bytes → ReadIs (mark_read depth bytes r)
mark_is depth bytes (Some m) e clean =
    prefix_is_clean (mark_text m) bytes (mark_is_ascii m) (find_passes (λ k. starts_with nat_eq bytes (mark_text k)) marks m e) clean
mark_is depth bytes None e clean = tt

pub is_quote : (b : ℕ) → class_of b ≡ Quote → b < 128
is_quote b e = by_test (b == 39 || b == 34) _ _ _ refl e
  where
    by_test : (s t u v : Bool) → (b == 39 || b == 34) ≡ s → (if s then Quote else (if t then Digit else (if u then Letter else (if v then NoText else Sign)))) ≡ Quote → b < 128
    by_test true t u v f e = quote_test b f
    by_test false true u v f e = cc
    by_test false false true v f e = cc
    by_test false false false true f e = cc
    by_test false false false false f e = cc

class_at_is : (k : Class) (depth b : ℕ) (rest : List ℕ) (t : Read) → class_of b ≡ k → IsClean (b ∷ rest) → ClassAt k depth b rest t → ReadIs t
class_at_is Quote depth b rest t e clean x = let h = is_quote b e in text_at_is false b depth rest t h (clean_next b rest clean h) x
class_at_is Digit depth b rest t e clean x =
    subst (λ r. ReadIs r) (sym x) (if_read (is_float (front_run is_name_byte (b ∷ rest)) (after_run is_name_byte (b ∷ rest))) _ _ tt (integer_is depth (after_run is_name_byte (b ∷ rest)) (number_of (front_run is_name_byte (b ∷ rest))) (name_is_clean (b ∷ rest) clean)))
class_at_is Letter depth b rest t e clean x = quoted_at_is (quoted (after_run is_name_byte (b ∷ rest))) depth (front_run is_name_byte (b ∷ rest)) (after_run is_name_byte (b ∷ rest)) t refl (name_is_clean (b ∷ rest) clean) x
class_at_is NoText depth b rest t e clean x = subst (λ r. ReadIs r) (sym x) tt
class_at_is Sign depth b rest t e clean x = subst (λ r. ReadIs r) (sym x) (if_read (is_fraction (b ∷ rest)) _ _ tt (mark_is depth (b ∷ rest) (mark_at (b ∷ rest)) refl clean))

token_at_is : (depth : ℕ) (bytes : List ℕ) (t : Read) → IsClean bytes → TokenAt depth bytes t → ReadIs t
token_at_is depth [] t clean x = absurd x
token_at_is depth (b ∷ rest) t clean x = class_at_is (class_of b) depth b rest t refl clean x

-- what a step leaves
abbrev MoveIs : Move → Type 0
MoveIs (goes t) = IsClean t.rest
MoveIs (ends tokens) = Unit {0}
MoveIs (stops line kind) = Unit {0}

if_move : (t : Bool) (X Y : Move) → MoveIs X → MoveIs Y → MoveIs (if t then X else Y)
if_move true X Y x y = x
if_move false X Y x y = y

if_state : (t : Bool) (X Y : State) → IsClean X.rest → IsClean Y.rest → IsClean (if t then X else Y).rest
if_state true X Y x y = x
if_state false X Y x y = y

finish_is : (p : Place) (s : State) → MoveIs (finish p s)
finish_is LineStart s = tt
finish_is (Inside depth) s = if_move (depth == 0) _ _ tt tt

line_end_is : (p : Place) (s : State) (after : List ℕ) → IsClean after → IsClean (line_end p s after).rest
line_end_is LineStart s after clean = blanks_are_clean after clean
line_end_is (Inside depth) s after clean = if_state (depth == 0) _ _ (blanks_are_clean after clean) clean

level_is : (l : Level) (s : State) → IsClean s.rest → MoveIs (level_move l s)
level_is (level.Closes count) s clean = clean
level_is level.Opens s clean = clean
level_is (level.Refused kind) s clean = tt

read_is : (s : State) (t : Read) → ReadIs t → MoveIs (read_move s t)
read_is s (takes kind lines depth rest) clean = clean
read_is s (begins style rest) clean = clean
read_is s (refuses kind lines) clean = tt

token_move_is : (p : Place) (s : State) (m : Move) → IsClean s.rest → TokenMove p s m → MoveIs m
token_move_is LineStart s m clean x = subst (λ n. MoveIs n) (sym x) (level_is (level_of s.levels s.indentation) s clean)
token_move_is (Inside depth) s m clean x = subst (λ n. MoveIs n) (sym x.1.1) (read_is s x.0 (token_at_is depth s.rest x.0 clean x.1.0))

gap_move_is : (g : Gap) (after : List ℕ) (s : State) (m : Move) → IsClean s.rest → IsClean after → GapMove g after s m → MoveIs m
gap_move_is Blanks after s m clean behind x = subst (λ n. MoveIs n) (sym x) behind
gap_move_is Comment after s m clean behind x = subst (λ n. MoveIs n) (sym x) behind
gap_move_is Joined after s m clean behind x = subst (λ n. MoveIs n) (sym x) behind
gap_move_is LineEnd after s m clean behind x = subst (λ n. MoveIs n) (sym x) (line_end_is s.place s after behind)
gap_move_is Nothing after s m clean behind x = token_move_is s.place s m clean x

rest_move_is : (rest : List ℕ) (s : State) (m : Move) → IsClean rest → IsClean s.rest → RestMove rest s m → MoveIs m
rest_move_is [] s m c clean x = subst (λ n. MoveIs n) (sym x) (finish_is s.place s)
rest_move_is (b ∷ bytes) s m c clean x =
    let gap = gap_is_clean (b ∷ bytes) c in gap_move_is (gap_at (b ∷ bytes)).0 (gap_at (b ∷ bytes)).1 s m clean gap.rest x

part_move_is : (text : OpenText) (s : State) (p : PartSpelling) → text.style.quote < 128 → Parts text.style s.rest p → IsClean s.rest → MoveIs (part_move text s p)
part_move_is text s (parts.ends field value lines rest) q r clean = (part_is_utf8 q r clean).1
part_move_is text s parts.unclosed q r clean = tt
part_move_is text s (parts.refused kind lines) q r clean = tt

field_token_is : (text : OpenText) (s : State) (t : Read) → ReadIs t → MoveIs (field_token_move text s t)
field_token_is text s (takes kind lines inner rest) clean = clean
field_token_is text s (begins style rest) clean = tt
field_token_is text s (refuses kind lines) clean = tt

field_class_is : (k : Class) (inner b : ℕ) (rest : List ℕ) → IsClean (b ∷ rest) → ReadIs (field_class k inner (b ∷ rest))
field_class_is Quote inner b rest clean = tt
field_class_is Digit inner b rest clean = if_read (is_float (front_run is_name_byte (b ∷ rest)) (after_run is_name_byte (b ∷ rest))) _ _ tt (integer_is inner (after_run is_name_byte (b ∷ rest)) (number_of (front_run is_name_byte (b ∷ rest))) (name_is_clean (b ∷ rest) clean))
field_class_is Letter inner b rest clean = name_is_clean (b ∷ rest) clean
field_class_is NoText inner b rest clean = tt
field_class_is Sign inner b rest clean = if_read (ends_field (b ∷ rest)) _ _ tt (if_read (is_fraction (b ∷ rest)) _ _ tt (mark_is inner (b ∷ rest) (mark_at (b ∷ rest)) refl clean))

both_true : (a b : Bool) → (a && b) ≡ true → a ≡ true
both_true true b e = refl
both_true false b e = cc

if_true_move : (t : Bool) (X Y : Move) → (t ≡ true → MoveIs X) → (t ≡ false → MoveIs Y) → MoveIs (if t then X else Y)
if_true_move true X Y x y = x refl
if_true_move false X Y x y = y refl

field_move_is : (text : OpenText) (inner : ℕ) (s : State) (bytes : List ℕ) → IsClean bytes → MoveIs (field_move text inner s bytes)
field_move_is text inner s [] clean = tt
field_move_is text inner s (b ∷ bytes) clean =
    if_true_move (is_blank b) _ _ (λ e. blanks_are_clean bytes (clean_next b bytes clean (blank_is_ascii b e)))
    (λ _. if_true_move (b == 125 && inner == 0) _ _ (λ e. let is : b ≡ 125 = eqb-true b 125 (both_true _ _ e) in clean_next b bytes clean (omega (arith, is)))
    (λ _. field_token_is text s (field_read inner (b ∷ bytes)) (field_class_is (class_of b) inner b bytes clean)))

mode_move_is : (mode : Mode) (s : State) (m : Move) → quote_of mode < 128 → IsClean s.rest → ModeMove mode s m → MoveIs m
mode_move_is Line s m q clean x = rest_move_is s.rest s m clean clean x
mode_move_is (Part text) s m q clean x = subst (λ n. MoveIs n) (sym x.1.1) (part_move_is text s x.0 q x.1.0 clean)
mode_move_is (Field text inner) s m q clean x = subst (λ n. MoveIs n) (sym x) (field_move_is text inner s s.rest clean)

pub step_is_clean : (s t : State) → Steps s (goes t) → quote_of s.mode < 128 → IsClean s.rest → IsClean t.rest
step_is_clean s t x q clean = mode_move_is s.mode s (goes t) q clean x
