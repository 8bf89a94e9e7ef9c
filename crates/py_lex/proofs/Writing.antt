-- What is read of a script is written as its tokens are, with gaps between.
use Rattle.std.proofs.Common.{◌≡◌, ℕ, zero, suc, ◌+◌, ◌-◌, Bool, true, false, ◌&&◌, ◌||◌, ◌==◌, nat_eq, List, [], ◌∷◌, ◌++◌, length, take, drop, refl, sym, ap, ◌∙◌, subst, append_assoc, add-one, Option, Some, None, inl, inr}
use Rattle.std.specs.Prelude.{if◌then◌else◌, ◌⊎◌, nat_lt, Result, Ok, Err, IfOk}
use Rattle.std.specs.Str.{is_utf8}
use Rattle.std.specs.Str.Lossy.{utf8_valid_len}
use Rattle.std.specs.List.{list_all, prefix_len, starts_with}
use Rattle.std.specs.Cmp.Lexicographic.{pointwise, same_text}
use Rattle.std.proofs.lemmas.List.{take-append-drop, append-nil}
use Rattle.std.proofs.lemmas.Bool.{eqb-true}
use Rattle.scons_base.specs.declared.limits.TheConstants.{SCRIPT_LIMIT}
use Rattle.py_token.specs.declared.keyword.Keyword.{Keyword}
use Rattle.py_token.specs.Keywords.{word_of, keywords, keyword_of}
use Rattle.py_token.specs.declared.mark.Mark.{Mark}
use Rattle.py_token.specs.Marks.{mark_text}
use Rattle.py_token.specs.declared.token.Token.{Token}
use Rattle.py_token.specs.declared.token.TokenKind.{TokenKind}
use Rattle.py_token.specs.declared.token.TokenKind.TheVariants as token
use Rattle.py_token.specs.declared.token.Tokens.{Tokens}
use Rattle.py_lex.specs.declared.fault.LexFault.{LexFault}
use Rattle.py_lex.specs.declared.gap.Gap.{Gap}
use Rattle.py_lex.specs.declared.gap.Gap.TheVariants.{Blanks, Comment, LineEnd, Joined, Nothing}
use Rattle.py_lex.specs.declared.levels.Level.{Level}
use Rattle.py_lex.specs.declared.levels.Level.TheVariants as level
use Rattle.py_lex.specs.declared.piece.Style.{Style}
use Rattle.py_lex.specs.declared.reader.Place.{Place}
use Rattle.py_lex.specs.declared.reader.Place.TheVariants.{LineStart, Inside}
use Rattle.py_lex.specs.declared.token.Class.{Class}
use Rattle.py_lex.specs.declared.token.Class.TheVariants.{Quote, Digit, Letter, NoText, Sign}
use Rattle.py_lex.specs.declared.token.Lead.{Lead}
use Rattle.py_lex.specs.declared.token.Lead.TheVariants as lead
use Rattle.py_lex.specs.Bytes.{is_blank, is_comment_byte, after_line_end}
use Rattle.scons_base.specs.Runs.{is_name_byte, front_run, after_run}
use Rattle.py_lex.specs.Gaps.{gap_at, joined_or, line_end_or}
use Rattle.py_lex.specs.Levels.{level_of}
use Rattle.py_lex.specs.Marks.{marks, mark_at}
use Rattle.py_lex.specs.Numbers.{number_of}
use Rattle.py_lex.specs.Texts.{Spelling, closed, unclosed, refused, Spells, opening}
use Rattle.py_token.specs.declared.mark.Mark.TheVariants.{CloseBrace}
use Rattle.py_lex.specs.declared.reader.OpenText.{OpenText}
use Rattle.py_lex.specs.declared.reader.Mode.{Mode}
use Rattle.py_lex.specs.declared.reader.Mode.TheVariants.{Line, Part, Field}
use Rattle.py_lex.specs.Parts.{PartSpelling, Parts}
use Rattle.py_lex.specs.Parts as parts
use Rattle.py_lex.specs.Tokens.{Read, takes, begins, refuses, begun_read, class_of, lead_of, quoted, is_r, is_b, is_f, ends_field, field_class, field_read, named, word_or, text_read, is_float, integer_read, is_fraction, mark_read, TextAt, LeadAt, QuotedAt, ClassAt, TokenAt}
use Rattle.py_lex.specs.Steps.{State, Move, goes, ends, stops, token_at, text_behind, with_text, added, dedents, next_line, line_end, level_move, finish, read_move, part_move, mode_behind, field_move, field_token_move, TokenMove, GapMove, RestMove, ModeMove, Steps, start}
use Rattle.py_lex.specs.Lexes.{Outcome, lexed, faulty, Reads, goes_on, ends_with, stops_at, ReadIf, IsRead, Agrees, Lexes, marked, without_order_mark}
use Rattle.py_lex.specs.Written.{IsLineEnd, IsGap, blanks, comment, joined, IsPrefix, IsLiteral, IsFormatPrefix, AreQuotes, IsStart, IsPart, IsWord, IsSpelling, Written, nothing, gap, spelled, joined_text, part_of_text}
use Rattle.py_lex.specs.Written as written
use Rattle.scons_base.proofs.Runs.{run_passes}
use Rattle.py_lex.proofs.Signs.{find_passes}
use Rattle.py_lex.proofs.TokenLists.{dedents_more, with_text-append}
use Rattle.py_lex.proofs.Unmarked.{written_is}
use Rattle.py_lex.proofs.Pieces.{ends_line_at, text_taken}
use Rattle.py_lex.proofs.PartPieces.{part_taken}

-- what stands in front of the rest
record Front (P : List ℕ → Type 0) (bytes rest : List ℕ) : Type 0 where
  front : List ℕ
  parts : bytes ≡ front ++ rest
  is : P front

abbrev run_front : (p : ℕ → Bool) (xs : List ℕ) → Front (λ g. list_all p g ≡ true) xs (after_run p xs)
run_front p xs = record { front = front_run p xs; parts = sym (take-append-drop (prefix_len p xs) xs); is = run_passes p xs }

end_front : (bytes rest : List ℕ) → after_line_end bytes ≡ Some rest → Front IsLineEnd bytes rest
end_front bytes rest e =
    let l = ends_line_at bytes rest e in
    record {
      front = l.first ∷ l.tail;
      parts = l.parts;
      is = subst (λ t. after_line_end (l.first ∷ t) ≡ Some []) (append-nil l.tail) (l.whatever []);
    }

-- a gap: a line end is told apart, since it may be a token
abbrev FrontGap : Gap → List ℕ → List ℕ → Type 0
FrontGap Blanks bytes rest = Front IsGap bytes rest
FrontGap Comment bytes rest = Front IsGap bytes rest
FrontGap Joined bytes rest = Front IsGap bytes rest
FrontGap LineEnd bytes rest = Front IsLineEnd bytes rest
FrontGap Nothing bytes rest = Unit {0}

record GapIs (p : Gap × List ℕ) (bytes : List ℕ) : Type 0 where
  is : FrontGap p.0 bytes p.1

if_gap : (t : Bool) (X Y : Gap × List ℕ) (bytes : List ℕ) → (t ≡ true → GapIs X bytes) → (t ≡ false → GapIs Y bytes) → GapIs (if t then X else Y) bytes
if_gap true X Y bytes x y = x refl
if_gap false X Y bytes x y = y refl

both : (a b : Bool) → a ≡ true → b ≡ true → (a && b) ≡ true
both a b e f = cc

blanks_front : (b : ℕ) (rest : List ℕ) → is_blank b ≡ true → Front IsGap (b ∷ rest) (after_run is_blank rest)
blanks_front b rest e =
    let r = run_front is_blank rest in
    record { front = b ∷ r.front; parts = ap (λ x. b ∷ x) r.parts; is = blanks (both _ _ e r.is) }

comment_front : (b : ℕ) (rest : List ℕ) → b ≡ 35 → Front IsGap (b ∷ rest) (after_run is_comment_byte rest)
comment_front b rest e =
    let r = run_front is_comment_byte rest in
    record { front = 35 ∷ r.front; parts = ap (λ x. x ∷ rest) e ∙ ap (λ x. 35 ∷ x) r.parts; is = comment r.is }

joined_front : (b : ℕ) (rest : List ℕ) (r : Option (List ℕ)) → b ≡ 92 → after_line_end rest ≡ r → GapIs (joined_or (b ∷ rest) r) (b ∷ rest)
joined_front b rest None e f = record { is = tt }
joined_front b rest (Some []) e f = record { is = tt }
joined_front b rest (Some (x ∷ more)) e f =
    let l = end_front rest (x ∷ more) f in
    record { is = record { front = 92 ∷ l.front; parts = ap (λ y. y ∷ rest) e ∙ ap (λ y. 92 ∷ y) l.parts; is = joined l.is } }

ended_front : (bytes : List ℕ) (r : Option (List ℕ)) → after_line_end bytes ≡ r → GapIs (line_end_or bytes r) bytes
ended_front bytes None e = record { is = tt }
ended_front bytes (Some rest) e = record { is = end_front bytes rest e }

gap_front : (bytes : List ℕ) → GapIs (gap_at bytes) bytes
gap_front [] = record { is = tt }
gap_front (b ∷ rest) =
    if_gap (is_blank b) _ _ (b ∷ rest) (λ e. record { is = blanks_front b rest e })
    (λ _. if_gap (b == 35) _ _ (b ∷ rest) (λ e. record { is = comment_front b rest (eqb-true b 35 e) })
    (λ _. if_gap (b == 92) _ _ (b ∷ rest) (λ e. joined_front b rest _ (eqb-true b 92 e) refl)
    (λ _. ended_front (b ∷ rest) _ refl)))

-- a token
abbrev ReadIs : Read → List ℕ → Type 0
ReadIs (takes kind lines depth rest) bytes = Front (IsSpelling kind) bytes rest
ReadIs (begins style rest) bytes = Front IsStart bytes rest × ((style.quote == 39 || style.quote == 34) ≡ true)
ReadIs (refuses kind lines) bytes = Unit {0}

-- the quotes that open a text open the same one where it is cut off
record Opens (raw : Bool) (q : ℕ) (bytes : List ℕ) (p : Style × List ℕ) (first : ℕ) (more rest : List ℕ) : Type 0 where
  inside : List ℕ
  parts : bytes ≡ inside ++ rest
  same : opening raw q inside ≡ (p.0, first ∷ more)

abbrev opened : Bool → Bool → ℕ → ℕ → ℕ → List ℕ → Style × List ℕ
opened t raw q a b rest = if t then (record { quote = q; long = true; raw = raw }, rest) else (record { quote = q; long = false; raw = raw }, a ∷ b ∷ rest)

opens : (raw : Bool) (q : ℕ) (bytes : List ℕ) (first : ℕ) (more rest : List ℕ) → (opening raw q bytes).1 ≡ (first ∷ more) ++ rest → Opens raw q bytes (opening raw q bytes) first more rest
opens raw q [] first more rest e = cc
opens raw q (a ∷ []) first [] rest e = record { inside = first ∷ []; parts = e; same = refl }
opens raw q (a ∷ []) first (m ∷ ms) rest e = cc
opens raw q (a ∷ b ∷ back) first more rest e = by_test (a == q && b == q) refl e
  where
    brief : (a == q && b == q) ≡ false → (more : List ℕ) → a ∷ b ∷ back ≡ (first ∷ more) ++ rest → Opens raw q (a ∷ b ∷ back) (opened false raw q a b back) first more rest
    brief t [] s = record { inside = first ∷ []; parts = s; same = refl }
    brief t (m ∷ ms) s =
        let one : a ≡ first = cc in
        let other : b ≡ m = cc in
        let tests : (first == q && m == q) ≡ false = ap (λ y. y == q && m == q) (sym one) ∙ ap (λ y. a == q && y == q) (sym other) ∙ t in
        record { inside = first ∷ m ∷ ms; parts = s; same = ap (λ u. opened u raw q first m ms) tests }

    by_test : (t : Bool) → (a == q && b == q) ≡ t → (opened t raw q a b back).1 ≡ (first ∷ more) ++ rest → Opens raw q (a ∷ b ∷ back) (opened t raw q a b back) first more rest
    by_test true t s = record { inside = a ∷ b ∷ first ∷ more; parts = ap (λ x. a ∷ b ∷ x) s; same = ap (λ u. opened u raw q a b (first ∷ more)) t }
    by_test false t s = brief t more s

module _ (raw : Bool) (q depth : ℕ) (rest front : List ℕ) (prefixed : IsPrefix raw front) (quotes : (q == 39 || q == 34) ≡ true) where
  spelling_front : (s : Spelling) → Spells (opening raw q rest).0 (opening raw q rest).1 s → ReadIs (text_read depth s) (front ++ q ∷ rest)
  spelling_front (closed value lines after) r =
      let t = text_taken (opening raw q rest).0 (opening raw q rest).1 value lines after r in
      let o = opens raw q rest t.first t.more after t.parts in
      record {
        front = front ++ q ∷ o.inside;
        parts = ap (λ x. front ++ q ∷ x) o.parts ∙ sym (append_assoc front (q ∷ o.inside) after);
        is = record {
          raw = raw;
          front = front;
          quote = q;
          inside = o.inside;
          lines = lines;
          parts = refl;
          prefixed = prefixed;
          quotes = quotes;
          stands_for = subst (λ p. Spells p.0 p.1 (closed value lines [])) (sym o.same) t.spells;
        };
      }
  spelling_front unclosed r = tt
  spelling_front (refused kind lines) r = tt

  text_front : (t : Read) → TextAt raw q depth rest t → ReadIs t (front ++ q ∷ rest)
  text_front t x = subst (λ r. ReadIs r (front ++ q ∷ rest)) (sym x.1.1) (spelling_front x.0 x.1.0)

if_read : (t : Bool) (X Y : Read) (bytes : List ℕ) → ReadIs X bytes → ReadIs Y bytes → ReadIs (if t then X else Y) bytes
if_read true X Y bytes x y = x
if_read false X Y bytes x y = y

integer_front : (depth : ℕ) (bytes spelling rest : List ℕ) (r : Option ℕ) → IsWord spelling → bytes ≡ spelling ++ rest → number_of spelling ≡ r → ReadIs (integer_read depth rest r) bytes
integer_front depth bytes spelling rest (Some value) w p e = record { front = spelling; parts = p; is = (w, e) }
integer_front depth bytes spelling rest None w p e = tt

name_is : (name : List ℕ) (r : Option Keyword) → IsWord name → keyword_of name ≡ r → IsSpelling (word_or name r) name
name_is name (Some k) w e = sym (same_text (word_of k) name (sym (find_passes (λ x. pointwise nat_eq (word_of x) name) keywords k e)))
name_is name None w e = (w, refl)

-- the quotes in front of an f-text
record Quotes (q : ℕ) (inside : List ℕ) (p : Style × List ℕ) : Type 0 where
  behind : List ℕ
  parts : inside ≡ behind ++ p.1
  are : AreQuotes (q ∷ behind)
  quote : (p.0.quote == 39 || p.0.quote == 34) ≡ true

opening_quotes : (raw : Bool) (q : ℕ) (inside : List ℕ) → (q == 39 || q == 34) ≡ true → Quotes q inside (opening raw q inside)
opening_quotes raw q [] is = record { behind = []; parts = refl; are = (q, is, inl refl); quote = is }
opening_quotes raw q (a ∷ []) is = record { behind = []; parts = refl; are = (q, is, inl refl); quote = is }
opening_quotes raw q (a ∷ b ∷ rest) is = by_test (a == q && b == q) refl
  where
    both_true : (s t : Bool) → (s && t) ≡ true → (s ≡ true) × (t ≡ true)
    both_true true true e = (refl, refl)
    both_true true false e = cc
    both_true false t e = cc

    by_test : (t : Bool) → (a == q && b == q) ≡ t → Quotes q (a ∷ b ∷ rest) (opened t raw q a b rest)
    by_test true e =
        let s = both_true _ _ e in
        let one : a ≡ q = eqb-true a q s.0 in
        let two : b ≡ q = eqb-true b q s.1 in
        record { behind = a ∷ b ∷ []; parts = refl; are = (q, is, inr (ap (λ x. q ∷ x ∷ b ∷ []) one ∙ ap (λ x. q ∷ q ∷ x ∷ []) two)); quote = is }
    by_test false e = record { behind = []; parts = refl; are = (q, is, inl refl); quote = is }

raw_prefix : (name : List ℕ) → lead_of name ≡ lead.Raw → IsPrefix true name
raw_prefix [] e = cc
raw_prefix (a ∷ []) e = by_test (is_r a) refl e
  where
    other : (s t : Bool) → (if s then lead.Format else (if t then lead.Refused else lead.Name)) ≡ lead.Raw → ⊥
    other true t e = cc
    other false true e = cc
    other false false e = cc

    by_test : (t : Bool) → is_r a ≡ t → (if t then lead.Raw else (if is_f a then lead.Format else (if is_b a || (a == 117 || a == 85) then lead.Refused else lead.Name))) ≡ lead.Raw → IsPrefix true (a ∷ [])
    by_test true t e = (a, t, refl)
    by_test false t e = absurd (other _ _ e)
raw_prefix (a ∷ b ∷ []) e = absurd (other _ _ e)
  where
    other : (s t : Bool) → (if s then lead.RawFormat else (if t then lead.Refused else lead.Name)) ≡ lead.Raw → ⊥
    other true t e = cc
    other false true e = cc
    other false false e = cc
raw_prefix (a ∷ b ∷ c ∷ rest) e = cc

quote_behind : (bytes : List ℕ) (q : ℕ) (inside : List ℕ) → quoted bytes ≡ Some (q, inside) → (bytes ≡ q ∷ inside) × ((q == 39 || q == 34) ≡ true)
quote_behind [] q inside e = cc
quote_behind (b ∷ rest) q inside e = by_test (b == 39 || b == 34) (b, rest) (q, inside) refl e
  where
    by_test : (t : Bool) (p r : ℕ × List ℕ) → (p.0 == 39 || p.0 == 34) ≡ t → (if t then Some p else None) ≡ Some r → (p.0 ∷ p.1 ≡ r.0 ∷ r.1) × ((r.0 == 39 || r.0 == 34) ≡ true)
    by_test true p r t e =
        let same : p ≡ r = cc in
        (ap (λ x. x.0 ∷ x.1) same, subst (λ x. (x.0 == 39 || x.0 == 34) ≡ true) same t)
    by_test false p r t e = cc

module _ (depth : ℕ) (bytes name rest : List ℕ) (word : IsWord name) (parts : bytes ≡ name ++ rest) where
  named_front : (t : Read) → t ≡ takes (named name) 0 depth rest → ReadIs t bytes
  named_front t x = subst (λ r. ReadIs r bytes) (sym x) (record { front = name; parts = parts; is = name_is name (keyword_of name) word refl })

  start_front : (raw : Bool) (q : ℕ) (inside : List ℕ) (t : Read) → IsFormatPrefix name → rest ≡ q ∷ inside → (q == 39 || q == 34) ≡ true → t ≡ begun_read raw q inside → ReadIs t bytes
  start_front raw q inside t prefixed e quotes x =
      let o = opening_quotes raw q inside quotes in
      subst (λ r. ReadIs r bytes) (sym x) (
        record {
          front = name ++ q ∷ o.behind;
          parts = parts ∙ ap (λ r. name ++ r) e ∙ ap (λ r. name ++ q ∷ r) o.parts ∙ sym (append_assoc name (q ∷ o.behind) (opening raw q inside).1);
          is = record { front = name; quotes = q ∷ o.behind; parts = refl; prefixed = prefixed; quoted = o.are };
        },
        o.quote,
      )

  lead_front : (l : Lead) (q : ℕ) (inside : List ℕ) (t : Read) → lead_of name ≡ l → rest ≡ q ∷ inside → (q == 39 || q == 34) ≡ true → LeadAt l depth q inside name rest t → ReadIs t bytes
  lead_front lead.Raw q inside t l e quotes x = subst (λ b. ReadIs t b) (sym (parts ∙ ap (λ r. name ++ r) e)) (text_front true q depth inside name (raw_prefix name l) quotes t x)
  lead_front lead.Format q inside t l e quotes x = start_front false q inside t (inl l) e quotes x
  lead_front lead.RawFormat q inside t l e quotes x = start_front true q inside t (inr l) e quotes x
  lead_front lead.Refused q inside t l e quotes x = subst (λ r. ReadIs r bytes) (sym x) tt
  lead_front lead.Name q inside t l e quotes x = named_front t x

  quoted_front : (p : Option (ℕ × List ℕ)) (t : Read) → quoted rest ≡ p → QuotedAt p depth name rest t → ReadIs t bytes
  quoted_front None t e x = named_front t x
  quoted_front (Some (q, inside)) t e x = let b = quote_behind rest q inside e in lead_front (lead_of name) q inside t refl b.0 b.1 x

mark_front : (depth : ℕ) (bytes : List ℕ) (r : Option Mark) → mark_at bytes ≡ r → ReadIs (mark_read depth bytes r) bytes
mark_front depth bytes (Some m) e =
    let n = length (mark_text m) in
    let same : mark_text m ≡ take n bytes = same_text (mark_text m) (take n bytes) (sym (find_passes (λ k. starts_with nat_eq bytes (mark_text k)) marks m e)) in
    record { front = mark_text m; parts = sym (take-append-drop n bytes) ∙ ap (λ x. x ++ drop n bytes) (sym same); is = refl }
mark_front depth bytes None e = tt

is_quote : (b : ℕ) → class_of b ≡ Quote → (b == 39 || b == 34) ≡ true
is_quote b e = by_test (b == 39 || b == 34) _ _ _ refl e
  where
    by_test : (s t u v : Bool) → (b == 39 || b == 34) ≡ s → (if s then Quote else (if t then Digit else (if u then Letter else (if v then NoText else Sign)))) ≡ Quote → (b == 39 || b == 34) ≡ true
    by_test true t u v f e = f
    by_test false true u v f e = cc
    by_test false false true v f e = cc
    by_test false false false true f e = cc
    by_test false false false false f e = cc

class_front : (k : Class) (depth b : ℕ) (rest : List ℕ) (t : Read) → class_of b ≡ k → ClassAt k depth b rest t → ReadIs t (b ∷ rest)
class_front Quote depth b rest t e x = text_front false b depth rest [] refl (is_quote b e) t x
class_front Digit depth b rest t e x =
    let n = run_front is_name_byte (b ∷ rest) in
    subst (λ r. ReadIs r (b ∷ rest)) (sym x) (if_read (is_float (front_run is_name_byte (b ∷ rest)) (after_run is_name_byte (b ∷ rest))) _ _ (b ∷ rest) tt (integer_front depth (b ∷ rest) (front_run is_name_byte (b ∷ rest)) (after_run is_name_byte (b ∷ rest)) (number_of (front_run is_name_byte (b ∷ rest))) n.is n.parts refl))
class_front Letter depth b rest t e x =
    let n = run_front is_name_byte (b ∷ rest) in
    quoted_front depth (b ∷ rest) (front_run is_name_byte (b ∷ rest)) (after_run is_name_byte (b ∷ rest)) n.is n.parts (quoted (after_run is_name_byte (b ∷ rest))) t refl x
class_front NoText depth b rest t e x = subst (λ r. ReadIs r (b ∷ rest)) (sym x) tt
class_front Sign depth b rest t e x = subst (λ r. ReadIs r (b ∷ rest)) (sym x) (if_read (is_fraction (b ∷ rest)) _ _ (b ∷ rest) tt (mark_front depth (b ∷ rest) (mark_at (b ∷ rest)) refl))

token_front : (depth : ℕ) (bytes : List ℕ) (t : Read) → TokenAt depth bytes t → ReadIs t bytes
token_front depth [] t x = absurd x
token_front depth (b ∷ rest) t x = class_front (class_of b) depth b rest t refl x

-- tokens behind tokens
silent : (tokens : List Token) (bytes : List ℕ) (t : Token) → IsSpelling t.kind [] → Written tokens bytes → Written (tokens ++ t ∷ []) bytes
silent tokens bytes t s w = subst (λ b. Written (tokens ++ t ∷ []) b) (append-nil bytes) (spelled tokens t bytes [] s w)

dedents_written : (line n : ℕ) (tokens : List Token) (bytes : List ℕ) → Written tokens bytes → Written (tokens ++ dedents line n) bytes
dedents_written line zero tokens bytes w = subst (λ ts. Written ts bytes) (sym (append-nil tokens)) w
dedents_written line (suc n) tokens bytes w =
    subst (λ ts. Written ts bytes) (dedents_more line n tokens ∙ ap (λ k. tokens ++ dedents line k) (add-one n))
    (silent (tokens ++ dedents line n) bytes (token_at line token.Dedent) refl (dedents_written line n tokens bytes w))

record Last (tokens : List Token) : Type 0 where
  front : List Token
  line : ℕ
  kind : TokenKind
  is : tokens ≡ front ++ token_at line kind ∷ []

last_of : (tokens : List Token) → (tokens ≡ []) ⊎ Last tokens
last_of [] = inl refl
last_of (t ∷ ts) = by_last (last_of ts)
  where
    by_last : (ts ≡ []) ⊎ Last ts → (t ∷ ts ≡ []) ⊎ Last (t ∷ ts)
    by_last (inl e) = inr (record { front = []; line = t.line; kind = t.kind; is = ap (λ x. t ∷ x) e })
    by_last (inr l) = inr (record { front = t ∷ l.front; line = l.line; kind = l.kind; is = ap (λ x. t ∷ x) l.is })

module _ (line : ℕ) (value spelling : List ℕ) (is : IsLiteral value spelling) (bytes : List ℕ) where
  apart : (front : List Token) (t : Token) → Written (front ++ t ∷ []) bytes → Written (front ++ t ∷ token_at line (token.Text value) ∷ []) (bytes ++ spelling)
  apart front t w = subst (λ ts. Written ts (bytes ++ spelling)) (append_assoc front (t ∷ []) (token_at line (token.Text value) ∷ [])) (spelled (front ++ t ∷ []) (token_at line (token.Text value)) bytes spelling is w)

  behind_written : (front : List Token) (l : ℕ) (kind : TokenKind) → Written (front ++ token_at l kind ∷ []) bytes → Written (front ++ text_behind kind (token_at l kind) line value) (bytes ++ spelling)
  behind_written front l (token.Text text) w = joined_text front l text value bytes spelling is w
  behind_written front l (token.Name n) w = apart front (token_at l (token.Name n)) w
  behind_written front l (token.Integer n) w = apart front (token_at l (token.Integer n)) w
  behind_written front l (token.Word k) w = apart front (token_at l (token.Word k)) w
  behind_written front l (token.Mark m) w = apart front (token_at l (token.Mark m)) w
  behind_written front l token.FStart w = apart front (token_at l token.FStart) w
  behind_written front l (token.FPart v) w = apart front (token_at l (token.FPart v)) w
  behind_written front l token.FEnd w = apart front (token_at l token.FEnd) w
  behind_written front l token.Newline w = apart front (token_at l token.Newline) w
  behind_written front l token.Indent w = apart front (token_at l token.Indent) w
  behind_written front l token.Dedent w = apart front (token_at l token.Dedent) w

  text_written : (tokens : List Token) → (tokens ≡ []) ⊎ Last tokens → Written tokens bytes → Written (with_text tokens line value) (bytes ++ spelling)
  text_written tokens (inl e) w = subst (λ ts. Written (with_text ts line value) (bytes ++ spelling)) (sym e) (spelled [] (token_at line (token.Text value)) bytes spelling is (subst (λ ts. Written ts bytes) e w))
  text_written tokens (inr l) w =
      subst (λ ts. Written (with_text ts line value) (bytes ++ spelling)) (sym l.is)
      (subst (λ ts. Written ts (bytes ++ spelling)) (sym (with_text-append l.front (token_at l.line l.kind) line value))
      (behind_written l.front l.line l.kind (subst (λ ts. Written ts bytes) l.is w)))

added_written : (kind : TokenKind) (tokens : List Token) (line : ℕ) (bytes spelling : List ℕ) → IsSpelling kind spelling → Written tokens bytes → Written (added kind tokens line) (bytes ++ spelling)
added_written (token.Text value) tokens line bytes spelling is w = text_written line value spelling is bytes tokens (last_of tokens) w
added_written (token.Name n) tokens line bytes spelling is w = spelled tokens (token_at line (token.Name n)) bytes spelling is w
added_written (token.Integer n) tokens line bytes spelling is w = spelled tokens (token_at line (token.Integer n)) bytes spelling is w
added_written (token.Word k) tokens line bytes spelling is w = spelled tokens (token_at line (token.Word k)) bytes spelling is w
added_written (token.Mark m) tokens line bytes spelling is w = spelled tokens (token_at line (token.Mark m)) bytes spelling is w
added_written token.FStart tokens line bytes spelling is w = spelled tokens (token_at line token.FStart) bytes spelling is w
added_written (token.FPart v) tokens line bytes spelling is w = absurd is
added_written token.FEnd tokens line bytes spelling is w = absurd is
added_written token.Newline tokens line bytes spelling is w = spelled tokens (token_at line token.Newline) bytes spelling is w
added_written token.Indent tokens line bytes spelling is w = spelled tokens (token_at line token.Indent) bytes spelling is w
added_written token.Dedent tokens line bytes spelling is w = spelled tokens (token_at line token.Dedent) bytes spelling is w

-- an f-text that is open has a quote
abbrev HasQuote : Mode → Type 0
HasQuote Line = Unit {0}
HasQuote (Part text) = (text.style.quote == 39 || text.style.quote == 34) ≡ true
HasQuote (Field text inner) = (text.style.quote == 39 || text.style.quote == 34) ≡ true

-- what is read so far, and what is left
record WrittenTo (script : List ℕ) (s : State) : Type 0 where
  front : List ℕ
  parts : script ≡ front ++ s.rest
  is : Written s.tokens front
  quote : HasQuote s.mode

abbrev MoveIs : List ℕ → Move → Type 0
MoveIs script (goes t) = WrittenTo script t
MoveIs script (ends tokens) = Written tokens script
MoveIs script (stops line kind) = Unit {0}

if_move : (t : Bool) (script : List ℕ) (X Y : Move) → MoveIs script X → MoveIs script Y → MoveIs script (if t then X else Y)
if_move true script X Y x y = x
if_move false script X Y x y = y

if_state : (t : Bool) (script : List ℕ) (X Y : State) → WrittenTo script X → WrittenTo script Y → WrittenTo script (if t then X else Y)
if_state true script X Y x y = x
if_state false script X Y x y = y

cut_on : (script front rest more after : List ℕ) → script ≡ front ++ rest → rest ≡ more ++ after → script ≡ (front ++ more) ++ after
cut_on script front rest more after p q = p ∙ ap (λ r. front ++ r) q ∙ sym (append_assoc front more after)

next_written : (script : List ℕ) (s : State) (after front : List ℕ) → HasQuote s.mode → script ≡ front ++ after → Written s.tokens front → WrittenTo script (next_line s after)
next_written script s after front q p w =
    let b = run_front is_blank after in
    record { front = front ++ b.front; parts = cut_on script front after b.front (after_run is_blank after) p b.parts; is = gap s.tokens front b.front (blanks b.is) w; quote = q }

module _ (script : List ℕ) (s : State) (w : WrittenTo script s) where
  gap_written : (after : List ℕ) (f : Front IsGap s.rest after) → script ≡ (w.front ++ f.front) ++ after
  gap_written after f = cut_on script w.front s.rest f.front after w.parts f.parts

  end_written : (p : Place) (after : List ℕ) → Front IsLineEnd s.rest after → WrittenTo script (line_end p s after)
  end_written LineStart after f = next_written script s after (w.front ++ f.front) w.quote (cut_on script w.front s.rest f.front after w.parts f.parts) (gap s.tokens w.front f.front (written.line_end f.is) w.is)
  end_written (Inside depth) after f =
      if_state (depth == 0) script _ _
      (next_written script (record s { tokens = s.tokens ++ token_at s.line token.Newline ∷ [] }) after (w.front ++ f.front) w.quote (cut_on script w.front s.rest f.front after w.parts f.parts) (spelled s.tokens (token_at s.line token.Newline) w.front f.front (inl f.is) w.is))
      (record { front = w.front ++ f.front; parts = cut_on script w.front s.rest f.front after w.parts f.parts; is = gap s.tokens w.front f.front (written.line_end f.is) w.is; quote = w.quote })

  level_written : (l : Level) → MoveIs script (level_move l s)
  level_written (level.Closes count) = record { front = w.front; parts = w.parts; is = dedents_written s.line count s.tokens w.front w.is; quote = w.quote }
  level_written level.Opens = record { front = w.front; parts = w.parts; is = silent s.tokens w.front (token_at s.line token.Indent) refl w.is; quote = w.quote }
  level_written (level.Refused kind) = tt

  read_written : (t : Read) → ReadIs t s.rest → MoveIs script (read_move s t)
  read_written (takes kind lines depth rest) f = record {
    front = w.front ++ f.front;
    parts = cut_on script w.front s.rest f.front rest w.parts f.parts;
    is = added_written kind s.tokens s.line w.front f.front f.is w.is;
    quote = w.quote;
  }
  read_written (begins style rest) f = record {
    front = w.front ++ f.0.front;
    parts = cut_on script w.front s.rest f.0.front rest w.parts f.0.parts;
    is = spelled s.tokens (token_at s.line token.FStart) w.front f.0.front f.0.is w.is;
    quote = f.1;
  }
  read_written (refuses kind lines) f = tt

  token_written : (p : Place) (m : Move) → TokenMove p s m → MoveIs script m
  token_written LineStart m x = subst (λ n. MoveIs script n) (sym x) (level_written (level_of s.levels s.indentation))
  token_written (Inside depth) m x = subst (λ n. MoveIs script n) (sym x.1.1) (read_written x.0 (token_front depth s.rest x.0 x.1.0))

  gap_move_written : (g : Gap) (after : List ℕ) (m : Move) → FrontGap g s.rest after → GapMove g after s m → MoveIs script m
  gap_move_written Blanks after m f x = subst (λ n. MoveIs script n) (sym x) (record { front = w.front ++ f.front; parts = gap_written after f; is = gap s.tokens w.front f.front f.is w.is; quote = w.quote })
  gap_move_written Comment after m f x = subst (λ n. MoveIs script n) (sym x) (record { front = w.front ++ f.front; parts = gap_written after f; is = gap s.tokens w.front f.front f.is w.is; quote = w.quote })
  gap_move_written Joined after m f x = subst (λ n. MoveIs script n) (sym x) (record { front = w.front ++ f.front; parts = gap_written after f; is = gap s.tokens w.front f.front f.is w.is; quote = w.quote })
  gap_move_written LineEnd after m f x = subst (λ n. MoveIs script n) (sym x) (end_written s.place after f)
  gap_move_written Nothing after m f x = token_written s.place m x

  all_read : s.rest ≡ [] → Written s.tokens script
  all_read e = subst (λ b. Written s.tokens b) (sym (w.parts ∙ ap (λ r. w.front ++ r) e ∙ append-nil w.front)) w.is

  finish_written : (p : Place) → s.rest ≡ [] → MoveIs script (finish p s)
  finish_written LineStart e = dedents_written s.line (length s.levels - 1) s.tokens script (all_read e)
  finish_written (Inside depth) e =
      if_move (depth == 0) script _ _ (dedents_written s.line (length s.levels - 1) (s.tokens ++ token_at s.line token.Newline ∷ []) script (silent s.tokens script (token_at s.line token.Newline) (inr refl) (all_read e))) tt

  rest_written : (rest : List ℕ) (m : Move) → s.rest ≡ rest → RestMove rest s m → MoveIs script m
  rest_written [] m e x = subst (λ n. MoveIs script n) (sym x) (finish_written s.place e)
  rest_written (b ∷ bytes) m e x =
      let g = gap_front (b ∷ bytes) in
      gap_move_written (gap_at (b ∷ bytes)).0 (gap_at (b ∷ bytes)).1 m (subst (λ r. FrontGap (gap_at (b ∷ bytes)).0 r (gap_at (b ∷ bytes)).1) (sym e) g.is) x

  mode_quote : (text : OpenText) (field : Bool) → HasQuote (Part text) → HasQuote (mode_behind text field)
  mode_quote text true q = q
  mode_quote text false q = tt

  part_written : (text : OpenText) (p : PartSpelling) → HasQuote (Part text) → Parts text.style s.rest p → MoveIs script (part_move text s p)
  part_written text (parts.ends field value lines rest) q r =
      let t = part_taken text.style s.rest field value lines rest r in
      record {
        front = w.front ++ t.first ∷ t.more;
        parts = cut_on script w.front s.rest (t.first ∷ t.more) rest w.parts t.parts;
        is = part_of_text s.tokens s.line (s.line + lines) field value w.front (t.first ∷ t.more) (record { style = text.style; lines = lines; quotes = q; stands_for = t.reads }) w.is;
        quote = mode_quote text field q;
      }
  part_written text parts.unclosed q r = tt
  part_written text (parts.refused kind lines) q r = tt

  -- a token of a field
  abbrev FieldReadIs : Read → Type 0
  FieldReadIs (takes kind lines inner rest) = Front (IsSpelling kind) s.rest rest
  FieldReadIs (begins style rest) = Unit {0}
  FieldReadIs (refuses kind lines) = Unit {0}

  field_token_written : (text : OpenText) (t : Read) → HasQuote (Part text) → FieldReadIs t → MoveIs script (field_token_move text s t)
  field_token_written text (takes kind lines inner rest) q f = record {
    front = w.front ++ f.front;
    parts = cut_on script w.front s.rest f.front rest w.parts f.parts;
    is = spelled s.tokens (token_at s.line kind) w.front f.front f.is w.is;
    quote = q;
  }
  field_token_written text (begins style rest) q f = tt
  field_token_written text (refuses kind lines) q f = tt

  field_read_if : (t : Bool) (X Y : Read) → FieldReadIs X → FieldReadIs Y → FieldReadIs (if t then X else Y)
  field_read_if true X Y x y = x
  field_read_if false X Y x y = y

  field_integer : (inner : ℕ) (spelling rest : List ℕ) (r : Option ℕ) → IsWord spelling → s.rest ≡ spelling ++ rest → number_of spelling ≡ r → FieldReadIs (integer_read inner rest r)
  field_integer inner spelling rest (Some value) word p e = record { front = spelling; parts = p; is = (word, e) }
  field_integer inner spelling rest None word p e = tt

  field_mark : (inner : ℕ) (r : Option Mark) → mark_at s.rest ≡ r → FieldReadIs (mark_read inner s.rest r)
  field_mark inner (Some m) e =
      let n = length (mark_text m) in
      let same : mark_text m ≡ take n s.rest = same_text (mark_text m) (take n s.rest) (sym (find_passes (λ k. starts_with nat_eq s.rest (mark_text k)) marks m e)) in
      record { front = mark_text m; parts = sym (take-append-drop n s.rest) ∙ ap (λ x. x ++ drop n s.rest) (sym same); is = refl }
  field_mark inner None e = tt

  field_class_written : (k : Class) (inner : ℕ) → FieldReadIs (field_class k inner s.rest)
  field_class_written Quote inner = tt
  field_class_written Digit inner =
      let n = run_front is_name_byte s.rest in
      field_read_if (is_float (front_run is_name_byte s.rest) (after_run is_name_byte s.rest)) _ _ tt (field_integer inner (front_run is_name_byte s.rest) (after_run is_name_byte s.rest) (number_of (front_run is_name_byte s.rest)) n.is n.parts refl)
  field_class_written Letter inner =
      let n = run_front is_name_byte s.rest in
      record { front = front_run is_name_byte s.rest; parts = n.parts; is = name_is (front_run is_name_byte s.rest) (keyword_of (front_run is_name_byte s.rest)) n.is refl }
  field_class_written NoText inner = tt
  field_class_written Sign inner = field_read_if (ends_field s.rest) _ _ tt (field_read_if (is_fraction s.rest) _ _ tt (field_mark inner (mark_at s.rest) refl))

  field_read_written : (inner b : ℕ) (bytes : List ℕ) → s.rest ≡ b ∷ bytes → FieldReadIs (field_read inner (b ∷ bytes))
  field_read_written inner b bytes e = subst (λ r. FieldReadIs (field_class (class_of b) inner r)) e (field_class_written (class_of b) inner)

  if_true_move : (t : Bool) (X Y : Move) → (t ≡ true → MoveIs script X) → (t ≡ false → MoveIs script Y) → MoveIs script (if t then X else Y)
  if_true_move true X Y x y = x refl
  if_true_move false X Y x y = y refl

  first_true : (c d : Bool) → (c && d) ≡ true → c ≡ true
  first_true true d e = refl
  first_true false d e = cc

  field_written : (text : OpenText) (inner : ℕ) (rest : List ℕ) → s.rest ≡ rest → HasQuote (Part text) → HasQuote s.mode → MoveIs script (field_move text inner s rest)
  field_written text inner [] e q q1 = tt
  field_written text inner (b ∷ bytes) e q q1 =
      if_true_move (is_blank b) _ _
      (λ t. let f = blanks_front b bytes t in record {
        front = w.front ++ f.front;
        parts = cut_on script w.front s.rest f.front (after_run is_blank bytes) w.parts (e ∙ f.parts);
        is = gap s.tokens w.front f.front f.is w.is;
        quote = q1;
      })
      (λ _. if_true_move (b == 125 && inner == 0) _ _
      (λ t. record {
        front = w.front ++ 125 ∷ [];
        parts = cut_on script w.front s.rest (125 ∷ []) bytes w.parts (e ∙ ap (λ x. x ∷ bytes) (eqb-true b 125 (first_true _ _ t)));
        is = spelled s.tokens (token_at s.line (token.Mark CloseBrace)) w.front (125 ∷ []) refl w.is;
        quote = q;
      })
      (λ _. field_token_written text (field_read inner (b ∷ bytes)) q (field_read_written inner b bytes e)))

  mode_written : (mode : Mode) (m : Move) → s.mode ≡ mode → ModeMove mode s m → MoveIs script m
  mode_written Line m e x = rest_written s.rest m refl x
  mode_written (Part text) m e x = subst (λ n. MoveIs script n) (sym x.1.1) (part_written text x.0 (subst (λ k. HasQuote k) e w.quote) x.1.0)
  mode_written (Field text inner) m e x = subst (λ n. MoveIs script n) (sym x) (field_written text inner s.rest refl (subst (λ k. HasQuote k) e w.quote) w.quote)

  step_written : (m : Move) → Steps s m → MoveIs script m
  step_written m x = mode_written s.mode m refl x

abbrev OutcomeIs : List ℕ → Outcome → Type 0
OutcomeIs script (lexed tokens) = Written tokens script
OutcomeIs script (faulty line kind) = Unit {0}

reads_written : (script : List ℕ) {s : State} {o : Outcome} → Reads s o → WrittenTo script s → OutcomeIs script o
reads_written script {s = s} (goes_on t x r) w = reads_written script r (step_written script s w (goes t) x)
reads_written script {s = s} (ends_with tokens x) w = step_written script s w (ends tokens) x
reads_written script (stops_at line kind x) w = tt

begins_written : (script : List ℕ) → WrittenTo script (start script)
begins_written script = let b = run_front is_blank script in record { front = b.front; parts = b.parts; is = gap [] [] b.front (blanks b.is) nothing; quote = tt }

-- a script that has tokens holds no mark
unmarked_written : (utf8 : Bool) (bytes front : List ℕ) (tokens : List Token) → Written tokens (if utf8 then bytes else front ++ 255 ∷ []) → Written tokens bytes
unmarked_written true bytes front tokens w = w
unmarked_written false bytes front tokens w = absurd (written_is w front refl)

read_if_written : (long : Bool) (bytes : List ℕ) (tokens : List Token) → ReadIf long bytes (lexed tokens) → Written tokens (without_order_mark bytes)
read_if_written true bytes tokens e = cc
read_if_written false bytes tokens r =
    let script = without_order_mark bytes in
    unmarked_written (is_utf8 script) script (take (utf8_valid_len script) script) tokens (reads_written (marked script) r (begins_written (marked script)))

lexes_written : (bytes : List ℕ) (tokens : List Token) → Lexes bytes tokens → Written tokens (without_order_mark bytes)
lexes_written bytes tokens l = read_if_written (nat_lt SCRIPT_LIMIT (length bytes)) bytes tokens l

pub written_at : (bytes : List ℕ) (r : Result Tokens LexFault) → Agrees r (IsRead bytes) → IfOk r (λ tokens. Written tokens (without_order_mark bytes))
written_at bytes (Ok tokens) found = lexes_written bytes tokens found
written_at bytes (Err fault) found = tt
