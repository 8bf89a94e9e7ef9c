-- What tokens are written as doesn't end with the mark of what is no text.
use Rattle.std.proofs.Common.{◌≡◌, ℕ, Bool, true, false, ◌&&◌, ◌||◌, ◌==◌, List, [], ◌∷◌, ◌++◌, refl, sym, ap, ◌∙◌, subst, arith, Option, Some, None, inl, inr}
use Rattle.std.specs.Prelude.{if◌then◌else◌, ◌⊎◌, nat_lt}
use Rattle.std.specs.List.{list_all}
use Rattle.std.specs.Char.{is_ascii_digit}
use Rattle.std.proofs.lemmas.List.{append-nil}
use Rattle.std.proofs.lemmas.Bool.{eqb-true}
use Rattle.py_token.specs.declared.keyword.Keyword.{Keyword}
use Rattle.py_token.specs.declared.keyword.Keyword.TheVariants.{FalseValue, NoneValue, TrueValue, And, As, Assert, Async, Await, Break, Class, Continue, Def, Del, Elif, Else, Except, Finally, For, From, Global, If, Import, In, Lambda, Nonlocal, Not, Or, Pass, Raise, Return, Try, While, With, Yield}
use Rattle.py_token.specs.declared.keyword.Keyword.TheVariants as keyword
use Rattle.py_token.specs.Keywords.{word_of}
use Rattle.py_token.specs.Marks.{mark_text}
use Rattle.py_token.specs.declared.token.Token.{Token}
use Rattle.py_token.specs.declared.token.TokenKind.{TokenKind}
use Rattle.py_token.specs.declared.token.TokenKind.TheVariants as token
use Rattle.py_lex.specs.declared.piece.Style.{Style}
use Rattle.py_lex.specs.declared.piece.Chars.TheVariants.{Byte}
use Rattle.py_lex.specs.declared.piece.Piece.{Piece}
use Rattle.py_lex.specs.declared.piece.Piece.TheVariants.{Closes, Unclosed, BadEscape, NotUtf8, Stands, EndsLine}
use Rattle.py_lex.specs.Bytes.{is_blank, is_comment_byte, after_line_end, after_feed}
use Rattle.scons_base.specs.Runs.{is_name_byte}
use Rattle.py_lex.specs.Texts.{piece_at, closing, kept, kept_line, kept_byte, escape, escape_line, escape_byte, hex_escape, hex_char, hex_digit, simple_escape, simple_or, plain, bytes_of, Spelling, closed, unclosed, refused, behind, Spells, opening, closes, has_no_end, has_bad_escape, is_not_utf8, stands, ends_line}
use Rattle.py_lex.specs.declared.part.PartPiece.{PartPiece}
use Rattle.py_lex.specs.declared.part.PartPiece.TheVariants.{Opens, Lone, Plain}
use Rattle.py_lex.specs.Parts.{PartSpelling, part_behind, opening_brace, closing_brace, begins_with_brace, plain_piece, part_piece_at, Parts, opens_field, closes_text as part_closes_text, part_has_no_end, has_lone_brace, part_has_bad_escape, part_is_not_utf8, part_stands, part_ends_line}
use Rattle.py_lex.specs.Parts as parts
use Rattle.py_lex.specs.Written.{IsLineEnd, IsGap, blanks, comment, joined, IsLiteral, AreQuotes, IsStart, IsPart, IsWord, IsSpelling, Written, nothing, gap, spelled, joined_text, part_of_text}
use Rattle.py_lex.specs.Written as written
use Rattle.py_lex.proofs.Pieces.{chosen, feed_at, cuts_at, text_taken}
use Rattle.py_lex.proofs.PartPieces.{part_cuts_at, part_taken}
use Rattle.py_lex.proofs.StepUtf8.{mark_is_ascii}

-- the last byte is the mark
abbrev EndsMarked : List ℕ → Type 0
EndsMarked bytes = (front : List ℕ) × (bytes ≡ front ++ 255 ∷ [])

abbrev Is : List ℕ → Type 0
Is bytes = EndsMarked bytes → ⊥

none_marked : Is []
none_marked m = by_front m.0 m.1
  where
    by_front : (front : List ℕ) → [] ≡ front ++ 255 ∷ [] → ⊥
    by_front [] e = cc
    by_front (x ∷ xs) e = cc

-- bytes behind others end as they do
nothing_left : (xs ys : List ℕ) → xs ++ ys ≡ [] → ys ≡ []
nothing_left [] ys e = e
nothing_left (x ∷ xs) ys e = cc

marked_behind : (xs ys front : List ℕ) → xs ++ ys ≡ front ++ 255 ∷ [] → (ys ≡ []) ⊎ EndsMarked ys
marked_behind [] ys front e = inr (front, e)
marked_behind (x ∷ xs) ys [] e = let tail : xs ++ ys ≡ [] = cc in inl (nothing_left xs ys tail)
marked_behind (x ∷ xs) ys (f ∷ fs) e = let tail : xs ++ ys ≡ fs ++ 255 ∷ [] = cc in marked_behind xs ys fs tail

behind_is : (xs ys : List ℕ) → (ys ≡ [] → ⊥) → Is ys → Is (xs ++ ys)
behind_is xs ys some is = λ m. elim (marked_behind xs ys m.0 m.1) [ inl n ↦ some n | inr k ↦ is k ]

both_are : (xs ys : List ℕ) → Is xs → Is ys → Is (xs ++ ys)
both_are xs ys x y = λ m. elim (marked_behind xs ys m.0 m.1) [ inl n ↦ x (m.0, sym (append-nil xs) ∙ ap (λ r. xs ++ r) (sym n) ∙ m.1) | inr k ↦ y k ]

last_is : (xs : List ℕ) (b : ℕ) → (b ≡ 255 → ⊥) → Is (xs ++ b ∷ [])
last_is xs b other = behind_is xs (b ∷ []) some (λ m. one m.0 m.1)
  where
    some : b ∷ [] ≡ [] → ⊥
    some e = cc

    one : (front : List ℕ) → b ∷ [] ≡ front ++ 255 ∷ [] → ⊥
    one [] e = let same : b ≡ 255 = cc in other same
    one (y ∷ ys) e = let tail : [] ≡ ys ++ 255 ∷ [] = cc in none_marked (ys, tail)

both_true : (a b : Bool) → (a && b) ≡ true → (a ≡ true) × (b ≡ true)
both_true true true e = (refl, refl)
both_true true false e = cc
both_true false b e = cc

all_last : (p : ℕ → Bool) (front : List ℕ) → list_all p (front ++ 255 ∷ []) ≡ true → p 255 ≡ true
all_last p [] e = (both_true (p 255) true e).0
all_last p (x ∷ xs) e = all_last p xs (both_true (p x) _ e).1

all_are : (p : ℕ → Bool) → p 255 ≡ false → (bytes : List ℕ) → list_all p bytes ≡ true → Is bytes
all_are p fails bytes a = λ m. apart (p 255) (all_last p m.0 (subst (λ b. list_all p b ≡ true) m.1 a)) fails
  where
    apart : (b : Bool) → b ≡ true → b ≡ false → ⊥
    apart true e f = cc
    apart false e f = cc

line_end_is : (bytes : List ℕ) → after_line_end bytes ≡ Some [] → Is bytes
line_end_is [] e = cc
line_end_is (b ∷ more) e = by_tests (b == 10) (b == 13) refl refl e
  where
    by_tests : (s t : Bool) → (b == 10) ≡ s → (b == 13) ≡ t → (if s then Some more else (if t then after_feed more else None)) ≡ Some [] → Is (b ∷ more)
    by_tests true t x y e =
        let same : more ≡ [] = cc in
        subst (λ l. Is l) (sym (ap (λ n. n ∷ more) (eqb-true b 10 x) ∙ ap (λ n. 10 ∷ n) same)) (all_are (λ n. nat_lt n 128) refl (10 ∷ []) refl)
    by_tests false true x y e =
        subst (λ l. Is l) (sym (ap (λ n. n ∷ more) (eqb-true b 13 y) ∙ ap (λ n. 13 ∷ n) (feed_at more [] e))) (all_are (λ n. nat_lt n 128) refl (13 ∷ 10 ∷ []) refl)
    by_tests false false x y e = cc

gap_is : {bytes : List ℕ} → IsGap bytes → Is bytes
gap_is (blanks {bytes = bytes} a) = all_are is_blank refl bytes a
gap_is (comment {bytes = bytes} a) = both_are (35 ∷ []) bytes (last_is [] 35 thirty_five) (all_are is_comment_byte refl bytes a)
  where
    thirty_five : ◌≡◌ {A = ℕ} 35 255 → ⊥
    thirty_five e = omega (arith, e)
gap_is (written.line_end {bytes = bytes} e) = line_end_is bytes e
gap_is (joined {bytes = bytes} e) = both_are (92 ∷ []) bytes (last_is [] 92 ninety_two) (line_end_is bytes e)
  where
    ninety_two : ◌≡◌ {A = ℕ} 92 255 → ⊥
    ninety_two e = omega (arith, e)

-- a piece of a text that isn't its end
abbrev IsOpen : Piece → Type 0
IsOpen Closes = ⊥
IsOpen Unclosed = Unit {0}
IsOpen BadEscape = Unit {0}
IsOpen NotUtf8 = Unit {0}
IsOpen (Stands c) = Unit {0}
IsOpen (EndsLine c) = Unit {0}

record Open (p : Piece × List ℕ) : Type 0 where
  is : IsOpen p.0

if_open : (t : Bool) (X Y : Piece × List ℕ) → Open X → Open Y → Open (if t then X else Y)
if_open true X Y x y = x
if_open false X Y x y = y

kept_byte_open : (bytes : List ℕ) → Open (kept_byte bytes)
kept_byte_open [] = record { is = tt }
kept_byte_open (b ∷ rest) = if_open (b == 255) _ _ (record { is = tt }) (record { is = tt })

kept_open : (bytes : List ℕ) (r : Option (List ℕ)) → Open (kept_line bytes r)
kept_open bytes None = kept_byte_open bytes
kept_open bytes (Some rest) = record { is = tt }

hex_char_open : (m n : Option ℕ) (bytes rest : List ℕ) → Open (hex_char m n bytes rest)
hex_char_open (Some high) (Some low) bytes rest = record { is = tt }
hex_char_open (Some high) None bytes rest = record { is = tt }
hex_char_open None n bytes rest = record { is = tt }

hex_open : (bytes : List ℕ) → Open (hex_escape bytes)
hex_open [] = record { is = tt }
hex_open (a ∷ []) = record { is = tt }
hex_open (a ∷ b ∷ rest) = hex_char_open (hex_digit a) (hex_digit b) (a ∷ b ∷ rest) rest

simple_open : (bytes rest : List ℕ) (r : Option ℕ) → Open (simple_or bytes rest r)
simple_open bytes rest None = record { is = tt }
simple_open bytes rest (Some c) = record { is = tt }

escape_byte_open : (bytes : List ℕ) → Open (escape_byte bytes)
escape_byte_open [] = record { is = tt }
escape_byte_open (e ∷ rest) =
    if_open (e == 120) _ _ (hex_open rest)
    (if_open (is_ascii_digit e || (e == 117 || (e == 85 || e == 78))) _ _ (record { is = tt }) (simple_open (e ∷ rest) rest (simple_escape e)))

escape_open : (bytes : List ℕ) (r : Option (List ℕ)) → Open (escape_line bytes r)
escape_open bytes None = escape_byte_open bytes
escape_open bytes (Some rest) = record { is = tt }

plain_open : (style : Style) (b : ℕ) (rest : List ℕ) (r : Option (List ℕ)) → Open (plain style b rest r)
plain_open style b rest None = record { is = tt }
plain_open style b rest (Some next) = if_open style.long _ _ (record { is = tt }) (record { is = tt })

-- what stands at a byte that isn't the quote
abbrev otherwise : Style → ℕ → List ℕ → Piece × List ℕ
otherwise style b rest =
    if b == 92 then (if style.raw then kept rest else escape rest)
    else (if b == 255 then (NotUtf8, b ∷ rest) else plain style b rest (after_line_end (b ∷ rest)))

otherwise_open : (style : Style) (b : ℕ) (rest : List ℕ) → Open (otherwise style b rest)
otherwise_open style b rest =
    if_open (b == 92) _ _ (if_open style.raw _ _ (kept_open rest (after_line_end rest)) (escape_open rest (after_line_end rest)))
    (if_open (b == 255) _ _ (record { is = tt }) (plain_open style b rest (after_line_end (b ∷ rest))))

open_goes_on : (p : Piece × List ℕ) (rest : List ℕ) → Open p → p ≡ (Closes, rest) → ⊥
open_goes_on p rest o e = subst (λ x. IsOpen x.0) e o.is

module _ (style : Style) (other : style.quote ≡ 255 → ⊥) where
  is_other : (b : ℕ) → b ≡ style.quote → b ≡ 255 → ⊥
  is_other b e f = other (sym e ∙ f)

  one_behind : (b a : ℕ) (l : Bool) → chosen l (Stands (Byte style.quote), a ∷ []) (Closes, a ∷ []) ≡ (Closes, []) → Is (b ∷ a ∷ [])
  one_behind b a true e = let k : Stands (Byte style.quote) ≡ Closes = ap (λ p. p.0) e in cc
  one_behind b a false e = let k : a ∷ [] ≡ [] = ap (λ p. p.1) e in cc

  two_behind : (b a c : ℕ) (rest : List ℕ) (l t : Bool) → (a == style.quote && c == style.quote) ≡ t → chosen l (chosen t (Closes, rest) (Stands (Byte style.quote), a ∷ c ∷ rest)) (Closes, a ∷ c ∷ rest) ≡ (Closes, []) → Is (b ∷ a ∷ c ∷ rest)
  two_behind b a c rest true true t e =
      let none : rest ≡ [] = ap (λ p. p.1) e in
      let last : c ≡ style.quote = eqb-true c style.quote (both_true _ _ t).1 in
      subst (λ r. Is (b ∷ a ∷ c ∷ r)) (sym none) (last_is (b ∷ a ∷ []) c (is_other c last))
  two_behind b a c rest true false t e = let k : Stands (Byte style.quote) ≡ Closes = ap (λ p. p.0) e in cc
  two_behind b a c rest false u t e = let k : a ∷ c ∷ rest ≡ [] = ap (λ p. p.1) e in cc

  quote_closes : (b : ℕ) (rest : List ℕ) → b ≡ style.quote → closing style rest ≡ (Closes, []) → Is (b ∷ rest)
  quote_closes b [] is e = last_is [] b (is_other b is)
  quote_closes b (a ∷ []) is e = one_behind b a style.long e
  quote_closes b (a ∷ c ∷ rest) is e = two_behind b a c rest style.long (a == style.quote && c == style.quote) refl e

  closes_is : (bytes : List ℕ) → piece_at style bytes ≡ (Closes, []) → Is bytes
  closes_is [] e = let k : Unclosed ≡ Closes = ap (λ p. p.0) e in cc
  closes_is (b ∷ rest) e = by_test (b == style.quote) refl e
    where
      by_test : (t : Bool) → (b == style.quote) ≡ t → (if t then closing style rest else otherwise style b rest) ≡ (Closes, []) → Is (b ∷ rest)
      by_test true t e = quote_closes b rest (eqb-true b style.quote t) e
      by_test false t e = absurd (open_goes_on (otherwise style b rest) [] (otherwise_open style b rest) e)

-- a text that is all of the bytes doesn't end with the mark
abbrev TextIs : Spelling → List ℕ → Type 0
TextIs (closed value lines []) bytes = Is bytes
TextIs (closed value lines (x ∷ xs)) bytes = Unit {0}
TextIs unclosed bytes = Unit {0}
TextIs (refused kind lines) bytes = Unit {0}

never_nothing : (style : Style) (value : List ℕ) (lines : ℕ) (rest : List ℕ) → Spells style [] (closed value lines rest) → ⊥
never_nothing style value lines rest s = let t = text_taken style [] value lines rest s in let p = t.parts in cc

behind_text : (style : Style) (bytes used rest chars : List ℕ) (n : ℕ) (s : Spelling) → bytes ≡ used ++ rest → Spells style rest s → TextIs s rest → TextIs (behind chars n s) bytes
behind_text style bytes used rest chars n (closed value lines []) p s is =
    subst (λ b. Is b) (sym p) (behind_is used rest (λ e. never_nothing style value lines [] (subst (λ r. Spells style r (closed value lines [])) e s)) is)
behind_text style bytes used rest chars n (closed value lines (x ∷ xs)) p s is = tt
behind_text style bytes used rest chars n unclosed p s is = tt
behind_text style bytes used rest chars n (refused kind lines) p s is = tt

closes_text : (style : Style) → (style.quote ≡ 255 → ⊥) → (bytes rest : List ℕ) → piece_at style bytes ≡ (Closes, rest) → TextIs (closed [] 0 rest) bytes
closes_text style other bytes [] e = closes_is style other bytes e
closes_text style other bytes (x ∷ xs) e = tt

text_is : {style : Style} {bytes : List ℕ} {s : Spelling} → (style.quote ≡ 255 → ⊥) → Spells style bytes s → TextIs s bytes
text_is {style = style} {bytes = bytes} other (closes rest e) = closes_text style other bytes rest e
text_is other (has_no_end rest e) = tt
text_is other (has_bad_escape rest e) = tt
text_is other (is_not_utf8 rest e) = tt
text_is {style = style} {bytes = bytes} other (stands {s = s} c rest e r) = let k = cuts_at style bytes (Stands c) rest e in behind_text style bytes k.used rest (bytes_of c) 0 s k.parts r (text_is other r)
text_is {style = style} {bytes = bytes} other (ends_line {s = s} c rest e r) = let k = cuts_at style bytes (EndsLine c) rest e in behind_text style bytes k.used rest (bytes_of c) 1 s k.parts r (text_is other r)

-- a literal ends with its quotes
module _ (raw : Bool) (q : ℕ) (other : q ≡ 255 → ⊥) (value : List ℕ) (lines : ℕ) where
  abbrev style_of : Bool → Style
  style_of long = record { quote = q; long = long; raw = raw }

  abbrev opened : Bool → ℕ → ℕ → List ℕ → Style × List ℕ
  opened t a b rest = if t then (style_of true, rest) else (style_of false, a ∷ b ∷ rest)

  behind_quotes : (front rest : List ℕ) (long : Bool) → Spells (style_of long) rest (closed value lines []) → Is (front ++ rest)
  behind_quotes front rest long s = behind_is front rest (λ e. never_nothing (style_of long) value lines [] (subst (λ r. Spells (style_of long) r (closed value lines [])) e s)) (text_is other s)

  inside_is : (inside : List ℕ) → Spells (opening raw q inside).0 (opening raw q inside).1 (closed value lines []) → Is (q ∷ inside)
  inside_is [] s = behind_quotes (q ∷ []) [] false s
  inside_is (a ∷ []) s = behind_quotes (q ∷ []) (a ∷ []) false s
  inside_is (a ∷ b ∷ rest) s = by_test (a == q && b == q) s
    where
      by_test : (t : Bool) → Spells (opened t a b rest).0 (opened t a b rest).1 (closed value lines []) → Is (q ∷ a ∷ b ∷ rest)
      by_test true s = behind_quotes (q ∷ a ∷ b ∷ []) rest true s
      by_test false s = behind_quotes (q ∷ []) (a ∷ b ∷ rest) false s

literal_is : (value bytes : List ℕ) → IsLiteral value bytes → Is bytes
literal_is value bytes l =
    subst (λ b. Is b) (sym l.parts) (behind_is l.front (l.quote ∷ l.inside) some (inside_is l.raw l.quote other value l.lines l.inside l.stands_for))
  where
    some : l.quote ∷ l.inside ≡ [] → ⊥
    some e = cc

    other : l.quote ≡ 255 → ⊥
    other e = let k : (255 == 39 || 255 == 34) ≡ true = subst (λ q. (q == 39 || q == 34) ≡ true) e l.quotes in cc

-- a part that is all of the bytes doesn't end with the mark
abbrev PartIs : PartSpelling → List ℕ → Type 0
PartIs (parts.ends field value lines []) bytes = Is bytes
PartIs (parts.ends field value lines (x ∷ xs)) bytes = Unit {0}
PartIs parts.unclosed bytes = Unit {0}
PartIs (parts.refused kind lines) bytes = Unit {0}

no_part_is_nothing : (style : Style) (field : Bool) (value : List ℕ) (lines : ℕ) (rest : List ℕ) → Parts style [] (parts.ends field value lines rest) → ⊥
no_part_is_nothing style field value lines rest s = let t = part_taken style [] field value lines rest s in let p = t.parts in cc

behind_part : (style : Style) (bytes used rest chars : List ℕ) (n : ℕ) (s : PartSpelling) → bytes ≡ used ++ rest → Parts style rest s → PartIs s rest → PartIs (part_behind chars n s) bytes
behind_part style bytes used rest chars n (parts.ends field value lines []) p s is =
    subst (λ b. Is b) (sym p) (behind_is used rest (λ e. no_part_is_nothing style field value lines [] (subst (λ r. Parts style r (parts.ends field value lines [])) e s)) is)
behind_part style bytes used rest chars n (parts.ends field value lines (x ∷ xs)) p s is = tt
behind_part style bytes used rest chars n parts.unclosed p s is = tt
behind_part style bytes used rest chars n (parts.refused kind lines) p s is = tt

-- what isn't plain in an f-text is a brace
abbrev IsBrace : PartPiece → Type 0
IsBrace Opens = Unit {0}
IsBrace Lone = Unit {0}
IsBrace (Plain Closes) = ⊥
IsBrace (Plain other) = Unit {0}

record Brace (p : PartPiece × List ℕ) : Type 0 where
  is : IsBrace p.0

if_brace : (t : Bool) (X Y : PartPiece × List ℕ) → Brace X → Brace Y → Brace (if t then X else Y)
if_brace true X Y x y = x
if_brace false X Y x y = y

opening_is : (rest : List ℕ) → Brace (opening_brace rest)
opening_is [] = record { is = tt }
opening_is (c ∷ rest) = if_brace (c == 123) _ _ (record { is = tt }) (record { is = tt })

closing_is : (bytes rest : List ℕ) → Brace (closing_brace bytes rest)
closing_is bytes [] = record { is = tt }
closing_is bytes (c ∷ rest) = if_brace (c == 125) _ _ (record { is = tt }) (record { is = tt })

no_end : (p : PartPiece × List ℕ) (rest : List ℕ) → Brace p → p ≡ (Plain Closes, rest) → ⊥
no_end p rest b e = subst (λ x. IsBrace x.0) e b.is

plain_ends : (p : Piece × List ℕ) (rest : List ℕ) → plain_piece p ≡ (Plain Closes, rest) → p ≡ (Closes, rest)
plain_ends (Closes, r) rest e = let same : r ≡ rest = ap (λ p. p.1) e in ap (λ x. (Closes, x)) same
plain_ends (Unclosed, r) rest e = let k : Plain Unclosed ≡ Plain Closes = ap (λ p. p.0) e in absurd cc
plain_ends (BadEscape, r) rest e = let k : Plain BadEscape ≡ Plain Closes = ap (λ p. p.0) e in absurd cc
plain_ends (NotUtf8, r) rest e = let k : Plain NotUtf8 ≡ Plain Closes = ap (λ p. p.0) e in absurd cc
plain_ends (Stands c, r) rest e = let k : Plain (Stands c) ≡ Plain Closes = ap (λ p. p.0) e in absurd cc
plain_ends (EndsLine c, r) rest e = let k : Plain (EndsLine c) ≡ Plain Closes = ap (λ p. p.0) e in absurd cc

module _ (style : Style) where
  part_closes : (bytes rest : List ℕ) → part_piece_at style bytes ≡ (Plain Closes, rest) → piece_at style bytes ≡ (Closes, rest)
  part_closes [] rest e = let k : Plain Unclosed ≡ Plain Closes = ap (λ p. p.0) e in absurd cc
  part_closes (b ∷ more) rest e = by_tests (b == 123) (b == 125) (b == 92 && (style.raw && begins_with_brace more)) e
    where
      by_tests : (s t u : Bool) → (if s then opening_brace more else (if t then closing_brace (b ∷ more) more else (if u then (Plain (Stands (Byte 92)), more) else plain_piece (piece_at style (b ∷ more))))) ≡ (Plain Closes, rest) → piece_at style (b ∷ more) ≡ (Closes, rest)
      by_tests true t u e = absurd (no_end (opening_brace more) rest (opening_is more) e)
      by_tests false true u e = absurd (no_end (closing_brace (b ∷ more) more) rest (closing_is (b ∷ more) more) e)
      by_tests false false true e = absurd (no_end (Plain (Stands (Byte 92)), more) rest (record { is = tt }) e)
      by_tests false false false e = plain_ends (piece_at style (b ∷ more)) rest e

  -- the brace of a field
  field_opens : (bytes : List ℕ) → part_piece_at style bytes ≡ (Opens, []) → Is bytes
  field_opens [] e = let k : Plain Unclosed ≡ Opens = ap (λ p. p.0) e in absurd cc
  field_opens (b ∷ more) e = by_tests (b == 123) (b == 125) (b == 92 && (style.raw && begins_with_brace more)) refl e
    where
      alone : (rest : List ℕ) → opening_brace rest ≡ (Opens, []) → rest ≡ []
      alone [] e = refl
      alone (c ∷ rest) e = by_test (c == 123) e
        where
          by_test : (t : Bool) → ◌≡◌ {A = PartPiece × List ℕ} (if t then (Plain (Stands (Byte 123)), rest) else (Opens, c ∷ rest)) (Opens, []) → c ∷ rest ≡ []
          by_test true e = let k : Plain (Stands (Byte 123)) ≡ Opens = ap (λ p. p.0) e in absurd cc
          by_test false e = ap (λ p. p.1) e

      by_tests : (s t u : Bool) → (b == 123) ≡ s → (if s then opening_brace more else (if t then closing_brace (b ∷ more) more else (if u then (Plain (Stands (Byte 92)), more) else plain_piece (piece_at style (b ∷ more))))) ≡ (Opens, []) → Is (b ∷ more)
      by_tests true t u f e = let is : b ≡ 123 = eqb-true b 123 f in subst (λ r. Is (b ∷ r)) (sym (alone more e)) (last_is [] b (λ g. omega (arith, is, g)))
      by_tests false true u f e = absurd (never_lone more e)
        where
          never_lone : (rest : List ℕ) → closing_brace (b ∷ more) rest ≡ (Opens, []) → ⊥
          never_lone [] e = let k : Lone ≡ Opens = ap (λ p. p.0) e in absurd cc
          never_lone (c ∷ rest) e = by_test (c == 125) e
            where
              by_test : (t : Bool) → ◌≡◌ {A = PartPiece × List ℕ} (if t then (Plain (Stands (Byte 125)), rest) else (Lone, b ∷ more)) (Opens, []) → ⊥
              by_test true e = let k : Plain (Stands (Byte 125)) ≡ Opens = ap (λ p. p.0) e in absurd cc
              by_test false e = let k : Lone ≡ Opens = ap (λ p. p.0) e in absurd cc
      by_tests false false true f e = let k : Plain (Stands (Byte 92)) ≡ Opens = ap (λ p. p.0) e in absurd cc
      by_tests false false false f e = let k : Plain (piece_at style (b ∷ more)).0 ≡ Opens = ap (λ p. p.0) e in absurd cc

field_at : (style : Style) (bytes rest : List ℕ) → part_piece_at style bytes ≡ (Opens, rest) → PartIs (parts.ends true [] 0 rest) bytes
field_at style bytes [] e = field_opens style bytes e
field_at style bytes (x ∷ xs) e = tt

end_at : (style : Style) → (style.quote ≡ 255 → ⊥) → (bytes rest : List ℕ) → part_piece_at style bytes ≡ (Plain Closes, rest) → PartIs (parts.ends false [] 0 rest) bytes
end_at style other bytes [] e = closes_is style other bytes (part_closes style bytes [] e)
end_at style other bytes (x ∷ xs) e = tt

reads_is : {style : Style} {bytes : List ℕ} {s : PartSpelling} → (style.quote ≡ 255 → ⊥) → Parts style bytes s → PartIs s bytes
reads_is {style = style} {bytes = bytes} other (opens_field rest e) = field_at style bytes rest e
reads_is {style = style} {bytes = bytes} other (part_closes_text rest e) = end_at style other bytes rest e
reads_is other (part_has_no_end rest e) = tt
reads_is other (has_lone_brace rest e) = tt
reads_is other (part_has_bad_escape rest e) = tt
reads_is other (part_is_not_utf8 rest e) = tt
reads_is {style = style} {bytes = bytes} other (part_stands {s = s} c rest e r) = let k = part_cuts_at style bytes (Plain (Stands c)) rest e in behind_part style bytes k.used rest (bytes_of c) 0 s k.parts r (reads_is other r)
reads_is {style = style} {bytes = bytes} other (part_ends_line {s = s} c rest e r) = let k = part_cuts_at style bytes (Plain (EndsLine c)) rest e in behind_part style bytes k.used rest (bytes_of c) 1 s k.parts r (reads_is other r)

no_mark : (q : ℕ) → (q == 39 || q == 34) ≡ true → q ≡ 255 → ⊥
no_mark q is e = let k : (255 == 39 || 255 == 34) ≡ true = subst (λ x. (x == 39 || x == 34) ≡ true) e is in cc

part_is : (field : Bool) (value bytes : List ℕ) → IsPart field value bytes → Is bytes
part_is field value bytes p = reads_is (no_mark p.style.quote p.quotes) p.stands_for

-- quotes alone
quotes_are : (bytes : List ℕ) → AreQuotes bytes → (bytes ≡ [] → ⊥) × Is bytes
quotes_are bytes (q, is, inl e) = (some, subst (λ b. Is b) (sym e) (last_is [] q (no_mark q is)))
  where
    some : bytes ≡ [] → ⊥
    some f = let k : q ∷ [] ≡ [] = sym e ∙ f in cc
quotes_are bytes (q, is, inr e) = (some, subst (λ b. Is b) (sym e) (last_is (q ∷ q ∷ []) q (no_mark q is)))
  where
    some : bytes ≡ [] → ⊥
    some f = let k : q ∷ q ∷ q ∷ [] ≡ [] = sym e ∙ f in cc

start_is : (bytes : List ℕ) → IsStart bytes → Is bytes
start_is bytes s = let q = quotes_are s.quotes s.quoted in subst (λ b. Is b) (sym s.parts) (behind_is s.front s.quotes q.0 q.1)

-- by the table
word_is : (k : Keyword) → list_all is_name_byte (word_of k) ≡ true
word_is FalseValue = refl
word_is NoneValue = refl
word_is TrueValue = refl
word_is And = refl
word_is As = refl
word_is Assert = refl
word_is Async = refl
word_is Await = refl
word_is Break = refl
word_is Class = refl
word_is Continue = refl
word_is Def = refl
word_is Del = refl
word_is Elif = refl
word_is Else = refl
word_is Except = refl
word_is Finally = refl
word_is For = refl
word_is From = refl
word_is Global = refl
word_is If = refl
word_is Import = refl
word_is In = refl
word_is keyword.Is = refl
word_is Lambda = refl
word_is Nonlocal = refl
word_is Not = refl
word_is Or = refl
word_is Pass = refl
word_is Raise = refl
word_is Return = refl
word_is Try = refl
word_is While = refl
word_is With = refl
word_is Yield = refl

none : (bytes : List ℕ) → bytes ≡ [] → Is bytes
none bytes e = subst (λ b. Is b) (sym e) none_marked

spelling_is : (k : TokenKind) (bytes : List ℕ) → IsSpelling k bytes → Is bytes
spelling_is (token.Name name) bytes s = all_are is_name_byte refl bytes s.0
spelling_is (token.Integer value) bytes s = all_are is_name_byte refl bytes s.0
spelling_is (token.Text value) bytes s = literal_is value bytes s
spelling_is (token.Word k) bytes s = subst (λ b. Is b) (sym s) (all_are is_name_byte refl (word_of k) (word_is k))
spelling_is (token.Mark m) bytes s = subst (λ b. Is b) (sym s) (all_are (λ b. nat_lt b 128) refl (mark_text m) (mark_is_ascii m))
spelling_is token.FStart bytes s = start_is bytes s
spelling_is (token.FPart value) bytes s = absurd s
spelling_is token.FEnd bytes s = absurd s
spelling_is token.Newline bytes s = elim s [ inl e ↦ line_end_is bytes e | inr e ↦ none bytes e ]
spelling_is token.Indent bytes s = none bytes s
spelling_is token.Dedent bytes s = none bytes s

pub written_is : {tokens : List Token} {bytes : List ℕ} → Written tokens bytes → (front : List ℕ) → bytes ≡ front ++ 255 ∷ [] → ⊥
written_is w front e = is w (front, e)
  where
    is : {tokens : List Token} {bytes : List ℕ} → Written tokens bytes → Is bytes
    is nothing = none_marked
    is (gap tokens bytes between g w) = both_are bytes between (is w) (gap_is g)
    is (spelled tokens t bytes spelling s w) = both_are bytes spelling (is w) (spelling_is t.kind spelling s)
    is (joined_text tokens line front value bytes spelling l w) = both_are bytes spelling (is w) (literal_is value spelling l)
    is (part_of_text tokens line after field value bytes spelling p w) = both_are bytes spelling (is w) (part_is field value spelling p)
