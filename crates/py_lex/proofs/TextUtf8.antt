-- What a text stands for is UTF-8.
use Rattle.std.proofs.Common.{◌≡◌, ℕ, ◌+◌, ◌*◌, ◌<◌, Bool, true, false, not, ◌&&◌, ◌||◌, ◌==◌, List, [], ◌∷◌, ◌++◌, refl, sym, ap, ◌∙◌, subst, arith, append_assoc, Option, Some, None}
use Rattle.std.specs.Prelude.{if◌then◌else◌}
use Rattle.std.specs.List.{list_all}
use Rattle.std.specs.Char.{IsScalar, is_digit, digit_value, is_ascii_digit}
use Rattle.std.specs.Str.{IsUtf8}
use Rattle.std.proofs.lemmas.List.{append-nil}
use Rattle.std.proofs.lemmas.List.Folds.{list_all-append}
use Rattle.std.proofs.lemmas.Bool.{eqb-true}
use Rattle.std.proofs.lemmas.Bool.Decides.{nat_tests}
use Rattle.std.proofs.lemmas.Str.{IsUtf8-append, IsUtf8-nil, IsUtf8-encode}
use Rattle.py_lex.specs.declared.piece.Style.{Style}
use Rattle.py_lex.specs.declared.piece.Chars.{Chars}
use Rattle.py_lex.specs.declared.piece.Chars.TheVariants.{Nothing, Byte, Kept, Char}
use Rattle.py_lex.specs.declared.piece.Piece.{Piece}
use Rattle.py_lex.specs.declared.piece.Piece.TheVariants.{Closes, Unclosed, BadEscape, NotUtf8, Stands, EndsLine}
use Rattle.py_lex.specs.Bytes.{after_line_end, after_feed}
use Rattle.py_lex.specs.Texts.{piece_at, closing, kept, kept_line, kept_byte, escape, escape_line, escape_byte, hex_escape, hex_char, hex_digit, simple_escape, simple_or, plain, bytes_of, Spelling, closed, unclosed, refused, behind, Spells, opening, closes, has_no_end, has_bad_escape, is_not_utf8, stands, ends_line}
use Rattle.py_lex.specs.Utf8.{IsClean}
use Rattle.py_lex.proofs.Clean.{is_no_mark, split, clean_next, ascii_byte}

-- a piece stands for its own bytes, or for other text behind an ASCII byte
pub data Covers (bytes : List ℕ) (c : Chars) (rest : List ℕ) : Type 0 where
  same : bytes ≡ bytes_of c ++ rest → list_all is_no_mark (bytes_of c) ≡ true → Covers bytes c rest
  other : (b : ℕ) (more : List ℕ) → bytes ≡ b ∷ more → b < 128 → (IsClean more → IsClean rest) → IsUtf8 (bytes_of c) → Covers bytes c rest

pub record CoversEnd (bytes rest : List ℕ) : Type 0 where
  pub first : ℕ
  pub more : List ℕ
  pub parts : bytes ≡ first ∷ more
  pub ascii : first < 128
  pub goes_on : IsClean more → IsClean rest

abbrev pub PieceCovers : Piece → List ℕ → List ℕ → Type 0
PieceCovers Closes bytes rest = CoversEnd bytes rest
PieceCovers (Stands c) bytes rest = Covers bytes c rest
PieceCovers (EndsLine c) bytes rest = Covers bytes c rest
PieceCovers Unclosed bytes rest = Unit {0}
PieceCovers BadEscape bytes rest = Unit {0}
PieceCovers NotUtf8 bytes rest = Unit {0}

pub record PieceIs (p : Piece × List ℕ) (bytes : List ℕ) : Type 0 where
  pub covers : PieceCovers p.0 bytes p.1

if_piece : (t : Bool) (X Y : Piece × List ℕ) (bytes : List ℕ) → (t ≡ true → PieceIs X bytes) → (t ≡ false → PieceIs Y bytes) → PieceIs (if t then X else Y) bytes
if_piece true X Y bytes x y = x refl
if_piece false X Y bytes x y = y refl

pub either : (a b : Bool) → (a && b) ≡ true → (a ≡ true) × (b ≡ true)
either true true e = (refl, refl)
either true false e = cc
either false b e = cc

-- what follows a line end
feed_clean : (bytes rest : List ℕ) → after_feed bytes ≡ Some rest → IsClean bytes → IsClean rest
feed_clean [] rest e clean = cc
feed_clean (b ∷ more) rest e clean = feed_byte (b == 10) b more rest refl e clean
  where
    feed_byte : (t : Bool) (b : ℕ) (more rest : List ℕ) → (b == 10) ≡ t → (if t then Some more else None) ≡ Some rest → IsClean (b ∷ more) → IsClean rest
    feed_byte true b more rest t e clean =
        let is : b ≡ 10 = eqb-true b 10 t in
        let same : more ≡ rest = cc in
        subst (λ x. IsClean x) same (clean_next b more clean (omega (arith, is)))
    feed_byte false b more rest t e clean = cc

line_byte : (s t : Bool) (b : ℕ) (more rest : List ℕ) → (b == 10) ≡ s → (b == 13) ≡ t → (if s then Some more else (if t then after_feed more else None)) ≡ Some rest → (b < 128) × (IsClean more → IsClean rest)
line_byte true t b more rest x y e =
    let is : b ≡ 10 = eqb-true b 10 x in
    let same : more ≡ rest = cc in
    (omega (arith, is), λ clean. subst (λ z. IsClean z) same clean)
line_byte false true b more rest x y e = let is : b ≡ 13 = eqb-true b 13 y in (omega (arith, is), λ clean. feed_clean more rest e clean)
line_byte false false b more rest x y e = cc

pub line_end_clean : (b : ℕ) (more rest : List ℕ) → after_line_end (b ∷ more) ≡ Some rest → (b < 128) × (IsClean more → IsClean rest)
line_end_clean b more rest e = line_byte (b == 10) (b == 13) b more rest refl refl e

pub own_byte : (b : ℕ) (rest : List ℕ) → (b == 255) ≡ false → PieceIs (Stands (Byte b), rest) (b ∷ rest)
own_byte b rest e = record { covers = same refl (own (b == 255) e) }
  where
    own : (t : Bool) → t ≡ false → (not t && true) ≡ true
    own t e = cc

is_sign : (b n : ℕ) → b ≡ n → n < 128 → (b == 255) ≡ false
is_sign b n e h = grind (arith, nat_tests)

-- other text behind the first byte
pub put : (b : ℕ) (more rest : List ℕ) (c : Chars) → b < 128 → (IsClean more → IsClean rest) → IsUtf8 (bytes_of c) → Covers (b ∷ more) c rest
put b more rest c h goes u = other b more refl h goes u

closing_covers : (style : Style) (b : ℕ) (rest : List ℕ) → style.quote < 128 → b ≡ style.quote → PieceIs (closing style rest) (b ∷ rest)
closing_covers style b [] q e =
    if_piece style.long _ _ (b ∷ []) (λ _. quote_stays []) (λ _. quote_ends [])
  where
    quote_stays : (rest : List ℕ) → PieceIs (Stands (Byte style.quote), rest) (b ∷ rest)
    quote_stays rest = subst (λ x. PieceIs (Stands (Byte x), rest) (b ∷ rest)) e (own_byte b rest (is_sign b style.quote e q))

    quote_ends : (rest : List ℕ) → PieceIs (Closes, rest) (b ∷ rest)
    quote_ends rest = record { covers = record { first = b; more = rest; parts = refl; ascii = omega (arith, e); goes_on = λ x. x } }
closing_covers style b (x ∷ []) q e =
    if_piece style.long _ _ (b ∷ x ∷ []) (λ _. quote_stays (x ∷ [])) (λ _. quote_ends (x ∷ []))
  where
    quote_stays : (rest : List ℕ) → PieceIs (Stands (Byte style.quote), rest) (b ∷ rest)
    quote_stays rest = subst (λ x. PieceIs (Stands (Byte x), rest) (b ∷ rest)) e (own_byte b rest (is_sign b style.quote e q))

    quote_ends : (rest : List ℕ) → PieceIs (Closes, rest) (b ∷ rest)
    quote_ends rest = record { covers = record { first = b; more = rest; parts = refl; ascii = omega (arith, e); goes_on = λ x. x } }
closing_covers style b (x ∷ y ∷ rest) q e =
    if_piece style.long _ _ (b ∷ x ∷ y ∷ rest)
    (λ _. if_piece (x == style.quote && y == style.quote) _ _ (b ∷ x ∷ y ∷ rest) three (λ _. quote_stays (x ∷ y ∷ rest)))
    (λ _. quote_ends (x ∷ y ∷ rest))
  where
    quote_stays : (rest : List ℕ) → PieceIs (Stands (Byte style.quote), rest) (b ∷ rest)
    quote_stays rest = subst (λ x. PieceIs (Stands (Byte x), rest) (b ∷ rest)) e (own_byte b rest (is_sign b style.quote e q))

    quote_ends : (rest : List ℕ) → PieceIs (Closes, rest) (b ∷ rest)
    quote_ends rest = record { covers = record { first = b; more = rest; parts = refl; ascii = omega (arith, e); goes_on = λ x. x } }

    three : (x == style.quote && y == style.quote) ≡ true → PieceIs (Closes, rest) (b ∷ x ∷ y ∷ rest)
    three t =
        let s = either _ _ t in
        let one : x ≡ style.quote = eqb-true x style.quote s.0 in
        let two : y ≡ style.quote = eqb-true y style.quote s.1 in
        record {
          covers = record {
            first = b;
            more = x ∷ y ∷ rest;
            parts = refl;
            ascii = omega (arith, e);
            goes_on = λ clean. clean_next y rest (clean_next x (y ∷ rest) clean (omega (arith, one))) (omega (arith, two));
          };
        }

kept_byte_covers : (rest : List ℕ) → PieceIs (kept_byte rest) (92 ∷ rest)
kept_byte_covers [] = own_byte 92 [] refl
kept_byte_covers (b ∷ rest) =
    if_piece (b == 255) _ _ (92 ∷ b ∷ rest) (λ _. own_byte 92 (b ∷ rest) refl) (λ e. record { covers = same refl (own (b == 255) e) })
  where
    own : (t : Bool) → t ≡ false → (true && (not t && true)) ≡ true
    own t e = cc

behind_backslash : (bytes rest : List ℕ) → after_line_end bytes ≡ Some rest → IsClean bytes → IsClean rest
behind_backslash [] rest e clean = cc
behind_backslash (b ∷ more) rest e clean = let l = line_end_clean b more rest e in l.1 (clean_next b more clean l.0)

two_ascii : (a b : ℕ) → a < 128 → b < 128 → IsUtf8 (a ∷ b ∷ [])
two_ascii a b h k = IsUtf8-append (a ∷ []) (b ∷ []) (ascii_byte a h) (ascii_byte b k)

kept_covers : (rest : List ℕ) → PieceIs (kept rest) (92 ∷ rest)
kept_covers rest = by_line (after_line_end rest) refl
  where
    by_line : (r : Option (List ℕ)) → after_line_end rest ≡ r → PieceIs (kept_line rest r) (92 ∷ rest)
    by_line None e = kept_byte_covers rest
    by_line (Some next) e = record { covers = put 92 rest next (Kept 10) (omega arith) (behind_backslash rest next e) (two_ascii 92 10 (omega arith) (omega arith)) }

digit_is_ascii : (b : ℕ) → is_digit b 16 ≡ true → b < 128
digit_is_ascii b e = grind (arith, nat_tests)

digit_is_below : (b : ℕ) → is_digit b 16 ≡ true → digit_value b < 16
digit_is_below b e = grind (arith, nat_tests)

hex_is_ascii : (b n : ℕ) → hex_digit b ≡ Some n → (b < 128) × (n < 16)
hex_is_ascii b n e = by_digit (is_digit b 16) refl e
  where
    by_digit : (t : Bool) → is_digit b 16 ≡ t → (if t then Some (digit_value b) else None) ≡ Some n → (b < 128) × (n < 16)
    by_digit true t e = let v : digit_value b ≡ n = cc in (digit_is_ascii b t, subst (λ x. x < 16) v (digit_is_below b t))
    by_digit false t e = cc

is_scalar : (n : ℕ) → n < 256 → IsScalar n
is_scalar n h = grind (arith, nat_tests)

hex_covers : (rest : List ℕ) → PieceIs (hex_escape rest) (92 ∷ 120 ∷ rest)
hex_covers [] = record { covers = tt }
hex_covers (a ∷ []) = record { covers = tt }
hex_covers (a ∷ b ∷ rest) = by_digits (hex_digit a) (hex_digit b) refl refl
  where
    by_digits : (m n : Option ℕ) → hex_digit a ≡ m → hex_digit b ≡ n → PieceIs (hex_char m n (a ∷ b ∷ rest) rest) (92 ∷ 120 ∷ a ∷ b ∷ rest)
    by_digits (Some high) (Some low) e f =
        let x = hex_is_ascii a high e in
        let y = hex_is_ascii b low f in
        record {
          covers = put 92 (120 ∷ a ∷ b ∷ rest) rest (Char (high * 16 + low)) (omega arith)
              (λ clean. clean_next b rest (clean_next a (b ∷ rest) (clean_next 120 (a ∷ b ∷ rest) clean (omega arith)) x.0) y.0)
              (IsUtf8-encode (high * 16 + low) (is_scalar (high * 16 + low) (omega (arith, x.1, y.1))));
        }
    by_digits (Some high) None e f = record { covers = tt }
    by_digits None n e f = record { covers = tt }

if_some : (t : Bool) (x : ℕ) (more : Option ℕ) (e c : ℕ) (n : ℕ) → (e == n) ≡ t → n < 128 → x < 128 → (if t then Some x else more) ≡ Some c → (more ≡ Some c → (e < 128) × (c < 128)) → (e < 128) × (c < 128)
if_some true x more e c n t h k is rest = let a : e ≡ n = eqb-true e n t in let b : x ≡ c = cc in (omega (arith, a), omega (arith, b))
if_some false x more e c n t h k is rest = rest is

simple_is_ascii : (e c : ℕ) → simple_escape e ≡ Some c → (e < 128) × (c < 128)
simple_is_ascii e c is =
    if_some (e == 92) 92 _ e c 92 refl (omega arith) (omega arith) is
    (λ is. if_some (e == 39) 39 _ e c 39 refl (omega arith) (omega arith) is
    (λ is. if_some (e == 34) 34 _ e c 34 refl (omega arith) (omega arith) is
    (λ is. if_some (e == 110) 10 _ e c 110 refl (omega arith) (omega arith) is
    (λ is. if_some (e == 114) 13 _ e c 114 refl (omega arith) (omega arith) is
    (λ is. if_some (e == 116) 9 _ e c 116 refl (omega arith) (omega arith) is
    (λ is. if_some (e == 97) 7 _ e c 97 refl (omega arith) (omega arith) is
    (λ is. if_some (e == 98) 8 _ e c 98 refl (omega arith) (omega arith) is
    (λ is. if_some (e == 102) 12 _ e c 102 refl (omega arith) (omega arith) is
    (λ is. if_some (e == 118) 11 _ e c 118 refl (omega arith) (omega arith) is
    (λ is. no_escape is))))))))))
  where
    no_escape : {c : ℕ} {X : Type 0} → None ≡ Some c → X
    no_escape e = cc

simple_covers : (e : ℕ) (rest : List ℕ) → PieceIs (simple_or (e ∷ rest) rest (simple_escape e)) (92 ∷ e ∷ rest)
simple_covers e rest = by_escape (simple_escape e) refl
  where
    by_escape : (r : Option ℕ) → simple_escape e ≡ r → PieceIs (simple_or (e ∷ rest) rest r) (92 ∷ e ∷ rest)
    by_escape None is = own_byte 92 (e ∷ rest) refl
    by_escape (Some c) is =
        let a = simple_is_ascii e c is in
        record { covers = put 92 (e ∷ rest) rest (Byte c) (omega arith) (λ clean. clean_next e rest clean a.0) (ascii_byte c a.1) }

escape_byte_covers : (rest : List ℕ) → PieceIs (escape_byte rest) (92 ∷ rest)
escape_byte_covers [] = own_byte 92 [] refl
escape_byte_covers (e ∷ rest) =
    if_piece (e == 120) _ _ (92 ∷ e ∷ rest) (λ t. subst (λ x. PieceIs (hex_escape rest) (92 ∷ x ∷ rest)) (sym (eqb-true e 120 t)) (hex_covers rest))
    (λ _. if_piece (is_ascii_digit e || (e == 117 || (e == 85 || e == 78))) _ _ (92 ∷ e ∷ rest) (λ _. record { covers = tt }) (λ _. simple_covers e rest))

escape_covers : (rest : List ℕ) → PieceIs (escape rest) (92 ∷ rest)
escape_covers rest = by_line (after_line_end rest) refl
  where
    by_line : (r : Option (List ℕ)) → after_line_end rest ≡ r → PieceIs (escape_line rest r) (92 ∷ rest)
    by_line None e = escape_byte_covers rest
    by_line (Some next) e = record { covers = put 92 rest next Nothing (omega arith) (behind_backslash rest next e) IsUtf8-nil }

plain_covers : (style : Style) (b : ℕ) (rest : List ℕ) → (b == 255) ≡ false → PieceIs (plain style b rest (after_line_end (b ∷ rest))) (b ∷ rest)
plain_covers style b rest t = by_line (after_line_end (b ∷ rest)) refl
  where
    by_line : (r : Option (List ℕ)) → after_line_end (b ∷ rest) ≡ r → PieceIs (plain style b rest r) (b ∷ rest)
    by_line None e = own_byte b rest t
    by_line (Some next) e =
        let l = line_end_clean b rest next e in
        if_piece style.long _ _ (b ∷ rest) (λ _. record { covers = put b rest next (Byte 10) l.0 l.1 (ascii_byte 10 (omega arith)) }) (λ _. record { covers = tt })

pub piece_covers : (style : Style) → style.quote < 128 → (bytes : List ℕ) → PieceIs (piece_at style bytes) bytes
piece_covers style q [] = record { covers = tt }
piece_covers style q (b ∷ rest) =
    if_piece (b == style.quote) _ _ (b ∷ rest) (λ t. closing_covers style b rest q (eqb-true b style.quote t))
    (λ _. if_piece (b == 92) _ _ (b ∷ rest) (λ t. subst (λ x. PieceIs (if style.raw then kept rest else escape rest) (x ∷ rest)) (sym (eqb-true b 92 t)) (if_piece style.raw _ _ (92 ∷ rest) (λ _. kept_covers rest) (λ _. escape_covers rest)))
    (λ _. if_piece (b == 255) _ _ (b ∷ rest) (λ _. record { covers = tt }) (λ t. plain_covers style b rest t)))

covers_at : (style : Style) → style.quote < 128 → (bytes : List ℕ) (piece : Piece) (rest : List ℕ) → piece_at style bytes ≡ (piece, rest) → PieceCovers piece bytes rest
covers_at style q bytes piece rest e = let c = piece_covers style q bytes in subst (λ p. PieceCovers p.0 bytes p.1) e c.covers

-- what a text that is closed stands for is UTF-8 behind this front, and what follows is clean
abbrev pub SpellingIs : List ℕ → Spelling → Type 0
SpellingIs front (closed value lines rest) = IsUtf8 (front ++ value) × IsClean rest
SpellingIs front unclosed = Unit {0}
SpellingIs front (refused kind lines) = Unit {0}

moved : (front part : List ℕ) (lines : ℕ) (s : Spelling) → SpellingIs (front ++ part) s → SpellingIs front (behind part lines s)
moved front part lines (closed value more rest) = λ is. (subst (λ x. IsUtf8 x) (append_assoc front part value) is.0, is.1)
moved front part lines unclosed = λ is. tt
moved front part lines (refused kind more) = λ is. tt

-- what holds of the rest, behind text and behind bytes that wait for the end of a character
abbrev pub Rest : List ℕ → Spelling → Type 0
Rest rest s = (done waiting : List ℕ) → IsUtf8 done → list_all is_no_mark waiting ≡ true → IsClean (waiting ++ rest) → SpellingIs (done ++ waiting) s

no_marks_in : (a b : List ℕ) → list_all is_no_mark a ≡ true → list_all is_no_mark b ≡ true → list_all is_no_mark (a ++ b) ≡ true
no_marks_in a b x y = list_all-append is_no_mark a b ∙ (cc)

pub covered : (bytes rest : List ℕ) (c : Chars) (lines : ℕ) (s : Spelling) → Covers bytes c rest → Rest rest s → Rest bytes (behind (bytes_of c) lines s)
covered bytes rest c lines s (same e n) = λ ih done waiting u m clean.
    let joined : IsClean ((waiting ++ bytes_of c) ++ rest) = subst (λ x. IsClean x) (ap (λ x. waiting ++ x) e ∙ sym (append_assoc waiting (bytes_of c) rest)) clean in
    moved (done ++ waiting) (bytes_of c) lines s
    (subst (λ x. SpellingIs x s) (sym (append_assoc done waiting (bytes_of c))) (ih done (waiting ++ bytes_of c) u (no_marks_in waiting (bytes_of c) m n) joined))
covered bytes rest c lines s (other b more e h goes_on v) = λ ih done waiting u m clean.
    let cut = split waiting b more m (subst (λ x. IsClean (waiting ++ x)) e clean) h in
    let front : List ℕ = (done ++ waiting) ++ bytes_of c in
    let text : IsUtf8 front = IsUtf8-append (done ++ waiting) (bytes_of c) (IsUtf8-append done waiting u cut.0) v in
    moved (done ++ waiting) (bytes_of c) lines s (subst (λ x. SpellingIs x s) (append-nil front) (ih front [] text refl (goes_on cut.1)))

pub ended : (bytes rest : List ℕ) → CoversEnd bytes rest → Rest bytes (closed [] 0 rest)
ended bytes rest c done waiting u m clean =
    let cut = split waiting c.first c.more m (subst (λ x. IsClean (waiting ++ x)) c.parts clean) c.ascii in
    (subst (λ x. IsUtf8 x) (sym (append-nil (done ++ waiting))) (IsUtf8-append done waiting u cut.0), c.goes_on cut.1)

spells_text : {style : Style} {bytes : List ℕ} {s : Spelling} → style.quote < 128 → Spells style bytes s → Rest bytes s
spells_text {style = style} {bytes = bytes} q (closes rest e) = ended bytes rest (covers_at style q bytes Closes rest e)
spells_text q (has_no_end rest e) = λ done waiting u m clean. tt
spells_text q (has_bad_escape rest e) = λ done waiting u m clean. tt
spells_text q (is_not_utf8 rest e) = λ done waiting u m clean. tt
spells_text {style = style} {bytes = bytes} q (stands {s = t} c rest e r) = covered bytes rest c 0 t (covers_at style q bytes (Stands c) rest e) (spells_text q r)
spells_text {style = style} {bytes = bytes} q (ends_line {s = t} c rest e r) = covered bytes rest c 1 t (covers_at style q bytes (EndsLine c) rest e) (spells_text q r)

-- a text that is closed stands for UTF-8, and what follows is clean
pub text_is_utf8 : {style : Style} {bytes value rest : List ℕ} {lines : ℕ} → style.quote < 128 → Spells style bytes (closed value lines rest) → IsClean bytes → IsUtf8 value × IsClean rest
text_is_utf8 q r clean = spells_text q r [] [] IsUtf8-nil refl clean

-- behind the opening quotes
pub record Opens (p : Style × List ℕ) : Type 0 where
  pub quote : p.0.quote < 128
  pub inside : IsClean p.1

if_opens : (t : Bool) (X Y : Style × List ℕ) → (t ≡ true → Opens X) → (t ≡ false → Opens Y) → Opens (if t then X else Y)
if_opens true X Y x y = x refl
if_opens false X Y x y = y refl

pub opening_is_clean : (raw : Bool) (q : ℕ) (rest : List ℕ) → q < 128 → IsClean rest → Opens (opening raw q rest)
opening_is_clean raw q [] h clean = record { quote = h; inside = clean }
opening_is_clean raw q (a ∷ []) h clean = record { quote = h; inside = clean }
opening_is_clean raw q (a ∷ b ∷ rest) h clean =
    if_opens (a == q && b == q) _ _
    (λ t.
    let s = either _ _ t in
    let one : a ≡ q = eqb-true a q s.0 in
    let two : b ≡ q = eqb-true b q s.1 in
    record { quote = h; inside = clean_next b rest (clean_next a (b ∷ rest) clean (omega (arith, one))) (omega (arith, two)) })
    (λ _. record { quote = h; inside = clean })
