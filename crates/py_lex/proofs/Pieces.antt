-- A piece of a text is read alike where the text is cut off behind its end.
use Rattle.std.proofs.Common.{◌≡◌, ℕ, ◌+◌, Bool, true, false, ◌&&◌, ◌||◌, ◌==◌, List, [], ◌∷◌, ◌++◌, refl, sym, ap, ◌∙◌, subst, append_assoc, Option, Some, None}
use Rattle.std.specs.Prelude.{if◌then◌else◌}
use Rattle.std.specs.Char.{is_ascii_digit}
use Rattle.std.proofs.lemmas.Bool.{eqb-true}
use Rattle.py_lex.specs.declared.piece.Style.{Style}
use Rattle.py_lex.specs.declared.piece.Chars.{Chars}
use Rattle.py_lex.specs.declared.piece.Chars.TheVariants.{Nothing, Byte, Kept}
use Rattle.py_lex.specs.declared.piece.Piece.{Piece}
use Rattle.py_lex.specs.declared.piece.Piece.TheVariants.{Closes, Unclosed, BadEscape, NotUtf8, Stands, EndsLine}
use Rattle.py_lex.specs.Bytes.{after_line_end, after_feed}
use Rattle.py_lex.specs.Texts.{piece_at, closing, kept, kept_line, kept_byte, escape, escape_line, escape_byte, hex_escape, hex_char, hex_digit, simple_escape, simple_or, plain, bytes_of, Spelling, closed, unclosed, refused, behind, Spells, closes, has_no_end, has_bad_escape, is_not_utf8, stands, ends_line}

abbrev pub Reader : Type 0
Reader = List ℕ → Piece × List ℕ

abbrev pub chosen : Bool → Piece × List ℕ → Piece × List ℕ → Piece × List ℕ
chosen t x y = if t then x else y

-- the bytes that a piece takes, and the same piece in front of any shorter rest
pub record Takes (f : Reader) (bytes : List ℕ) (p : Piece × List ℕ) : Type 0 where
  pub used : List ℕ
  pub parts : bytes ≡ used ++ p.1
  pub short : (x : ℕ) (more back : List ℕ) → p.1 ≡ (x ∷ more) ++ back → f (used ++ x ∷ more) ≡ (p.0, x ∷ more)

-- the bytes behind the first closing quote, and the same end in front of nothing
pub record TakesEnd (f : Reader) (bytes rest : List ℕ) : Type 0 where
  pub used : List ℕ
  pub parts : bytes ≡ used ++ rest
  pub alone : f used ≡ (Closes, [])

abbrev pub TakesPiece : Reader → List ℕ → Piece → List ℕ → Type 0
TakesPiece f bytes Closes rest = TakesEnd f bytes rest
TakesPiece f bytes (Stands c) rest = Takes f bytes (Stands c, rest)
TakesPiece f bytes (EndsLine c) rest = Takes f bytes (EndsLine c, rest)
TakesPiece f bytes Unclosed rest = Unit {0}
TakesPiece f bytes BadEscape rest = Unit {0}
TakesPiece f bytes NotUtf8 rest = Unit {0}

pub record Cuts (f : Reader) (bytes : List ℕ) (p : Piece × List ℕ) : Type 0 where
  pub cut : TakesPiece f bytes p.0 p.1

if_cuts : (t : Bool) (f g : Reader) (bytes : List ℕ) → (t ≡ true → Cuts f bytes (f bytes)) → (t ≡ false → Cuts g bytes (g bytes)) → Cuts (λ r. if t then f r else g r) bytes (if t then f bytes else g bytes)
if_cuts true f g bytes x y = x refl
if_cuts false f g bytes x y = y refl

-- a piece that takes nothing more than its first byte
stays : (f : Reader) (bytes : List ℕ) (c : Chars) → ((x : ℕ) (more back : List ℕ) → bytes ≡ (x ∷ more) ++ back → f (x ∷ more) ≡ (Stands c, x ∷ more)) → Cuts f bytes (Stands c, bytes)
stays f bytes c h = record { cut = record { used = []; parts = refl; short = h } }

module _ (q : ℕ) (w : Bool) where
  abbrev long : Style
  long = record { quote = q; long = true; raw = w }

  abbrev brief : Style
  brief = record { quote = q; long = false; raw = w }

  long_cuts : (bytes : List ℕ) → Cuts (closing long) bytes (closing long bytes)
  long_cuts [] = stays (closing long) [] (Byte q) (λ x more back e. cc)
  long_cuts (a ∷ []) = stays (closing long) (a ∷ []) (Byte q) one
    where
      one : (x : ℕ) (more back : List ℕ) → a ∷ [] ≡ (x ∷ more) ++ back → closing long (x ∷ more) ≡ (Stands (Byte q), x ∷ more)
      one x [] back e = refl
      one x (m ∷ ms) back e = cc
  long_cuts (a ∷ b ∷ rest) = by_test (a == q && b == q) refl
    where
      by_test : (t : Bool) → (a == q && b == q) ≡ t → Cuts (closing long) (a ∷ b ∷ rest) (if t then (Closes, rest) else (Stands (Byte q), a ∷ b ∷ rest))
      by_test true e = record { cut = record { used = a ∷ b ∷ []; parts = refl; alone = ap (λ t. chosen t (Closes, []) (Stands (Byte q), a ∷ b ∷ [])) e } }
      by_test false e = stays (closing long) (a ∷ b ∷ rest) (Byte q) two
        where
          two : (x : ℕ) (more back : List ℕ) → a ∷ b ∷ rest ≡ (x ∷ more) ++ back → closing long (x ∷ more) ≡ (Stands (Byte q), x ∷ more)
          two x [] back s = refl
          two x (m ∷ ms) back s =
              let first : a ≡ x = cc in
              let second : b ≡ m = cc in
              let tests : (x == q && m == q) ≡ false = ap (λ y. y == q && m == q) (sym first) ∙ ap (λ y. a == q && y == q) (sym second) ∙ e in
              ap (λ t. chosen t (Closes, ms) (Stands (Byte q), x ∷ m ∷ ms)) tests

  brief_cuts : (bytes : List ℕ) → Cuts (closing brief) bytes (closing brief bytes)
  brief_cuts [] = record { cut = record { used = []; parts = refl; alone = refl } }
  brief_cuts (a ∷ []) = record { cut = record { used = []; parts = refl; alone = refl } }
  brief_cuts (a ∷ b ∷ rest) = record { cut = record { used = []; parts = refl; alone = refl } }

  closing_by : (l : Bool) (bytes : List ℕ) → Cuts (closing (record { quote = q; long = l; raw = w })) bytes (closing (record { quote = q; long = l; raw = w }) bytes)
  closing_by true bytes = long_cuts bytes
  closing_by false bytes = brief_cuts bytes

closing_cuts : (style : Style) (bytes : List ℕ) → Cuts (closing style) bytes (closing style bytes)
closing_cuts style bytes = closing_by style.quote style.raw style.long bytes

-- a line end: what it is written as, which is one in front of anything
pub record EndsLineAt (bytes rest : List ℕ) : Type 0 where
  pub first : ℕ
  pub tail : List ℕ
  pub parts : bytes ≡ first ∷ (tail ++ rest)
  pub whatever : (z : List ℕ) → after_line_end (first ∷ (tail ++ z)) ≡ Some z

pub feed_at : (bytes rest : List ℕ) → after_feed bytes ≡ Some rest → bytes ≡ 10 ∷ rest
feed_at [] rest e = cc
feed_at (b ∷ more) rest e = by_test (b == 10) refl e
  where
    by_test : (t : Bool) → (b == 10) ≡ t → (if t then Some more else None) ≡ Some rest → b ∷ more ≡ 10 ∷ rest
    by_test true t e = let same : more ≡ rest = cc in ap (λ x. x ∷ more) (eqb-true b 10 t) ∙ ap (λ x. 10 ∷ x) same
    by_test false t e = cc

pub ends_line_at : (bytes rest : List ℕ) → after_line_end bytes ≡ Some rest → EndsLineAt bytes rest
ends_line_at [] rest e = cc
ends_line_at (b ∷ more) rest e = by_tests (b == 10) (b == 13) refl refl e
  where
    by_tests : (s t : Bool) → (b == 10) ≡ s → (b == 13) ≡ t → (if s then Some more else (if t then after_feed more else None)) ≡ Some rest → EndsLineAt (b ∷ more) rest
    by_tests true t x y e =
        let same : more ≡ rest = cc in
        record { first = 10; tail = []; parts = ap (λ n. n ∷ more) (eqb-true b 10 x) ∙ ap (λ n. 10 ∷ n) same; whatever = λ z. refl }
    by_tests false true x y e =
        record { first = 13; tail = 10 ∷ []; parts = ap (λ n. n ∷ more) (eqb-true b 13 y) ∙ ap (λ n. 13 ∷ n) (feed_at more rest e); whatever = λ z. refl }
    by_tests false false x y e = cc

-- a line end by the tests of its first byte
abbrev line_by : Bool → Bool → List ℕ → Option (List ℕ) → Option (List ℕ)
line_by s t rest feed = if s then Some rest else (if t then feed else None)

-- where no line ends, none ends in what is cut off
no_end : (bytes : List ℕ) (x : ℕ) (more back : List ℕ) → after_line_end bytes ≡ None → bytes ≡ x ∷ (more ++ back) → after_line_end (x ∷ more) ≡ None
no_end bytes x more back n e = by_more more (sym (ap (λ y. after_line_end y) e) ∙ n)
  where
    by_last : (s t : Bool) (l : List ℕ) (o : Option (List ℕ)) → line_by s t l o ≡ None → line_by s t [] None ≡ None
    by_last true t l o h = cc
    by_last false true l o h = refl
    by_last false false l o h = refl

    by_two : (m : ℕ) (ms : List ℕ) (s t u : Bool) → line_by s t (m ∷ (ms ++ back)) (if u then Some (ms ++ back) else None) ≡ None → line_by s t (m ∷ ms) (if u then Some ms else None) ≡ None
    by_two m ms true t u h = cc
    by_two m ms false true true h = cc
    by_two m ms false true false h = refl
    by_two m ms false false u h = refl

    by_more : (more : List ℕ) → after_line_end (x ∷ (more ++ back)) ≡ None → after_line_end (x ∷ more) ≡ None
    by_more [] h = by_last (x == 10) (x == 13) back (after_feed back) h
    by_more (m ∷ ms) h = by_two m ms (x == 10) (x == 13) (m == 10) h

-- behind a first byte
module _ (f g : Reader) (b : ℕ) (same : (r : List ℕ) → f (b ∷ r) ≡ g r) (bytes : List ℕ) where
  takes_behind : (p : Piece × List ℕ) → Takes g bytes p → Takes f (b ∷ bytes) p
  takes_behind p c = record {
    used = b ∷ c.used;
    parts = ap (λ r. b ∷ r) c.parts;
    short = λ x more back s. same (c.used ++ x ∷ more) ∙ c.short x more back s;
  }

  cuts_behind : (p : Piece × List ℕ) → Cuts g bytes p → Cuts f (b ∷ bytes) p
  cuts_behind (Stands c, rest) k = record { cut = takes_behind (Stands c, rest) k.cut }
  cuts_behind (EndsLine c, rest) k = record { cut = takes_behind (EndsLine c, rest) k.cut }
  cuts_behind (Closes, rest) k = record { cut = record { used = b ∷ k.cut.used; parts = ap (λ r. b ∷ r) k.cut.parts; alone = same k.cut.used ∙ k.cut.alone } }
  cuts_behind (Unclosed, rest) k = record { cut = tt }
  cuts_behind (BadEscape, rest) k = record { cut = tt }
  cuts_behind (NotUtf8, rest) k = record { cut = tt }

-- behind a backslash: by whether the line ends there
abbrev by_line : (List ℕ → Option (List ℕ) → Piece × List ℕ) → Reader
by_line f bytes = f bytes (after_line_end bytes)

at_line_end : (f : List ℕ → Option (List ℕ) → Piece × List ℕ) (c : Chars) → ((b r : List ℕ) → f b (Some r) ≡ (EndsLine c, r)) → (bytes rest : List ℕ) → after_line_end bytes ≡ Some rest → Cuts (by_line f) bytes (EndsLine c, rest)
at_line_end f c h bytes rest e =
    let l = ends_line_at bytes rest e in
    record {
      cut = record {
        used = l.first ∷ l.tail;
        parts = l.parts;
        short = λ x more back s. ap (λ o. f (l.first ∷ (l.tail ++ x ∷ more)) o) (l.whatever (x ∷ more)) ∙ h _ _;
      };
    }

no_end_in : (bytes used rest : List ℕ) (x : ℕ) (more back : List ℕ) → after_line_end bytes ≡ None → bytes ≡ used ++ rest → rest ≡ (x ∷ more) ++ back → after_line_end (used ++ x ∷ more) ≡ None
no_end_in bytes [] rest x more back n p s = no_end bytes x more back n (p ∙ s)
no_end_in bytes (u ∷ us) rest x more back n p s =
    let tail : us ++ rest ≡ (us ++ x ∷ more) ++ back = ap (λ r. us ++ r) s ∙ sym (append_assoc us (x ∷ more) back) in
    no_end bytes u (us ++ x ∷ more) back n (p ∙ ap (λ r. u ∷ r) tail)

-- where the line goes on, a piece is cut as it is without line ends
module _ (f : List ℕ → Option (List ℕ) → Piece × List ℕ) (g : Reader) (same : (b : List ℕ) → f b None ≡ g b) (bytes : List ℕ) (n : after_line_end bytes ≡ None) where
  takes_on : (p : Piece × List ℕ) → Takes g bytes p → Takes (by_line f) bytes p
  takes_on p c = record {
    used = c.used;
    parts = c.parts;
    short = λ x more back s. ap (λ o. f (c.used ++ x ∷ more) o) (no_end_in bytes c.used p.1 x more back n c.parts s) ∙ same _ ∙ c.short x more back s;
  }

  none_used : (used rest : List ℕ) → bytes ≡ used ++ rest → after_line_end used ≡ None
  none_used [] rest p = refl
  none_used (u ∷ us) rest p = no_end bytes u us rest n p

  cuts_on : (p : Piece × List ℕ) → Cuts g bytes p → Cuts (by_line f) bytes p
  cuts_on (Stands c, rest) k = record { cut = takes_on (Stands c, rest) k.cut }
  cuts_on (EndsLine c, rest) k = record { cut = takes_on (EndsLine c, rest) k.cut }
  cuts_on (Closes, rest) k = record { cut = record { used = k.cut.used; parts = k.cut.parts; alone = ap (λ o. f k.cut.used o) (none_used k.cut.used rest k.cut.parts) ∙ same _ ∙ k.cut.alone } }
  cuts_on (Unclosed, rest) k = record { cut = tt }
  cuts_on (BadEscape, rest) k = record { cut = tt }
  cuts_on (NotUtf8, rest) k = record { cut = tt }

kept_byte_cuts : (bytes : List ℕ) → Cuts kept_byte bytes (kept_byte bytes)
kept_byte_cuts [] = stays kept_byte [] (Byte 92) (λ x more back e. cc)
kept_byte_cuts (b ∷ rest) = by_test (b == 255) refl
  where
    by_test : (t : Bool) → (b == 255) ≡ t → Cuts kept_byte (b ∷ rest) (if t then (Stands (Byte 92), b ∷ rest) else (Stands (Kept b), rest))
    by_test true e = stays kept_byte (b ∷ rest) (Byte 92) no_text
      where
        no_text : (x : ℕ) (more back : List ℕ) → b ∷ rest ≡ (x ∷ more) ++ back → kept_byte (x ∷ more) ≡ (Stands (Byte 92), x ∷ more)
        no_text x more back s =
            let first : b ≡ x = cc in
            let test : (x == 255) ≡ true = ap (λ y. y == 255) (sym first) ∙ e in
            ap (λ t. chosen t (Stands (Byte 92), x ∷ more) (Stands (Kept x), more)) test
    by_test false e = record {
      cut = record {
        used = b ∷ [];
        parts = refl;
        short = λ x more back s. ap (λ t. chosen t (Stands (Byte 92), b ∷ x ∷ more) (Stands (Kept b), x ∷ more)) e;
      };
    }

kept_cuts : (bytes : List ℕ) → Cuts kept bytes (kept bytes)
kept_cuts bytes = by_end (after_line_end bytes) refl
  where
    by_end : (r : Option (List ℕ)) → after_line_end bytes ≡ r → Cuts kept bytes (kept_line bytes r)
    by_end None n = cuts_on kept_line kept_byte (λ b. refl) bytes n (kept_byte bytes) (kept_byte_cuts bytes)
    by_end (Some next) e = at_line_end kept_line (Kept 10) (λ b r. refl) bytes next e

hex_cuts : (bytes : List ℕ) → Cuts hex_escape bytes (hex_escape bytes)
hex_cuts [] = record { cut = tt }
hex_cuts (a ∷ []) = record { cut = tt }
hex_cuts (a ∷ b ∷ rest) = by_digits (hex_digit a) (hex_digit b) refl refl
  where
    by_digits : (m n : Option ℕ) → hex_digit a ≡ m → hex_digit b ≡ n → Cuts hex_escape (a ∷ b ∷ rest) (hex_char m n (a ∷ b ∷ rest) rest)
    by_digits (Some high) (Some low) e f = record {
      cut = record {
        used = a ∷ b ∷ [];
        parts = refl;
        short = λ x more back s. ap (λ m. hex_char m (hex_digit b) (a ∷ b ∷ x ∷ more) (x ∷ more)) e ∙ ap (λ n. hex_char (Some high) n (a ∷ b ∷ x ∷ more) (x ∷ more)) f;
      };
    }
    by_digits (Some high) None e f = record { cut = tt }
    by_digits None n e f = record { cut = tt }

-- an escape by its byte, as tests choose it
abbrev escape_by : ℕ → Bool → Bool → Option ℕ → Reader
escape_by e s t o r = if s then hex_escape r else (if t then (BadEscape, e ∷ r) else simple_or (e ∷ r) r o)

escape_byte_cuts : (bytes : List ℕ) → Cuts escape_byte bytes (escape_byte bytes)
escape_byte_cuts [] = stays escape_byte [] (Byte 92) (λ x more back e. cc)
escape_byte_cuts (b ∷ rest) = by_tests (b == 120) (is_ascii_digit b || (b == 117 || (b == 85 || b == 78))) (simple_escape b) refl refl refl
  where
    is : (s t : Bool) (o : Option ℕ) → (b == 120) ≡ s → (is_ascii_digit b || (b == 117 || (b == 85 || b == 78))) ≡ t → simple_escape b ≡ o → (r : List ℕ) → escape_byte (b ∷ r) ≡ escape_by b s t o r
    is s t o x y z r = ap (λ s. escape_by b s (is_ascii_digit b || (b == 117 || (b == 85 || b == 78))) (simple_escape b) r) x ∙ ap (λ t. escape_by b s t (simple_escape b) r) y ∙ ap (λ o. escape_by b s t o r) z

    by_tests : (s t : Bool) (o : Option ℕ) → (b == 120) ≡ s → (is_ascii_digit b || (b == 117 || (b == 85 || b == 78))) ≡ t → simple_escape b ≡ o → Cuts escape_byte (b ∷ rest) (escape_by b s t o rest)
    by_tests true t o x y z = cuts_behind escape_byte hex_escape b (is true t o x y z) rest (hex_escape rest) (hex_cuts rest)
    by_tests false true o x y z = record { cut = tt }
    by_tests false false (Some c) x y z =
        cuts_behind escape_byte (λ r. (Stands (Byte c), r)) b (is false false (Some c) x y z) rest (Stands (Byte c), rest)
        (stays (λ r. (Stands (Byte c), r)) rest (Byte c) (λ h more back s. refl))
    by_tests false false None x y z = stays escape_byte (b ∷ rest) (Byte 92) alike
      where
        alike : (h : ℕ) (more back : List ℕ) → b ∷ rest ≡ (h ∷ more) ++ back → escape_byte (h ∷ more) ≡ (Stands (Byte 92), h ∷ more)
        alike h more back s = let first : b ≡ h = cc in subst (λ y. escape_byte (y ∷ more) ≡ (Stands (Byte 92), y ∷ more)) first (is false false None x y z more)

escape_cuts : (bytes : List ℕ) → Cuts escape bytes (escape bytes)
escape_cuts bytes = by_end (after_line_end bytes) refl
  where
    by_end : (r : Option (List ℕ)) → after_line_end bytes ≡ r → Cuts escape bytes (escape_line bytes r)
    by_end None n = cuts_on escape_line escape_byte (λ b. refl) bytes n (escape_byte bytes) (escape_byte_cuts bytes)
    by_end (Some next) e = at_line_end escape_line Nothing (λ b r. refl) bytes next e

module _ (style : Style) (b : ℕ) where
  abbrev plain_at : Reader
  plain_at r = plain style b r (after_line_end (b ∷ r))

  plain_cuts : (rest : List ℕ) → Cuts plain_at rest (plain_at rest)
  plain_cuts rest = by_end (after_line_end (b ∷ rest)) refl
    where
      ends : (next : List ℕ) (l : EndsLineAt (b ∷ rest) next) (t : Bool) → style.long ≡ t → Cuts plain_at rest (chosen t (EndsLine (Byte 10), next) (Unclosed, b ∷ rest))
      ends next l true e = record {
        cut = record {
          used = l.tail;
          parts = let p = l.parts in cc;
          short = λ x more back s.
              let first : l.first ≡ b = let p = l.parts in cc in
              let ended : after_line_end (b ∷ (l.tail ++ x ∷ more)) ≡ Some (x ∷ more) = subst (λ y. after_line_end (y ∷ (l.tail ++ x ∷ more)) ≡ Some (x ∷ more)) first (l.whatever (x ∷ more)) in
              ap (λ o. plain style b (l.tail ++ x ∷ more) o) ended ∙ ap (λ t. chosen t (EndsLine (Byte 10), x ∷ more) (Unclosed, b ∷ (l.tail ++ x ∷ more))) e;
        };
      }
      ends next l false e = record { cut = tt }

      by_end : (r : Option (List ℕ)) → after_line_end (b ∷ rest) ≡ r → Cuts plain_at rest (plain style b rest r)
      by_end None n = stays plain_at rest (Byte b) (λ x more back s. ap (λ o. plain style b (x ∷ more) o) (no_end (b ∷ rest) b (x ∷ more) back n (ap (λ r. b ∷ r) s)))
      by_end (Some next) e = ends next (ends_line_at (b ∷ rest) next e) style.long refl

  backslash_cuts : (t : Bool) (rest : List ℕ) → Cuts (λ r. if t then kept r else escape r) rest (if t then kept rest else escape rest)
  backslash_cuts true rest = kept_cuts rest
  backslash_cuts false rest = escape_cuts rest

  pub behind_first_cuts : (rest : List ℕ) → Cuts (λ r. piece_at style (b ∷ r)) rest (piece_at style (b ∷ rest))
  behind_first_cuts rest =
      if_cuts (b == style.quote) (closing style) (λ r. if b == 92 then (if style.raw then kept r else escape r) else (if b == 255 then (NotUtf8, b ∷ r) else plain_at r)) rest
      (λ _. closing_cuts style rest)
      (λ _. if_cuts (b == 92) (λ r. if style.raw then kept r else escape r) (λ r. if b == 255 then (NotUtf8, b ∷ r) else plain_at r) rest
      (λ _. backslash_cuts style.raw rest)
      (λ _. if_cuts (b == 255) (λ r. (NotUtf8, b ∷ r)) plain_at rest (λ _. record { cut = tt }) (λ _. plain_cuts rest)))

piece_cuts : (style : Style) (bytes : List ℕ) → Cuts (piece_at style) bytes (piece_at style bytes)
piece_cuts style [] = record { cut = tt }
piece_cuts style (b ∷ rest) = cuts_behind (piece_at style) (λ r. piece_at style (b ∷ r)) b (λ r. refl) rest (piece_at style (b ∷ rest)) (behind_first_cuts style b rest)

pub cuts_at : (style : Style) (bytes : List ℕ) (piece : Piece) (rest : List ℕ) → piece_at style bytes ≡ (piece, rest) → TakesPiece (piece_at style) bytes piece rest
cuts_at style bytes piece rest e = let c = piece_cuts style bytes in subst (λ p. TakesPiece (piece_at style) bytes p.0 p.1) e c.cut

-- what a text takes behind its opening quotes, which is the same text alone
pub record TakesText (style : Style) (bytes value : List ℕ) (lines : ℕ) (rest : List ℕ) : Type 0 where
  pub first : ℕ
  pub more : List ℕ
  pub parts : bytes ≡ (first ∷ more) ++ rest
  pub spells : Spells style (first ∷ more) (closed value lines [])

abbrev TakesSpelling : Style → List ℕ → Spelling → Type 0
TakesSpelling style bytes (closed value lines rest) = TakesText style bytes value lines rest
TakesSpelling style bytes unclosed = Unit {0}
TakesSpelling style bytes (refused kind lines) = Unit {0}

-- a piece takes its first byte at least
first_of : (style : Style) (used : List ℕ) → piece_at style used ≡ (Closes, []) → (first : ℕ) × (more : List ℕ) × (used ≡ first ∷ more)
first_of style [] e = let same : Unclosed ≡ Closes = ap (λ p. p.0) e in absurd (cc)
first_of style (x ∷ xs) e = (x, xs, refl)

text_closes : (style : Style) (bytes rest : List ℕ) → TakesEnd (piece_at style) bytes rest → TakesText style bytes [] 0 rest
text_closes style bytes rest c =
    let f = first_of style c.used c.alone in
    record {
      first = f.0;
      more = f.1;
      parts = c.parts ∙ ap (λ u. u ++ rest) f.2;
      spells = subst (λ u. Spells style u (closed [] 0 [])) f.2 (closes [] c.alone);
    }

-- one more piece in front of a text
front_of : (used : List ℕ) (x : ℕ) (xs : List ℕ) → (first : ℕ) × (more : List ℕ) × (used ++ x ∷ xs ≡ first ∷ more)
front_of [] x xs = (x, xs, refl)
front_of (u ∷ us) x xs = (u, us ++ x ∷ xs, refl)

module _ (style : Style) (bytes rest value : List ℕ) (lines : ℕ) (after : List ℕ) (t : TakesText style rest value lines after) where
  whole : (used : List ℕ) → bytes ≡ used ++ rest → bytes ≡ (used ++ t.first ∷ t.more) ++ after
  whole used p = p ∙ ap (λ r. used ++ r) t.parts ∙ sym (append_assoc used (t.first ∷ t.more) after)

  with_piece : (used text : List ℕ) (n : ℕ) → bytes ≡ used ++ rest → Spells style (used ++ t.first ∷ t.more) (closed text n []) → TakesText style bytes text n after
  with_piece used text n p s =
      let f = front_of used t.first t.more in
      record {
        first = f.0;
        more = f.1;
        parts = whole used p ∙ ap (λ u. u ++ after) f.2;
        spells = subst (λ u. Spells style u (closed text n [])) f.2 s;
      }

  text_stands : (c : Chars) → Takes (piece_at style) bytes (Stands c, rest) → TakesText style bytes (bytes_of c ++ value) (0 + lines) after
  text_stands c k = with_piece k.used (bytes_of c ++ value) (0 + lines) k.parts (stands c (t.first ∷ t.more) (k.short t.first t.more after t.parts) t.spells)

  text_ends_line : (c : Chars) → Takes (piece_at style) bytes (EndsLine c, rest) → TakesText style bytes (bytes_of c ++ value) (1 + lines) after
  text_ends_line c k = with_piece k.used (bytes_of c ++ value) (1 + lines) k.parts (ends_line c (t.first ∷ t.more) (k.short t.first t.more after t.parts) t.spells)

stands_before : (style : Style) (bytes rest : List ℕ) (c : Chars) (s : Spelling) → Takes (piece_at style) bytes (Stands c, rest) → TakesSpelling style rest s → TakesSpelling style bytes (behind (bytes_of c) 0 s)
stands_before style bytes rest c (closed value lines after) k t = text_stands style bytes rest value lines after t c k
stands_before style bytes rest c unclosed k t = tt
stands_before style bytes rest c (refused kind lines) k t = tt

ends_before : (style : Style) (bytes rest : List ℕ) (c : Chars) (s : Spelling) → Takes (piece_at style) bytes (EndsLine c, rest) → TakesSpelling style rest s → TakesSpelling style bytes (behind (bytes_of c) 1 s)
ends_before style bytes rest c (closed value lines after) k t = text_ends_line style bytes rest value lines after t c k
ends_before style bytes rest c unclosed k t = tt
ends_before style bytes rest c (refused kind lines) k t = tt

pub takes_spelling : {style : Style} {bytes : List ℕ} {s : Spelling} → Spells style bytes s → TakesSpelling style bytes s
takes_spelling {style = style} {bytes = bytes} (closes rest e) = text_closes style bytes rest (cuts_at style bytes Closes rest e)
takes_spelling (has_no_end rest e) = tt
takes_spelling (has_bad_escape rest e) = tt
takes_spelling (is_not_utf8 rest e) = tt
takes_spelling {style = style} {bytes = bytes} (stands {s = s} c rest e r) = stands_before style bytes rest c s (cuts_at style bytes (Stands c) rest e) (takes_spelling r)
takes_spelling {style = style} {bytes = bytes} (ends_line {s = s} c rest e r) = ends_before style bytes rest c s (cuts_at style bytes (EndsLine c) rest e) (takes_spelling r)

pub text_taken : (style : Style) (bytes value : List ℕ) (lines : ℕ) (rest : List ℕ) → Spells style bytes (closed value lines rest) → TakesText style bytes value lines rest
text_taken style bytes value lines rest r = takes_spelling r
