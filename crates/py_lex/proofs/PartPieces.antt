-- A piece of an f-text is read alike where the f-text is cut off behind its end, or behind the brace of a field.
use Rattle.std.proofs.Common.{◌≡◌, ℕ, ◌+◌, Bool, true, false, ◌&&◌, ◌==◌, List, [], ◌∷◌, ◌++◌, refl, sym, ap, ◌∙◌, subst, append_assoc}
use Rattle.std.specs.Prelude.{if◌then◌else◌}
use Rattle.py_lex.specs.declared.piece.Style.{Style}
use Rattle.py_lex.specs.declared.piece.Chars.{Chars}
use Rattle.py_lex.specs.declared.piece.Chars.TheVariants.{Byte}
use Rattle.py_lex.specs.declared.piece.Piece.{Piece}
use Rattle.py_lex.specs.declared.piece.Piece.TheVariants.{Closes, Unclosed, BadEscape, NotUtf8, Stands, EndsLine}
use Rattle.py_lex.specs.declared.part.PartPiece.{PartPiece}
use Rattle.py_lex.specs.declared.part.PartPiece.TheVariants.{Opens, Lone, Plain}
use Rattle.py_lex.specs.Texts.{piece_at, bytes_of}
use Rattle.py_lex.specs.Parts.{PartSpelling, ends, unclosed, refused, part_behind, opening_brace, closing_brace, begins_with_brace, plain_piece, part_piece_at, Parts, opens_field, closes_text, part_has_no_end, has_lone_brace, part_has_bad_escape, part_is_not_utf8, part_stands, part_ends_line}
use Rattle.py_lex.proofs.Pieces.{Takes, Cuts, behind_first_cuts}

abbrev PartReader : Type 0
PartReader = List ℕ → PartPiece × List ℕ

abbrev chosen : Bool → PartPiece × List ℕ → PartPiece × List ℕ → PartPiece × List ℕ
chosen t x y = if t then x else y

-- the bytes that a piece takes, and the same piece in front of any shorter rest
pub record PartTakes (f : PartReader) (bytes : List ℕ) (p : PartPiece × List ℕ) : Type 0 where
  pub used : List ℕ
  pub parts : bytes ≡ used ++ p.1
  pub short : (x : ℕ) (more back : List ℕ) → p.1 ≡ (x ∷ more) ++ back → f (used ++ x ∷ more) ≡ (p.0, x ∷ more)

-- the bytes behind which a part ends, and the same end in front of nothing
pub record PartEnds (f : PartReader) (bytes rest : List ℕ) (p : PartPiece) : Type 0 where
  pub used : List ℕ
  pub parts : bytes ≡ used ++ rest
  pub alone : f used ≡ (p, [])

abbrev pub TakesOfPart : PartReader → List ℕ → PartPiece → List ℕ → Type 0
TakesOfPart f bytes Opens rest = PartEnds f bytes rest Opens
TakesOfPart f bytes Lone rest = Unit {0}
TakesOfPart f bytes (Plain Closes) rest = PartEnds f bytes rest (Plain Closes)
TakesOfPart f bytes (Plain (Stands c)) rest = PartTakes f bytes (Plain (Stands c), rest)
TakesOfPart f bytes (Plain (EndsLine c)) rest = PartTakes f bytes (Plain (EndsLine c), rest)
TakesOfPart f bytes (Plain Unclosed) rest = Unit {0}
TakesOfPart f bytes (Plain BadEscape) rest = Unit {0}
TakesOfPart f bytes (Plain NotUtf8) rest = Unit {0}

record CutsPart (f : PartReader) (bytes : List ℕ) (p : PartPiece × List ℕ) : Type 0 where
  cut : TakesOfPart f bytes p.0 p.1

if_cuts : (t : Bool) (f g : PartReader) (bytes : List ℕ) → (t ≡ true → CutsPart f bytes (f bytes)) → (t ≡ false → CutsPart g bytes (g bytes)) → CutsPart (λ r. if t then f r else g r) bytes (if t then f bytes else g bytes)
if_cuts true f g bytes x y = x refl
if_cuts false f g bytes x y = y refl

opening_cuts : (rest : List ℕ) → CutsPart opening_brace rest (opening_brace rest)
opening_cuts [] = record { cut = record { used = []; parts = refl; alone = refl } }
opening_cuts (c ∷ rest) = by_test (c == 123) refl
  where
    by_test : (t : Bool) → (c == 123) ≡ t → CutsPart opening_brace (c ∷ rest) (chosen t (Plain (Stands (Byte 123)), rest) (Opens, c ∷ rest))
    by_test true e = record {
      cut = record {
        used = c ∷ [];
        parts = refl;
        short = λ x more back s. ap (λ t. chosen t (Plain (Stands (Byte 123)), x ∷ more) (Opens, c ∷ x ∷ more)) e;
      };
    }
    by_test false e = record { cut = record { used = []; parts = refl; alone = refl } }

closing_cuts : (b : ℕ) (rest : List ℕ) → CutsPart (λ r. closing_brace (b ∷ r) r) rest (closing_brace (b ∷ rest) rest)
closing_cuts b [] = record { cut = tt }
closing_cuts b (c ∷ rest) = by_test (c == 125) refl
  where
    by_test : (t : Bool) → (c == 125) ≡ t → CutsPart (λ r. closing_brace (b ∷ r) r) (c ∷ rest) (chosen t (Plain (Stands (Byte 125)), rest) (Lone, b ∷ c ∷ rest))
    by_test true e = record {
      cut = record {
        used = c ∷ [];
        parts = refl;
        short = λ x more back s. ap (λ t. chosen t (Plain (Stands (Byte 125)), x ∷ more) (Lone, b ∷ c ∷ x ∷ more)) e;
      };
    }
    by_test false e = record { cut = tt }

module _ (style : Style) (b : ℕ) where
  -- a backslash of a raw f-text in front of a brace
  abbrev before_brace : List ℕ → Bool
  before_brace r = b == 92 && (style.raw && begins_with_brace r)

  abbrev plain_at : PartReader
  plain_at r = if before_brace r then (Plain (Stands (Byte 92)), r) else plain_piece (piece_at style (b ∷ r))

  -- what is cut off behind its first byte begins alike
  same_brace : (bytes used rest : List ℕ) (x : ℕ) (more back : List ℕ) → bytes ≡ used ++ rest → rest ≡ (x ∷ more) ++ back → before_brace (used ++ x ∷ more) ≡ before_brace bytes
  same_brace bytes [] rest x more back p s = sym (ap (λ r. before_brace r) (p ∙ s))
  same_brace bytes (u ∷ us) rest x more back p s = sym (ap (λ r. before_brace r) p)

  none : (c d : Bool) → (c && (d && false)) ≡ false
  none true true = refl
  none true false = refl
  none false d = refl

  used_brace : (bytes used rest : List ℕ) → bytes ≡ used ++ rest → before_brace bytes ≡ false → before_brace used ≡ false
  used_brace bytes [] rest p e = none (b == 92) style.raw
  used_brace bytes (u ∷ us) rest p e = sym (ap (λ r. before_brace r) p) ∙ e

  -- where no brace stands behind, a piece is cut as in any text
  module _ (bytes : List ℕ) (e : before_brace bytes ≡ false) where
    abbrev text_at : List ℕ → Piece × List ℕ
    text_at r = piece_at style (b ∷ r)

    at : (r : List ℕ) → before_brace r ≡ false → plain_at r ≡ plain_piece (text_at r)
    at r f = ap (λ t. chosen t (Plain (Stands (Byte 92)), r) (plain_piece (text_at r))) f

    takes_too : (piece : Piece) (rest : List ℕ) → Takes text_at bytes (piece, rest) → PartTakes plain_at bytes (Plain piece, rest)
    takes_too piece rest k = record {
      used = k.used;
      parts = k.parts;
      short = λ x more back s. at (k.used ++ x ∷ more) (same_brace bytes k.used rest x more back k.parts s ∙ e) ∙ ap (λ p. plain_piece p) (k.short x more back s);
    }

    by_piece : (p : Piece × List ℕ) → Cuts text_at bytes p → CutsPart plain_at bytes (plain_piece p)
    by_piece (Closes, rest) k = record {
      cut = record { used = k.cut.used; parts = k.cut.parts; alone = at k.cut.used (used_brace bytes k.cut.used rest k.cut.parts e) ∙ ap (λ p. plain_piece p) k.cut.alone };
    }
    by_piece (Stands c, rest) k = record { cut = takes_too (Stands c) rest k.cut }
    by_piece (EndsLine c, rest) k = record { cut = takes_too (EndsLine c) rest k.cut }
    by_piece (Unclosed, rest) k = record { cut = tt }
    by_piece (BadEscape, rest) k = record { cut = tt }
    by_piece (NotUtf8, rest) k = record { cut = tt }

  plain_cuts : (rest : List ℕ) → CutsPart plain_at rest (plain_at rest)
  plain_cuts rest = by_test (before_brace rest) refl
    where
      by_test : (t : Bool) → before_brace rest ≡ t → CutsPart plain_at rest (chosen t (Plain (Stands (Byte 92)), rest) (plain_piece (piece_at style (b ∷ rest))))
      by_test true e = record {
        cut = record {
          used = [];
          parts = refl;
          short = λ x more back s. ap (λ t. chosen t (Plain (Stands (Byte 92)), x ∷ more) (plain_piece (piece_at style (b ∷ x ∷ more)))) (same_brace rest [] rest x more back refl s ∙ e);
        };
      }
      by_test false e = by_piece rest e (piece_at style (b ∷ rest)) (behind_first_cuts style b rest)

  first_cuts : (rest : List ℕ) → CutsPart (λ r. part_piece_at style (b ∷ r)) rest (part_piece_at style (b ∷ rest))
  first_cuts rest =
      if_cuts (b == 123) opening_brace (λ r. if b == 125 then closing_brace (b ∷ r) r else plain_at r) rest
      (λ _. opening_cuts rest)
      (λ _. if_cuts (b == 125) (λ r. closing_brace (b ∷ r) r) plain_at rest (λ _. closing_cuts b rest) (λ _. plain_cuts rest))

  behind_first : (rest : List ℕ) (p : PartPiece × List ℕ) → CutsPart (λ r. part_piece_at style (b ∷ r)) rest p → CutsPart (part_piece_at style) (b ∷ rest) p
  behind_first rest (Opens, r) k = record { cut = record { used = b ∷ k.cut.used; parts = ap (λ x. b ∷ x) k.cut.parts; alone = k.cut.alone } }
  behind_first rest (Lone, r) k = record { cut = tt }
  behind_first rest (Plain Closes, r) k = record { cut = record { used = b ∷ k.cut.used; parts = ap (λ x. b ∷ x) k.cut.parts; alone = k.cut.alone } }
  behind_first rest (Plain (Stands c), r) k = record { cut = record { used = b ∷ k.cut.used; parts = ap (λ x. b ∷ x) k.cut.parts; short = k.cut.short } }
  behind_first rest (Plain (EndsLine c), r) k = record { cut = record { used = b ∷ k.cut.used; parts = ap (λ x. b ∷ x) k.cut.parts; short = k.cut.short } }
  behind_first rest (Plain Unclosed, r) k = record { cut = tt }
  behind_first rest (Plain BadEscape, r) k = record { cut = tt }
  behind_first rest (Plain NotUtf8, r) k = record { cut = tt }

part_cuts : (style : Style) (bytes : List ℕ) → CutsPart (part_piece_at style) bytes (part_piece_at style bytes)
part_cuts style [] = record { cut = tt }
part_cuts style (b ∷ rest) = behind_first style b rest (part_piece_at style (b ∷ rest)) (first_cuts style b rest)

pub part_cuts_at : (style : Style) (bytes : List ℕ) (piece : PartPiece) (rest : List ℕ) → part_piece_at style bytes ≡ (piece, rest) → TakesOfPart (part_piece_at style) bytes piece rest
part_cuts_at style bytes piece rest e = let c = part_cuts style bytes in subst (λ p. TakesOfPart (part_piece_at style) bytes p.0 p.1) e c.cut

-- what a part takes with what stands behind it, which is the same part alone
pub record TakesPartWhole (style : Style) (bytes : List ℕ) (field : Bool) (value : List ℕ) (lines : ℕ) (rest : List ℕ) : Type 0 where
  pub first : ℕ
  pub more : List ℕ
  pub parts : bytes ≡ (first ∷ more) ++ rest
  pub reads : Parts style (first ∷ more) (ends field value lines [])

abbrev TakesSpelling : Style → List ℕ → PartSpelling → Type 0
TakesSpelling style bytes (ends field value lines rest) = TakesPartWhole style bytes field value lines rest
TakesSpelling style bytes unclosed = Unit {0}
TakesSpelling style bytes (refused kind lines) = Unit {0}

-- a piece takes its first byte at least
abbrev IsSome : PartPiece → Type 0
IsSome (Plain Unclosed) = ⊥
IsSome other = Unit {0}

first_of : (style : Style) (piece : PartPiece) (used : List ℕ) → IsSome piece → part_piece_at style used ≡ (piece, []) → (first : ℕ) × (more : List ℕ) × (used ≡ first ∷ more)
first_of style piece [] some e = let same : Plain Unclosed ≡ piece = ap (λ p. p.0) e in absurd (subst (λ p. IsSome p) (sym same) some)
first_of style piece (x ∷ xs) some e = (x, xs, refl)

part_ends : (style : Style) (bytes rest : List ℕ) (field : Bool) (piece : PartPiece) → IsSome piece → ((bs : List ℕ) → part_piece_at style bs ≡ (piece, []) → Parts style bs (ends field [] 0 [])) → PartEnds (part_piece_at style) bytes rest piece → TakesPartWhole style bytes field [] 0 rest
part_ends style bytes rest field piece some reads c =
    let f = first_of style piece c.used some c.alone in
    record {
      first = f.0;
      more = f.1;
      parts = c.parts ∙ ap (λ u. u ++ rest) f.2;
      reads = subst (λ u. Parts style u (ends field [] 0 [])) f.2 (reads c.used c.alone);
    }

-- one more piece in front of a part
front_of : (used : List ℕ) (x : ℕ) (xs : List ℕ) → (first : ℕ) × (more : List ℕ) × (used ++ x ∷ xs ≡ first ∷ more)
front_of [] x xs = (x, xs, refl)
front_of (u ∷ us) x xs = (u, us ++ x ∷ xs, refl)

module _ (style : Style) (bytes rest : List ℕ) (field : Bool) (value : List ℕ) (lines : ℕ) (after : List ℕ) (t : TakesPartWhole style rest field value lines after) where
  with_piece : (used text : List ℕ) (n : ℕ) → bytes ≡ used ++ rest → Parts style (used ++ t.first ∷ t.more) (ends field text n []) → TakesPartWhole style bytes field text n after
  with_piece used text n p s =
      let f = front_of used t.first t.more in
      record {
        first = f.0;
        more = f.1;
        parts = (p ∙ ap (λ r. used ++ r) t.parts ∙ sym (append_assoc used (t.first ∷ t.more) after)) ∙ ap (λ u. u ++ after) f.2;
        reads = subst (λ u. Parts style u (ends field text n [])) f.2 s;
      }

  stands_whole : (c : Chars) → PartTakes (part_piece_at style) bytes (Plain (Stands c), rest) → TakesPartWhole style bytes field (bytes_of c ++ value) (0 + lines) after
  stands_whole c k = with_piece k.used (bytes_of c ++ value) (0 + lines) k.parts (part_stands c (t.first ∷ t.more) (k.short t.first t.more after t.parts) t.reads)

  ends_whole : (c : Chars) → PartTakes (part_piece_at style) bytes (Plain (EndsLine c), rest) → TakesPartWhole style bytes field (bytes_of c ++ value) (1 + lines) after
  ends_whole c k = with_piece k.used (bytes_of c ++ value) (1 + lines) k.parts (part_ends_line c (t.first ∷ t.more) (k.short t.first t.more after t.parts) t.reads)

stands_before : (style : Style) (bytes rest : List ℕ) (c : Chars) (s : PartSpelling) → PartTakes (part_piece_at style) bytes (Plain (Stands c), rest) → TakesSpelling style rest s → TakesSpelling style bytes (part_behind (bytes_of c) 0 s)
stands_before style bytes rest c (ends field value lines after) k t = stands_whole style bytes rest field value lines after t c k
stands_before style bytes rest c unclosed k t = tt
stands_before style bytes rest c (refused kind lines) k t = tt

ends_before : (style : Style) (bytes rest : List ℕ) (c : Chars) (s : PartSpelling) → PartTakes (part_piece_at style) bytes (Plain (EndsLine c), rest) → TakesSpelling style rest s → TakesSpelling style bytes (part_behind (bytes_of c) 1 s)
ends_before style bytes rest c (ends field value lines after) k t = ends_whole style bytes rest field value lines after t c k
ends_before style bytes rest c unclosed k t = tt
ends_before style bytes rest c (refused kind lines) k t = tt

takes_spelling : {style : Style} {bytes : List ℕ} {s : PartSpelling} → Parts style bytes s → TakesSpelling style bytes s
takes_spelling {style = style} {bytes = bytes} (opens_field rest e) = part_ends style bytes rest true Opens tt (λ bs f. opens_field [] f) (part_cuts_at style bytes Opens rest e)
takes_spelling {style = style} {bytes = bytes} (closes_text rest e) = part_ends style bytes rest false (Plain Closes) tt (λ bs f. closes_text [] f) (part_cuts_at style bytes (Plain Closes) rest e)
takes_spelling (part_has_no_end rest e) = tt
takes_spelling (has_lone_brace rest e) = tt
takes_spelling (part_has_bad_escape rest e) = tt
takes_spelling (part_is_not_utf8 rest e) = tt
takes_spelling {style = style} {bytes = bytes} (part_stands {s = s} c rest e r) = stands_before style bytes rest c s (part_cuts_at style bytes (Plain (Stands c)) rest e) (takes_spelling r)
takes_spelling {style = style} {bytes = bytes} (part_ends_line {s = s} c rest e r) = ends_before style bytes rest c s (part_cuts_at style bytes (Plain (EndsLine c)) rest e) (takes_spelling r)

pub part_taken : (style : Style) (bytes : List ℕ) (field : Bool) (value : List ℕ) (lines : ℕ) (rest : List ℕ) → Parts style bytes (ends field value lines rest) → TakesPartWhole style bytes field value lines rest
part_taken style bytes field value lines rest r = takes_spelling r
