-- What a part of an f-text stands for is UTF-8.
use Rattle.std.proofs.Common.{◌≡◌, ℕ, ◌<◌, Bool, true, false, ◌&&◌, ◌==◌, List, [], ◌∷◌, refl, sym, subst, arith}
use Rattle.std.specs.Prelude.{if◌then◌else◌}
use Rattle.std.specs.Str.{IsUtf8}
use Rattle.std.proofs.lemmas.Bool.{eqb-true}
use Rattle.std.proofs.lemmas.Str.{IsUtf8-nil}
use Rattle.py_lex.specs.declared.piece.Style.{Style}
use Rattle.py_lex.specs.declared.piece.Chars.TheVariants.{Byte}
use Rattle.py_lex.specs.declared.piece.Piece.TheVariants.{Closes, Stands, EndsLine}
use Rattle.py_lex.specs.declared.part.PartPiece.{PartPiece}
use Rattle.py_lex.specs.declared.part.PartPiece.TheVariants.{Opens, Lone, Plain}
use Rattle.py_lex.specs.Texts.{bytes_of, piece_at, Spelling, closed, behind}
use Rattle.py_lex.specs.Texts as texts
use Rattle.py_lex.specs.Parts.{PartSpelling, ends, unclosed, refused, part_behind, opening_brace, closing_brace, begins_with_brace, part_piece_at, Parts, opens_field, closes_text, part_has_no_end, has_lone_brace, part_has_bad_escape, part_is_not_utf8, part_stands, part_ends_line}
use Rattle.py_lex.specs.Utf8.{IsClean}
use Rattle.py_lex.proofs.Clean.{clean_next, ascii_byte}
use Rattle.py_lex.proofs.TextUtf8.{CoversEnd, PieceCovers, own_byte, put, piece_covers, Rest, covered, ended, either}

-- a piece stands for its own bytes, or for other text; a brace that opens a field is one byte
abbrev PartCovers : PartPiece → List ℕ → List ℕ → Type 0
PartCovers Opens bytes rest = CoversEnd bytes rest
PartCovers Lone bytes rest = Unit {0}
PartCovers (Plain piece) bytes rest = PieceCovers piece bytes rest

record PartIs (p : PartPiece × List ℕ) (bytes : List ℕ) : Type 0 where
  covers : PartCovers p.0 bytes p.1

if_part : (t : Bool) (X Y : PartPiece × List ℕ) (bytes : List ℕ) → (t ≡ true → PartIs X bytes) → (t ≡ false → PartIs Y bytes) → PartIs (if t then X else Y) bytes
if_part true X Y bytes x y = x refl
if_part false X Y bytes x y = y refl

brace_opens : (b : ℕ) (rest : List ℕ) → b ≡ 123 → PartIs (Opens, rest) (b ∷ rest)
brace_opens b rest e = record { covers = record { first = b; more = rest; parts = refl; ascii = omega (arith, e); goes_on = λ x. x } }

-- two braces stand for one
two_braces : (b n c : ℕ) (rest : List ℕ) → n < 128 → b ≡ n → c ≡ n → PartIs (Plain (Stands (Byte n)), rest) (b ∷ c ∷ rest)
two_braces b n c rest h e f = record { covers = put b (c ∷ rest) rest (Byte n) (omega (arith, e)) (λ clean. clean_next c rest clean (omega (arith, f))) (ascii_byte n h) }

opening_covers : (b : ℕ) (rest : List ℕ) → b ≡ 123 → PartIs (opening_brace rest) (b ∷ rest)
opening_covers b [] e = brace_opens b [] e
opening_covers b (c ∷ rest) e =
    if_part (c == 123) _ _ (b ∷ c ∷ rest) (λ t. two_braces b 123 c rest (omega arith) e (eqb-true c 123 t)) (λ _. brace_opens b (c ∷ rest) e)

closing_covers : (b : ℕ) (rest : List ℕ) → b ≡ 125 → PartIs (closing_brace (b ∷ rest) rest) (b ∷ rest)
closing_covers b [] e = record { covers = tt }
closing_covers b (c ∷ rest) e =
    if_part (c == 125) _ _ (b ∷ c ∷ rest) (λ t. two_braces b 125 c rest (omega arith) e (eqb-true c 125 t)) (λ _. record { covers = tt })

part_covers : (style : Style) → style.quote < 128 → (bytes : List ℕ) → PartIs (part_piece_at style bytes) bytes
part_covers style q [] = record { covers = tt }
part_covers style q (b ∷ rest) =
    if_part (b == 123) _ _ (b ∷ rest) (λ t. opening_covers b rest (eqb-true b 123 t))
    (λ _. if_part (b == 125) _ _ (b ∷ rest) (λ t. closing_covers b rest (eqb-true b 125 t))
    (λ _. if_part (b == 92 && (style.raw && begins_with_brace rest)) _ _ (b ∷ rest) (λ t. subst (λ x. PartIs (Plain (Stands (Byte 92)), rest) (x ∷ rest)) (sym (eqb-true b 92 (either _ _ t).0)) (let own = own_byte 92 rest refl in record { covers = own.covers }))
    (λ _. let own = piece_covers style q (b ∷ rest) in record { covers = own.covers })))

covers_at : (style : Style) → style.quote < 128 → (bytes : List ℕ) (piece : PartPiece) (rest : List ℕ) → part_piece_at style bytes ≡ (piece, rest) → PartCovers piece bytes rest
covers_at style q bytes piece rest e = let c = part_covers style q bytes in subst (λ p. PartCovers p.0 bytes p.1) e c.covers

-- a part as a text that ends where it does
abbrev text_like : PartSpelling → Spelling
text_like (ends field value lines rest) = closed value lines rest
text_like unclosed = texts.unclosed
text_like (refused kind lines) = texts.refused kind lines

moved : (bytes chars : List ℕ) (lines : ℕ) (s : PartSpelling) → Rest bytes (behind chars lines (text_like s)) → Rest bytes (text_like (part_behind chars lines s))
moved bytes chars lines (ends field value more rest) = λ r. r
moved bytes chars lines unclosed = λ r. r
moved bytes chars lines (refused kind more) = λ r. r

part_text : {style : Style} {bytes : List ℕ} {s : PartSpelling} → style.quote < 128 → Parts style bytes s → Rest bytes (text_like s)
part_text {style = style} {bytes = bytes} q (opens_field rest e) = ended bytes rest (covers_at style q bytes Opens rest e)
part_text {style = style} {bytes = bytes} q (closes_text rest e) = ended bytes rest (covers_at style q bytes (Plain Closes) rest e)
part_text q (part_has_no_end rest e) = λ done waiting u m clean. tt
part_text q (has_lone_brace rest e) = λ done waiting u m clean. tt
part_text q (part_has_bad_escape rest e) = λ done waiting u m clean. tt
part_text q (part_is_not_utf8 rest e) = λ done waiting u m clean. tt
part_text {style = style} {bytes = bytes} q (part_stands {s = t} c rest e r) = moved bytes (bytes_of c) 0 t (covered bytes rest c 0 (text_like t) (covers_at style q bytes (Plain (Stands c)) rest e) (part_text q r))
part_text {style = style} {bytes = bytes} q (part_ends_line {s = t} c rest e r) = moved bytes (bytes_of c) 1 t (covered bytes rest c 1 (text_like t) (covers_at style q bytes (Plain (EndsLine c)) rest e) (part_text q r))

-- a part stands for UTF-8, and what follows is clean
pub part_is_utf8 : {style : Style} {bytes value rest : List ℕ} {field : Bool} {lines : ℕ} → style.quote < 128 → Parts style bytes (ends field value lines rest) → IsClean bytes → IsUtf8 value × IsClean rest
part_is_utf8 q r clean = part_text q r [] [] IsUtf8-nil refl clean
