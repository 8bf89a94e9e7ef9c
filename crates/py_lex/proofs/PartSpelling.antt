-- What is left of a part leads to the whole of it.
use Rattle.std.proofs.Common.{◌≡◌, ℕ, ◌+◌, ◌<◌, ◌≤◌, Bool, true, false, List, [], ◌++◌, length, refl, arith, ap, sym, ◌∙◌, subst, append_assoc}
use Rattle.std.proofs.lemmas.List.{append-nil}
use Rattle.py_lex.specs.declared.fault.LexKind.TheVariants as kinds
use Rattle.py_lex.specs.declared.piece.Style.{Style}
use Rattle.py_lex.specs.declared.piece.Chars.{Chars}
use Rattle.py_lex.specs.declared.piece.Piece.TheVariants.{Closes, Unclosed, BadEscape, NotUtf8, Stands, EndsLine}
use Rattle.py_lex.specs.declared.part.PartPiece.{PartPiece}
use Rattle.py_lex.specs.declared.part.PartPiece.TheVariants.{Opens, Lone, Plain}
use Rattle.py_lex.specs.Texts.{bytes_of}
use Rattle.py_lex.specs.Parts.{PartSpelling, ends, unclosed, refused, part_behind, part_piece_at, Parts, opens_field, closes_text, part_has_no_end, has_lone_brace, part_has_bad_escape, part_is_not_utf8, part_stands, part_ends_line}

-- whatever is read of the rest, the whole reads with these bytes and lines in front
pub record LeadsPart (style : Style) (bytes value : List ℕ) (lines : ℕ) (rest : List ℕ) : Type 0 where
  pub fits : lines + length rest ≤ length bytes
  pub whole : (s : PartSpelling) → Parts style rest s → Parts style bytes (part_behind value lines s)

piece_goes : (p : PartPiece × List ℕ) (piece is : PartPiece) (after : List ℕ) → piece ≡ p.0 → after ≡ p.1 → piece ≡ is → p ≡ (is, after)
piece_goes p piece is after e f g = ap (λ x. (x, p.1)) (sym (sym g ∙ e)) ∙ ap (λ y. (is, y)) (sym f)

behind_none : (s : PartSpelling) → part_behind [] 0 s ≡ s
behind_none (ends field value more rest) = ap (λ n. ends field value n rest) (omega arith)
behind_none unclosed = refl
behind_none (refused kind more) = ap (λ n. refused kind n) (omega arith)

behind_behind : (value chars : List ℕ) (lines more : ℕ) (s : PartSpelling) → part_behind value lines (part_behind chars more s) ≡ part_behind (value ++ chars) (lines + more) s
behind_behind value chars lines more (ends field v m rest) = simp (append_assoc, ap (λ n. ends field (value ++ (chars ++ v)) n rest) (let e : lines + (more + m) ≡ (lines + more) + m = omega arith in e))
behind_behind value chars lines more unclosed = refl
behind_behind value chars lines more (refused kind m) = ap (λ n. refused kind n) (omega arith)

-- nothing is read
pub part_leads_at_start : (style : Style) (bytes : List ℕ) → LeadsPart style bytes [] 0 bytes
part_leads_at_start style bytes = record {
  fits = omega arith;
  whole = λ s r. subst (λ x. Parts style bytes x) (sym (behind_none s)) r;
}

module _ {style : Style} {bytes value : List ℕ} {lines : ℕ} {rest : List ℕ} (so : LeadsPart style bytes value lines rest) {piece : PartPiece} {after : List ℕ} (e : piece ≡ (part_piece_at style rest).0) (f : after ≡ (part_piece_at style rest).1) where
  ended : (field : Bool) → Parts style rest (ends field [] 0 after) → Parts style bytes (ends field value lines after)
  ended field r =
      let same : ends field (value ++ []) (lines + 0) after ≡ ends field value lines after = ap (λ v. ends field v (lines + 0) after) (append-nil value) ∙ ap (λ n. ends field value n after) (omega arith) in
      subst (λ s. Parts style bytes s) same (so.whole (ends field [] 0 after) r)

  pub field_at : piece ≡ Opens → Parts style bytes (ends true value lines after)
  field_at g = ended true (opens_field after (piece_goes _ _ _ _ e f g))

  pub closed_at : piece ≡ Plain Closes → Parts style bytes (ends false value lines after)
  closed_at g = ended false (closes_text after (piece_goes _ _ _ _ e f g))

  pub unclosed_at : piece ≡ Plain Unclosed → Parts style bytes unclosed
  unclosed_at g = so.whole unclosed (part_has_no_end after (piece_goes _ _ _ _ e f g))

  pub lone_at : piece ≡ Lone → Parts style bytes (refused kinds.BadField lines)
  lone_at g =
      let same : lines + 0 ≡ lines = omega arith in
      subst (λ n. Parts style bytes (refused kinds.BadField n)) same (so.whole (refused kinds.BadField 0) (has_lone_brace after (piece_goes _ _ _ _ e f g)))

  pub bad_escape_at : piece ≡ Plain BadEscape → Parts style bytes (refused kinds.BadEscape lines)
  bad_escape_at g =
      let same : lines + 0 ≡ lines = omega arith in
      subst (λ n. Parts style bytes (refused kinds.BadEscape n)) same (so.whole (refused kinds.BadEscape 0) (part_has_bad_escape after (piece_goes _ _ _ _ e f g)))

  pub not_utf8_at : piece ≡ Plain NotUtf8 → Parts style bytes (refused kinds.NotUtf8 lines)
  not_utf8_at g =
      let same : lines + 0 ≡ lines = omega arith in
      subst (λ n. Parts style bytes (refused kinds.NotUtf8 n)) same (so.whole (refused kinds.NotUtf8 0) (part_is_not_utf8 after (piece_goes _ _ _ _ e f g)))

  pub leads_on : (c : Chars) (more : List ℕ) → piece ≡ Plain (Stands c) → more ≡ value ++ bytes_of c → length after < length rest → LeadsPart style bytes more lines after
  leads_on c more g m shorter = record {
    fits = omega (arith, so.fits);
    whole = λ s r.
        let same : part_behind value lines (part_behind (bytes_of c) 0 s) ≡ part_behind more lines s =
        behind_behind value (bytes_of c) lines 0 s ∙ ap (λ n. part_behind (value ++ bytes_of c) n s) (omega arith) ∙ ap (λ v. part_behind v lines s) (sym m) in
        subst (λ x. Parts style bytes x) same (so.whole _ (part_stands c after (piece_goes _ _ _ _ e f g) r));
  }

  pub leads_on_line : (c : Chars) (more : List ℕ) → piece ≡ Plain (EndsLine c) → more ≡ value ++ bytes_of c → length after < length rest → LeadsPart style bytes more (lines + 1) after
  leads_on_line c more g m shorter = record {
    fits = omega (arith, so.fits);
    whole = λ s r.
        let same : part_behind value lines (part_behind (bytes_of c) 1 s) ≡ part_behind more (lines + 1) s =
        behind_behind value (bytes_of c) lines 1 s ∙ ap (λ v. part_behind v (lines + 1) s) (sym m) in
        subst (λ x. Parts style bytes x) same (so.whole _ (part_ends_line c after (piece_goes _ _ _ _ e f g) r));
  }
