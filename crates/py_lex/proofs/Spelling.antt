-- What is left of a text leads to the whole of it.
use Rattle.std.proofs.Common.{◌≡◌, ℕ, ◌+◌, ◌<◌, ◌≤◌, List, [], ◌++◌, length, refl, arith, ap, sym, ◌∙◌, subst, append_assoc}
use Rattle.std.proofs.lemmas.List.{append-nil}
use Rattle.py_lex.specs.declared.fault.LexKind.TheVariants as kinds
use Rattle.py_lex.specs.declared.piece.Style.{Style}
use Rattle.py_lex.specs.declared.piece.Chars.{Chars}
use Rattle.py_lex.specs.declared.piece.Piece.{Piece}
use Rattle.py_lex.specs.declared.piece.Piece.TheVariants.{Closes, Unclosed, BadEscape, NotUtf8, Stands, EndsLine}
use Rattle.py_lex.specs.Texts.{piece_at, bytes_of, Spelling, closed, unclosed, refused, behind, Spells, closes, has_no_end, has_bad_escape, is_not_utf8, stands, ends_line}

-- whatever is read of the rest, the whole reads with these bytes and lines in front
pub record Leads (style : Style) (bytes value : List ℕ) (lines : ℕ) (rest : List ℕ) : Type 0 where
  pub fits : lines + length rest ≤ length bytes
  pub whole : (s : Spelling) → Spells style rest s → Spells style bytes (behind value lines s)

piece_is : (p : Piece × List ℕ) (piece : Piece) (after : List ℕ) → piece ≡ p.0 → after ≡ p.1 → p ≡ (piece, after)
piece_is p piece after e f = ap (λ x. (x, p.1)) (sym e) ∙ ap (λ y. (piece, y)) (sym f)

behind_none : (s : Spelling) → behind [] 0 s ≡ s
behind_none (closed value more rest) = ap (λ n. closed value n rest) (omega arith)
behind_none unclosed = refl
behind_none (refused kind more) = ap (λ n. refused kind n) (omega arith)

behind_behind : (value chars : List ℕ) (lines more : ℕ) (s : Spelling) → behind value lines (behind chars more s) ≡ behind (value ++ chars) (lines + more) s
behind_behind value chars lines more (closed v m rest) = simp (append_assoc, ap (λ n. closed (value ++ (chars ++ v)) n rest) (let e : lines + (more + m) ≡ (lines + more) + m = omega arith in e))
behind_behind value chars lines more unclosed = refl
behind_behind value chars lines more (refused kind m) = ap (λ n. refused kind n) (omega arith)

piece_goes : (p : Piece × List ℕ) (piece is : Piece) (after : List ℕ) → piece ≡ p.0 → after ≡ p.1 → piece ≡ is → p ≡ (is, after)
piece_goes p piece is after e f g = piece_is p is after (sym g ∙ e) f

-- nothing is read
pub leads_at_start : (style : Style) (bytes : List ℕ) → Leads style bytes [] 0 bytes
leads_at_start style bytes = record {
  fits = omega arith;
  whole = λ s r. subst (λ x. Spells style bytes x) (sym (behind_none s)) r;
}

module _ {style : Style} {bytes value : List ℕ} {lines : ℕ} {rest : List ℕ} (so : Leads style bytes value lines rest) {piece : Piece} {after : List ℕ} (e : piece ≡ (piece_at style rest).0) (f : after ≡ (piece_at style rest).1) where
  pub closed_at : piece ≡ Closes → Spells style bytes (closed value lines after)
  closed_at g =
      let same : closed (value ++ []) (lines + 0) after ≡ closed value lines after = ap (λ v. closed v (lines + 0) after) (append-nil value) ∙ ap (λ n. closed value n after) (omega arith) in
      subst (λ s. Spells style bytes s) same (so.whole (closed [] 0 after) (closes after (piece_goes _ _ _ _ e f g)))

  pub unclosed_at : piece ≡ Unclosed → Spells style bytes unclosed
  unclosed_at g = so.whole unclosed (has_no_end after (piece_goes _ _ _ _ e f g))

  pub bad_escape_at : piece ≡ BadEscape → Spells style bytes (refused kinds.BadEscape lines)
  bad_escape_at g =
      let same : lines + 0 ≡ lines = omega arith in
      subst (λ n. Spells style bytes (refused kinds.BadEscape n)) same (so.whole (refused kinds.BadEscape 0) (has_bad_escape after (piece_goes _ _ _ _ e f g)))

  pub not_utf8_at : piece ≡ NotUtf8 → Spells style bytes (refused kinds.NotUtf8 lines)
  not_utf8_at g =
      let same : lines + 0 ≡ lines = omega arith in
      subst (λ n. Spells style bytes (refused kinds.NotUtf8 n)) same (so.whole (refused kinds.NotUtf8 0) (is_not_utf8 after (piece_goes _ _ _ _ e f g)))

  pub leads_on : (c : Chars) (more : List ℕ) → piece ≡ Stands c → more ≡ value ++ bytes_of c → length after < length rest → Leads style bytes more lines after
  leads_on c more g m shorter = record {
    fits = omega (arith, so.fits);
    whole = λ s r.
        let same : behind value lines (behind (bytes_of c) 0 s) ≡ behind more lines s =
        behind_behind value (bytes_of c) lines 0 s ∙ ap (λ n. behind (value ++ bytes_of c) n s) (omega arith) ∙ ap (λ v. behind v lines s) (sym m) in
        subst (λ x. Spells style bytes x) same (so.whole _ (stands c after (piece_goes _ _ _ _ e f g) r));
  }

  pub leads_on_line : (c : Chars) (more : List ℕ) → piece ≡ EndsLine c → more ≡ value ++ bytes_of c → length after < length rest → Leads style bytes more (lines + 1) after
  leads_on_line c more g m shorter = record {
    fits = omega (arith, so.fits);
    whole = λ s r.
        let same : behind value lines (behind (bytes_of c) 1 s) ≡ behind more (lines + 1) s =
        behind_behind value (bytes_of c) lines 1 s ∙ ap (λ v. behind v (lines + 1) s) (sym m) in
        subst (λ x. Spells style bytes x) same (so.whole _ (ends_line c after (piece_goes _ _ _ _ e f g) r));
  }
