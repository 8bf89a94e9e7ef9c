-- Cutting what is UTF-8 up to its mark.
use Rattle.std.proofs.Common.{◌≡◌, ℕ, zero, suc, ◌+◌, ◌<◌, Bool, true, false, not, ◌&&◌, ◌==◌, List, [], ◌∷◌, ◌++◌, length, take, drop, get_or, refl, sym, ap, ◌∙◌, subst, inl, inr, arith, add-one}
use Rattle.std.specs.List.{list_all}
use Rattle.std.specs.Str.{IsUtf8}
use Rattle.std.proofs.lemmas.List.{length-append}
use Rattle.std.proofs.lemmas.Str.{IsUtf8-take, IsUtf8-drop, IsUtf8-append, IsUtf8-nil, IsUtf8-from_ascii, IsCharBoundary-before_ascii, IsCharBoundary-after_ascii}
use Rattle.py_lex.specs.Utf8.{IsClean}

abbrev pub is_no_mark : ℕ → Bool
is_no_mark b = not (b == 255)

at_seam : (front : List ℕ) (b : ℕ) (rest : List ℕ) → get_or (front ++ b ∷ rest) (length front) 0 ≡ b
at_seam [] b rest = refl
at_seam (x ∷ front) b rest = at_seam front b rest

take_seam : (front rest : List ℕ) → take (length front) (front ++ rest) ≡ front
take_seam [] rest = refl
take_seam (x ∷ front) rest = ap (λ xs. x ∷ xs) (take_seam front rest)

drop_seam : (front : List ℕ) (b : ℕ) (rest : List ℕ) → drop (suc (length front)) (front ++ b ∷ rest) ≡ rest
drop_seam [] b rest = refl
drop_seam (x ∷ front) b rest = drop_seam front b rest

pub text_split : (front : List ℕ) (b : ℕ) (rest : List ℕ) → IsUtf8 (front ++ b ∷ rest) → b < 128 → IsUtf8 front × IsUtf8 rest
text_split front b rest u h =
    let bs : List ℕ = front ++ b ∷ rest in
    let within : length front < length bs = omega (arith, length-append front (b ∷ rest)) in
    let ascii : get_or bs (length front) 0 < 128 = subst (λ x. x < 128) (sym (at_seam front b rest)) h in (
      subst (λ x. IsUtf8 x) (take_seam front (b ∷ rest)) (IsUtf8-take bs (length front) u (IsCharBoundary-before_ascii bs (length front) within ascii)),
      subst (λ x. IsUtf8 x) (ap (λ n. drop n bs) (add-one (length front)) ∙ drop_seam front b rest) (IsUtf8-drop bs (length front + 1) u (IsCharBoundary-after_ascii bs (length front) u within ascii)),
    )

marked_first : (b : ℕ) (more : Bool) → b ≡ 255 → (is_no_mark b && more) ≡ true → ⊥
marked_first b more e h = let k : (is_no_mark 255 && more) ≡ true = ap (λ x. is_no_mark x && more) (sym e) ∙ h in (cc)

both : (a b : Bool) → (a && b) ≡ true → (a ≡ true) × (b ≡ true)
both true true e = (refl, refl)
both true false e = cc
both false b e = cc

mark_split : (front : List ℕ) (b : ℕ) (rest good more : List ℕ) → list_all is_no_mark front ≡ true → front ++ b ∷ rest ≡ good ++ 255 ∷ more → b < 128 → (tail : List ℕ) × ((good ≡ front ++ b ∷ tail) × (rest ≡ tail ++ 255 ∷ more))
mark_split [] b rest [] more n e h = let k : b ≡ 255 = cc in absurd (omega (arith, k))
mark_split [] b rest (g ∷ good) more n e h = (good, (cc, cc))
mark_split (x ∷ front) b rest [] more n e h = let k : x ≡ 255 = cc in absurd (marked_first x _ k n)
mark_split (x ∷ front) b rest (g ∷ good) more n e h =
    let k : front ++ b ∷ rest ≡ good ++ 255 ∷ more = cc in
    let same : x ≡ g = cc in
    let t = mark_split front b rest good more (both _ _ n).1 k h in
    (t.0, (ap (λ y. y ∷ good) (sym same) ∙ ap (λ xs. x ∷ xs) t.1.0, t.1.1))

pub split : (front : List ℕ) (b : ℕ) (rest : List ℕ) → list_all is_no_mark front ≡ true → IsClean (front ++ b ∷ rest) → b < 128 → IsUtf8 front × IsClean rest
split front b rest n clean h =
    elim clean.parts [
      | inl e ↦ let u = text_split front b rest (subst (λ x. IsUtf8 x) (sym e) clean.utf8) h in
          (u.0, record { good = rest; more = []; utf8 = u.1; parts = inl refl })
      | inr e ↦ let t = mark_split front b rest clean.good clean.more n e h in
          let u = text_split front b t.0 (subst (λ x. IsUtf8 x) t.1.0 clean.utf8) h in
          (u.0, record { good = t.0; more = clean.more; utf8 = u.1; parts = inr t.1.1 })
    ]

pub clean_next : (b : ℕ) (rest : List ℕ) → IsClean (b ∷ rest) → b < 128 → IsClean rest
clean_next b rest clean h = (split [] b rest refl clean h).1

pub clean_none : IsClean []
clean_none = record { good = []; more = []; utf8 = IsUtf8-nil; parts = inl refl }

pub clean_mark : (rest : List ℕ) → IsClean (255 ∷ rest)
clean_mark rest = record { good = []; more = rest; utf8 = IsUtf8-nil; parts = inr refl }

one_ascii : (b : ℕ) → b < 128 → (i : ℕ) → get_or (b ∷ []) i 0 < 128
one_ascii b h zero = h
one_ascii b h (suc i) = omega arith

pub ascii_byte : (b : ℕ) → b < 128 → IsUtf8 (b ∷ [])
ascii_byte b h = IsUtf8-from_ascii (b ∷ []) (one_ascii b h)

pub clean_behind : (b : ℕ) (rest : List ℕ) → b < 128 → IsClean rest → IsClean (b ∷ rest)
clean_behind b rest h clean = record {
  good = b ∷ clean.good;
  more = clean.more;
  utf8 = IsUtf8-append (b ∷ []) clean.good (ascii_byte b h) clean.utf8;
  parts = elim clean.parts [ inl e ↦ inl (ap (λ x. b ∷ x) e) | inr e ↦ inr (ap (λ x. b ∷ x) e) ];
}
