-- A name that doesn't end with a text.
use Rattle.std.proofs.Common.{◌≡◌, ◌≢◌, ◌∙◌, ◌-◌, ◌++◌, Bool, true, false, ℕ, List, sym, ap, refl, length, take, drop}
use Rattle.std.specs.Prelude.{nat_eq}
use Rattle.std.specs.List.{ends_with}
use Rattle.std.proofs.lemmas.Slice.Eq.{bytes_eq-Decides}
use Rattle.std.proofs.lemmas.List.{take-append-drop}
use Rattle.std.proofs.Math.Seq.{drop-append_seam}

pub no_end : (s n : List ℕ) → ((front : List ℕ) → s ≢ front ++ n) → ends_with nat_eq s n ≡ false
no_end s n none = by (ends_with nat_eq s n) refl
  where
    by : (b : Bool) → ends_with nat_eq s n ≡ b → b ≡ false
    by false e = refl
    by true e =
        let same : n ≡ drop (length s - length n) s = (bytes_eq-Decides n (drop (length s - length n) s)).0 e in
        absurd (none (take (length s - length n) s) (sym (ap (λ end. take (length s - length n) s ++ end) same ∙ take-append-drop (length s - length n) s)))

pub has_end : (s n : List ℕ) (front : List ℕ) → s ≡ front ++ n → length front ≡ length s - length n → ends_with nat_eq s n ≡ true
has_end s n front is count =
    let behind : drop (length s - length n) s ≡ n = ap (λ k. drop k s) (sym count) ∙ ap (drop (length front)) is ∙ drop-append_seam front n in
    rw behind ((bytes_eq-Decides n n).1 refl)
