-- Keys that are read of texts aren't empty.
use Rattle.std.proofs.Common.{◌≡◌, ℕ, zero, suc, ◌<◌, Bool, true, false, List, [], ◌∷◌, length, Option, Some, None, refl, sym, ap, subst, ◌∙◌, arith}
use Rattle.std.specs.Prelude.{◌≢◌, ◌==◌, slice_index_or, if◌then◌else◌}
use Rattle.std.specs.Option.{option_map}
use Rattle.world_api.specs.Replacing.{Pair}
use Rattle.world_api.specs.Writing.{pairs_in}

pub keyed : (texts : List (List ℕ)) (pairs : List Pair) → pairs_in texts ≡ Some pairs → (k : ℕ) (d : Pair) → k < length pairs → length (slice_index_or pairs k d).0 ≢ 0
keyed [] pairs e k d lt =
    let is : [] ≡ pairs = cc e in
    absurd (let none : k < 0 = subst (λ (x : List Pair). k < length x) (sym is) lt in omega (arith, none))
keyed (key ∷ []) pairs e k d lt = absurd (cc e)
keyed (key ∷ value ∷ texts) pairs e k d lt = by (keyed texts) (length key == 0) (pairs_in texts) refl refl e k lt
  where
    by : ((more : List Pair) → pairs_in texts ≡ Some more → (k : ℕ) (d : Pair) → k < length more → length (slice_index_or more k d).0 ≢ 0) → (b : Bool) (more : Option (List Pair)) → (length key == 0) ≡ b → pairs_in texts ≡ more → (if b then None else option_map (λ (m : List Pair). (key, value) ∷ m) more) ≡ Some pairs
        → (k : ℕ) → k < length pairs → length (slice_index_or pairs k d).0 ≢ 0
    by later true more empty is e k lt = absurd (cc e)
    by later false None empty is e k lt = absurd (cc e)
    by later false (Some more) empty is e zero lt =
        let same : (key, value) ∷ more ≡ pairs = cc e in
        subst (λ (x : List Pair). length (slice_index_or x 0 d).0 ≢ 0) same (λ none. let bad : false ≡ true = sym empty ∙ ap (λ (n : ℕ). n == 0) none in absurd (cc bad))
    by later false (Some more) empty is e (suc k) lt =
        let same : (key, value) ∷ more ≡ pairs = cc e in
        let within : suc k < length ((key, value) ∷ more) = subst (λ (x : List Pair). suc k < length x) (sym same) lt in
        subst (λ (x : List Pair). length (slice_index_or x (suc k) d).0 ≢ 0) same (later more is k d (omega (arith, within)))
