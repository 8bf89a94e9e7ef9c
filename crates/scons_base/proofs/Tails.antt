-- A tail of a list, found again by its length.
use Rattle.std.proofs.Common.{arith, ◌≡◌, ◌-◌, ◌+◌, ℕ, List, [], length, drop, ap, sym, ◌∙◌, ⊎_elim, Bool, true, false}
use Rattle.std.specs.Prelude.{if◌then◌else◌, nat_le}
use Rattle.std.proofs.lemmas.List.{length-drop, drop_all, drop-drop}
use Rattle.std.proofs.lemmas.Bool.{cases_lt}
use Rattle.std.proofs.Math.Seq.{drop-length}
use Rattle.scons_base.specs.Normal.{slash, dot}
use Rattle.scons_base.specs.Parts.{suffix_of, name_of, behind_last}

pub drop-again : {X : Type 0} → (i : ℕ) (xs : List X) → drop (length xs - length (drop i xs)) xs ≡ drop i xs
drop-again i xs =
    ⊎_elim (λ h. let e : length xs - length (drop i xs) ≡ i = omega (arith, length-drop i xs) in ap (λ n. drop n xs) e)
    (λ h. let e : length xs - length (drop i xs) ≡ length xs = omega (arith, length-drop i xs) in ap (λ n. drop n xs) e ∙ drop-length xs ∙ sym (drop_all i xs h))
    (cases_lt i (length xs))

-- a suffix stands at the end of its path
pub suffix_ends : (path : List ℕ) → drop (length path - length (suffix_of path)) path ≡ suffix_of path
suffix_ends path = from (nat_le (behind_last dot (name_of path)) 1)
  where
    n : ℕ
    n = behind_last dot (name_of path)

    from : (b : Bool) → drop (length path - length (if b then [] else drop (n - 1) (name_of path))) path ≡ (if b then [] else drop (n - 1) (name_of path))
    from true = drop_all _ path (omega arith)
    from false = rw (drop-drop (n - 1) (behind_last slash path) path) (drop-again (behind_last slash path + (n - 1)) path)
