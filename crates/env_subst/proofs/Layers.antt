-- The names of the variables that are open in two lists: the outermost, and those further in.
use Rattle.std.proofs.Common.{◌≡◌, ◌≤◌, ◌∙◌, ℕ, ◌+◌, ◌-◌, ◌++◌, sym, ap, length, take, arith}
use Rattle.std.proofs.lemmas.List.{length-append}
use Rattle.std.proofs.Math.Seq.{take-append-add}
use Rattle.env_subst.specs.Expansions.{Names}
use Rattle.env_subst.specs.Desks.{outer_names}

-- the last of those further in is left
pub leaves_inner : (xs ys : Names) (n : ℕ) → 1 ≤ length ys → n ≡ length ys - 1 → xs ++ take n ys ≡ outer_names (xs ++ ys)
leaves_inner xs ys n some e =
    let all : length xs + n ≡ length (xs ++ ys) - 1 = omega (arith, length-append xs ys) in
    sym (take-append-add xs ys n) ∙ ap (λ k. take k (xs ++ ys)) all
