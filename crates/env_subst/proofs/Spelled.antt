-- Paths in their one spelling, put behind others.
use Rattle.std.proofs.Common.{◌≡◌, ℕ, List, [], ◌∷◌, ◌++◌, sym, subst}
use Rattle.variant_dirs.specs.Variants.{AreSpelled}

spelled_behind : (top : List ℕ) (xs ys : List (List ℕ)) → AreSpelled top xs → AreSpelled top ys → AreSpelled top (xs ++ ys)
spelled_behind top [] ys h k = k
spelled_behind top (x ∷ xs) ys h k = (h.0, spelled_behind top xs ys h.1 k)

pub all_spelled : (top : List ℕ) (xs ys zs : List (List ℕ)) → AreSpelled top xs → AreSpelled top ys → zs ≡ xs ++ ys → AreSpelled top zs
all_spelled top xs ys zs h k e = subst (AreSpelled top) (sym e) (spelled_behind top xs ys h k)
