-- An item is taken out of a list before or after each is seen as something else.
use Rattle.std.proofs.Common.{◌≡◌, refl, ℕ, suc, zero, List, [], ◌∷◌, ap, map}
use Rattle.std.specs.List.{remove}

pub map_without : {X Y : Type 0} (f : X → Y) (xs : List X) (i : ℕ) → map f (remove xs i) ≡ remove (map f xs) i
map_without f [] zero = refl
map_without f [] (suc i) = refl
map_without f (x ∷ xs) zero = refl
map_without f (x ∷ xs) (suc i) = ap (λ ys. f x ∷ ys) (map_without f xs i)
