-- The open levels are seen through a map.
use Rattle.std.proofs.Common.{arith, ◌≡◌, ℕ, ◌+◌, Bool, not, List, [], ◌∷◌, Some, None, cond, map, length, refl, ap, ◌∙◌}
use Rattle.std.specs.Prelude.{position, nat_lt}
use Rattle.std.specs.List.{position_or_len}

position_or_len-map : {X Y : Type 0} (p : Y → Bool) (f : X → Y) (xs : List X) → position_or_len p (map f xs) ≡ position_or_len (λ x. p (f x)) xs
position_or_len-map p f [] = refl
position_or_len-map p f (x ∷ xs) = ap (λ n. cond (not (p (f x))) (1 + n) 0) (position_or_len-map p f xs)

length-map : {X Y : Type 0} (f : X → Y) (xs : List X) → length (map f xs) ≡ length xs
length-map f [] = refl
length-map f (x ∷ xs) = grind (arith, length-map f xs)

at_place : {X Y : Type 0} (p : Y → Bool) (f : X → Y) (xs : List X) (m n : ℕ) → m ≡ n → length (map f xs) ≡ length xs → cond (nat_lt m (length (map f xs))) (Some m) None ≡ cond (nat_lt n (length xs)) (Some n) None
at_place p f xs m n e l = ap (λ k. cond (nat_lt m k) (Some m) None) l ∙ ap (λ k. cond (nat_lt k (length xs)) (Some k) None) e

pub position-map : {X Y : Type 0} (p : Y → Bool) (f : X → Y) (xs : List X) → position p (map f xs) ≡ position (λ x. p (f x)) xs
position-map p f xs = at_place p f xs _ _ (position_or_len-map p f xs) (length-map f xs)
