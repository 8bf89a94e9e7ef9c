-- What a function reads from each element of a part of a list.
use Rattle.std.proofs.Common.{◌≡◌, ◌&&◌, ap, refl, List, [], ◌∷◌, map, take, length, Bool}
use Rattle.std.specs.Cmp.Lexicographic.{pointwise}
use Rattle.std.specs.List.{starts_with}
use Rattle.std.proofs.lemmas.List.{length-map, take-map, drop-map, map-append}

pub pointwise-map : {A B : Type 0} → (E : B → B → Bool) (f : A → B) (xs ys : List A) → pointwise E (map f xs) (map f ys) ≡ pointwise (λ a b. E (f a) (f b)) xs ys
pointwise-map E f [] [] = refl
pointwise-map E f [] (y ∷ ys) = refl
pointwise-map E f (x ∷ xs) [] = refl
pointwise-map E f (x ∷ xs) (y ∷ ys) = ap (λ b. E (f x) (f y) && b) (pointwise-map E f xs ys)

-- a list begins with another by what a function reads from their elements
pub starts_with-map : {A B : Type 0} → (E : B → B → Bool) (f : A → B) (xs ys : List A) → starts_with (λ a b. E (f a) (f b)) xs ys ≡ starts_with E (map f xs) (map f ys)
starts_with-map E f xs ys = rw (length-map ys f, take-map f (length ys) xs, pointwise-map E f ys (take (length ys) xs)) refl

pub ruleset maps = (length-map, take-map, drop-map)
