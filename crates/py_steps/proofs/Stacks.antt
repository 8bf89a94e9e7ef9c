-- The values of a desk: the code has the uppermost last.
use Rattle.std.proofs.Common.{arith, ◌≡◌, ◌∙◌, ◌-◌, ◌+◌, ℕ, List, [], ◌∷◌, ◌++◌, min, length, get_or, take, drop, reverse, ap, sym, refl}
use Rattle.std.proofs.lemmas.List.{reverse-append, reverse-reverse, length-reverse, length-drop, take-append-drop, take_at, drop_at, get_or-reverse, get_or_default}
use Rattle.py_heap.specs.declared.value.Value.{Value}
use Rattle.py_heap.specs.declared.value.Value.TheVariants as v
use Rattle.py_steps.specs.Desks.{top, below, above, under}

second_at : (vs : List Value) → get_or vs 1 v.Nil ≡ top (below vs)
second_at [] = refl
second_at (x ∷ []) = refl
second_at (x ∷ y ∷ vs) = refl

pub second_of : (xs : List Value) (k : ℕ) (x : Value) → length xs ≡ k + 2 → x ≡ get_or xs k x → x ≡ top (below (reverse xs))
second_of xs k x l e =
    let place : length xs - 1 - 1 ≡ k = omega arith in
    e ∙ get_or_default xs k x v.Nil (omega arith) ∙ sym (get_or-reverse xs 1 v.Nil (omega arith) ∙ ap (λ i. get_or xs i v.Nil) place) ∙ second_at (reverse xs)

reversed_parts : (xs : List Value) (n : ℕ) → reverse xs ≡ reverse (drop n xs) ++ reverse (take n xs)
reversed_parts xs n = ap reverse (sym (take-append-drop n xs)) ∙ reverse-append (take n xs) (drop n xs)

upper_length : (xs : List Value) (n height : ℕ) → n ≡ min height (length xs) → length (reverse (drop n xs)) ≡ length (reverse xs) - height
upper_length xs n height e = omega (arith, length-reverse (drop n xs), length-drop n xs, length-reverse xs)

pub above_is : (xs : List Value) (n height : ℕ) → n ≡ min height (length xs) → drop n xs ≡ above height (reverse xs)
above_is xs n height e =
    let upper : take (length (reverse xs) - height) (reverse xs) ≡ reverse (drop n xs) =
    ap (take (length (reverse xs) - height)) (reversed_parts xs n) ∙ take_at (reverse (drop n xs)) (reverse (take n xs)) (length (reverse xs) - height) (upper_length xs n height e) in
    sym (ap reverse upper ∙ reverse-reverse (drop n xs))

pub under_is : (xs : List Value) (n height : ℕ) → n ≡ min height (length xs) → reverse (take n xs) ≡ under height (reverse xs)
under_is xs n height e =
    sym (ap (drop (length (reverse xs) - height)) (reversed_parts xs n) ∙ drop_at (reverse (drop n xs)) (reverse (take n xs)) (length (reverse xs) - height) (upper_length xs n height e))
