-- Steps that may be at fault, one after another: the first fault is that of all.
use Rattle.std.specs.Prelude.{List, [], ◌∷◌, ◌++◌, Result, Ok, Err}

abbrev pub and_then : {X Y E : Type 0} → Result X E → (X → Result Y E) → Result Y E
and_then (Ok x) f = f x
and_then (Err e) f = Err e

-- each of a list, on what those in front of it came to
abbrev pub along : {A S E : Type 0} → (S → A → Result S E) → S → List A → Result S E
along f s [] = Ok s
along f s (a ∷ more) = and_then (f s a) (λ t. along f t more)

-- one more behind others
abbrev pub and_one : {X E : Type 0} → List X → Result X E → Result (List X) E
and_one xs made = and_then made (λ x. Ok (xs ++ x ∷ []))

abbrev pub and_more : {X E : Type 0} → List X → Result (List X) E → Result (List X) E
and_more xs made = and_then made (λ ys. Ok (xs ++ ys))

-- each of a list
abbrev pub each : {A X E : Type 0} → (A → Result X E) → List A → Result (List X) E
each f list = along (λ xs a. and_one xs (f a)) [] list

-- each of a list, where each gives several
abbrev pub each_joined : {A X E : Type 0} → (A → Result (List X) E) → List A → Result (List X) E
each_joined f list = along (λ xs a. and_more xs (f a)) [] list
