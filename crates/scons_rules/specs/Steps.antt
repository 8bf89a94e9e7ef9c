-- One step behind another. The first fault counts: the order of the steps is the order in which faults are found.
use Rattle.std.specs.Prelude.{List, [], ◌∷◌, Result, Ok, Err}

abbrev pub and_then : {X Y E : Type 0} → Result X E → (X → Result Y E) → Result Y E
and_then (Ok x) next = next x
and_then (Err fault) next = Err fault

-- what each item of a list gives
abbrev pub each : {X Y E : Type 0} → (X → Result Y E) → List X → Result (List Y) E
each f [] = Ok []
each f (x ∷ xs) = and_then (f x) (λ y. and_then (each f xs) (λ ys. Ok (y ∷ ys)))

-- each item of a list is allowed
abbrev pub all_of : {X E : Type 0} → (X → Result (Unit {0}) E) → List X → Result (Unit {0}) E
all_of f [] = Ok tt
all_of f (x ∷ xs) = and_then (f x) (λ u. all_of f xs)

-- steps taken one after another, one for each item of a list
abbrev pub in_turn : {X S E : Type 0} → (X → S → Result S E) → List X → S → Result S E
in_turn step [] s = Ok s
in_turn step (x ∷ xs) s = and_then (step x s) (in_turn step xs)
