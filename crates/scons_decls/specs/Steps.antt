-- One step behind another. The first fault counts: the order of the steps is the order in which faults are found.
use Rattle.std.specs.Prelude.{List, [], ◌∷◌, Result, Ok, Err}
use Rattle.scons_decls.specs.declared.fault.NameFault.{NameFault}

abbrev pub and_then : {X Y : Type 0} → Result X NameFault → (X → Result Y NameFault) → Result Y NameFault
and_then (Ok x) next = next x
and_then (Err fault) next = Err fault

-- what each item of a list gives
abbrev pub each : {X Y : Type 0} → (X → Result Y NameFault) → List X → Result (List Y) NameFault
each f [] = Ok []
each f (x ∷ xs) = and_then (f x) (λ y. and_then (each f xs) (λ ys. Ok (y ∷ ys)))

-- whether something is allowed
abbrev pub Checked : Type 0
Checked = Result (Unit {0}) NameFault

-- each item of a list is allowed
abbrev pub all_of : {X : Type 0} → (X → Checked) → List X → Checked
all_of f [] = Ok tt
all_of f (x ∷ xs) = and_then (f x) (λ u. all_of f xs)

-- steps taken one after another, one for each item of a list
abbrev pub in_turn : {X S : Type 0} → (X → S → Result S NameFault) → List X → S → Result S NameFault
in_turn step [] s = Ok s
in_turn step (x ∷ xs) s = and_then (step x s) (in_turn step xs)
