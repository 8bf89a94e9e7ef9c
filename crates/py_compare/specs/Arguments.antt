-- The arguments of a method or a built-in function. A number of them that it doesn't take is refused before the call; here
-- it is read as no such method.
use Rattle.std.specs.Prelude.{List, [], ◌∷◌, Result, Err}
use Rattle.py_heap.specs.declared.value.Value.{Value}
use Rattle.py_heap.specs.declared.fault.ValueFault.{ValueFault}
use Rattle.py_heap.specs.declared.fault.ValueFault.TheVariants as fault

-- no argument, one, or two
abbrev pub with_none : {X : Type 0} → List Value → Result X ValueFault → Result X ValueFault
with_none [] answer = answer
with_none (a ∷ args) answer = Err fault.NoMethod

abbrev pub with_one : {X : Type 0} → List Value → (Value → Result X ValueFault) → Result X ValueFault
with_one [] f = Err fault.NoMethod
with_one (a ∷ []) f = f a
with_one (a ∷ b ∷ args) f = Err fault.NoMethod

abbrev pub with_two : {X : Type 0} → List Value → (Value → Value → Result X ValueFault) → Result X ValueFault
with_two [] f = Err fault.NoMethod
with_two (a ∷ []) f = Err fault.NoMethod
with_two (a ∷ b ∷ []) f = f a b
with_two (a ∷ b ∷ c ∷ args) f = Err fault.NoMethod

-- one argument that may be left out, and a second one that may
abbrev pub with_optional : {X : Type 0} → List Value → Result X ValueFault → (Value → Result X ValueFault) →
    Result X ValueFault
with_optional [] none f = none
with_optional (a ∷ []) none f = f a
with_optional (a ∷ b ∷ args) none f = Err fault.NoMethod

abbrev pub with_second : {X : Type 0} → List Value → (Value → Result X ValueFault) →
    (Value → Value → Result X ValueFault) → Result X ValueFault
with_second [] f g = Err fault.NoMethod
with_second (a ∷ []) f g = f a
with_second (a ∷ b ∷ []) f g = g a b
with_second (a ∷ b ∷ c ∷ args) f g = Err fault.NoMethod
