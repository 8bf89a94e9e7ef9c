-- The lengths of what is put together.
use Rattle.std.proofs.Common.{arith, ◌≡◌, ◌∙◌, ◌<◌, ◌+◌, ◌*◌, ◌-◌, ◌^◌, ◌++◌, ℕ, zero, suc, add-one, sym, ap, Bool, true, List, [], ◌∷◌, length, Ok, Err, Result, refl}
use Rattle.std.specs.Prelude.{◌==◌}
use Rattle.std.specs.List.{repeat}
use Rattle.std.proofs.lemmas.Bool.{eqb-true}
use Rattle.std.proofs.lemmas.List.{length-append, append_assoc, append-nil}
use Rattle.py_heap.specs.declared.value.Value.{Value}
use Rattle.py_heap.specs.declared.fault.ValueFault.{ValueFault}
use Rattle.scons_base.specs.declared.limits.TheConstants.{LIST_LIMIT}
use Rattle.py_heap.specs.Units.{Units, room, told_length}
use Rattle.py_heap.proofs.Rooms.{room-told_length}
use Rattle.py_compare.specs.Outcomes.{paid_items}

pub length-repeat : {X : Type 0} (n : ℕ) (xs : List X) → length (repeat n xs) ≡ length xs * n
length-repeat zero xs = omega arith
length-repeat (suc n) xs = length-append xs (repeat n xs) ∙ ap (λ m. length xs + m) (length-repeat n xs) ∙ grind arith

pub repeat_more : {X : Type 0} (n : ℕ) (xs : List X) → repeat n xs ++ xs ≡ repeat (suc n) xs
repeat_more zero xs = simp append-nil
repeat_more (suc n) xs = append_assoc xs (repeat n xs) xs ∙ ap (λ ys. xs ++ ys) (repeat_more n xs)

pub turn_more : {X : Type 0} (n : ℕ) (xs made new : List X) → made ≡ repeat n xs → new ≡ made ++ xs → new ≡ repeat (n + 1) xs
turn_more n xs made new m e =
    let step : repeat n xs ++ xs ≡ repeat (n + 1) xs = repeat_more n xs ∙ ap (λ k. repeat k xs) (sym (add-one n)) in
    e ∙ ap (λ ys. ys ++ xs) m ∙ step

repeat-nil : {X : Type 0} (n : ℕ) → repeat {A = X} n [] ≡ []
repeat-nil zero = refl
repeat-nil (suc n) = repeat-nil n

-- nothing, however often
pub nothing_repeated : {X : Type 0} (n : ℕ) (xs made : List X) (empty : Bool) → empty ≡ (length xs == 0) → empty ≡ true → made ≡ [] → made ≡ repeat n xs
nothing_repeated n [] made empty e t m = m ∙ sym (repeat-nil n)
nothing_repeated n (x ∷ xs) made empty e t m = let none : suc (length xs) ≡ zero = eqb-true (suc (length xs)) zero (sym e ∙ t) in absurd (omega arith)

-- the answer of a call for room, by a length told in 64 bits
pub room_told : (limit : ℕ) (u : Units) (n told : ℕ) (r : Result Units ValueFault) → limit < 2 ^ 64 - 1 → told ≡ told_length n → room limit u told ≡ r → room limit u n ≡ r
room_told limit u n told r l e h = sym (room-told_length limit u n l) ∙ rw (← e) h

pub joined_room : (u : Units) (xs ys : List Value) (told : ℕ) (r : Result Units ValueFault) → told ≡ told_length (length xs + length ys) → room LIST_LIMIT u told ≡ r
    → room LIST_LIMIT u (length (xs ++ ys)) ≡ r
joined_room u xs ys told r t h = rw length-append (room_told LIST_LIMIT u (length xs + length ys) told r (omega arith) t h)

pub repeated_room : (u : Units) (xs : List Value) (n told : ℕ) (r : Result Units ValueFault) → told ≡ told_length (length xs * n) → room LIST_LIMIT u told ≡ r
    → room LIST_LIMIT u (length (repeat n xs)) ≡ r
repeated_room u xs n told r t h = rw length-repeat (room_told LIST_LIMIT u (length xs * n) told r (omega arith) t h)

pub joined_stop : (u : Units) (xs ys : List Value) (told : ℕ) (e : ValueFault) → told ≡ told_length (length xs + length ys) → room LIST_LIMIT u told ≡ Err e → paid_items u (xs ++ ys) ≡ Err e
joined_stop u xs ys told e t h = rw (joined_room u xs ys told (Err e) t h) refl

pub joined_go : (u left : Units) (xs ys made : List Value) (told : ℕ) → told ≡ told_length (length xs + length ys) → room LIST_LIMIT u told ≡ Ok left → made ≡ xs ++ ys → paid_items u (xs ++ ys) ≡ Ok (made, left)
joined_go u left xs ys made told t h m = rw (joined_room u xs ys told (Ok left) t h, m) refl

pub repeated_stop : (u : Units) (xs : List Value) (n told : ℕ) (e : ValueFault) → told ≡ told_length (length xs * n) → room LIST_LIMIT u told ≡ Err e → paid_items u (repeat n xs) ≡ Err e
repeated_stop u xs n told e t h = rw (repeated_room u xs n told (Err e) t h) refl

pub repeated_go : (u left : Units) (xs made : List Value) (n told : ℕ) → told ≡ told_length (length xs * n) → room LIST_LIMIT u told ≡ Ok left → made ≡ repeat n xs → paid_items u (repeat n xs) ≡ Ok (made, left)
repeated_go u left xs made n told t h m = rw (repeated_room u xs n told (Ok left) t h, m) refl

pub ruleset lengths = (turn_more, nothing_repeated, joined_stop, joined_go, repeated_stop, repeated_go)
