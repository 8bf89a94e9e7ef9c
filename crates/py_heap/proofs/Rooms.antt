-- There is room for what its limit and the units allow.
use Rattle.std.proofs.Common.{arith, ◌≡◌, ◌<◌, ◌≤◌, ◌^◌, ◌-◌, ◌∙◌, ap, ℕ, Bool, true, false, Ok, Err, Result, refl}
use Rattle.std.specs.Prelude.{nat_le}
use Rattle.std.proofs.lemmas.Bool.{le-leb, lt-leb, leb-true, leb-false}
use Rattle.py_heap.specs.Units.{Units, charged, room, limited, told_length}
use Rattle.py_heap.specs.declared.fault.ValueFault.{ValueFault}
use Rattle.py_heap.specs.declared.fault.ValueFault.TheVariants as fault

pub room_within : (limit : ℕ) (u : Units) (n : ℕ) → n ≤ limit → room limit u n ≡ charged u n
unfolding room
room_within limit u n h = rw (le-leb n limit h) refl

pub room_passes : (limit : ℕ) (u : Units) (n : ℕ) → limit < n → room limit u n ≡ Err (fault.TooBig (told_length n))
unfolding room
room_passes limit u n h = rw (lt-leb n limit h) refl

pub told_as_is : (n : ℕ) → n < 2 ^ 64 → told_length n ≡ n
told_as_is n h = omega arith

-- a length told with the greatest number in place of more has the same room
pub room-told_length : (limit : ℕ) (u : Units) (n : ℕ) → limit < 2 ^ 64 - 1 → room limit u (told_length n) ≡ room limit u n
room-told_length limit u n h = by (nat_le n (2 ^ 64 - 1)) refl
  where
    by : (b : Bool) → nat_le n (2 ^ 64 - 1) ≡ b → room limit u (told_length n) ≡ room limit u n
    by true e = let same : told_length n ≡ n = omega (arith, leb-true n (2 ^ 64 - 1) e) in rw same refl
    by false e =
        let over : 2 ^ 64 - 1 < n = leb-false n (2 ^ 64 - 1) e in
        let told : told_length n ≡ 2 ^ 64 - 1 = omega arith in
        rw (told, room_passes limit u (2 ^ 64 - 1) h, room_passes limit u n (omega arith), told) refl

pub limited_within : {X : Type 0} (limit n : ℕ) (x : X) → n ≤ limit → limited limit n x ≡ Ok x
unfolding limited
limited_within limit n x h = rw (le-leb n limit h) refl

pub limited_passes : {X : Type 0} (limit n : ℕ) (x : X) → limit < n → limited limit n x ≡ Err (fault.TooBig (told_length n))
unfolding limited
limited_passes limit n x h = rw (lt-leb n limit h) refl

-- what a call for room needs to be answered
pub too_long : (limit : ℕ) (u : Units) (n : ℕ) → limit < n → n < 2 ^ 64 → room limit u n ≡ Err (fault.TooBig n)
too_long limit u n h fits = room_passes limit u n h ∙ ap (λ m. Err (fault.TooBig m)) (told_as_is n fits)

pub too_long_given : {X : Type 0} (limit n : ℕ) (x : X) → limit < n → n < 2 ^ 64 → limited limit n x ≡ Err (fault.TooBig n)
too_long_given limit n x h fits = limited_passes limit n x h ∙ ap (λ m. Err (fault.TooBig m)) (told_as_is n fits)

pub room_by : (limit : ℕ) (u : Units) (n : ℕ) (r : Result Units ValueFault) → n ≤ limit → charged u n ≡ r → room limit u n ≡ r
room_by limit u n r h e = room_within limit u n h ∙ e

pub ruleset rooms = (too_long, too_long_given, room_by, limited_within)
