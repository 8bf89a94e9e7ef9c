-- Letters in the other case: as many bytes.
use Rattle.std.proofs.Common.{◌≡◌, List, ℕ, length, Ok, Err, refl}
use Rattle.std.proofs.lemmas.List.{length-map}
use Rattle.py_text.specs.Letters.{lower, upper}
use Rattle.py_heap.specs.declared.fault.ValueFault.{ValueFault}
use Rattle.scons_base.specs.declared.limits.TheConstants.{TEXT_LIMIT}
use Rattle.py_heap.specs.Units.{Units, room}
use Rattle.py_compare.specs.Outcomes.{paid_text}

pub lower_stop : (u : Units) (s : List ℕ) (e : ValueFault) → room TEXT_LIMIT u (length s) ≡ Err e → paid_text u (lower s) ≡ Err e
lower_stop u s e h = rw length-map (rw h refl)

pub lower_go : (u left : Units) (s made : List ℕ) → room TEXT_LIMIT u (length s) ≡ Ok left → made ≡ lower s → paid_text u (lower s) ≡ Ok (made, left)
lower_go u left s made h m = rw length-map (rw (h, m) refl)

pub upper_stop : (u : Units) (s : List ℕ) (e : ValueFault) → room TEXT_LIMIT u (length s) ≡ Err e → paid_text u (upper s) ≡ Err e
upper_stop u s e h = rw length-map (rw h refl)

pub upper_go : (u left : Units) (s made : List ℕ) → room TEXT_LIMIT u (length s) ≡ Ok left → made ≡ upper s → paid_text u (upper s) ≡ Ok (made, left)
upper_go u left s made h m = rw length-map (rw (h, m) refl)

pub ruleset letters = (lower_stop, lower_go, upper_stop, upper_go)
