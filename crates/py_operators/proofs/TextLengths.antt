-- The lengths of texts that are put together.
use Rattle.std.proofs.Common.{arith, ◌≡◌, ◌+◌, ◌++◌, ℕ, List, length, Ok, Err, Result, refl}
use Rattle.std.proofs.lemmas.List.{length-append}
use Rattle.py_text.specs.Sizes.{saturated}
use Rattle.py_heap.specs.declared.fault.ValueFault.{ValueFault}
use Rattle.scons_base.specs.declared.limits.TheConstants.{TEXT_LIMIT}
use Rattle.py_heap.specs.Units.{Units, room, told_length}
use Rattle.py_compare.specs.Outcomes.{paid_text}
use Rattle.py_operators.proofs.Lengths.{nothing_repeated, room_told}

joined_room : (u : Units) (s t : List ℕ) (told : ℕ) (r : Result Units ValueFault) → told ≡ told_length (length s + length t) → room TEXT_LIMIT u told ≡ r → room TEXT_LIMIT u (length (s ++ t)) ≡ r
joined_room u s t told r e h = rw length-append (room_told TEXT_LIMIT u (length s + length t) told r (omega arith) e h)

pub joined_stop : (u : Units) (s t : List ℕ) (told : ℕ) (e : ValueFault) → told ≡ told_length (length s + length t) → room TEXT_LIMIT u told ≡ Err e → paid_text u (s ++ t) ≡ Err e
joined_stop u s t told e l h = rw (joined_room u s t told (Err e) l h) refl

pub joined_go : (u left : Units) (s t made : List ℕ) (told : ℕ) → told ≡ told_length (length s + length t) → room TEXT_LIMIT u told ≡ Ok left → made ≡ s ++ t → paid_text u (s ++ t) ≡ Ok (made, left)
joined_go u left s t made told l h m = rw (joined_room u s t told (Ok left) l h, m) refl

-- a text whose length is told in 64 bits
pub made_stop : (u : Units) (s : List ℕ) (told : ℕ) (e : ValueFault) → told ≡ saturated (length s) → room TEXT_LIMIT u told ≡ Err e → paid_text u s ≡ Err e
made_stop u s told e l h = rw (room_told TEXT_LIMIT u (length s) told (Err e) (omega arith) l h) refl

pub made_go : (u left : Units) (s made : List ℕ) (told : ℕ) → told ≡ saturated (length s) → room TEXT_LIMIT u told ≡ Ok left → made ≡ s → paid_text u s ≡ Ok (made, left)
made_go u left s made told l h m = rw (room_told TEXT_LIMIT u (length s) told (Ok left) (omega arith) l h, m) refl

pub ruleset text_lengths = (nothing_repeated, joined_stop, joined_go, made_stop, made_go)
