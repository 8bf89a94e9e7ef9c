-- The job board of one thread: where each slip stands, by the number of slips that were handed in before it.
use Rattle.std.specs.Prelude.{◌≡◌, ℕ, Bool, true, false, List, [], ◌∷◌, ◌+◌, if◌then◌else◌, nat_eq, nat_lt}
use Rattle.std.specs.Ordering.{int_eq}
use Rattle.world_api.specs.declared.job.Outcome.{Outcome}
use Rattle.world_api.specs.declared.job.Outcome.TheVariants.{Done, Failed, Broken, NoMemory}

-- the number of a slip, and how it ended
abbrev pub End : Type 0
End = ℕ × Outcome

-- slips that wait, slips that are taken, endings that wait, and the endings that were picked, each in order
pub record Seats : Type 0 where
  pub handed_in : ℕ
  pub waiting : List ℕ
  pub taken : List ℕ
  pub ended : List End
  pub picked : List End

abbrev pub no_slips : Seats
no_slips = record { handed_in = 0; waiting = []; taken = []; ended = []; picked = [] }

abbrev pub outcome_eq : Outcome → Outcome → Bool
outcome_eq Done Done = true
outcome_eq (Failed code) (Failed other) = int_eq code other
outcome_eq Broken Broken = true
outcome_eq NoMemory NoMemory = true
outcome_eq _ _ = false

-- how often a number stands in a list
abbrev pub times : ℕ → List ℕ → ℕ
times number [] = 0
times number (first ∷ rest) = (if nat_eq first number then 1 else 0) + times number rest

-- how often an ending with this number stands in a list
abbrev pub times_ended : ℕ → List End → ℕ
times_ended number [] = 0
times_ended number (first ∷ rest) = (if nat_eq first.0 number then 1 else 0) + times_ended number rest

-- in how many places a slip stands
unfoldable pub places_of : ℕ → Seats → ℕ
places_of number seats = times number seats.waiting + times number seats.taken + times_ended number seats.ended + times_ended number seats.picked

-- each slip that was handed in stands in one place, and no other number stands anywhere
abbrev pub EachOnce : Seats → Type 0
EachOnce seats = (number : ℕ) → places_of number seats ≡ (if nat_lt number seats.handed_in then 1 else 0)
