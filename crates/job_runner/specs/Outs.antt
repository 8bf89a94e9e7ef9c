-- The slips that are out of a pool, how one comes there, and how one comes back.
use Rattle.std.specs.Prelude.{◌≡◌, ℕ, Bool, Contains, Option, List, [], ◌∷◌, ◌++◌, Some, map, slice_get}
use Rattle.std.specs.Arc.{arc_value}
use Rattle.std.specs.List.{remove}
use Rattle.job_runner.specs.Answers.{Answer, Gives}
use Rattle.job_runner.specs.Lists.{Lists, HandsIn, Picks}
use Rattle.job_runner.specs.Slips.{slip_of}
use Rattle.job_runner.specs.declared.desk.OutList.{OutList}
use Rattle.job_runner.specs.declared.slip.Slip.{Slip}
use Rattle.job_runner.specs.declared.slip.Ending.{Ending}
use Rattle.job_runner.specs.declared.worker.Found.{Found}
use Rattle.job_runner.specs.declared.worker.Found.TheVariants.{Ended, Deserted}

-- each slip that is out, under its number
abbrev pub out_of : OutList → List (ℕ × Slip)
out_of list = map slip_of list.slips.items

-- a slip is handed in to a board, and is out from then on, behind the others, under the number that it has on the board
pub record HandsOut (slip : Slip) (old new : Lists) (out out' : List (ℕ × Slip)) : Type 0 where
  pub number : ℕ
  pub board : HandsIn number slip old new
  pub list : out' ≡ out ++ (number, slip) ∷ []

-- the slip that is out at this place, under some number, is the ending's own, and it is out no more
pub record ReturnsAt (place : ℕ) (ending : Ending) (old new : List (ℕ × Slip)) : Type 0 where
  pub number : ℕ
  pub own : slice_get old place ≡ Some (number, arc_value ending.slip)
  pub rest : new ≡ remove old place

-- a slip that is out is the ending's own, and it is out no more
abbrev pub Returns : Ending → List (ℕ × Slip) → List (ℕ × Slip) → Type 0
Returns ending old new = (place : ℕ) × ReturnsAt place ending old new

-- the oldest of these endings is that of the slip that is out at this place, under its number
pub record IsFirstOut (place : ℕ) (ended : List (ℕ × Ending)) (out : List (ℕ × Slip)) : Type 0 where
  pub number : ℕ
  pub ending : Ending
  pub first : slice_get ended 0 ≡ Some (number, ending)
  pub own : slice_get out place ≡ Some (number, arc_value ending.slip)

-- no ending waits, or the slip of the oldest isn't out under its number
abbrev pub IsFirstNotOut : List (ℕ × Ending) → List (ℕ × Slip) → Type 0
IsFirstNotOut ended out = (number : ℕ) (ending : Ending) → slice_get ended 0 ≡ Some (number, ending) → Contains out (number, arc_value ending.slip) → ⊥

-- the oldest ending is picked from a board, and the slip that is out at this place, which is the ending's own and has its number, is
-- out no more
pub record PicksOut (place : ℕ) (ending : Ending) (old new : Lists) (out out' : List (ℕ × Slip)) : Type 0 where
  pub number : ℕ
  pub board : Picks number ending old new
  pub own : slice_get out place ≡ Some (number, arc_value ending.slip)
  pub rest : out' ≡ remove out place

-- a place and an ending, picked so
abbrev pub PicksFrom : Lists → Lists → List (ℕ × Slip) → List (ℕ × Slip) → ℕ × Ending → Type 0
PicksFrom old new out out' picked = PicksOut picked.0 picked.1 old new out out'

-- what is found is an ending that a run has given, whose slip was out at this place and is out no more; or a slip to run, which is its
-- turn's, and all are out as they were
abbrev pub IsFound : (Slip → Option Answer) → (Ending → Bool) → Found → List (ℕ × Slip) → List (ℕ × Slip) → Type 0
IsFound told gave (Ended place ending) old new = ReturnsAt place ending old new × Gives told gave ending
IsFound told gave (Deserted turn slip) old new = (turn.slip.value ≡ arc_value slip) × (new ≡ old)
