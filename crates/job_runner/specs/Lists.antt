-- What stands on a board, and what each of its changes makes of it.
use Rattle.std.specs.Prelude.{◌≡◌, ◌+◌, ℕ, List, [], ◌∷◌, ◌++◌, Some, map, slice_get}
use Rattle.std.specs.Arc.{arc_value}
use Rattle.std.specs.List.{remove}
use Rattle.job_runner.specs.Slips.{slip_of}
use Rattle.job_runner.specs.declared.slip.Slip.{Slip}
use Rattle.job_runner.specs.declared.slip.Ending.{Ending}
use Rattle.job_runner.specs.declared.change.Change.{Change}
use Rattle.job_runner.specs.declared.change.Change.TheVariants.{HandedIn, Taken, Ended, Picked}
use Rattle.job_runner.specs.declared.board.Board.{Board}

-- each slip and each ending with its number, in order, how many slips were handed in, and all changes so far
pub record Lists : Type 0 where
  pub handed_in : ℕ
  pub waiting : List (ℕ × Slip)
  pub taken : List (ℕ × Slip)
  pub ended : List (ℕ × Ending)
  pub history : List Change

abbrev pub lists_of : Board → Lists
lists_of board = record {
  handed_in = board.handed_in;
  waiting = map (λ entry. (entry.number, arc_value entry.slip)) board.waiting.items;
  taken = map slip_of board.taken.items;
  ended = map (λ entry. (entry.number, entry.ending)) board.ended.items;
  history = board.history.items;
}

-- a slip is handed in behind those that wait, and its number is how many were handed in before it
pub record HandsIn (number : ℕ) (slip : Slip) (old new : Lists) : Type 0 where
  pub counted : number ≡ old.handed_in
  pub lists : new ≡ record old { handed_in = old.handed_in + 1; waiting = old.waiting ++ (number, slip) ∷ []; history = old.history ++ HandedIn number ∷ [] }

-- the oldest slip that waits is taken
pub record Takes (number : ℕ) (slip : Slip) (old new : Lists) : Type 0 where
  pub oldest : old.waiting ≡ (number, slip) ∷ new.waiting
  pub lists : new ≡ record old { waiting = new.waiting; taken = old.taken ++ (number, slip) ∷ []; history = old.history ++ Taken number ∷ [] }

-- an ending takes the place of its slip, which is taken under this number
pub record Puts (number : ℕ) (ending : Ending) (old new : Lists) : Type 0 where
  pub place : ℕ
  pub own : slice_get old.taken place ≡ Some (number, arc_value ending.slip)
  pub lists : new ≡ record old { taken = remove old.taken place; ended = old.ended ++ (number, ending) ∷ []; history = old.history ++ Ended number ending.outcome ∷ [] }

-- the oldest of these endings has this number, and is this slip's
pub record IsFirst (number : ℕ) (slip : Slip) (ended : List (ℕ × Ending)) : Type 0 where
  pub ending : Ending
  pub first : slice_get ended 0 ≡ Some (number, ending)
  pub own : arc_value ending.slip ≡ slip

-- the oldest ending that waits is picked
pub record Picks (number : ℕ) (ending : Ending) (old new : Lists) : Type 0 where
  pub oldest : old.ended ≡ (number, ending) ∷ new.ended
  pub lists : new ≡ record old { ended = new.ended; history = old.history ++ Picked number ending.outcome ∷ [] }
