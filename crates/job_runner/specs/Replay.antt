-- What a history of changes comes to on the job board of one thread. A history has the replies too, and a history with a reply that the
-- board of one thread doesn't give comes to nothing.
use Rattle.std.specs.Prelude.{ℕ, Bool, List, [], ◌∷◌, ◌++◌, ◌+◌, ◌&&◌, Option, Some, None, if◌then◌else◌, nat_eq}
use Rattle.std.specs.Option.{option_map}
use Rattle.job_runner.specs.Seats.{Seats, End, no_slips, outcome_eq}
use Rattle.job_runner.specs.declared.change.Change.{Change}
use Rattle.job_runner.specs.declared.change.Change.TheVariants.{HandedIn, Taken, Ended, Picked}

-- what stands behind the first item, where it is this number
abbrev pub behind : ℕ → List ℕ → Option (List ℕ)
behind number [] = None
behind number (first ∷ rest) = (if nat_eq first number then Some rest else None)

-- the list without this number
abbrev pub without : ℕ → List ℕ → Option (List ℕ)
without number [] = None
without number (first ∷ rest) = (if nat_eq first number then Some rest else option_map (λ others. first ∷ others) (without number rest))

-- what stands behind the first ending, where it is this one
abbrev pub behind_end : End → List End → Option (List End)
behind_end end [] = None
behind_end end (first ∷ rest) = (if nat_eq first.0 end.0 && outcome_eq first.1 end.1 then Some rest else None)

-- One change: a slip is handed in behind those that wait, and its number is how many came before it; the oldest that waits is taken;
-- an ending takes the place of its taken slip; the oldest ending is picked.
abbrev pub after : Change → Seats → Option Seats
after (HandedIn number) s = (if nat_eq number s.handed_in then Some (record s { handed_in = s.handed_in + 1; waiting = s.waiting ++ number ∷ [] }) else None)
after (Taken number) s = option_map (λ rest. record s { waiting = rest; taken = s.taken ++ number ∷ [] }) (behind number s.waiting)
after (Ended number outcome) s = option_map (λ rest. record s { taken = rest; ended = s.ended ++ (number, outcome) ∷ [] }) (without number s.taken)
after (Picked number outcome) s = option_map (λ rest. record s { ended = rest; picked = s.picked ++ (number, outcome) ∷ [] }) (behind_end (number, outcome) s.ended)

abbrev pub after_some : Change → Option Seats → Option Seats
after_some change None = None
after_some change (Some seats) = after change seats

abbrev pub replay_on : Option Seats → List Change → Option Seats
replay_on seats [] = seats
replay_on seats (change ∷ rest) = replay_on (after_some change seats) rest

-- the board of one thread after these changes, from the empty one
unfoldable pub replay_of : List Change → Option Seats
replay_of changes = replay_on (Some no_slips) changes

abbrev pub pick_of : Change → List End
pick_of (HandedIn number) = []
pick_of (Taken number) = []
pick_of (Ended number outcome) = []
pick_of (Picked number outcome) = (number, outcome) ∷ []

-- the endings that were picked, in order
abbrev pub picked_of : List Change → List End
picked_of [] = []
picked_of (change ∷ rest) = pick_of change ++ picked_of rest
