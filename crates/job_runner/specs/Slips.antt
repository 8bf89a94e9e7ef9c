-- The lists of a board as the board of one thread has them.
use Rattle.std.specs.Prelude.{ℕ, List, map}
use Rattle.job_runner.specs.Seats.{Seats, End}
use Rattle.job_runner.specs.Replay.{picked_of}
use Rattle.job_runner.specs.declared.change.Change.{Change}
use Rattle.std.specs.Arc.{arc_value}
use Rattle.job_runner.specs.declared.slip.Slip.{Slip}
use Rattle.job_runner.specs.declared.entry.Waiting.{Waiting}
use Rattle.job_runner.specs.declared.entry.Numbered.{Numbered}
use Rattle.job_runner.specs.declared.entry.Ended.{Ended}

-- a slip with its number
abbrev pub slip_of : Numbered → ℕ × Slip
slip_of entry = (entry.number, arc_value entry.slip)

abbrev pub end_of : Ended → End
end_of entry = (entry.number, entry.ending.outcome)

abbrev pub seats_of : ℕ → List Waiting → List Numbered → List Ended → List Change → Seats
seats_of handed_in waiting taken ended changes = record {
  handed_in = handed_in;
  waiting = map (λ entry. entry.number) waiting;
  taken = map (λ entry. entry.number) taken;
  ended = map end_of ended;
  picked = picked_of changes;
}
