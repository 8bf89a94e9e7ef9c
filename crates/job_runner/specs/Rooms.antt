-- How long the lists of a board become by the further steps of the slips that stand on it.
use Rattle.std.specs.Prelude.{◌+◌, ◌*◌, ℕ, vec_len}
use Rattle.std.specs.VecDeque.{deque_len}
use Rattle.job_runner.specs.declared.board.Board.{Board}

-- each slip that waits or is taken comes to an ending
abbrev pub whole_ended : Board → ℕ
whole_ended board = deque_len board.ended + vec_len board.taken + deque_len board.waiting

-- a slip that waits has three changes before it, one that is taken two, and an ending one
abbrev pub whole_history : Board → ℕ
whole_history board = vec_len board.history + 3 * deque_len board.waiting + 2 * vec_len board.taken + deque_len board.ended
