use Rattle.std.proofs.Common.{ℕ, ◌<◌, get_or}
use Rattle.build_run.specs.Holds.{Busy, KeepsApart}
use Rattle.build_run.proofs.tickets.Tickets.are_apart.Given as goal

abbrev pub invariant-loop-busy : goal.invariant-loop-busy
invariant-loop-busy l = (k : ℕ) (d : Busy) → k < l.busy-index → KeepsApart l.job (get_or l.busy-items k d).hold
