use Rattle.std.proofs.Common.{◌≡◌, ◌++◌, take}
use Rattle.scons_host.specs.SoFar.{so_far}
use Rattle.scons_reading.specs.Beginning.{with_waiting}
use Rattle.scons_reading.proofs.starting.named.Given as goal

abbrev pub invariant-loop-path : goal.invariant-loop-path
invariant-loop-path l = so_far l.state ≡ with_waiting (take l.path-index l.further) (so_far l.fn.state)
