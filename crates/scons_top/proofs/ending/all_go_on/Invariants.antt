use Rattle.std.proofs.Common.{◌≡◌, take, true}
use Rattle.std.specs.List.{list_all}
use Rattle.scons_top.specs.RunLines.{goes_on}
use Rattle.scons_top.proofs.ending.all_go_on.Given as goal

abbrev pub invariant-loop-fault : goal.invariant-loop-fault
invariant-loop-fault l = list_all goes_on (take l.fault-index l.faults) ≡ true
