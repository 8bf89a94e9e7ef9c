use Rattle.std.proofs.Common.{◌≡◌, ◌++◌, false, map, Contains}
use Rattle.std.specs.Prelude.{All}
use Rattle.scons_top.specs.Endings.{AddsFew}
use Rattle.scons_top.specs.Faults.{EarlyOnlyIf}
use Rattle.scons_top.specs.Stops.{top_of}
use Rattle.scons_top.proofs.ending.add_all.Given as goal

abbrev pub invariant-loop-fault : goal.invariant-loop-fault
invariant-loop-fault l = record {
  late : EarlyOnlyIf ⊥ l.fn.faults → EarlyOnlyIf ⊥ l.faults;
  added : l.lacks ≡ false → l.faults ≡ l.fn.faults ++ map top_of l.yielded;
  each : All (Contains (l.fn.faults ++ map top_of l.yielded)) l.faults;
  few : AddsFew l.yielded l.fn.faults l.faults;
}
