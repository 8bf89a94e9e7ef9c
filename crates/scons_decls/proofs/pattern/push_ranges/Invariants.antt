use Rattle.std.proofs.Common.{◌≡◌, ◌++◌, drop}
use Rattle.scons_decls.specs.Patterns.{items_of, range}
use Rattle.scons_decls.proofs.pattern.push_ranges.Given as goal

abbrev pub invariant-loop-place : goal.invariant-loop-place
invariant-loop-place l = l.ranges ++ items_of range l.passed (drop l.place l.set) ≡ items_of range 0 l.set
