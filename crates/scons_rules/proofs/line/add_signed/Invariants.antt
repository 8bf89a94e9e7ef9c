use Rattle.std.proofs.Common.{◌≡◌, ◌++◌}
use Rattle.scons_rules.proofs.line.add_signed.Given as goal

abbrev pub invariant-loop-line : goal.invariant-loop-line
invariant-loop-line l = l.signed ≡ l.initial.signed ++ l.yielded
