use Rattle.std.proofs.Common.{◌≡◌, ◌++◌}
use Rattle.py_builtins.specs.Numbers.{span, counted}
use Rattle.py_builtins.proofs.numbers.counted.Given as goal

abbrev pub invariant-numbers : goal.invariant-numbers
invariant-numbers l = l.made ++ counted (span l.next l.to) l.next ≡ counted (span l.from l.to) l.from

abbrev pub decreases-numbers : goal.decreases-numbers
decreases-numbers l = span l.next l.to
