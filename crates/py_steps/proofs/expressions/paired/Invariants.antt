use Rattle.std.proofs.Common.{◌≡◌, ◌++◌, length}
use Rattle.py_meaning.specs.Expressions.{paired}
use Rattle.py_steps.proofs.expressions.paired.Given as goal

abbrev pub invariant-pairs : goal.invariant-pairs
invariant-pairs l = l.pairs.items ++ paired l.left ≡ paired l.values

abbrev pub decreases-pairs : goal.decreases-pairs
decreases-pairs l = length l.left
