use Rattle.std.proofs.Common.{◌≡◌, drop}
use Rattle.py_lex.proofs.levels.pop_all.Given as goal

abbrev pub invariant-loop-left : goal.invariant-loop-left
invariant-loop-left l = drop l.left l.levels.items ≡ drop l.fn.count l.fn.levels.items

abbrev pub decreases-loop-left : goal.decreases-loop-left
decreases-loop-left l = l.left
