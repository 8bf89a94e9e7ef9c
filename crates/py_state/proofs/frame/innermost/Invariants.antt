use Rattle.std.proofs.Common.{◌≡◌, ◌≤◌, length, take, reverse}
use Rattle.py_meaning.specs.Lookup.{inner_value}
use Rattle.py_state.proofs.frame.innermost.Given as goal

abbrev pub invariant-names : goal.invariant-names
invariant-names l = (l.left ≤ length l.inner) × (inner_value (reverse (take l.left l.inner)) l.name ≡ inner_value (reverse l.inner) l.name)

abbrev pub decreases-names : goal.decreases-names
decreases-names l = l.left
