use Rattle.std.proofs.Common.{◌≤◌, ◌-◌}
use Rattle.py_text.proofs.CharLemmas.{Follows}
use Rattle.py_text.proofs.characters.behind.Given as goal

abbrev pub invariant-characters : goal.invariant-characters
invariant-characters l = (l.left ≤ l.count) × Follows l.text l.rest.rest.now (l.count - l.left)

abbrev pub decreases-characters : goal.decreases-characters
decreases-characters l = l.left
