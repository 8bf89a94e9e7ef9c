use Rattle.std.proofs.Common.{◌≡◌, ◌++◌, ◌-◌}
use Rattle.std.specs.Prelude.{vec_len}
use denote.Text.{Utf8}
use denote.Shadow.{shadow}
use Rattle.py_compare.specs.Iterables.{characters}
use Rattle.py_compare.proofs.iterables.characters.Given as goal

abbrev pub invariant-characters : goal.invariant-characters
invariant-characters l = (l.made.items ++ characters (l.count - vec_len l.made) l.rest ≡ characters l.count l.text) × shadow (Utf8 l.rest)

abbrev pub decreases-characters : goal.decreases-characters
decreases-characters l = l.count - vec_len l.made
