use Rattle.std.proofs.Common.{◌≡◌, length}
use denote.Text.{Utf8}
use denote.Shadow.{shadow}
use Rattle.py_text.specs.Stripping.{rstrip}
use Rattle.py_text.proofs.stripping.rstrip.Given as goal

abbrev pub invariant-end : goal.invariant-end
invariant-end l = (rstrip l.rest ≡ rstrip l.text) × shadow (Utf8 l.rest)

abbrev pub decreases-end : goal.decreases-end
decreases-end l = length l.rest
