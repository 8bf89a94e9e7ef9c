use Rattle.std.proofs.Common.{◌≡◌, length}
use denote.Text.{Utf8}
use denote.Shadow.{shadow}
use Rattle.py_text.specs.Stripping.{lstrip}
use Rattle.py_text.proofs.stripping.lstrip.Given as goal

abbrev pub invariant-front : goal.invariant-front
invariant-front l = (lstrip l.rest ≡ lstrip l.text) × shadow (Utf8 l.rest)

abbrev pub decreases-front : goal.decreases-front
decreases-front l = length l.rest
