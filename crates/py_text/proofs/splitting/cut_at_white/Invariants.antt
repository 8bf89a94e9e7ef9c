use Rattle.std.proofs.Common.{length}
use denote.Text.{Utf8}
use denote.Shadow.{shadow}
use Rattle.py_text.proofs.WhiteLemmas.{Passed}
use Rattle.py_text.proofs.splitting.cut_at_white.Given as goal

abbrev pub invariant-characters : goal.invariant-characters
invariant-characters l = Passed l.text l.rest × shadow (Utf8 l.rest)

abbrev pub decreases-characters : goal.decreases-characters
decreases-characters l = length l.rest
