use Rattle.std.proofs.Common.{length, string_bytes}
use denote.Text.{Utf8}
use denote.Shadow.{shadow}
use Rattle.py_text.proofs.CutLemmas.{Exchanges}
use Rattle.py_text.proofs.replacing.exchanged.Given as goal

abbrev pub invariant-places : goal.invariant-places
invariant-places l = Exchanges l.new l.old l.text l.rest (string_bytes l.made) × shadow (Utf8 l.rest)

abbrev pub decreases-places : goal.decreases-places
decreases-places l = length l.rest
