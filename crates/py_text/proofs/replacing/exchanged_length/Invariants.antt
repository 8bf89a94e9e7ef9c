use Rattle.std.proofs.Common.{◌≡◌, ℕ, List, length}
use denote.Text.{Utf8}
use denote.Shadow.{shadow}
use Rattle.py_text.specs.Sizes.{saturated}
use Rattle.py_text.proofs.CutLemmas.{Exchanges}
use Rattle.py_text.proofs.replacing.exchanged_length.Given as goal

abbrev pub invariant-places : goal.invariant-places
invariant-places l = ((made : List ℕ) × (l.length ≡ saturated (length made)) × Exchanges l.new l.old l.text l.rest made) × shadow (Utf8 l.rest)

abbrev pub decreases-places : goal.decreases-places
decreases-places l = length l.rest
