use Rattle.std.proofs.Common.{◌≡◌, ◌+◌, List, ℕ, length}
use denote.Text.{Utf8}
use denote.Shadow.{shadow}
use Rattle.py_text.specs.Sizes.{saturated}
use Rattle.py_text.proofs.CutLemmas.{Cuts}
use Rattle.py_text.proofs.splitting.split_count.Given as goal

abbrev pub invariant-cuts : goal.invariant-cuts
invariant-cuts l = ((parts : List (List ℕ)) × (l.count ≡ saturated (length parts + 1)) × Cuts l.separator l.text l.rest parts) × shadow (Utf8 l.rest)

abbrev pub decreases-cuts : goal.decreases-cuts
decreases-cuts l = length l.rest
