use Rattle.std.proofs.Common.{length, map}
use denote.Text.{Utf8}
use denote.Shadow.{shadow}
use Rattle.py_text.proofs.CutLemmas.{Cuts}
use Rattle.py_text.proofs.splitting.split.Given as goal

abbrev pub invariant-cuts : goal.invariant-cuts
invariant-cuts l = Cuts l.separator l.text l.rest (map (λ part. part.now) l.parts.items) × shadow (Utf8 l.rest)

abbrev pub decreases-cuts : goal.decreases-cuts
decreases-cuts l = length l.rest
