use Rattle.std.proofs.Common.{ℕ, List}
use denote.Shadow.{shadow}
use denote.Text.{Utf8}
use Rattle.env_subst.proofs.CharCuts.{Left}
use Rattle.env_subst.proofs.select.back_place.Given as goal

-- the characters that were passed
abbrev pub invariant-characters : goal.invariant-characters
invariant-characters l = ((passed : List ℕ) × Left l.text passed l.rest l.left l.count) × shadow (Utf8 l.rest)

abbrev pub decreases-characters : goal.decreases-characters
decreases-characters l = l.left
