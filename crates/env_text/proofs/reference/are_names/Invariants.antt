use Rattle.std.proofs.Common.{◌≡◌, ℕ, suc, List, Option, None, Some, Bor, length}
use Rattle.std.specs.Option.{is_some}
use Rattle.env_text.specs.Views.{further_names}
use Rattle.env_text.proofs.reference.are_names.Given as goal

-- all are names where those that are left are
abbrev pub invariant-names : goal.invariant-names
invariant-names l = is_some (further_names l.left) ≡ is_some (further_names l.fn.arguments)

abbrev left : Option (Bor (List ℕ)) → ℕ
left None = 0
left (Some bytes) = suc (length bytes.now)

abbrev pub decreases-names : goal.decreases-names
decreases-names l = left l.left
