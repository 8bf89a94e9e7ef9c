use Rattle.std.proofs.Common.{◌≡◌, ◌<◌, ℕ, Some}
use Rattle.std.specs.List.{slice_get}
use Rattle.model_trials.specs.declared.reach.PlainRule.{PlainRule}
use Rattle.model_trials.proofs.order.are_numbered.Given as goal

abbrev pub invariant-loop-place : goal.invariant-loop-place
invariant-loop-place l = (n : ℕ) (r : PlainRule) → n < l.place → slice_get l.rules n ≡ Some r → r.number ≡ n
