use Rattle.std.proofs.Common.{ℕ, ◌+◌, ◌*◌, List, drop}
use Rattle.build_model.specs.Rules.{Rule}
use Rattle.model_trials.specs.Orders.{AreNamed}
use Rattle.model_trials.proofs.Visiting.{IsWithin}
use Rattle.model_trials.proofs.order.+visit.Given as goal

abbrev pub decreases-visit : goal.decreases-visit
decreases-visit l = 2 * l.height + 1

abbrev pub decreases-visit_one : goal.decreases-visit_one
decreases-visit_one l = 2 * l.height

abbrev pub invariant-visit-loop-rule : goal.invariant-visit-loop-rule
invariant-visit-loop-rule l = (name : ℕ → Rule) (needs_of : Rule → List Rule) → AreNamed name needs_of l.needs →
    IsWithin name needs_of l.initial.met.items l.rules (drop l.rule-index l.rules) l.met.items l.initial.order.items l.order.items
