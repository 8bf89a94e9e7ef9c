use Rattle.std.proofs.Common.{◌≡◌, ◌++◌, drop, map}
use Rattle.build_model.specs.Graphs.{declared_rule}
use Rattle.model_trials.specs.Plain.{as_rule}
use Rattle.model_trials.specs.Orders.{numbers_needed}
use Rattle.model_trials.proofs.order.needs_of_all.Given as goal

abbrev pub invariant-loop-rule : goal.invariant-loop-rule
invariant-loop-rule l =
    l.all.items ++ map (numbers_needed (declared_rule (map as_rule l.rules)) l.limit) (drop l.rule-index l.rules)
    ≡ l.initial.all.items ++ map (numbers_needed (declared_rule (map as_rule l.rules)) l.limit) l.rules
