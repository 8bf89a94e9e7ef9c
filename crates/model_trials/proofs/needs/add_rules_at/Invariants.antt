use Rattle.std.proofs.Common.{◌≡◌, ◌++◌, drop, map}
use Rattle.build_model.specs.Graphs.{declared_rule}
use Rattle.build_model.specs.Needs.{rules_at}
use Rattle.model_trials.specs.Plain.{as_rule, number}
use Rattle.model_trials.proofs.needs.add_rules_at.Given as goal

abbrev pub invariant-loop-path : goal.invariant-loop-path
invariant-loop-path l =
    l.numbers.items ++ map number (rules_at (declared_rule (map as_rule l.rules)) (drop l.path-index l.paths))
    ≡ l.initial.numbers.items ++ map number (rules_at (declared_rule (map as_rule l.rules)) l.paths)
