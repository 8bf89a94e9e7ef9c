use Rattle.std.proofs.Common.{◌≡◌, drop, map}
use Rattle.build_model.specs.Graphs.{declared_rule}
use Rattle.model_trials.specs.Plain.{as_rule}
use Rattle.model_trials.proofs.clean.rule_at.Given as goal

abbrev pub invariant-loop-rule : goal.invariant-loop-rule
invariant-loop-rule l = declared_rule (map as_rule (drop l.rule-index l.rules)) l.path ≡ declared_rule (map as_rule l.rules) l.path
