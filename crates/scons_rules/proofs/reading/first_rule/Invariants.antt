use Rattle.std.proofs.Common.{◌≡◌, map, drop}
use Rattle.std.specs.List.{find, list_any}
use Rattle.std.specs.Str.{bytes_eq}
use Rattle.scons_decls.specs.State.{rule_of}
use Rattle.scons_rules.proofs.reading.first_rule.Given as goal

abbrev pub invariant-loop-rule : goal.invariant-loop-rule
invariant-loop-rule l = find (λ r. list_any (bytes_eq l.target) r.targets) (map rule_of l.rules) ≡ find (λ r. list_any (bytes_eq l.target) r.targets) (map rule_of (drop l.rule-index l.rules))
