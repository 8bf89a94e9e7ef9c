use Rattle.std.proofs.Common.{◌≡◌, drop}
use Rattle.std.specs.List.{find}
use Rattle.rule_graph.specs.Rules.{is_own_source}
use Rattle.rule_graph.proofs.rule.own_source_of.Given as goal

-- none of the targets passed is a source
abbrev pub invariant-loop-target : goal.invariant-loop-target
invariant-loop-target l =
    find (λ t. is_own_source l.sources t) (drop l.target-index l.targets) ≡ find (λ t. is_own_source l.sources t) l.targets
