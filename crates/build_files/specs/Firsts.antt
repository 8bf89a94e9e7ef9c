-- The paths by which rules are named.
use Rattle.std.specs.Prelude.{ℕ, List, Option, slice_get}
use Rattle.std.specs.Option.{option_and_then}
use Rattle.rule_graph.specs.Graphs.{RuleGraph}

-- the path of a rule's first target
abbrev pub first_target_of : RuleGraph → ℕ → Option (List ℕ)
first_target_of g rule = option_and_then (λ r. option_and_then (λ n. slice_get g.nodes n.0) (slice_get r.targets 0)) (slice_get g.rules rule)
