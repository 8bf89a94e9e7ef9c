-- The steps of the walk by which cleaning goes over rules.
use Rattle.std.specs.Prelude.{ℕ, Bool, true, false, List, [], ◌∷◌, ◌++◌, Option, Some, None, get_or, slice_get}
use Rattle.scons_base.specs.declared.ids.NodeId.{NodeId}
use Rattle.scons_base.specs.declared.ids.RuleId.{RuleId}
use Rattle.rule_graph.specs.Graphs.{RuleGraph}
use Rattle.rule_graph.specs.declared.rule.Rule.{Rule}
use Rattle.task_plan.specs.Rooted.{makers_in}
use Rattle.scons_report.specs.declared.clean.Step.{Step}
use Rattle.scons_report.specs.declared.clean.Step.TheVariants.{Enter, Leave}

-- what a rule names, in the order in which cleaning goes into it
abbrev pub named_in : Rule → List NodeId
named_in r = r.sources ++ r.depends ++ r.libs ++ r.required

abbrev pub led_by : RuleGraph → Option Rule → List RuleId
led_by g None = []
led_by g (Some r) = makers_in g (named_in r)

-- the rules that make what a rule names
abbrev pub led_to : RuleGraph → ℕ → List RuleId
led_to g rule = led_by g (slice_get g.rules rule)

-- The step on top is taken next, and is the last in the list. These rules were put on top of the steps to be entered, the first of
-- them uppermost.
abbrev pub with_entered : List Step → List RuleId → List Step
with_entered steps [] = steps
with_entered steps (rule ∷ rules) = with_entered steps rules ++ Enter rule ∷ []

-- whether a rule was seen; there is nothing to see of one that has no place
abbrev pub is_seen : List Bool → ℕ → Bool
is_seen seen rule = get_or seen rule true

-- The steps after a rule is entered that leads to these. Where it was seen they stay; else all that it leads to is entered, and then it is left.
abbrev pub steps_after : Bool → RuleId → List RuleId → List Step → List Step
steps_after true rule led steps = steps
steps_after false rule led steps = with_entered (steps ++ Leave rule ∷ []) led
