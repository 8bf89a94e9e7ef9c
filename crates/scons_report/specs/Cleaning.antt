-- Which rules cleaning goes over. The manual page of SCons says under `-c` that all targets of a build are removed. That cleaning goes by what
-- is declared alone, without a look into files, is this project's own.
use Rattle.std.specs.Prelude.{◌<◌, List, [], ◌∷◌, ◌++◌, length, All, Option, slice_get}
use Rattle.std.specs.Option.{option_map}
use Rattle.scons_base.specs.declared.ids.NodeId.{NodeId}
use Rattle.scons_base.specs.declared.ids.RuleId.{RuleId}
use Rattle.rule_graph.specs.Graphs.{RuleGraph}
use Rattle.build_model.specs.Rules.{Path, Rule}
use Rattle.build_model.specs.Graphs.{declared_rule}
use Rattle.build_model.specs.Needs.{rules_at, with_rule, Visits}
use Rattle.build_means.specs.Rules.{paths_of, rule_in, rules_in}

-- the rules declared for some paths, in their order; a path without one leads nowhere
abbrev pub declared_for : List Rule → List Path → List Rule
declared_for rules paths = rules_at (declared_rule rules) paths

-- what a rule leads to: the rules of its sources, of what it depends on, of its libraries and of what it requires
abbrev pub leads_to : List Rule → Rule → List Rule
leads_to rules r = declared_for rules (r.sources ++ r.depends ++ r.libraries ++ r.required)

-- Declared rules in the order in which their targets are removed: depth first from what is requested, each once and behind those that
-- it leads to.
pub record IsCleanOrder (rules : List Rule) (requested : List Path) (order : List Rule) : Type 0 where
  pub met : List Rule
  pub visits : Visits (leads_to rules) [] (declared_for rules requested) met order

-- the rule of a graph with this number
abbrev pub rule_number : RuleGraph → RuleId → Option Rule
rule_number g id = option_map (rule_in g) (slice_get g.rules id.0)

-- the rules of a graph with these numbers
abbrev pub rules_numbered : RuleGraph → List RuleId → List Rule
rules_numbered g [] = []
rules_numbered g (id ∷ ids) = with_rule (rule_number g id) (rules_numbered g ids)

-- numbers of rules of a graph, which stand in that order
pub record IsCleanList (g : RuleGraph) (requested : List NodeId) (list : List RuleId) : Type 0 where
  pub known : All (λ id. id.0 < length g.rules) list
  pub order : IsCleanOrder (rules_in g) (paths_of g requested) (rules_numbered g list)
