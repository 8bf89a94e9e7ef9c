-- Rules by the paths of their nodes, and how they come together in a graph.
use Rattle.std.specs.Prelude.{ℕ, ◌+◌, ◌&&◌, nat_lt, Bool, List, [], ◌∷◌, ◌++◌, Option, Some, None, Result, Ok, Err, length, map, position, is_some, if◌then◌else◌}
use Rattle.std.specs.List.{list_any, find}
use Rattle.std.specs.Str.{bytes_eq}
use Rattle.std.specs.Cmp.Lexicographic.{pointwise}
use Rattle.scons_base.specs.declared.limits.TheConstants.{RULE_LIMIT}
use Rattle.world_api.specs.declared.job.Line.{Line}
use Rattle.world_api.specs.declared.job.Work.{Work}
use Rattle.world_api.specs.declared.decider.Decider.{Decider}
use Rattle.rule_graph.specs.declared.rule.Rule.{Rule}
use Rattle.rule_graph.specs.declared.build_fault.What.TheVariants.{Rules}
use Rattle.rule_graph.specs.Rules.{line_eq}
use Rattle.rule_graph.specs.Graphs.{RuleGraph, path_of}
use Rattle.scons_decls.specs.declared.fault.NameFault.TheVariants.{SelfSource, TwoRules}
use Rattle.scons_rules.specs.declared.fault.RuleReadFault.{RuleReadFault}
use Rattle.scons_rules.specs.declared.fault.RuleReadFault.TheVariants.{Name, TooMany}

-- how some targets are made of some sources
pub record PathRule : Type 0 where
  pub work : Work
  pub targets : List (List ℕ)
  pub sources : List (List ℕ)
  pub libs : List (List ℕ)
  pub depends : List (List ℕ)
  pub required : List (List ℕ)
  pub ignored : List (List ℕ)
  pub lines : List Line
  pub signed : List (List ℕ)
  pub paths : List (List ℕ)
  pub scans : Bool
  pub always : Bool
  pub decider : Decider
  pub builder : List ℕ

-- a rule of a graph, where these paths have a number
abbrev pub by_paths : List (List ℕ) → Rule → PathRule
by_paths nodes r = record {
  work = r.work;
  targets = map (path_of nodes) r.targets;
  sources = map (path_of nodes) r.sources;
  libs = map (path_of nodes) r.libs;
  depends = map (path_of nodes) r.depends;
  required = map (path_of nodes) r.required;
  ignored = map (path_of nodes) r.ignored;
  lines = r.lines;
  signed = r.signed;
  paths = r.paths;
  scans = r.scans;
  always = r.always;
  decider = r.decider;
  builder = r.builder;
}

-- the rules of a graph
abbrev pub rules_in : RuleGraph → List PathRule
rules_in g = map (by_paths g.nodes) g.rules

-- whether two rules do the same: they have the same builder, targets, sources, lines, signed lines and search directories
abbrev pub same_rule : PathRule → PathRule → Bool
same_rule a b =
    bytes_eq a.builder b.builder && (pointwise bytes_eq a.targets b.targets && (pointwise bytes_eq a.sources b.sources
    && (pointwise bytes_eq a.signed b.signed && (pointwise line_eq a.lines b.lines && pointwise bytes_eq a.paths b.paths))))

-- the rule that has a path among its targets
abbrev pub rule_at : List PathRule → List ℕ → Option ℕ
rule_at rules path = position (λ r. list_any (λ t. bytes_eq t path) r.targets) rules

-- the first target that is its own source
abbrev pub own_target : PathRule → Option (List ℕ)
own_target rule = find (λ t. list_any (λ s. bytes_eq s t) rule.sources) rule.targets

-- the first target that has another rule
abbrev pub taken_target : List PathRule → PathRule → Option (List ℕ)
taken_target rules rule = find (λ t. is_some (rule_at rules t)) rule.targets

abbrev there_or : Bool → Option (List ℕ) → List PathRule → PathRule → Result (List PathRule) RuleReadFault
there_or same (Some target) rules rule = if same then Ok rules else Err (Name (TwoRules target))
there_or same None rules rule =
    if same then Ok rules else (if nat_lt (length rules) RULE_LIMIT then Ok (rules ++ rule ∷ []) else Err (TooMany Rules (RULE_LIMIT + 1)))

abbrev unless_own : Option (List ℕ) → List PathRule → PathRule → Result (List PathRule) RuleReadFault
unless_own (Some target) rules rule = Err (Name (SelfSource target))
unless_own None rules rule = there_or (is_some (position (λ r. same_rule r rule) rules)) (taken_target rules rule) rules rule

-- one rule more: none whose target is its own source; one that does the same as a rule that is there is that one; and a
-- target has one rule at most
unfoldable pub with_rule : List PathRule → PathRule → Result (List PathRule) RuleReadFault
with_rule rules rule = unless_own (own_target rule) rules rule
