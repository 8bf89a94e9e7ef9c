-- A graph: what scripts have declared.
use Rattle.std.specs.Prelude.{◌≡◌, ◌+◌, Bool, ℕ, List, [], ◌∷◌, ◌++◌, Option, Some, None, length, slice_get, unwrap_or, nat_lt, is_some, true, if◌then◌else◌, MatchOption}
use Rattle.std.specs.List.{list_all}
use Rattle.scons_base.specs.declared.ids.NodeId.{NodeId}
use Rattle.scons_base.specs.declared.limits.TheConstants.{RULE_LIMIT}
use Rattle.variant_dirs.specs.declared.variants.Variant.{Variant}
use Rattle.rule_graph.specs.declared.rule.Rule.{Rule}
use Rattle.rule_graph.specs.declared.wish.Wish.{Wish}
use Rattle.rule_graph.specs.declared.fault.RuleFault.{RuleFault}
use Rattle.rule_graph.specs.declared.fault.RuleFault.TheVariants.{SelfSource, TwoRules, Full}
use Rattle.rule_graph.specs.Rules.{own_source, equal_rule, taken, are_below, IsRule}
use Rattle.rule_graph.specs.Aliases.{Alias}

pub record RuleGraph : Type 0 where
  -- the absolute path of the top directory
  pub top : List ℕ
  -- the paths that have a number, by their numbers
  pub nodes : List (List ℕ)
  pub rules : List Rule
  pub aliases : List Alias
  pub defaults : List Wish
  pub helps : List (List ℕ)
  pub variants : List Variant

abbrev pub empty_graph : List ℕ → RuleGraph
empty_graph top = record { top = top; nodes = []; rules = []; aliases = []; defaults = []; helps = []; variants = [] }

-- the path of a node
abbrev pub path_of : List (List ℕ) → NodeId → List ℕ
path_of nodes id = unwrap_or (slice_get nodes id.0) []

abbrev full_fault : RuleGraph → Option RuleFault
full_fault g = if nat_lt (length g.rules) RULE_LIMIT then None else Some (Full (RULE_LIMIT + 1))

abbrev taken_fault : RuleGraph → Option NodeId → Option RuleFault
taken_fault g (Some target) = Some (TwoRules (path_of g.nodes target))
taken_fault g None = full_fault g

abbrev new_fault : RuleGraph → Rule → Option RuleFault
new_fault g rule = if is_some (equal_rule g.rules rule) then None else taken_fault g (taken g.rules rule.targets)

abbrev own_fault : RuleGraph → Rule → Option NodeId → Option RuleFault
own_fault g rule (Some target) = Some (SelfSource (path_of g.nodes target))
own_fault g rule None = new_fault g rule

-- why a rule isn't taken: a target is its own source; or no equal rule is there, and a target has one already, or there
-- are as many rules as there may be
abbrev pub rule_fault : RuleGraph → Rule → Option RuleFault
rule_fault g rule = own_fault g rule (own_source rule)

-- an equal rule is there and keeps its number, or the rule gets the next one
abbrev pub AddsRule : RuleGraph → Rule → ℕ → RuleGraph → Type 0
AddsRule old rule id new =
    MatchOption (equal_rule old.rules rule) ((id ≡ length old.rules) × (new ≡ record old { rules = old.rules ++ rule ∷ [] }))
    (λ there. (id ≡ there) × (new ≡ old))

-- all that rules and aliases name are nodes
pub record IsGraph (nodes : ℕ) (rules : List Rule) (aliases : List Alias) : Type 0 where
  pub each_rule : (i : ℕ) (r : Rule) → slice_get rules i ≡ Some r → IsRule nodes r
  pub each_alias : list_all (λ a. are_below nodes a.1) aliases ≡ true
