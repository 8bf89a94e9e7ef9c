-- Rules in their order, and which of them a node has.
use Rattle.std.specs.Prelude.{◌≡◌, Bool, true, false, not, ℕ, ◌<◌, ◌≤◌, ◌&&◌, List, [], ◌∷◌, Option, Some, None, length, position, slice_get, nat_eq, nat_lt, is_some}
use Rattle.std.specs.List.{list_any, list_all, find}
use Rattle.std.specs.Option.{option_map, option_and_then}
use Rattle.std.specs.Str.{bytes_eq}
use Rattle.std.specs.Cmp.Lexicographic.{pointwise}
use Rattle.scons_base.specs.declared.limits.TheConstants.{RULE_LIMIT}
use Rattle.scons_base.specs.declared.ids.NodeId.{NodeId}
use Rattle.scons_base.specs.declared.ids.RuleId.{RuleId}
use Rattle.world_api.specs.declared.job.Line.{Line}
use Rattle.rule_graph.specs.declared.rule.Rule.{Rule}

abbrev pub node_eq : NodeId → NodeId → Bool
node_eq a b = nat_eq a.0 b.0

-- whether a node is one of these
abbrev pub is_target_of : List NodeId → ℕ → Bool
is_target_of nodes n = list_any (λ t. nat_eq t.0 n) nodes

-- the rule that has a node among its targets, by its place
abbrev pub rule_of : List Rule → ℕ → Option ℕ
rule_of rules n = position (λ r. is_target_of r.targets n) rules

abbrev flag_eq : Bool → Bool → Bool
flag_eq true b = b
flag_eq false b = not b

-- whether two lines are run and printed alike
abbrev pub line_eq : Line → Line → Bool
line_eq a b = bytes_eq a.text b.text && (flag_eq a.quiet b.quiet && flag_eq a.ignore b.ignore)

-- whether two rules run the same: also what of a line isn't signed, and where headers are looked for
abbrev pub runs_same : Rule → Rule → Bool
runs_same a b = pointwise line_eq a.lines b.lines && pointwise bytes_eq a.paths b.paths

-- whether two rules do the same
abbrev pub is_same : Rule → Rule → Bool
is_same a b =
    bytes_eq a.builder b.builder && (pointwise node_eq a.targets b.targets
    && (pointwise node_eq a.sources b.sources && (pointwise bytes_eq a.signed b.signed && runs_same a b)))

-- the rule that does the same as this one, by its place
abbrev pub equal_rule : List Rule → Rule → Option ℕ
equal_rule rules rule = position (λ r. is_same r rule) rules

abbrev pub is_own_source : List NodeId → NodeId → Bool
is_own_source sources target = list_any (λ s. nat_eq s.0 target.0) sources

-- the first target that is its own source
abbrev pub own_source : Rule → Option NodeId
own_source rule = find (λ t. is_own_source rule.sources t) rule.targets

-- the first of these nodes that has a rule
abbrev pub taken : List Rule → List NodeId → Option NodeId
taken rules nodes = find (λ t. is_some (rule_of rules t.0)) nodes

-- whether these are numbers of nodes, where so many paths have a number
abbrev pub are_below : ℕ → List NodeId → Bool
are_below n nodes = list_all (λ t. nat_lt t.0 n) nodes

-- whether no node stands twice among these
abbrev pub are_distinct : List NodeId → Bool
are_distinct [] = true
are_distinct (t ∷ ts) = not (is_target_of ts t.0) && are_distinct ts

-- what a rule must be to stand in a graph of so many nodes
pub record IsRule (nodes : ℕ) (rule : Rule) : Type 0 where
  pub has_target : 0 < length rule.targets
  pub distinct : are_distinct rule.targets ≡ true
  pub targets : are_below nodes rule.targets ≡ true
  pub sources : are_below nodes rule.sources ≡ true
  pub libs : are_below nodes rule.libs ≡ true
  pub depends : are_below nodes rule.depends ≡ true
  pub required : are_below nodes rule.required ≡ true
  pub ignored : are_below nodes rule.ignored ≡ true

-- no node is a target of two rules
abbrev pub AreSingle : List Rule → Type 0
AreSingle rules = (i n : ℕ) (r : Rule) → slice_get rules i ≡ Some r → is_target_of r.targets n ≡ true → rule_of rules n ≡ Some i

-- a table of rules by nodes: what it has for a node
abbrev pub rule_at : List (Option RuleId) → ℕ → Option ℕ
rule_at table n = option_map (λ id. id.0) (option_and_then (λ r. r) (slice_get table n))

-- the table has each node's rule, and no node is a target of two rules
pub record IsTable (table : List (Option RuleId)) (rules : List Rule) : Type 0 where
  pub agrees : (n : ℕ) → rule_at table n ≡ rule_of rules n
  pub single : AreSingle rules
  pub limit : length rules ≤ RULE_LIMIT
