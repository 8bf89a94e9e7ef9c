-- The declared targets, and those that lie below a directory.
use Rattle.std.specs.Prelude.{◌≡◌, ◌≤◌, ℕ, Bool, true, false, List, [], ◌∷◌, ◌++◌, Some, IfSome, length, map, slice_get, if◌then◌else◌}
use Rattle.std.specs.List.{filter, flat_map, list_any, AllWithin}
use Rattle.std.specs.List.Sorted.{IsPermutation, IsSortedBy}
use Rattle.std.specs.Cmp.Lexicographic.{slice_cmp}
use Rattle.std.specs.Ordering.{is_lt, nat_cmp}
use Rattle.scons_base.specs.Normal.{is_top, is_root, slash}
use Rattle.scons_base.specs.Parts.{is_below}
use Rattle.scons_base.specs.declared.ids.NodeId.{NodeId}
use Rattle.rule_graph.specs.Graphs.{RuleGraph, path_of}
use Rattle.rule_graph.specs.declared.rule.Rule.{Rule}
use Rattle.scons_top.specs.declared.below.Below.{Below}

-- nodes with their paths
abbrev pub with_paths : RuleGraph → List NodeId → List (List ℕ × NodeId)
with_paths g nodes = map (λ (node : NodeId). (path_of g.nodes node, node)) nodes

-- the targets of these rules, in the order of the rules
abbrev pub targets_in : RuleGraph → List Rule → List (List ℕ × NodeId)
targets_in g rules = flat_map (λ (rule : Rule). with_paths g rule.targets) rules

-- whether a declared target lies below a path
abbrev pub has_below : RuleGraph → List ℕ → Bool
has_below g path = list_any (λ (target : List ℕ × NodeId). is_below target.0 path) (targets_in g g.rules)

-- ---- in the order of their paths

-- whether a path goes before another: byte by byte, and a front of a path goes before it
abbrev pub goes_before : List ℕ → List ℕ → Bool
goes_before path other = is_lt (slice_cmp nat_cmp path other)

abbrev pub AreInOrder : List (List ℕ × NodeId) → Type 0
AreInOrder targets = IsSortedBy (λ (a b : List ℕ × NodeId). goes_before a.0 b.0) targets

-- these are the declared targets, in the order of their paths
pub record AreListed (g : RuleGraph) (targets : List (List ℕ × NodeId)) : Type 0 where
  pub all : IsPermutation (targets_in g g.rules) targets
  pub order : AreInOrder targets

-- so are those that were looked up
abbrev pub KnowsTargets : RuleGraph → Below → Type 0
KnowsTargets g below = IfSome below.targets (λ targets. AreListed g targets.items)

-- those of this rule were put behind others
abbrev pub AddsTargets : RuleGraph → ℕ → List (List ℕ × NodeId) → List (List ℕ × NodeId) → Type 0
AddsTargets g number old new = (rule : Rule) → slice_get g.rules number ≡ Some rule → new ≡ old ++ with_paths g rule.targets

-- ---- those below a directory

-- the nodes of those that lie below it
abbrev pub nodes_below : List ℕ → List (List ℕ × NodeId) → List NodeId
nodes_below dir targets = map (λ (t : List ℕ × NodeId). t.1) (filter (λ (t : List ℕ × NodeId). is_below t.0 dir) targets)

-- what their paths begin with
abbrev pub begins_below : List ℕ → List ℕ
begins_below dir = if is_top dir then [] else (if is_root dir then slash ∷ [] else dir ++ slash ∷ [])

-- those in front of this place go before this text, and the others don't
pub record StartsAt (targets : List (List ℕ × NodeId)) (front : List ℕ) (place : ℕ) : Type 0 where
  pub within : place ≤ length targets
  pub before : AllWithin (λ (t : List ℕ × NodeId). goes_before t.0 front ≡ true) targets 0 place
  pub behind : AllWithin (λ (t : List ℕ × NodeId). goes_before t.0 front ≡ false) targets place (length targets)

-- these are the nodes of all declared targets below a directory, in the order of their paths
pub record AreBelow (g : RuleGraph) (dir : List ℕ) (nodes : List NodeId) : Type 0 where
  pub targets : List (List ℕ × NodeId)
  pub listed : AreListed g targets
  pub those : nodes ≡ nodes_below dir targets
