-- Paths and the numbers that they get in a graph.
use Rattle.std.specs.Prelude.{◌≡◌, ◌≤◌, ◌+◌, nat_le, ℕ, List, [], Option, Some, Result, Ok, Err, true, length, map, fold, slice_get, if◌then◌else◌}
use Rattle.scons_base.specs.declared.limits.TheConstants.{NODE_LIMIT}
use Rattle.scons_base.specs.declared.ids.NodeId.{NodeId}
use Rattle.node_tree.specs.Nodes.{with_path}
use Rattle.rule_graph.specs.declared.build_fault.What.TheVariants.{Nodes}
use Rattle.rule_graph.specs.Rules.{are_below, are_distinct}
use Rattle.scons_rules.specs.declared.fault.RuleReadFault.{RuleReadFault}
use Rattle.scons_rules.specs.declared.fault.RuleReadFault.TheVariants.{TooMany}

-- paths, each once, where it first stands
abbrev pub each_once : List (List ℕ) → List (List ℕ)
each_once paths = fold with_path [] paths

-- the paths that have a number once these have got theirs, one after another
abbrev pub with_paths : List (List ℕ) → List (List ℕ) → List (List ℕ)
with_paths nodes paths = fold with_path nodes paths

-- the same, where there may be so many
unfoldable pub interned : List (List ℕ) → List (List ℕ) → Result (List (List ℕ)) RuleReadFault
interned nodes paths =
    if nat_le (length (with_paths nodes (each_once paths))) NODE_LIMIT then Ok (with_paths nodes (each_once paths))
    else Err (TooMany Nodes (NODE_LIMIT + 1))

-- the paths of numbers
abbrev pub paths_at : List (List ℕ) → List NodeId → List (Option (List ℕ))
paths_at nodes numbers = map (λ n. slice_get nodes n.0) numbers

-- these are the numbers of paths that differ, which got numbers behind the paths that had one
pub record Numbers (old new paths : List (List ℕ)) (numbers : List NodeId) : Type 0 where
  pub grown : new ≡ with_paths old paths
  pub at : paths_at new numbers ≡ map Some paths
  pub distinct : are_distinct numbers ≡ true
  pub below : are_below (length new) numbers ≡ true
  pub within : length new ≤ NODE_LIMIT
