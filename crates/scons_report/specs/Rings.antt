-- How rules that wait for themselves are told: by their first targets, as they stand in a ring, from the least one on.
use Rattle.std.specs.Prelude.{◌≡◌, ◌≢◌, ◌++◌, ℕ, List, map, Some, Contains, slice_get}
use Rattle.std.specs.Cmp.Lexicographic.{slice_cmp}
use Rattle.std.specs.Ordering.{nat_cmp}
use Rattle.std.specs.declared.cmp.Ordering.TheVariants.{Less}
use Rattle.scons_base.specs.declared.ids.RuleId.{RuleId}
use Rattle.rule_graph.specs.Graphs.{RuleGraph}
use Rattle.rule_graph.specs.declared.build_fault.BuildFault.{BuildFault}
use Rattle.rule_graph.specs.declared.build_fault.BuildFault.TheVariants as fault
use Rattle.build_files.specs.Firsts.{first_target_of}

-- these are the first targets of these rules, in their order
abbrev pub AreFirstTargets : RuleGraph → List RuleId → List (List ℕ) → Type 0
AreFirstTargets g rules paths = map (λ (rule : RuleId). first_target_of g rule.0) rules ≡ map Some paths

-- none of these paths comes before the one at this place
abbrev pub IsPlaceOfLeast : List (List ℕ) → ℕ → Type 0
IsPlaceOfLeast paths place = (least path : List ℕ) → slice_get paths place ≡ Some least → Contains paths path → slice_cmp nat_cmp path least ≢ Less

-- none of these paths comes before the first
abbrev pub BeginWithLeast : List (List ℕ) → Type 0
BeginWithLeast paths = IsPlaceOfLeast paths 0

-- a ring of paths was turned so that it begins with its least
pub record IsTurned (paths turned : List (List ℕ)) : Type 0 where
  pub front : List (List ℕ)
  pub back : List (List ℕ)
  pub was : paths ≡ front ++ back
  pub is : turned ≡ back ++ front
  pub least : BeginWithLeast turned

-- These paths tell of a ring of rules: they are the first targets of its rules, in its order, from the least on, each once.
pub record IsRingTold (g : RuleGraph) (rules : List RuleId) (paths : List (List ℕ)) : Type 0 where
  pub front : List RuleId
  pub back : List RuleId
  pub ring : rules ≡ front ++ back
  pub named : AreFirstTargets g (back ++ front) paths
  pub least : BeginWithLeast paths

-- a fault tells of it so
abbrev pub TellsRing : RuleGraph → List RuleId → BuildFault → Type 0
TellsRing g rules (fault.Cycle paths) = IsRingTold g rules paths
TellsRing g rules other = ⊥
