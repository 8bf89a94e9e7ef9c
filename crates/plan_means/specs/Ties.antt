-- That a plan is tied to the steps of a build: what it knows of rules and files is so by paths, and how far its rules
-- are is what the steps say of them.
use Rattle.std.specs.Prelude.{◌≡◌, ◌≢◌, ◌⊎◌, ℕ, true, List, length, Some, None, slice_get}
use Rattle.std.specs.List.{list_all}
use Rattle.scons_base.specs.declared.ids.NodeId.{NodeId}
use Rattle.rule_graph.specs.Rules.{are_below, rule_of}
use Rattle.rule_graph.specs.Graphs.{RuleGraph, path_of}
use Rattle.task_plan.specs.States.{state_of}
use Rattle.task_plan.specs.Named.{stands}
use Rattle.task_plan.specs.Met.{needs_at}
use Rattle.task_plan.specs.Settled.{Kept, origin_of, is_scanned}
use Rattle.task_plan.specs.Listed.{included}
use Rattle.task_plan.specs.Plans.{Planned}
use Rattle.task_plan.specs.declared.files.Origin.TheVariants.{Source}
use Rattle.task_plan.specs.declared.states.RuleState.{RuleState}
use Rattle.task_plan.specs.declared.states.RuleState.TheVariants.{Unneeded, Waiting, Running, Settled, Failed, Lacking}
use Rattle.build_model.specs.Rules.{Tree, Rule, Among}
use Rattle.build_model.specs.Contents.{in_tree, found_in}
use Rattle.build_model.specs.Graphs.{rule_at}
use Rattle.build_model.specs.Steps.{Step, settled, began, done, IsReady, IsMissing, IsRunning}
use Rattle.build_model.specs.Resting.{IsFaulty}
use Rattle.build_means.specs.Rules.{paths_of}
use Rattle.build_means.specs.Grown.{Begun, begun_graph, begun_setting, rule_numbered}
use Rattle.plan_means.specs.Planning.{IsPlanFor}

-- a rule neither began nor is done
pub record IsNew (past : List Step) (r : Rule) : Type 0 where
  pub not_began : Among r (began past) → ⊥
  pub not_done : Among r (done past) → ⊥

-- How far a rule is by its state in a plan it is by these steps.
abbrev pub IsAt : List Step → Rule → RuleState → Type 0
IsAt past r Unneeded = IsNew past r
IsAt past r Waiting = IsNew past r
IsAt past r Running = IsRunning past r
IsAt past r Settled = Among r (settled past)
IsAt past r Failed = IsFaulty past r
IsAt past r Lacking = IsFaulty past r

-- What was found in a file for a rule: the file waits for nothing, or is missing, and includes just that.
pub record IsSeen (b : Begun) (g : RuleGraph) (t : Tree) (past : List Step) (r : Rule) (kept : Kept)
    (file : NodeId) : Type 0 where
  pub ready : IsReady (begun_setting b) t (settled past) (path_of g.nodes file)
      ⊎ IsMissing (begun_setting b) t (path_of g.nodes file)
  pub includes : found_in (begun_setting b) (in_tree t) r (path_of g.nodes file) ≡ paths_of g (included kept.found file)

-- What was found for needed rules: nothing in a file that wasn't scanned, and in one that was what stands there.
pub record Sees (b : Begun) (g : RuleGraph) (t : Tree) (past : List Step) (plan : Planned) : Type 0 where
  pub each : (number : ℕ) (kept : Kept) (r : Rule) → state_of plan.states number ≢ Unneeded →
      slice_get plan.rules number ≡ Some kept →
      rule_numbered b g number ≡ Some r → (file : NodeId) → is_scanned kept.found file ≡ true →
      IsSeen b g t past r kept file
  -- only files of the rule were scanned, and what was found are nodes
  pub files : (number : ℕ) (kept : Kept) → state_of plan.states number ≢ Unneeded →
      slice_get plan.rules number ≡ Some kept →
      (file : NodeId) → is_scanned kept.found file ≡ true → stands kept.files file ≡ true
  pub nodes : (number : ℕ) (kept : Kept) → state_of plan.states number ≢ Unneeded →
      slice_get plan.rules number ≡ Some kept →
      (file : NodeId) → are_below (length g.nodes) (included kept.found file) ≡ true

-- a rule that a plan no longer decides about: it was, and waits for nothing
abbrev pub IsDecidedState : RuleState → Type 0
IsDecidedState Unneeded = ⊥
IsDecidedState Waiting = ⊥
IsDecidedState Running = Unit {0}
IsDecidedState Settled = Unit {0}
IsDecidedState Failed = Unit {0}
IsDecidedState Lacking = Unit {0}

-- A plan that hasn't halted is tied to these steps of a build, where the files are these.
pub record Ties (b : Begun) (g : RuleGraph) (requested : List NodeId) (t : Tree) (past : List Step)
    (plan : Planned) : Type 0 where
  -- by its own words it is a plan for the graph as it is now
  pub plan_for : IsPlanFor g requested plan
  -- what was found for its rules is so
  pub sees : Sees b g t past plan
  -- all files of a rule that was decided were scanned
  pub scanned : (number : ℕ) (kept : Kept) → IsDecidedState (state_of plan.states number) →
      slice_get plan.rules number ≡ Some kept →
      list_all (λ n. is_scanned kept.found n) kept.files ≡ true
  -- a file that a needed rule requires or depends on, and that counts as a source, has no rule: its copy rule was
  -- looked for before
  pub sources : (number : ℕ) (n : NodeId) → state_of plan.states number ≢ Unneeded →
      stands (needs_at plan.rules number) n ≡ true →
      origin_of plan.origins n.0 ≡ Source → rule_at (begun_graph b) b.tree (path_of g.nodes n) ≡ None
  -- and so has a requested file that no rule of the graph makes
  pub asked : (n : NodeId) → stands requested n ≡ true → rule_of g.rules n.0 ≡ None →
      rule_at (begun_graph b) b.tree (path_of g.nodes n) ≡ None
  -- how far each rule is
  pub states : (number : ℕ) (r : Rule) → rule_numbered b g number ≡ Some r → IsAt past r (state_of plan.states number)
  -- the steps are about rules of the graph
  pub numbered : (r : Rule) → Among r (began past) ⊎ Among r (done past) →
      (number : ℕ) × (rule_numbered b g number ≡ Some r)
