-- How what the graph says of a rule is taken in, step by step.
use Rattle.std.specs.Prelude.{◌≡◌, true, [], length}
use Rattle.rule_graph.specs.declared.rule.Rule.{Rule}
use Rattle.rule_graph.specs.Graphs.{RuleGraph}
use Rattle.task_plan.specs.declared.reach.Reach.{Reach}
use Rattle.task_plan.specs.declared.task.Task.{Task}
use Rattle.task_plan.specs.Named.{ignored_of, named_of, scanned_of}
use Rattle.task_plan.specs.Settled.{kept_of, first_kept}
use Rattle.task_plan.specs.Listed.{IsListing}

-- nothing was scanned
pub record IsBlankReach (reach : Reach) : Type 0 where
  pub files : reach.files.keys ≡ []
  pub sources : reach.sources ≡ 0
  pub found : reach.found.entries ≡ []
  pub excluded : reach.excluded.keys ≡ []
  pub whole : reach.whole ≡ 0

-- nothing is noted of a rule
pub record IsBlank (task : Task) : Type 0 where
  pub targets : task.targets.items ≡ []
  pub required : task.required.items ≡ []
  pub deps : task.deps.keys ≡ []
  pub named : task.named ≡ 0
  pub passed : task.passed ≡ 0
  pub listed : task.is_listed ≡ true
  pub reach : IsBlankReach task.reach

-- what the rule needs was noted, and nothing was scanned
pub record NotesNeeds (graph : RuleGraph) (rule : Rule) (task : Task) : Type 0 where
  pub targets : task.targets.items ≡ []
  pub required : task.required.items ≡ rule.required
  pub deps : task.deps.keys ≡ named_of rule
  pub named : task.named ≡ length (named_of rule)
  pub passed : task.passed ≡ 0
  pub listed : task.is_listed ≡ true
  pub files : task.reach.files.keys ≡ scanned_of graph rule
  pub sources : task.reach.sources ≡ length (scanned_of graph rule)
  pub found : task.reach.found.entries ≡ []
  pub excluded : task.reach.excluded.keys ≡ ignored_of rule
  pub whole : task.reach.whole ≡ 0

-- a task is that of a rule for which nothing was scanned
pub record IsTaskOf (graph : RuleGraph) (rule : Rule) (task : Task) : Type 0 where
  pub passed : task.passed ≡ 0
  pub whole : task.reach.whole ≡ 0
  pub targets : task.targets.items ≡ rule.targets
  pub kept : kept_of task ≡ first_kept graph rule
  pub listing : IsListing task
