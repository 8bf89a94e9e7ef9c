-- The tree that stands for a word, and why one isn't printed to its end.
use Rattle.std.specs.Prelude.{◌≡◌, ℕ, Bool, true, false, List, [], ◌∷◌, Result, Ok, Err}
use Rattle.scons_base.specs.declared.ids.NodeId.{NodeId}
use Rattle.scons_base.specs.Rising.{Rose}
use Rattle.rule_graph.specs.Graphs.{RuleGraph}
use Rattle.rule_graph.specs.declared.build_fault.BuildFault.TheVariants as fault
use Rattle.task_plan.specs.Plans.{Planned, IsIdle}
use Rattle.world_api.specs.Counts.{Counts}
use Rattle.world_api.specs.Looks.{IsTreeAlone}
use Rattle.world_api.specs.Printed.{SinkMeaning}
use Rattle.scons_report.specs.declared.tree_end.TreeEnd.{TreeEnd}
use Rattle.scons_report.specs.declared.tree_end.TreeEnd.TheVariants as end
use Rattle.scons_report.specs.Causes.{HasFaultCause}
use Rattle.scons_report.specs.Trees.{children_of, shown_in, tree_text}
use Rattle.scons_report.specs.Walks.{PrintsTree}

-- what stands below a word: the nodes that it stands for, or the children of the one that it names itself
abbrev pub children_asked : RuleGraph → Planned → Bool → List NodeId → List NodeId
children_asked g plan true (n ∷ nodes) = children_of g plan n
children_asked g plan true [] = []
children_asked g plan false nodes = nodes

-- The tree was printed as it is by a plan with nothing left to scan or to decide, or a front of it.
pub record TreeOf {O T : Type 0} (m : SinkMeaning O) (g : RuleGraph) (word : List ℕ) (nodes : List NodeId) (is_node : Bool) (old new : O) (result : Result T TreeEnd) : Type 0 where
  pub plan : Planned
  pub idle : IsIdle plan
  pub prints : PrintsTree m (tree_text (shown_in g plan) word (children_asked g plan is_node nodes)) old new result

-- a fault of the sink comes only where its count rose, one of the files only where that of the tree did
abbrev pub HasTreeCause : {T : Type 0} → Counts → Counts → ℕ → ℕ → Result T TreeEnd → Type 0
HasTreeCause old new before after (Ok value) = (new ≡ old) × (after ≡ before)
HasTreeCause old new before after (Err (end.Fault fault.OutFault)) = (new ≡ old) × Rose before after
HasTreeCause old new before after (Err (end.Fault other)) = HasFaultCause old new other × (after ≡ before)
HasTreeCause old new before after (Err end.Memory) = IsTreeAlone old new × (after ≡ before)
