-- What a plan lists of a rule, by paths: what the model lists of it.
use Rattle.std.specs.Prelude.{◌≡◌, ◌<◌, ℕ, true, List, length}
use Rattle.scons_base.specs.declared.ids.NodeId.{NodeId}
use Rattle.rule_graph.specs.declared.rule.Rule as declared
use Rattle.rule_graph.specs.Rules.{are_below, IsRule}
use Rattle.rule_graph.specs.Graphs.{RuleGraph, path_of}
use Rattle.task_plan.specs.Named.{stands, named_of, scanned_of, left_out_of}
use Rattle.task_plan.specs.Settled.{Kept}
use Rattle.task_plan.specs.Listed.{included}
use Rattle.task_plan.specs.Admits.{Follows}
use Rattle.build_model.specs.Rules.{Path, Rule}
use Rattle.build_model.specs.Reach.{scan_list, reach}
use Rattle.build_means.specs.Rules.{IsReading, paths_of}
use Rattle.plan_means.specs.Names.{AreNames}

-- What a plan keeps of a rule is what the graph says of it, and its lists follow from what was scanned; whatever was
-- found are nodes.
pub record KeepsRule (g : RuleGraph) (of : declared.Rule) (kept : Kept) : Type 0 where
  pub targets : kept.targets ≡ of.targets
  pub required : kept.required ≡ of.required
  pub named : kept.named ≡ named_of of
  pub sources : kept.sources ≡ scanned_of g of
  pub left_out : kept.left_out ≡ left_out_of of
  pub follows : Follows kept
  pub nodes : (file : NodeId) → are_below (length g.nodes) (included kept.found file) ≡ true

-- by paths each file of a rule includes what was found in it
abbrev pub Includes : RuleGraph → Kept → (Path → List Path) → Type 0
Includes g kept includes = (file : NodeId) → stands kept.files file ≡ true →
    includes (path_of g.nodes file) ≡ paths_of g (included kept.found file)

-- By paths the files and dependencies of a rule are those that it reaches by what files include.
pub record AreReach (g : RuleGraph) (limit : ℕ) (kept : Kept) (includes : Path → List Path) (r : Rule) : Type 0 where
  pub files : scan_list limit includes r ≡ paths_of g kept.files
  pub deps : reach limit includes r ≡ paths_of g kept.deps
  pub room : length (scan_list limit includes r) < limit

-- So it is of each rule where there is room for all nodes.
abbrev pub ListsAreReach : Type 0
ListsAreReach = (g : RuleGraph) (of : declared.Rule) (r : Rule) (kept : Kept) (limit : ℕ)
    (includes : Path → List Path) →
    IsReading g → IsRule (length g.nodes) of → AreNames g of r → KeepsRule g of kept → Includes g kept includes →
    length g.nodes < limit →
    AreReach g limit kept includes r
