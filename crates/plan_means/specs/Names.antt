-- What a plan takes from the graph of a rule, by paths: what the model says of that rule.
use Rattle.std.specs.Prelude.{◌≡◌, ◌<◌, ◌≤◌, ℕ, true, [], ◌∷◌, length, Some, slice_get}
use Rattle.scons_base.specs.declared.ids.NodeId.{NodeId}
use Rattle.rule_graph.specs.declared.rule.Rule as declared
use Rattle.rule_graph.specs.Graphs.{RuleGraph, path_of}
use Rattle.task_plan.specs.Named.{stands, named_of, scanned_of, left_out_of}
use Rattle.build_model.specs.Rules.{Path, Rule}
use Rattle.build_model.specs.Reach.{has, declared as declared_paths, first_scanned, left_out}
use Rattle.build_model.specs.Graphs.{copy_rule}
use Rattle.build_means.specs.Rules.{IsReading, paths_of}
use Rattle.build_means.specs.Grown.{Begun, IsGrown, rule_numbered}

-- By paths a rule of the graph has the targets of the model's rule, requires what that one requires, names the same
-- dependencies in the same order, scans the same sources first, and where it scans leaves out the same files.
pub record AreNames (g : RuleGraph) (of : declared.Rule) (r : Rule) : Type 0 where
  pub targets : paths_of g of.targets ≡ r.targets
  pub required : paths_of g of.required ≡ r.required
  pub named : paths_of g (named_of of) ≡ declared_paths r
  pub scanned : paths_of g (scanned_of g of) ≡ first_scanned r
  pub left_out : of.scans ≡ true → (n : NodeId) → n.0 < length g.nodes →
      stands (left_out_of of) n ≡ has (path_of g.nodes n) (left_out r)

-- In a grown graph each rule is one of the model, with these names.
pub record IsNamed (b : Begun) (g : RuleGraph) (number : ℕ) (of : declared.Rule) : Type 0 where
  pub rule : Rule
  pub is : rule_numbered b g number ≡ Some rule
  pub names : AreNames g of rule

abbrev pub NamesAreThese : Type 0
NamesAreThese = (b : Begun) (g : RuleGraph) → IsReading b.graph → IsReading g → IsGrown b g →
    (number : ℕ) (of : declared.Rule) → slice_get g.rules number ≡ Some of → IsNamed b g number of

-- A rule past the declared ones is the copy rule of its paths.
pub record IsCopyNamed (b : Begun) (g : RuleGraph) (number : ℕ) (of : declared.Rule) : Type 0 where
  pub path : Path
  pub source : Path
  pub is : rule_numbered b g number ≡ Some (copy_rule path source)
  pub targets : paths_of g of.targets ≡ path ∷ []
  pub sources : paths_of g of.sources ≡ source ∷ []

abbrev pub CopiesAreThese : Type 0
CopiesAreThese = (b : Begun) (g : RuleGraph) → IsGrown b g → (number : ℕ) (of : declared.Rule) →
    length b.graph.rules ≤ number →
    slice_get g.rules number ≡ Some of → IsCopyNamed b g number of
