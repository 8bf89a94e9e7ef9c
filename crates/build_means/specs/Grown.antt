-- The graph of a reading as a build goes on: nodes and copy rules are put behind those that are there.
use Rattle.std.specs.Prelude.{◌≡◌, ℕ, true, List, [], ◌++◌, Option, Some, None, slice_get}
use Rattle.std.specs.Option.{option_map}
use Rattle.scons_base.specs.declared.ids.NodeId.{NodeId}
use Rattle.world_api.specs.Act.{Law}
use Rattle.world_api.specs.declared.hash.Hash.{Hash}
use Rattle.rule_graph.specs.declared.rule.Rule as declared
use Rattle.rule_graph.specs.Graphs.{RuleGraph, path_of}
use Rattle.rule_graph.specs.Rules.{rule_of}
use Rattle.build_model.specs.Rules.{Path, Tree, Rule, Setting, Among}
use Rattle.build_model.specs.Graphs.{Graph, copy_rule, setting, rule_at}
use Rattle.build_means.specs.Rules.{IsReading, rule_in, rule_with}
use Rattle.build_means.specs.Copies.{copied_from}
use Rattle.build_means.specs.Graphs.{graph_of}

-- What a build began with: the graph as it was read, what actions make, how digests are made, and the files.
pub record Begun : Type 0 where
  pub graph : RuleGraph
  pub law : Law
  pub hash : Hash
  pub tree : Tree

abbrev pub begun_graph : Begun → Graph
begun_graph b = graph_of b.graph b.law b.hash b.tree

abbrev pub begun_setting : Begun → Setting
begun_setting b = setting (begun_graph b) b.tree

-- a rule that was added, as a rule of the model
abbrev pub copy_in : RuleGraph → declared.Rule → Rule
copy_in g r = record (rule_in g r) { copies = true }

-- a rule copies a path for which none was declared, by no lines and no builder
pub record IsCopyOf (b : Begun) (g : RuleGraph) (r : declared.Rule) : Type 0 where
  pub path : Path
  pub source : Path
  pub undeclared : rule_with b.graph path ≡ None
  pub copied : copied_from b.graph b.tree path ≡ Some source
  pub is : copy_in g r ≡ copy_rule path source
  pub lines : r.lines ≡ []
  pub builder : r.builder ≡ []

-- The graph is the one of the reading with nodes and copy rules behind.
pub record IsGrown (b : Begun) (g : RuleGraph) : Type 0 where
  pub top : g.top ≡ b.graph.top
  pub variants : g.variants ≡ b.graph.variants
  pub more : List Path
  pub nodes : g.nodes ≡ b.graph.nodes ++ more
  pub copies : List declared.Rule
  pub rules : g.rules ≡ b.graph.rules ++ copies
  pub each_copy : (r : declared.Rule) → Among r copies → IsCopyOf b g r

abbrev pub or_copy_in : RuleGraph → Option declared.Rule → Option declared.Rule → Option Rule
or_copy_in g (Some r) added = Some (rule_in g r)
or_copy_in g None added = option_map (copy_in g) added

-- The rule of the model that a rule of this number is: the reading's rules come first, and copies behind.
abbrev pub rule_numbered : Begun → RuleGraph → ℕ → Option Rule
rule_numbered b g number = or_copy_in g (slice_get b.graph.rules number) (slice_get g.rules number)

-- In a grown graph the rule of a node is the rule of its path, and a node without a rule has no declared one.
pub record AreRulesOf (b : Begun) (g : RuleGraph) : Type 0 where
  pub rules : (node number : ℕ) (path : Path) → slice_get g.nodes node ≡ Some path → rule_of g.rules node ≡ Some number →
      rule_at (begun_graph b) b.tree path ≡ rule_numbered b g number
  pub undeclared : (node : ℕ) (path : Path) → slice_get g.nodes node ≡ Some path → rule_of g.rules node ≡ None → rule_with b.graph path ≡ None

-- The copy rule of a file was looked for: where no rule of the graph makes it, it has none.
abbrev pub IsLookedFor : Begun → RuleGraph → NodeId → Type 0
IsLookedFor b g n = rule_of g.rules n.0 ≡ None → rule_at (begun_graph b) b.tree (path_of g.nodes n) ≡ None

abbrev pub GrownAreThese : Type 0
GrownAreThese = (b : Begun) (g : RuleGraph) → IsReading b.graph → IsReading g → IsGrown b g → AreRulesOf b g
