-- That a tree shows what a build goes by: what stands below a file is what it is made of. The manual page of SCons says of `--tree` that the
-- dependencies of targets are printed, those that were found among them.
use Rattle.std.specs.Prelude.{◌≡◌, ◌⊎◌, ℕ, Bool, List, [], Option, Some, None, Result, Ok, Err, length, true, false}
use Rattle.scons_base.specs.declared.ids.NodeId.{NodeId}
use Rattle.rule_graph.specs.Graphs.{RuleGraph, path_of}
use Rattle.rule_graph.specs.Rules.{are_below}
use Rattle.world_api.specs.Around.{Around}
use Rattle.world_api.specs.Meaning.{Meaning}
use Rattle.world_api.specs.Printed.{SinkMeaning}
use Rattle.build_model.specs.Rules.{Path, Tree, Rule, Setting, Among}
use Rattle.build_model.specs.Contents.{in_tree, found_in, dependencies}
use Rattle.build_model.specs.Needs.{Needed, NeedsThrough}
use Rattle.build_means.specs.Grown.{Begun, begun_setting, IsGrown}
use Rattle.build_means.specs.Rules.{IsReading, paths_of}
use Rattle.build_files.specs.Leftovers.{is_made}
use Rattle.task_plan.specs.Plans.{Planned}
use Rattle.scons_report.specs.declared.tree_end.TreeEnd.{TreeEnd}
use Rattle.scons_report.specs.Asked.{TreeOf}
use Rattle.scons_report.specs.Trees.{children_of}

abbrev pub made_by : Setting → Tree → Option Rule → List Path
made_by s t None = []
made_by s t (Some r) = dependencies s (in_tree t) r

-- What a path is made of where the files are these: the dependencies of its rule, which are its sources, what it depends on, its libraries,
-- and the files that are found for it. What no rule makes is made of nothing, and what a rule only requires isn't among them.
abbrev pub made_of : Setting → Tree → Path → List Path
made_of s t p = made_by s t (s.rule_of p)

-- a node stands in a tree: it is one of those on top, or stands below one that does
pub data IsShown (children : NodeId → List NodeId) (nodes : List NodeId) : NodeId → Type 0 where
  on_top : {n : NodeId} → Among n nodes → IsShown children nodes n
  below : {n : NodeId} (parent : NodeId) → IsShown children nodes parent → Among n (children parent) → IsShown children nodes n

-- below each node stands what its path is made of
abbrev pub ShowsMade : Begun → Tree → RuleGraph → List NodeId → (NodeId → List NodeId) → Type 0
ShowsMade b t g nodes children =
    (n : NodeId) → IsShown children nodes n → paths_of g (children n) ≡ made_of (begun_setting b) t (path_of g.nodes n)

-- How things stand behind a build, or before one: the first so many rules of the graph are those that a build had read, copy rules stand
-- behind them, what no rule makes is as that build had found it, and nothing runs.
pub record IsBehind (b : Begun) (g : RuleGraph) (declared : ℕ) (around : Around) : Type 0 where
  pub read : IsReading b.graph
  pub grown : IsGrown b g
  pub count : declared ≡ length b.graph.rules
  pub rest : (path : Path) → is_made g path ≡ false → around.tree path ≡ b.tree path
  pub idle : around.running ≡ []

-- By a plan, so it is of the tree of these nodes; and no needed rule needs itself: else the run ends before its tree.
pub record IsShownBy (b : Begun) (t : Tree) (g : RuleGraph) (nodes : List NodeId) (plan : Planned) : Type 0 where
  pub shows : ShowsMade b t g nodes (children_of g plan)
  pub no_cycle : (r : Rule) → Needed (begun_setting b).rule_of (found_in (begun_setting b) (in_tree t)) (paths_of g nodes) r →
      NeedsThrough (begun_setting b).rule_of (found_in (begun_setting b) (in_tree t)) r r → ⊥

-- A plan of these nodes shows what a build goes by, whatever build it stands behind.
abbrev pub Plans : {W : Type 0} → Meaning W → RuleGraph → ℕ → List NodeId → W → RuleGraph → W → Planned → Type 0
Plans m g declared nodes world h after plan = m.tells after → are_below (length g.nodes) nodes ≡ true → (b : Begun) →
    IsBehind b g declared (m.around world) → IsShownBy b (m.around world).tree h nodes plan

-- The tree of a word is printed, or a front of it, and by its plan it shows what a build goes by.
pub record ShownTree {W O T : Type 0} (m : Meaning W) (s : SinkMeaning O) (g h : RuleGraph) (declared : ℕ) (word : List ℕ) (nodes : List NodeId)
    (is_node : Bool) (world after : W) (old new : O) (result : Result T TreeEnd) : Type 0 where
  pub tree : TreeOf {T = T} s h word nodes is_node old new result
  pub plans : Plans m g declared nodes world h after tree.plan

-- Where the files weren't looked at to their end, nothing is printed.
abbrev pub ShowsBuilds : {W O T : Type 0} → Meaning W → SinkMeaning O → RuleGraph → RuleGraph → ℕ → List ℕ → List NodeId → Bool → W → W → O → O → Result T TreeEnd → Type 0
ShowsBuilds m s g h declared word nodes is_node world after old new (Ok value) =
    ShownTree m s g h declared word nodes is_node world after old new (Ok value)
ShowsBuilds {T = T} m s g h declared word nodes is_node world after old new (Err e) =
    ShownTree {T = T} m s g h declared word nodes is_node world after old new (Err e) ⊎ (new ≡ old)
