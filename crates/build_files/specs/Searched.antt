-- What a search for included files gives.
use Rattle.std.specs.Prelude.{◌≡◌, List, [], ◌∷◌, ◌++◌, Option, Some, None, slice_get, find}
use Rattle.std.specs.List.{AllZip, filter_map}
use Rattle.scons_base.specs.declared.ids.NodeId.{NodeId}
use Rattle.scons_base.specs.Parts.{dir_of}
use Rattle.c_scanner.specs.declared.line.Include.{Include}
use Rattle.rule_graph.specs.declared.rule.Rule.{Rule}
use Rattle.rule_graph.specs.Graphs.{RuleGraph}
use Rattle.build_model.specs.Rules.{Path}
use Rattle.build_means.specs.Copies.{is_known}
use Rattle.build_means.specs.Finds.{found_for}
use Rattle.build_means.specs.Grown.{Begun}
use Rattle.build_files.specs.declared.includes.Dirs.{Dirs}

-- a graph has further nodes, and is else as it was
pub record HasMore (old new : RuleGraph) : Type 0 where
  pub more : List Path
  pub nodes : new.nodes ≡ old.nodes ++ more
  pub rest : new ≡ record old { nodes = new.nodes }

-- Nodes and rules were put behind those of a graph, and it is else as it was.
pub record GrowsTo (old new : RuleGraph) : Type 0 where
  pub more : List Path
  pub nodes : new.nodes ≡ old.nodes ++ more
  pub added : List Rule
  pub rules : new.rules ≡ old.rules ++ added
  pub rest : new ≡ record old { nodes = new.nodes; rules = new.rules }

-- the node of a path, and none where there is no path
abbrev pub IsNodeOf : RuleGraph → Option Path → Option NodeId → Type 0
IsNodeOf g None None = Unit {0}
IsNodeOf g None (Some node) = ⊥
IsNodeOf g (Some path) None = ⊥
IsNodeOf g (Some path) (Some node) = slice_get g.nodes node.0 ≡ Some path

-- the nodes of some paths, each in its place
abbrev pub AreNodesOf : RuleGraph → List Path → List NodeId → Type 0
AreNodesOf g paths nodes = AllZip (λ path node. slice_get g.nodes node.0 ≡ Some path) paths nodes

-- the first of some paths that a build knows
abbrev pub first_known : Begun → List Path → Option Path
first_known b paths = find (is_known b.graph b.tree) paths

-- what some include lines of a file mean, where included files are looked for in these directories
abbrev pub meant : Begun → List Path → Path → List Include → List Path
meant b paths file includes = filter_map (found_for b.graph b.tree paths file) includes

-- directories for the including file: its own one, the search path, and its own one again
abbrev pub AreDirs : Dirs → List Path → Path → Type 0
AreDirs dirs paths file = dirs.dirs.items ≡ dir_of file ∷ (paths ++ dir_of file ∷ [])
