-- What is declared for the build: `t` is a copy of `s`, and nothing else is.
use Rattle.std.specs.Prelude.{[], ◌∷◌, codes}
use Rattle.scons_base.specs.declared.ids.NodeId.{NodeId}
use Rattle.rule_graph.specs.Graphs.{RuleGraph, empty_graph}
use Rattle.rule_graph.specs.declared.rule.Rule.{Rule}
use Rattle.build_files.specs.Copying.{copying}

-- the rule that makes a target as a copy of a source; a line is printed for it
abbrev pub copy_rule : NodeId → NodeId → Rule
copy_rule target source = record (copying target source) { builder = codes "InstallAs" }

-- `t` and `s`, by the numbers that they get
abbrev pub target_node : NodeId
target_node = record { 0 = 0 }

abbrev pub source_node : NodeId
source_node = record { 0 = 1 }

abbrev pub copy_graph : RuleGraph
copy_graph = record (empty_graph (codes "/top")) {
  nodes = codes "t" ∷ codes "s" ∷ [];
  rules = copy_rule target_node source_node ∷ [];
}
