-- What the graph says of a rule: its needs before any file is scanned, and the first files to scan.
use Rattle.std.specs.Prelude.{◌++◌, Bool, true, false, List, [], ◌∷◌, nat_eq, filter, if◌then◌else◌}
use Rattle.std.specs.List.{list_any, fold}
use Rattle.world_api.specs.declared.job.Work.{Work}
use Rattle.world_api.specs.declared.job.Work.TheVariants.{Shell, Copy, Write}
use Rattle.scons_base.specs.declared.ids.NodeId.{NodeId}
use Rattle.scons_base.specs.Parts.{suffix_of}
use Rattle.c_scanner.specs.Suffixes.{is_scanned_suffix}
use Rattle.rule_graph.specs.declared.rule.Rule.{Rule}
use Rattle.rule_graph.specs.Graphs.{RuleGraph, path_of}

-- whether a node stands among these
abbrev pub stands : List NodeId → NodeId → Bool
stands nodes n = list_any (λ m. nat_eq n.0 m.0) nodes

-- a node behind those there, unless it stands among them or is left out
abbrev pub put : List NodeId → List NodeId → NodeId → List NodeId
put out there n = if stands out n then there else (if stands there n then there else there ++ n ∷ [])

-- nodes behind those there, each once, less those that are left out
abbrev pub put_all : List NodeId → List NodeId → List NodeId → List NodeId
put_all out there nodes = fold (put out) there nodes

abbrev pub is_shell : Work → Bool
is_shell Shell = true
is_shell Copy = false
is_shell Write = false

-- the ignored ones, each once
abbrev pub ignored_of : Rule → List NodeId
ignored_of rule = put_all [] [] rule.ignored

-- A rule's sources behind those there. What is ignored is no dependency, but the sources of a rule that copies or writes are.
abbrev pub with_sources : List NodeId → Rule → List NodeId → List NodeId
with_sources ignored rule there = put_all (if is_shell rule.work then ignored else []) there rule.sources

-- the sources of a rule that are dependencies, each once
abbrev pub sources_of : Rule → List NodeId
sources_of rule = with_sources (ignored_of rule) rule []

-- the dependencies that a rule names: its sources, then what it depends on, then its libraries, each once, less the ignored ones
abbrev pub named_of : Rule → List NodeId
named_of rule = put_all (ignored_of rule) (put_all (ignored_of rule) (sources_of rule) rule.depends) rule.libs

-- behind those there the rule's own targets, where it scans
abbrev pub with_targets : Rule → List NodeId → List NodeId
with_targets rule there = if rule.scans then put_all [] there rule.targets else there

-- what is left out where it is found: what is ignored, and the rule's own targets
abbrev pub left_out_of : Rule → List NodeId
left_out_of rule = with_targets rule (ignored_of rule)

-- whether this node is scanned where it is a source
unfoldable pub is_scanned_node : RuleGraph → NodeId → Bool
is_scanned_node graph n = is_scanned_suffix (suffix_of (path_of graph.nodes n))

-- the sources of a rule that are scanned, each once; only a rule that scans has any
abbrev pub scanned_of : RuleGraph → Rule → List NodeId
scanned_of graph rule = if rule.scans then put_all [] [] (filter (is_scanned_node graph) (sources_of rule)) else []
