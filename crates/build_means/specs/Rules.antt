-- The rules of a reading as rules of the model: by paths in place of numbers, and with those of their sources that are
-- scanned.
use Rattle.std.specs.Prelude.{Bool, true, false, List, [], ◌∷◌, length, map, filter, Option, None, slice_get, is_some, if◌then◌else◌}
use Rattle.std.specs.Option.{option_and_then}
use Rattle.scons_base.specs.Parts.{suffix_of}
use Rattle.scons_base.specs.declared.ids.NodeId.{NodeId}
use Rattle.world_api.specs.declared.job.Work.{Work}
use Rattle.world_api.specs.declared.job.Work.TheVariants.{Shell, Copy, Write}
use Rattle.world_api.specs.declared.decider.Decider.{Decider}
use Rattle.world_api.specs.declared.decider.Decider.TheVariants.{Content, Newer, Match, ContentMatch}
use Rattle.c_scanner.specs.Suffixes.{is_scanned_suffix}
use Rattle.deciders.specs.Spelling.{work_byte}
use Rattle.node_tree.specs.Nodes.{AreApart, number_of}
use Rattle.rule_graph.specs.declared.rule.Rule.{Rule}
use Rattle.rule_graph.specs.Graphs.{RuleGraph, path_of, IsGraph}
use Rattle.rule_graph.specs.Rules.{rule_of, AreSingle}
use Rattle.build_model.specs.Rules as model

-- A graph as reading gives it: no path has two numbers, no node is a target of two rules, and all that rules and aliases
-- name are nodes.
pub record IsReading (g : RuleGraph) : Type 0 where
  pub apart : AreApart g.nodes
  pub single : AreSingle g.rules
  pub named : IsGraph (length g.nodes) g.rules g.aliases

-- the paths of some nodes
abbrev pub paths_of : RuleGraph → List NodeId → List model.Path
paths_of g ids = map (path_of g.nodes) ids

-- a copy and a write keep their sources, whatever is ignored
abbrev pub keeps_sources : Work → Bool
keeps_sources Shell = false
keeps_sources Copy = true
keeps_sources Write = true

abbrev pub decider_of : Decider → model.Decider
decider_of Content = model.content
decider_of Newer = model.timestamp_newer
decider_of Match = model.timestamp_match
decider_of ContentMatch = model.content_timestamp

-- whether a path is scanned where it is a source
unfoldable pub is_scanned_path : model.Path → Bool
is_scanned_path path = is_scanned_suffix (suffix_of path)

-- the sources of a rule that are scanned: those with a suffix of the language, where the rule scans at all
abbrev pub scanned_in : RuleGraph → Rule → List model.Path
scanned_in g r = if r.scans then filter is_scanned_path (paths_of g r.sources) else []

-- A declared rule as a rule of the model. Its work has the number that records give it.
abbrev pub rule_in : RuleGraph → Rule → model.Rule
rule_in g r = record {
  copies = false;
  keeps_sources = keeps_sources r.work;
  work = work_byte r.work;
  signed = r.signed;
  targets = paths_of g r.targets;
  sources = paths_of g r.sources;
  scanned = scanned_in g r;
  depends = paths_of g r.depends;
  libraries = paths_of g r.libs;
  ignored = paths_of g r.ignored;
  required = paths_of g r.required;
  always = r.always;
  decider = decider_of r.decider;
}

abbrev pub rules_in : RuleGraph → List model.Rule
rules_in g = map (rule_in g) g.rules

-- the rule that makes a path, as it was declared
abbrev pub rule_with : RuleGraph → model.Path → Option Rule
rule_with g path = option_and_then (slice_get g.rules) (option_and_then (rule_of g.rules) (number_of g.nodes path))

-- whether a rule was declared for a path
abbrev pub is_declared : RuleGraph → model.Path → Bool
is_declared g path = is_some (rule_with g path)

-- the declared rule of the first of some targets
abbrev pub rule_for : RuleGraph → List model.Path → Option Rule
rule_for g [] = None
rule_for g (path ∷ paths) = rule_with g path
