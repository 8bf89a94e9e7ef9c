-- What a rule's record over the files is, and which dependency is missing.
use Rattle.std.specs.Prelude.{◌≡◌, ℕ, Bool, not, ◌&&◌, List, Option, Some, is_some}
use Rattle.scons_base.specs.declared.ids.NodeId.{NodeId}
use Rattle.deciders.specs.declared.content.Digest.{Digest}
use Rattle.rule_graph.specs.Graphs.{RuleGraph, path_of}
use Rattle.rule_graph.specs.Rules.{rule_of}
use Rattle.world_api.specs.Around.{Around, Tree}
use Rattle.build_model.specs.Rules.{Path, Stamps, Rule, Among}
use Rattle.build_means.specs.Grown.{Begun, rule_numbered, IsLookedFor}
use Rattle.build_means.specs.Present.{IsPresent, IsFirstAbsent}
use Rattle.build_means.specs.Records.{HasOwnDigests}
use Rattle.build_means.specs.Rules.{paths_of}
use Rattle.build_files.specs.Kept.{past, stamp_past, IsStill}
use Rattle.build_files.specs.declared.record.Present.{Present}
use Rattle.build_files.specs.declared.record.Present.TheVariants.{Record, Lacks}

-- no running job writes any of these files
abbrev pub AreStill : RuleGraph → Around → List NodeId → Type 0
AreStill g around nodes = (node : NodeId) → Among node nodes → IsStill g around node.0

-- whether a file without this digest is missing: it has none, and no rule of the graph
abbrev pub is_lacking : RuleGraph → ℕ → Option Digest → Bool
is_lacking g node digest = not (is_some digest) && not (is_some (rule_of g.rules node))

-- What a rule reads is so: its record over these dependencies as the files are, where each that no rule makes is a file; or
-- else the first that is missing, as far as its copy rule was looked for.
abbrev pub IsPresentAs : Begun → RuleGraph → Rule → List NodeId → Tree → Stamps → Present → Type 0
IsPresentAs b g r nodes tree stamps (Record rec) = IsPresent b r (paths_of g nodes) tree stamps rec × HasOwnDigests rec
IsPresentAs b g r nodes tree stamps (Lacks node) =
    Among node nodes × (IsLookedFor b g node → IsFirstAbsent b (paths_of g nodes) tree (path_of g.nodes node))

-- So it is of the rule with this number, where these files are looked past.
abbrev pub IsPresentFor : RuleGraph → ℕ → List NodeId → List Path → Around → Begun → Present → Type 0
IsPresentFor g number nodes gone around b present = (r : Rule) → rule_numbered b g number ≡ Some r
    → IsPresentAs b g r nodes (past gone around.tree) (stamp_past gone around) present
