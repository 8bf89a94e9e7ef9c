-- Builds that meet what laws ask: an object is a copy of a source, and is requested.
use Rattle.std.specs.Prelude.{◌≡◌, false, [], ◌∷◌, Some, None, if◌then◌else◌}
use Rattle.std.specs.Str.{bytes_eq}
use Rattle.scons_base.specs.declared.ids.NodeId.{NodeId}
use Rattle.world_api.specs.Around.{Around, Tree as Files, Running, Started, Finished, given_of}
use Rattle.world_api.specs.Calls.{Starts, Ends}
use Rattle.world_api.specs.Counts.{Counts}
use Rattle.world_api.specs.declared.decider.Decider.TheVariants.{Newer}
use Rattle.world_api.specs.declared.hash.Hash.TheVariants.{Md5}
use Rattle.world_api.specs.declared.job.Ended.{Ended}
use Rattle.world_api.specs.declared.job.Job.{Job}
use Rattle.world_api.specs.declared.job.Outcome.TheVariants.{Done}
use Rattle.world_api.specs.declared.job.Work.TheVariants.{Copy}
use Rattle.deciders.specs.declared.recorded.Rec.{Rec}
use Rattle.rule_graph.specs.declared.rule.Rule as declared
use Rattle.rule_graph.specs.Graphs.{RuleGraph}
use Rattle.build_model.specs.Rules.{Path, Rule}
use Rattle.build_model.specs.Steps.{Began, IsLacking}
use Rattle.build_means.specs.Rules.{IsReading, rule_in}
use Rattle.build_means.specs.Builds.{Wanted, Kept, setting_in, build_in}
use Rattle.run_means.specs.Clears.{Clears}
use Rattle.run_means.specs.Turns.{MayBeFresh, MayBegin, IsHanded}
use Rattle.run_means.specs.Laws.{MayWait}

abbrev pub source : Path
source = 99 ∷ []

abbrev pub object : Path
object = 111 ∷ []

abbrev pub source_node : NodeId
source_node = record { 0 = 0 }

abbrev pub object_node : NodeId
object_node = record { 0 = 1 }

abbrev pub declared_rule : declared.Rule
declared_rule = record {
  work = Copy;
  targets = object_node ∷ [];
  sources = source_node ∷ [];
  libs = [];
  depends = [];
  required = [];
  ignored = [];
  lines = [];
  signed = [];
  paths = [];
  scans = false;
  always = false;
  decider = Newer;
  builder = [];
}

abbrev pub graph : RuleGraph
graph = record {
  top = [];
  nodes = source ∷ object ∷ [];
  rules = declared_rule ∷ [];
  aliases = [];
  defaults = [];
  helps = [];
  variants = [];
}

abbrev pub wanted : Wanted
wanted = record { graph = graph; requested = object_node ∷ []; jobs = 1; keep = false; hash = Md5 }

-- no path has a record
abbrev pub none_kept : Kept
none_kept path = None

abbrev pub no_faults : Counts
no_faults = record { disk_faults = 0; tree_faults = 0; start_faults = 0; action_failures = 0 }

abbrev pub source_alone : Files
source_alone p = if bytes_eq p source then Some (2 ∷ []) else None

abbrev pub both : Files
both p = if bytes_eq p object then Some (2 ∷ []) else source_alone p

abbrev pub copying : Rule
copying = rule_in graph declared_rule

abbrev pub job : Job
job = record { id = 1; work = Copy; targets = object ∷ []; lines = []; signed = []; deps = source ∷ [] }

abbrev pub run : Running
run = record { job = job; given = given_of source_alone (source ∷ []) }

-- the world before the build, while its job runs, and behind it
abbrev pub before : Around
before = record {
  tree = source_alone;
  dirs = λ dir. false;
  stamps = λ path. 0;
  running = [];
  log = [];
  met = (2 ∷ []) ∷ [];
  law = λ signed targets given target. None;
  top = [];
}

abbrev pub busy : Around
busy = record before { running = run ∷ []; log = Started job no_faults ∷ [] }

abbrev pub ended : Ended
ended = record { id = 1; outcome = Done }

abbrev pub after : Around
after = record before { tree = both; log = Started job no_faults ∷ Finished 1 Done ∷ [] }

-- the record of the copy, as of each path
abbrev pub copied : Rec
copied = record {
  work = Copy;
  hash = Md5;
  targets = object ∷ [];
  signed = [];
  deps = record { name = source; digest = None; stamp = None } ∷ [];
}

abbrev pub copy_kept : Kept
copy_kept path = Some copied

-- the world where the object is there already, and where nothing is
abbrev pub built : Around
built = record before { tree = both }

abbrev pub bare : Around
bare = record before { tree = λ path. None; met = [] }

-- The rule may begin, nothing has to be cleared, its job starts, the build may wait for it, and it ends. Where the object
-- is there already the rule is up to date, and where nothing is it lacks the source.
pub record AreMet : Type 0 where
  pub reading : IsReading graph
  pub none_runs : before.running ≡ []
  pub may : MayBegin wanted none_kept before before [] copying
  pub clears : Clears copying.targets before before
  pub starts : Starts job no_faults before busy
  pub handed : IsHanded wanted none_kept no_faults before before [] copying job no_faults
  pub waits : MayWait wanted none_kept before busy (Began copying ∷ [])
  pub ends : Ends (Unit {0}) ended busy after
  pub fresh : MayBeFresh wanted copy_kept built built [] copying
  pub lacks : IsLacking (setting_in wanted bare) (build_in wanted none_kept bare bare) [] copying source
