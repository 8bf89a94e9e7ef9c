-- What a run did whose words ask for a build.
use Rattle.std.specs.Prelude.{◌≡◌, ◌≢◌, ◌⊎◌, Bool, false, true, List, [], length, All, Contains, None, Result, Ok, Err}
use Rattle.scons_base.specs.declared.ids.NodeId.{NodeId}
use Rattle.world_api.specs.Looks.{Looks}
use Rattle.world_api.specs.Meaning.{Meaning}
use Rattle.rule_graph.specs.Graphs.{RuleGraph}
use Rattle.rule_graph.specs.Rules.{are_below}
use Rattle.rule_graph.specs.declared.build_fault.BuildFault.{BuildFault}
use Rattle.sign_store.specs.Changing.{BeginsThroughout}
use Rattle.sign_store.specs.Ends.{ReadsAsBefore, image_in}
use Rattle.sign_store.specs.Tables.{Map}
use Rattle.scons_words.specs.declared.words.Words.{Words}
use Rattle.build_means.specs.Builds.{Wanted}
use Rattle.build_run.specs.Causes.{HasAny}
use Rattle.build_run.specs.Forgetting.{HasForgotten}
use Rattle.build_run.specs.Outsets.{HasRun, HasSucceeded}
use Rattle.build_run.specs.Reasons.{IsLast}
use Rattle.build_run.specs.Skips.{AreSkips}
use Rattle.build_run.specs.Unrecorded.{CountsJobs}
use Rattle.scons_top.specs.Remembered.{HasRememberedSince, LeavesRecords}
use Rattle.scons_top.specs.Reported.{HasFoundFaults, ReportsFound}
use Rattle.scons_top.specs.Stops.{top_of}
use Rattle.scons_top.specs.declared.report.Report.{Report}
use Rattle.scons_top.specs.declared.step.Step.{Step}
use Rattle.scons_top.specs.declared.step.Step.TheVariants as step
use Rattle.scons_top.specs.declared.stop.Stop.{Stop}

-- The words ask for a build: not for a load, help texts, a removal or a list.
pub record AskForBuild (said : Words) : Type 0 where
  pub load : said.load ≡ None
  pub help : said.help ≡ false
  pub clean : said.clean ≡ false
  pub dry : said.dry ≡ false

-- What they want made: these nodes of a graph, by as many jobs, going on or not after a fault, and with the digests that they say.
abbrev pub wanted_by : Words → RuleGraph → List NodeId → Wanted
wanted_by said g requested =
    record { graph = g; requested = requested; jobs = said.jobs; keep = said.keep; hash = said.hash }

-- The store was begun, or the signature file refused: no file was changed, and the banks read as before, also where a stop came
-- meanwhile.
pub record BeginsStore {W : Type 0} (m : Meaning W) (old new : W) : Type 0 where
  pub around : m.tells new → m.around new ≡ m.around old
  pub reads : m.tells new → ReadsAsBefore m old new
  pub moments : BeginsThroughout m old new

-- A run looked at the world, and then began the store.
pub record LooksAndBegins {W : Type 0} (m : Meaning W) (old new : W) : Type 0 where
  pub looked : W
  pub looks : Looks m old looked
  pub begins : BeginsStore m looked new

-- A run ended before it built: it only looked, or it began the store too.
abbrev pub EndsBefore : {W : Type 0} → Meaning W → W → W → Type 0
EndsBefore m old new = Looks m old new ⊎ LooksAndBegins m old new

-- A run built nodes of a graph, from the world as the run found it and the records that its banks held then; where it answers
-- status 0, the build succeeded; what its report tells to be skipped is what the build held back; its jobs that didn't end well are counted;
-- and wherever it is stopped no record is forgotten, but of what it started to make and didn't make there is none.
pub record HasBuilt {W : Type 0} (m : Meaning W) (said : Words) (old new : W) (report : Report) : Type 0 where
  pub graph : RuleGraph
  pub requested : List NodeId
  pub are_nodes : are_below (length graph.nodes) requested ≡ true
  -- the records of the store when it was done
  pub kept : Map
  -- whether a fault came after which nothing new starts
  pub is_ended : Bool
  pub runs : HasRun m (wanted_by said graph requested) (image_in (m.seen old)) old new kept is_ended
  pub succeeds : report.status ≡ 0 → HasSucceeded m (wanted_by said graph requested) (image_in (m.seen old)) old new kept
  -- whether memory was wanting, which the status tells
  pub memory : Bool
  pub wanting : report.status ≢ 3 → memory ≡ false
  pub jobs : CountsJobs (m.counts old) (m.counts new) memory kept runs.runs.log.entries
  pub remembers : HasRememberedSince m (wanted_by said graph requested) old new
  -- of all that the run started, whose jobs are those of the build alone
  pub forgets : HasForgotten m old new
  -- the faults of the build, each of which the report has unless memory was wanting
  pub found : List BuildFault
  pub reported : report.status ≢ 3 → All (λ f. Contains report.faults (top_of f)) found
  -- they come of what its jobs did, and the report has them in their order, and no other of a build
  pub come : HasFoundFaults m (wanted_by said graph requested) old new kept is_ended memory found
  pub reports : ReportsFound said found report
  -- with keep-going others go on unless such a fault came
  pub goes_on : report.status ≢ 3 → said.keep ≡ true → is_ended ≡ true → HasAny IsLast found
  pub skips : is_ended ≡ false →
      AreSkips (wanted_by said graph requested) runs.kept runs.left (m.around new) runs.runs.steps found report.skipped

-- A run that is asked for a build, in a world that tells and is sure, builds, or it ends before, skips nothing, and its status says so.
abbrev pub Builds : {W : Type 0} → Meaning W → Words → W → W → Report → Type 0
Builds m said old new report = AskForBuild said → m.tells new → m.sure new →
    HasBuilt m said old new report ⊎ ((report.status ≢ 0) × (report.skipped ≡ []) × EndsBefore m old new)

-- The same of its steps: where one stops, there is no report yet.
abbrev pub BuildsOrStops : {W : Type 0} → Meaning W → Words → W → W → Result Report Stop → Type 0
BuildsOrStops m said old new (Ok report) = HasBuilt m said old new report
BuildsOrStops m said old new (Err stop) = EndsBefore m old new

abbrev pub RunBuilds : {W : Type 0} → Meaning W → Words → W → W → Result Report Stop → Type 0
RunBuilds m said old new result = AskForBuild said → m.tells new → m.sure new → BuildsOrStops m said old new result

-- Nothing is forgotten. A run that ends before it builds keeps the records at every moment. Where it comes to build, in a world that tells and
-- is sure, it does, or it built, and `remembers` says of what it built which records it may have changed.
abbrev pub RemembersAt : {W : Type 0} → Meaning W → Words → Step → W → W → Report → Type 0
RemembersAt m said step.Building old new report = m.tells new → m.sure new → HasBuilt m said old new report ⊎ LeavesRecords m old new
RemembersAt m said other old new report = LeavesRecords m old new
