-- What the scripts of the tree declare, and that a run goes by it: the graph that it builds, cleans or lists is the one that they declare.
use Rattle.std.specs.Prelude.{◌≡◌, ◌≢◌, ◌⊎◌, ◌++◌, ℕ, List, [], All, Contains, Result, Ok, Err}
use Rattle.scons_base.specs.declared.ids.NodeId.{NodeId}
use Rattle.world_api.specs.Around.{Around}
use Rattle.world_api.specs.Looks.{Looks}
use Rattle.world_api.specs.Meaning.{Meaning}
use Rattle.world_api.specs.Printed.{SinkMeaning}
use Rattle.rule_graph.specs.Graphs.{RuleGraph}
use Rattle.sign_store.specs.Ends.{image_in}
use Rattle.report_texts.specs.Texts.{help_text, reading_text}
use Rattle.scons_words.specs.Readings.{read}
use Rattle.scons_words.specs.declared.words.Words.{Words}
use Rattle.scons_rules.specs.PathGraphs.{graph_by}
use Rattle.scons_host.specs.declared.end.HostEnd.{HostEnd}
use Rattle.scons_host.specs.declared.end.HostEnd.TheVariants as end
use Rattle.scons_host.specs.Files.{Files, Shows}
use Rattle.scons_host.specs.Untold.{untold_end}
use Rattle.scons_reading.specs.Reads.{Outcome, gives, ends, Reads}
use Rattle.scons_top.specs.Asked.{asked_by, words_asked}
use Rattle.scons_top.specs.Builds.{AskForBuild, EndsBefore, HasBuilt}
use Rattle.scons_top.specs.Cleaned.{CleansNodes}
use Rattle.scons_top.specs.Faults.{top_of_own}
use Rattle.scons_top.specs.Naming.{HasGrown, IsFirstUnknown, NamesSome}
use Rattle.scons_top.specs.Printed.{IsServedText, Surely}
use Rattle.scons_top.specs.Requested.{AskForNodes, nodes_asked}
use Rattle.scons_top.specs.RunLines.{opening_text, progress}
use Rattle.scons_top.specs.Sinks.{IsCut, IsPrintedOf}
use Rattle.scons_top.specs.Stops.{top_of}
use Rattle.scons_top.specs.declared.report.Report.{Report}
use Rattle.scons_top.specs.declared.report.Top.{Top}
use Rattle.scons_top.specs.declared.report.Top.TheVariants as top
use Rattle.scons_top.specs.declared.requests.Request.{Request}
use Rattle.scons_top.specs.declared.step.Step.{Step}
use Rattle.scons_top.specs.declared.step.Step.TheVariants as step
use Rattle.scons_top.specs.declared.stop.OwnFault.TheVariants as own
use Rattle.scons_top.specs.declared.stop.Stop.{Stop}
use Rattle.scons_top.specs.declared.stop.Stop.TheVariants as stop

-- ---- the scripts

-- Read with these words, the scripts come to this, by the files that stand around.
abbrev pub ScriptsGive : Words → Around → Outcome → Type 0
ScriptsGive said around outcome = (f : Files) → Shows around f → Reads f said outcome

-- They declare this graph, by its paths, and print this.
abbrev pub Declare : Words → Around → RuleGraph → List ℕ → Type 0
Declare said around g printed = ScriptsGive said around (gives (graph_by g) printed)

-- They stop with this end, and what they print before stands behind the first line of the run.
pub record StopSo (said : Words) (around : Around) (before now : List ℕ) (e : HostEnd) : Type 0 where
  pub printed : List ℕ
  pub stands : now ≡ before ++ (progress said reading_text ++ printed)
  pub comes : ScriptsGive said around (ends (untold_end e) printed)

-- ---- a reading without a graph

-- where this is a fault of the scripts, or a limit of theirs, they stop so
abbrev pub TellsEnd : (HostEnd → Type 0) → Top → Type 0
TellsEnd Is (top.Reading file line kind) = Is (end.Reading file line kind)
TellsEnd Is (top.TooLarge path size) = Is (end.TooLarge path size)
TellsEnd Is (top.TooMany what count) = Is (end.TooMany what count)
TellsEnd Is other = Unit {0}

abbrev pub StopTells : (HostEnd → Type 0) → Stop → Type 0
StopTells Is (stop.Fault fault) = TellsEnd Is (top_of_own fault)
StopTells Is (stop.Build fault) = TellsEnd Is (top_of fault)
StopTells Is stop.Memory = Unit {0}

-- so is each fault of a report
abbrev pub TellsEnds : (HostEnd → Type 0) → Result Report Stop → Type 0
TellsEnds Is (Ok report) = All (TellsEnd Is) report.faults
TellsEnds Is (Err s) = StopTells Is s

-- What was read: the graph that the scripts declare, with what they print in the opening; or a fault of theirs.
abbrev pub IsRead : Words → Around → List ℕ → List ℕ → Result RuleGraph Stop → Type 0
IsRead said around before now (Ok g) =
    (printed : List ℕ) × Declare said around g printed × (now ≡ before ++ opening_text said printed)
IsRead said around before now (Err s) = StopTells (StopSo said around before now) s

-- the same of a world and a sink that tell, where nothing runs
abbrev pub ReadsScripts : {W O : Type 0} → Meaning W → SinkMeaning O → Words → W → O → W → O → Result RuleGraph Stop → Type 0
ReadsScripts m p said old out new new_out result =
    p.tells new_out → m.tells new → (m.around old).running ≡ [] → IsRead said (m.around old) (p.text out) (p.text new_out) result

-- ---- what is done with a graph

-- A graph grew by paths that got numbers: by its paths it is the same.
pub record GrowsByPaths (old new : RuleGraph) : Type 0 where
  pub grown : HasGrown old new
  pub by_paths : graph_by new ≡ record (graph_by old) { nodes = new.nodes }

-- these very nodes of this very graph were built
pub record BuildsNodes {W : Type 0} (m : Meaning W) (said : Words) (g : RuleGraph) (nodes : List NodeId) (old new : W) (report : Report) : Type 0 where
  pub built : HasBuilt m said old new report
  pub graph : built.graph ≡ g
  pub requested : built.requested ≡ nodes

-- they were, or the run ended before
abbrev pub BuildsOf : {W : Type 0} → Meaning W → Words → RuleGraph → List NodeId → W → W → Result Report Stop → Type 0
BuildsOf m said g nodes old new (Ok report) =
    BuildsNodes m said g nodes old new report ⊎ ((report.status ≢ 0) × (report.skipped ≡ []) × EndsBefore m old new)
BuildsOf m said g nodes old new (Err s) = EndsBefore m old new

-- so it is of a run that is asked for a build, in a world that tells and is sure
abbrev pub RunBuildsOf : {W : Type 0} → Meaning W → Words → RuleGraph → List NodeId → W → W → Result Report Stop → Type 0
RunBuildsOf m said g nodes old new result = AskForBuild said → m.tells new → m.sure new → BuildsOf m said g nodes old new result

-- what the rules make that these nodes lead to was cleaned, or the run only looked
abbrev pub CleansOf : {W : Type 0} → Meaning W → Words → RuleGraph → List NodeId → W → W → Result Report Stop → Type 0
CleansOf m said g nodes old new (Ok report) =
    CleansNodes m said g nodes old new (report.status ≡ 0) ⊎ ((report.status ≢ 0) × Looks m old new)
CleansOf m said g nodes old new (Err s) = CleansNodes m said g nodes old new ⊥ ⊎ Looks m old new

-- what a run did by these nodes of a graph that ended as it built or cleaned
abbrev pub DoesAt : {W : Type 0} → Meaning W → Words → Step → RuleGraph → List NodeId → W → W → Result Report Stop → Type 0
DoesAt m said step.Building g nodes old new result = RunBuildsOf m said g nodes old new result
DoesAt m said step.Cleaning g nodes old new result = CleansOf m said g nodes old new result
DoesAt m said other g nodes old new result = Unit {0}

-- ---- a run

-- what stands behind an opening
abbrev pub IsBehind : List ℕ → (List ℕ → Type 0) → List ℕ → Type 0
IsBehind opening IsRest text = (rest : List ℕ) × IsRest rest × (text ≡ opening ++ rest)

-- Each word that the run was asked for names something, by the graph that was read. Its requests stand for nodes of that graph, which grew by
-- their paths alone; these nodes of it were built, cleaned or listed, and what is printed behind the opening is of them.
pub record Serves {W O : Type 0} (m : Meaning W) (p : SinkMeaning O) (said : Words) (at : Step) (graph : RuleGraph) (opening : List ℕ)
    (old : W) (out : O) (new : W) (new_out : O) (result : Result Report Stop) : Type 0 where
  pub named : All (NamesSome said.clean graph (m.around old) (image_in (m.seen old))) (asked_by graph said)
  pub grown : RuleGraph
  pub grows : GrowsByPaths graph grown
  pub requests : List Request
  pub words : words_asked requests ≡ asked_by graph said
  pub nodes : AskForNodes grown requests
  pub does : DoesAt m said at grown (nodes_asked requests) old new result
  pub prints : Surely m said at new →
      IsPrintedOf p (IsBehind opening (IsServedText m p said at grown requests old new result)) (IsCut result) out new_out

-- a word is told to be unknown
abbrev pub TellsWord : Result Report Stop → List ℕ → Type 0
TellsWord (Ok report) word = Contains report.faults (top.UnknownTarget word)
TellsWord (Err s) word = s ≡ stop.Fault (own.UnknownTarget word)

-- it is the first that names nothing, by the graph that was read
abbrev pub TellsFirst : {W : Type 0} → Meaning W → Words → RuleGraph → W → Result Report Stop → Type 0
TellsFirst m said graph old result =
    (word : List ℕ) → TellsWord result word → IsFirstUnknown said.clean graph (m.around old) (image_in (m.seen old)) (asked_by graph said) word

-- Behind a reading: with `-h` the help texts of the graph stand behind the opening; or a word names nothing; or what is requested is served.
abbrev pub GoesAt : {W O : Type 0} → Meaning W → SinkMeaning O → Words → Step → RuleGraph → List ℕ → W → O → W → O → Result Report Stop → Type 0
GoesAt m p said step.Help graph opening old out new new_out result =
    IsPrintedOf p (λ text. text ≡ opening ++ help_text graph.helps) (IsCut result) out new_out
GoesAt m p said step.Requests graph opening old out new new_out result =
    TellsFirst m said graph old result × (p.text new_out ≡ p.text out ++ opening)
GoesAt m p said other graph opening old out new new_out result = Serves m p said other graph opening old out new new_out result

-- A run read its scripts: this is the graph that they declare, and what they print; and by it the run goes on.
pub record HasRead {W O : Type 0} (m : Meaning W) (p : SinkMeaning O) (said : Words) (at : Step)
    (old : W) (out : O) (new : W) (new_out : O) (result : Result Report Stop) : Type 0 where
  pub graph : RuleGraph
  pub printed : List ℕ
  pub declared : Declare said (m.around old) graph printed
  pub goes : GoesAt m p said at graph (opening_text said printed) old out new new_out result

-- Before the scripts are read there is nothing to go by; a run that ended as it read them tells their fault.
abbrev pub FollowsAt : {W O : Type 0} → Meaning W → SinkMeaning O → Words → Step → W → O → W → O → Result Report Stop → Type 0
FollowsAt m p said step.Words old out new new_out result = Unit {0}
FollowsAt m p said step.Load old out new new_out result = Unit {0}
FollowsAt m p said step.Top old out new new_out result = Unit {0}
FollowsAt m p said step.Reading old out new new_out result =
    TellsEnds (StopSo said (m.around old) (p.text out) (p.text new_out)) result
FollowsAt m p said other old out new new_out result = HasRead m p said other old out new new_out result

-- So it is of a world and a standard output that tell,
abbrev pub RunFollows : {W O : Type 0} → Meaning W → SinkMeaning O → Words → Step → W → O → W → O → Result Report Stop → Type 0
RunFollows m p said at old out new new_out result = p.tells new_out → m.tells new → FollowsAt m p said at old out new new_out result

-- where these words are read,
abbrev pub WordsFollow : {W O : Type 0} → Meaning W → SinkMeaning O → List (List ℕ) → Step → W → O → W → O → Result Report Stop → Type 0
WordsFollow m p words at old out new new_out result = (said : Words) → read words ≡ Ok said → RunFollows m p said at old out new new_out result

-- up to the report.
abbrev pub ReportFollows : {W O : Type 0} → Meaning W → SinkMeaning O → List (List ℕ) → W → O → W → O → Report → Type 0
ReportFollows m p words old out new new_out report = WordsFollow m p words report.step old out new new_out (Ok report)
