-- What a build did, from what it began with.
use Rattle.std.specs.Prelude.{◌≡◌, ℕ, Bool, true, false, List, [], length}
use Rattle.scons_base.specs.Rising.{Rose}
use Rattle.scons_base.specs.declared.ids.NodeId.{NodeId}
use Rattle.world_api.specs.Around.{Around}
use Rattle.world_api.specs.Banks.{Banks}
use Rattle.world_api.specs.Calls.{Grows}
use Rattle.world_api.specs.Meaning.{Meaning, IsImage}
use Rattle.world_api.specs.declared.hash.Hash.{Hash}
use Rattle.rule_graph.specs.Graphs.{RuleGraph}
use Rattle.rule_graph.specs.Rules.{are_below}
use Rattle.sign_store.specs.Ends.{image_in}
use Rattle.sign_store.specs.Stores.{IsKept, map_of}
use Rattle.sign_store.specs.Tables.{Map}
use Rattle.sign_store.specs.declared.store.Store.{Store}
use Rattle.task_plan.specs.Admits.{Fits}
use Rattle.task_plan.specs.Met.{AllMet, AreFrom}
use Rattle.task_plan.specs.Plans.{Planned}
use Rattle.task_plan.specs.Watched.{IsStill, AreGoingOn, IsFinished}
use Rattle.build_model.specs.Graphs.{clean_build}
use Rattle.build_model.specs.Headline.{IsBuilt, IsNeeded}
use Rattle.build_model.specs.Laws.{EachStep}
use Rattle.build_model.specs.Records.{AreDistinct}
use Rattle.build_model.specs.Rules.{Rule, content}
use Rattle.build_model.specs.Steps.{Step}
use Rattle.build_means.specs.Builds.{Wanted, KeepsRecords, Rests, Runs, Succeeded, build_in, graph_in, setting_in}
use Rattle.build_files.specs.Marked.{AreGoneOver}
use Rattle.turn_means.specs.Standing.{Outset, IsOutset}
use Rattle.turn_means.specs.Laws.{IsSetOut}
use Rattle.build_run.specs.Along.{AreAsked, is_faulted}
use Rattle.build_run.specs.Takes.{IsLeftAt, OnlyGo}
use Rattle.build_run.specs.Truth.{TellsTruth}
use Rattle.build_run.specs.declared.account.Account.{Account}
use Rattle.build_run.specs.declared.building.Options.{Options}
use Rattle.build_run.specs.declared.end.BuildEnd.{BuildEnd}
use Rattle.build_run.specs.declared.site.Run.{Run}

-- what a build is asked for
abbrev pub wanted_of : RuleGraph → List NodeId → Options → Wanted
wanted_of g requested options =
    record { graph = g; requested = requested; jobs = options.jobs; keep = options.keep; hash = options.hash }

-- an outset is of this graph, these nodes and this hash, and of what stands around
pub record IsBegunBy (g : RuleGraph) (nodes : List NodeId) (by : Hash) (around : Around) (o : Outset) : Type 0 where
  pub graph : o.wanted.graph ≡ g
  pub requested : o.wanted.requested ≡ nodes
  pub hash : o.wanted.hash ≡ by
  pub before : o.before ≡ around

-- A build has set out: nothing was read, its plan is loaded, and all that it names was looked for.
pub record SetsOutOn (o : Outset) (g : RuleGraph) (run : Run) (around : Around) : Type 0 where
  pub set : IsSetOut o (record {
    graph = g;
    inputs = run.inputs;
    plan = run.plan;
    records = o.kept;
    faulted = false;
    ended = false;
    around = around;
  })
  pub looked : AreGoneOver g run.inputs

-- So it has where nothing runs, and the requested nodes are the graph's.
abbrev pub SetsOut : {W : Type 0} → Meaning W → RuleGraph → List NodeId → Hash → W → RuleGraph → Run → W → Type 0
SetsOut m g requested hash world h run new = m.tells new → (m.around world).running ≡ [] →
    are_below (length g.nodes) requested ≡ true → (o : Outset) → IsBegunBy g requested hash (m.around world) o →
    SetsOutOn o h run (m.around new)

-- ---- leftovers

-- Files that `may` go are there or gone, with their records, and all else is as it was.
pub record LeavesRest (may : List ℕ → Type 0) (old : Around) (map : Map) (new : Around) (left : Map) : Type 0 where
  pub files : OnlyGo may old new
  pub stamps : (path : List ℕ) → (may path → ⊥) → new.stamps path ≡ old.stamps path
  pub running : new.running ≡ old.running
  pub log : new.log ≡ old.log
  pub met : new.met ≡ old.met
  pub law : new.law ≡ old.law
  pub records : (path : List ℕ) → (may path → ⊥) → left path ≡ map path

-- so it is where nothing runs, and the world tells
abbrev pub Leaves : {W : Type 0} → Meaning W → W → Store → W → Store → (List ℕ → Type 0) → Type 0
Leaves m old store new new_store may = m.tells new → (m.around old).running ≡ [] →
    LeavesRest may (m.around old) (map_of store) (m.around new) (map_of new_store)

-- of leftover copies, as they are before
abbrev pub LeavesCopies : {W : Type 0} → Meaning W → RuleGraph → W → Store → W → Store → Type 0
LeavesCopies m g old store new new_store = Leaves m old store new new_store (IsLeftAt g (m.around old) (map_of store))

-- Leftover copies went, and then the build has set out.
pub record HasSetOut {W : Type 0} (m : Meaning W) (g : RuleGraph) (requested : List NodeId) (hash : Hash) (world : W) (map : Map)
    (h : RuleGraph) (run : Run) (new : W) (left_map : Map) : Type 0 where
  pub left : Around
  pub rest : LeavesRest (IsLeftAt g (m.around world) map) (m.around world) map left left_map
  pub sets : (o : Outset) → IsBegunBy g requested hash left o → SetsOutOn o h run (m.around new)

abbrev pub SetsOutBehind : {W : Type 0} → Meaning W → RuleGraph → List NodeId → Hash → W → Store → RuleGraph → W → Store → Run → Type 0
SetsOutBehind m g requested hash world store h new new_store run = m.tells new → (m.around world).running ≡ [] →
    are_below (length g.nodes) requested ≡ true →
    HasSetOut m g requested hash world (map_of store) h run new (map_of new_store)

-- ---- what was made

-- nothing is to be reported yet
pub record IsBlank (account : Account) : Type 0 where
  pub ended : account.is_ended ≡ false
  pub faulted : is_faulted account ≡ false
  pub unshut : account.is_store_shut ≡ false

-- What a build did that ended well, and that its steps left these records.
pub record HasEndedWell (o : Outset) (around : Around) (behind : Map) : Type 0 where
  pub succeeded : Succeeded o.wanted o.kept o.counts o.before around
  pub records : KeepsRecords o.wanted o.kept o.before around succeeded.runs.steps behind

-- What a build did, which records its steps left unless the store has refused, that it came to rest unless an end came, and
-- that it ended well where nothing is to be reported.
pub record HasMade (o : Outset) (around : Around) (account : Account) (behind : Map) : Type 0 where
  pub runs : Runs o.wanted o.kept o.counts o.before around
  pub records : account.is_store_shut ≡ false → KeepsRecords o.wanted o.kept o.before around runs.steps behind
  pub rests : account.is_ended ≡ false → Rests o.wanted o.kept o.before around runs.steps
  pub unshut : account.is_ended ≡ false → account.is_store_shut ≡ false
  pub told : account.is_ended ≡ true → is_faulted account ≡ true
  pub met : Grows o.before.met around.met
  pub succeeds : is_faulted account ≡ false → HasEndedWell o around behind

-- a build has set out from there
pub record IsReadyFor {W : Type 0} (m : Meaning W) (o : Outset) (g : RuleGraph) (run : Run) (store : Store) (world : W) (account : Account)
    (options : Options) : Type 0 where
  pub outset : IsOutset o
  pub sets : SetsOutOn o g run (m.around world)
  pub kept : o.kept ≡ map_of store
  pub asked : AreAsked o options
  pub counts : o.counts ≡ m.counts world
  pub blank : IsBlank account

abbrev pub MakesAll : {W : Type 0} → Meaning W → RuleGraph → Run → Store → W → Account → Options → W → Account → Store → Type 0
MakesAll m g run store world account options new new_account new_store = m.tells new → m.sure new → (o : Outset) →
    IsReadyFor m o g run store world account options → HasMade o (m.around new) new_account (map_of new_store)

-- unless the store has refused, it is kept
abbrev pub StaysKept : {W : Type 0} → Meaning W → W → Store → Account → Type 0
StaysKept m world store account = account.is_store_shut ≡ false → IsKept m world store

-- Where no rule waits for itself and none can go on, each needed rule of a plan is settled.
abbrev pub Finishes : RuleGraph → Planned → Type 0
Finishes g plan = IsStill plan → AreGoingOn plan → AllMet plan → AreFrom g plan → Fits g plan → IsFinished plan

-- so it is where nothing is to be reported
abbrev pub FinishesWell : RuleGraph → Planned → Account → Account → Type 0
FinishesWell g plan old new = (old.is_ended ≡ true → is_faulted old ≡ true) → is_faulted new ≡ false → Finishes g plan

-- ---- builds

-- all that a stop may leave of the banks now stands for these records
abbrev pub StandFor : {W : Type 0} → Meaning W → W → Map → Type 0
StandFor m world map = (banks : Banks) → IsImage m world banks → image_in banks ≡ map

-- what a build left and did is what a build from sources alone leaves, and just what was needed and stale was started, each once
abbrev pub IsCleanly : (w : Wanted) → Map → Around → Around → List Step → Type 0
IsCleanly w kept left after steps = IsBuilt (graph_in w left) (build_in w kept left after) steps

-- Each step is right by the clean build: what was started was needed and stale, and what was settled is as it is there.
abbrev pub AreRight : (w : Wanted) → Map → Around → Around → List Step → Type 0
AreRight w kept left after steps = EachStep (setting_in w left) (build_in w kept left after) (clean_build (graph_in w left) left.tree) steps

-- A build goes by content alone: no two contents that were met have one digest, and no needed rule has another decider.
pub record GoesByContent (w : Wanted) (kept : Map) (before after : Around) : Type 0 where
  pub distinct : AreDistinct (setting_in w before) after.met
  pub decider : (r : Rule) → IsNeeded (graph_in w before) (build_in w kept before after) r → r.decider ≡ content

-- What a build did: leftover copies went, with their records, and from there it took these steps.
pub record HasRun {W : Type 0} (m : Meaning W) (w : Wanted) (map : Map) (old new : W) (behind : Map) (ended : Bool) : Type 0 where
  pub left : Around
  pub kept : Map
  pub rest : LeavesRest (IsLeftAt w.graph (m.around old) map) (m.around old) map left kept
  pub runs : Runs w kept (m.counts old) left (m.around new)
  -- unless the signature file's disk was at fault
  pub records : (Rose (m.counts old).disk_faults (m.counts new).disk_faults → ⊥) →
      KeepsRecords w kept left (m.around new) runs.steps behind
  -- for none of the needed rules anything is left to do, unless a fault came after which nothing new starts
  pub rests : ended ≡ false → Rests w kept left (m.around new) runs.steps
  -- nor may a stop leave anything of the banks then that stands for other records
  pub stored : ended ≡ false → StandFor m new behind
  -- where what stood before told the truth, and by content
  pub right : TellsTruth m (setting_in w (m.around old)) old → GoesByContent w kept left (m.around new) →
      AreRight w kept left (m.around new) runs.steps

-- What a build did that ended well, and that its steps left these records.
pub record HasSucceeded {W : Type 0} (m : Meaning W) (w : Wanted) (map : Map) (old new : W) (behind : Map) : Type 0 where
  pub left : Around
  pub kept : Map
  pub rest : LeavesRest (IsLeftAt w.graph (m.around old) map) (m.around old) map left kept
  pub succeeded : Succeeded w kept (m.counts old) left (m.around new)
  pub records : KeepsRecords w kept left (m.around new) succeeded.runs.steps behind
  pub stored : StandFor m new behind
  -- The incremental build is the clean one, where what stood before told the truth, and by content.
  pub clean : TellsTruth m (setting_in w (m.around old)) old → GoesByContent w kept left (m.around new) →
      IsCleanly w kept left (m.around new) succeeded.runs.steps

-- So builds do, in a world that tells and is sure, where the requested nodes are the graph's.
abbrev pub BuildRuns : {W : Type 0} → Meaning W → Wanted → Map → W → W → Map → BuildEnd → Type 0
BuildRuns m w map old new behind answer =
    m.tells new → m.sure new → are_below (length w.graph.nodes) w.requested ≡ true → HasRun m w map old new behind answer.is_ended

-- and those that report nothing succeed
abbrev pub BuildSucceeds : {W : Type 0} → Meaning W → Wanted → Map → W → W → Map → BuildEnd → Type 0
BuildSucceeds m w map old new behind answer = answer.faults ≡ [] → answer.memory ≡ false → m.tells new → m.sure new →
    are_below (length w.graph.nodes) w.requested ≡ true → HasSucceeded m w map old new behind

-- the same by what a build is called with
abbrev pub RunsOver : {W : Type 0} → Meaning W → RuleGraph → List NodeId → Options → Store → W → Store → W → BuildEnd → Type 0
RunsOver m g requested options store old new_store new answer =
    BuildRuns m (wanted_of g requested options) (map_of store) old new (map_of new_store) answer

abbrev pub SucceedsOver : {W : Type 0} → Meaning W → RuleGraph → List NodeId → Options → Store → W → Store → W → BuildEnd → Type 0
SucceedsOver m g requested options store old new_store new answer =
    BuildSucceeds m (wanted_of g requested options) (map_of store) old new (map_of new_store) answer
