-- The same build told of another run: of one that had looked before, that began the store before, or that looked behind.
use Rattle.std.proofs.Common.{◌≡◌, ◌∙◌, inl, inr, sym, subst, Bool, List, [], length, true, false}
use Rattle.std.specs.Prelude.{◌≢◌, All, Contains, Result, Ok, Err}
use Rattle.std.proofs.lemmas.Bool.{false≢true}
use Rattle.scons_base.specs.declared.ids.NodeId.{NodeId}
use Rattle.world_api.specs.Laws.{HasOnlyNow}
use Rattle.world_api.specs.Looks.{Looks}
use Rattle.world_api.specs.Meaning.{Meaning, Told}
use Rattle.rule_graph.specs.Graphs.{RuleGraph}
use Rattle.rule_graph.specs.Rules.{are_below}
use Rattle.rule_graph.specs.declared.build_fault.BuildFault.{BuildFault}
use Rattle.sign_store.specs.Ends.{image_in}
use Rattle.sign_store.specs.Tables.{Map}
use Rattle.build_model.specs.Rules.{Path}
use Rattle.build_run.specs.Causes.{HasAny}
use Rattle.build_run.specs.Faulted.{HasFaulted}
use Rattle.build_run.specs.Forgetting.{Forgets}
use Rattle.build_run.specs.Outsets.{BuildSucceeds}
use Rattle.build_run.specs.Reasons.{EndsForReason, HasLast, IsLast}
use Rattle.build_run.specs.Remembering.{Remembers}
use Rattle.build_run.specs.Skips.{HasSkipped}
use Rattle.build_run.specs.Unrecorded.{HasCounted}
use Rattle.build_run.specs.declared.end.BuildEnd.{BuildEnd}
use Rattle.scons_words.specs.declared.words.Words.{Words}
use Rattle.scons_top.specs.Builds.{BeginsStore, wanted_by, HasBuilt, BuildsOrStops, RunBuilds}
use Rattle.scons_top.specs.Scripted.{BuildsNodes, BuildsOf, RunBuildsOf}
use Rattle.scons_top.specs.Reported.{ReportsFound}
use Rattle.scons_top.specs.RunLines.{options_of}
use Rattle.scons_top.specs.Stopping.{RunsSafely}
use Rattle.scons_top.specs.Stops.{top_of}
use Rattle.scons_top.specs.Watching.{Watches}
use Rattle.scons_top.specs.declared.report.Report.{Report}
use Rattle.scons_top.specs.declared.stop.Stop.{Stop}
use Rattle.scons_top.proofs.Building.{SkipsBy, around_asked, ends_looked, jobs_of, records_kept, run_back, run_on, success_back, success_on}
use Rattle.scons_top.proofs.Forgotten.{forgets_begun, forgets_looked, forgets_on}
use Rattle.scons_top.proofs.Reported.{come_back, come_behind, come_done}
use Rattle.scons_top.proofs.Remembered.{remembers_begun, remembers_behind, remembers_looked}

-- behind a build

unfoldable pub built_looked : {W : Type 0} (m : Meaning W) (said : Words) (old a b : W) (report : Report) → HasOnlyNow m → Watches m a b → m.tells b
    → (m.tells a → (m.around a).running ≡ []) → HasBuilt m said old a report → HasBuilt m said old b report
built_looked m said old a b report only watches told idle h =
    let w = wanted_by said h.graph h.requested in
    let map = image_in (m.seen old) in
    let around = around_asked (m.around a) (m.around b) (idle (watches.looks.told.told told)) (watches.looks.around told) in
    let same = watches.looks.banks told in
    let on = run_on m w map old a b h.kept around same watches.later h.is_ended h.found report.skipped h.memory
    (record { run = h.runs; skips = h.skips; jobs = h.jobs }) in
    record {
      graph = h.graph;
      requested = h.requested;
      are_nodes = h.are_nodes;
      kept = h.kept;
      is_ended = h.is_ended;
      runs = on.run;
      succeeds = λ well. success_on m w map old a b h.kept around same (h.succeeds well);
      memory = h.memory;
      wanting = h.wanting;
      jobs = on.jobs;
      remembers = remembers_behind m w only old a b watches.looks idle h.remembers;
      forgets = forgets_on m only old a b watches.looks told h.forgets;
      found = h.found;
      reported = h.reported;
      come = come_behind m w old a b h.kept h.is_ended h.memory h.found around h.come;
      reports = h.reports;
      goes_on = h.goes_on;
      skips = on.skips;
    }

-- of a run that had looked before

built_back : {W : Type 0} (m : Meaning W) (said : Words) (a b new : W) (report : Report) → HasOnlyNow m → Looks m a b → m.tells b
    → (m.around a).running ≡ [] → Told m b new → m.counts b ≡ m.counts a → RunsSafely m a b → HasBuilt m said b new report → HasBuilt m said a new report
built_back m said a b new report only looks here idle told counts safe h =
    let w = wanted_by said h.graph h.requested in
    let before = image_in (m.seen a) in
    let after = image_in (m.seen b) in
    let around = around_asked (m.around a) (m.around b) idle (looks.around here) in
    let records = records_kept m a b (looks.banks here) in
    let back = run_back m w before after a b new h.kept around counts records safe h.is_ended h.found report.skipped h.memory
    (record { run = h.runs; skips = h.skips; jobs = h.jobs }) in
    record {
      graph = h.graph;
      requested = h.requested;
      are_nodes = h.are_nodes;
      kept = h.kept;
      is_ended = h.is_ended;
      runs = back.run;
      succeeds = λ well. success_back m w before after a b new h.kept around counts records safe (h.succeeds well);
      memory = h.memory;
      wanting = h.wanting;
      jobs = back.jobs;
      remembers = remembers_looked m w only a b new looks safe told around counts records h.remembers;
      forgets = forgets_looked m only a b new looks told here h.forgets;
      found = h.found;
      reported = h.reported;
      come = come_back m w a b new h.kept h.is_ended h.memory h.found around counts records h.come;
      reports = h.reports;
      goes_on = h.goes_on;
      skips = back.skips;
    }

steps_looked : {W : Type 0} (m : Meaning W) (said : Words) (a b new : W) (r : Result Report Stop) → HasOnlyNow m → Looks m a b → m.tells b
    → (m.around a).running ≡ [] → Told m b new → m.counts b ≡ m.counts a → RunsSafely m a b → BuildsOrStops m said b new r → BuildsOrStops m said a new r
steps_looked m said a b new (Ok report) only looks here idle told counts safe built = built_back m said a b new report only looks here idle told counts safe built
steps_looked m said a b new (Err stop) only looks here idle told counts safe ends = ends_looked m a b new looks ends

pub builds_looked : {W : Type 0} (m : Meaning W) (said : Words) (a b new : W) (r : Result Report Stop) → HasOnlyNow m → Looks m a b
    → Told m b new → (m.tells a → (m.around a).running ≡ []) → m.counts b ≡ m.counts a → RunsSafely m a b
    → RunBuilds m said b new r → RunBuilds m said a new r
builds_looked m said a b new r only looks told idle counts safe builds = λ ask tells sure.
    let here = told.told tells in
    steps_looked m said a b new r only looks here (idle (looks.told.told here)) told counts safe (builds ask tells sure)

-- of these very nodes

nodes_back : {W : Type 0} (m : Meaning W) (said : Words) (g : RuleGraph) (nodes : List NodeId) (a b new : W) (report : Report) → HasOnlyNow m → Looks m a b → m.tells b
    → (m.around a).running ≡ [] → Told m b new → m.counts b ≡ m.counts a → RunsSafely m a b → BuildsNodes m said g nodes b new report → BuildsNodes m said g nodes a new report
unfolding built_back
nodes_back m said g nodes a b new report only looks here idle told counts safe h =
    record { built = built_back m said a b new report only looks here idle told counts safe h.built; graph = h.graph; requested = h.requested }

of_steps : {W : Type 0} (m : Meaning W) (said : Words) (g : RuleGraph) (nodes : List NodeId) (a b new : W) (r : Result Report Stop) → HasOnlyNow m → Looks m a b → m.tells b
    → (m.around a).running ≡ [] → Told m b new → m.counts b ≡ m.counts a → RunsSafely m a b → BuildsOf m said g nodes b new r → BuildsOf m said g nodes a new r
of_steps m said g nodes a b new (Ok report) only looks here idle told counts safe (inl built) = inl (nodes_back m said g nodes a b new report only looks here idle told counts safe built)
of_steps m said g nodes a b new (Ok report) only looks here idle told counts safe (inr early) = inr (early.0, early.1, ends_looked m a b new looks early.2)
of_steps m said g nodes a b new (Err stop) only looks here idle told counts safe ends = ends_looked m a b new looks ends

pub of_looked : {W : Type 0} (m : Meaning W) (said : Words) (g : RuleGraph) (nodes : List NodeId) (a b new : W) (r : Result Report Stop) → HasOnlyNow m → Looks m a b
    → Told m b new → (m.tells a → (m.around a).running ≡ []) → m.counts b ≡ m.counts a → RunsSafely m a b
    → RunBuildsOf m said g nodes b new r → RunBuildsOf m said g nodes a new r
of_looked m said g nodes a b new r only looks told idle counts safe builds = λ ask tells sure.
    let here = told.told tells in
    of_steps m said g nodes a b new r only looks here (idle (looks.told.told here)) told counts safe (builds ask tells sure)

-- behind the beginning of its store

-- a fault after which nothing new starts
pub last_told : (memory : Bool) (faults : List BuildFault) → memory ≡ false → HasLast memory faults → HasAny IsLast faults
last_told memory faults none (inl wanting) = absurd (false≢true (sym none ∙ wanting))
last_told memory faults none (inr has) = has

unfoldable pub build_done : {W : Type 0} (m : Meaning W) (said : Words) (g : RuleGraph) (requested : List NodeId) (store : Map)
    (old begun new : W) (behind : Map) (answer : BuildEnd) (report : Report)
    → BeginsStore m old begun → RunsSafely m old begun → Told m begun new → m.counts begun ≡ m.counts old → (m.tells begun → store ≡ image_in (m.seen old))
    → are_below (length g.nodes) requested ≡ true → (report.status ≡ 0 → (answer.faults ≡ []) × (answer.memory ≡ false))
    → (report.status ≢ 3 → answer.memory ≡ false) → (report.status ≢ 3 → All (λ f. Contains report.faults (top_of f)) answer.faults)
    → report.skipped ≡ answer.skipped → EndsForReason (options_of said) answer
    → m.tells new → m.sure new → (m.tells new → m.sure new → are_below (length g.nodes) requested ≡ true → HasSkipped m (wanted_by said g requested) store begun new behind answer)
    → (m.tells new → m.sure new → are_below (length g.nodes) requested ≡ true → HasCounted m (wanted_by said g requested) store begun new behind answer.is_ended answer.memory)
    → Remembers m (wanted_by said g requested) store begun new
    → Forgets m (wanted_by said g requested) begun new
    → BuildSucceeds m (wanted_by said g requested) store begun new behind answer → ReportsFound said answer.faults report
    → (m.tells new → m.sure new → are_below (length g.nodes) requested ≡ true → HasFaulted m (wanted_by said g requested) store begun new behind answer)
    → HasBuilt m said old new report
build_done m said g requested store old begun new behind answer report begins safe told counts records nodes well memory reported
    skipped reason tells sure skips jobs remembers forgets succeeds reports faulted =
    let w = wanted_by said g requested in
    let here = told.told tells in
    let before = image_in (m.seen old) in
    let around = begins.around here in
    let same = records here in
    let ran = skips tells sure nodes in
    let counted = jobs_of m w store begun new behind answer.is_ended answer.memory ran.run (jobs tells sure nodes) in
    let by = subst (λ (pairs : List (Path × Path)). SkipsBy m w store begun new behind answer.is_ended answer.faults pairs answer.memory) (sym skipped)
    (record { run = ran.run; skips = ran.skips; jobs = counted }) in
    let back = run_back m w before store old begun new behind around counts same safe answer.is_ended answer.faults report.skipped answer.memory by in
    record {
      graph = g;
      requested = requested;
      are_nodes = nodes;
      kept = behind;
      is_ended = answer.is_ended;
      runs = back.run;
      succeeds = λ zero. success_back m w before store old begun new behind around counts same safe
          (succeeds (well zero).0 (well zero).1 tells sure nodes);
      memory = answer.memory;
      wanting = memory;
      jobs = back.jobs;
      remembers = remembers_begun m w store old begun new begins safe told here counts same (remembers tells sure nodes);
      forgets = forgets_begun m old begun new begins told here (forgets tells sure nodes);
      found = answer.faults;
      reported = reported;
      come = come_done m w store old begun new behind answer around counts same (faulted tells sure nodes);
      reports = reports;
      goes_on = λ ne keep is. last_told answer.memory answer.faults (memory ne) (reason keep is);
      skips = back.skips;
    }
