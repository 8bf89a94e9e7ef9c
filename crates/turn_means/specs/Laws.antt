-- What each turn of a build keeps: a law for each.
use Rattle.std.specs.Prelude.{◌≡◌, ◌<◌, ℕ, Bool, true, false, List, [], ◌∷◌, length, map, Contains, Some, None, slice_get}
use Rattle.std.specs.List.{count_by}
use Rattle.indexmap.specs.IndexMap.{get}
use Rattle.scons_base.specs.declared.ids.NodeId.{NodeId}
use Rattle.scons_base.specs.declared.ids.RuleId.{RuleId}
use Rattle.world_api.specs.Around.{Around, IsRunningTarget}
use Rattle.world_api.specs.Calls.{Asks, Starts, Ends}
use Rattle.world_api.specs.Counts.{Counts}
use Rattle.world_api.specs.Reads.{stamp_of}
use Rattle.world_api.specs.declared.job.Ended.{Ended}
use Rattle.world_api.specs.declared.job.Job.{Job}
use Rattle.deciders.specs.declared.recorded.Rec.{Rec}
use Rattle.deciders.specs.Records.{name_of}
use Rattle.rule_graph.specs.declared.rule.Rule as declared
use Rattle.rule_graph.specs.Rules.{are_below}
use Rattle.rule_graph.specs.Graphs.{RuleGraph}
use Rattle.task_plan.specs.Orders.{IsOrder}
use Rattle.task_plan.specs.Ordered.{IsFirstOf}
use Rattle.task_plan.specs.Settled.{deps_of}
use Rattle.task_plan.specs.States.{is_running}
use Rattle.task_plan.specs.Watched.{IsNoneReady, AreGoingOn, IsFinished}
use Rattle.task_plan.specs.Plans.{Planned, IsDecidedNext, IsScannedNext}
use Rattle.task_plan.specs.declared.want.PlanEvent.{PlanEvent}
use Rattle.task_plan.specs.declared.want.PlanEvent.TheVariants as told
use Rattle.build_model.specs.Rules.{Path, Rule}
use Rattle.build_model.specs.Moments.{Job as Given}
use Rattle.build_model.specs.Steps as model
use Rattle.build_model.specs.Steps.{Step, Fresh, Began, Lacks, Halts}
use Rattle.build_means.specs.Builds.{jobs_at_once, Succeeded}
use Rattle.build_means.specs.Due.{is_due}
use Rattle.build_means.specs.Grown.{rule_numbered}
use Rattle.build_means.specs.Logs.{AreUnrisen, is_done}
use Rattle.build_means.specs.Present.{IsPresent, IsFirstAbsent}
use Rattle.build_means.specs.Records.{record_in, records_in}
use Rattle.build_means.specs.Rules.{paths_of}
use Rattle.build_files.specs.Kept.{AreTrue, IsUnread, same_scan}
use Rattle.build_files.specs.Seen.{seen_at}
use Rattle.build_files.specs.declared.includes.Scan.{Scan}
use Rattle.plan_means.specs.Beginning.{AreLookedFor, IsLoaded}
use Rattle.plan_means.specs.Growth.{Grows}
use Rattle.plan_means.specs.Planning.{IsGraphNow, IsStep}
use Rattle.plan_means.specs.Scanning.{IsFoundIn}
use Rattle.run_means.specs.Clears.{Clears}
use Rattle.run_means.specs.Laws.{MayWait, RunsSo}
use Rattle.run_means.specs.Turns.{job_for}
use Rattle.turn_means.specs.Standing.{Outset, IsOutset, Standing, begun_at, AreUnread, IsAt}

-- ---- a build begins

-- What a build knows as it begins: what stands around it changed by looks alone, nothing was read, and its plan is loaded.
pub record IsSetOut (o : Outset) (s : Standing) : Type 0 where
  pub none_runs : o.before.running ≡ []
  pub around : Asks o.before s.around
  pub now : IsGraphNow (begun_at o) s.graph
  pub truth : AreTrue (begun_at o) s.graph s.inputs s.around
  pub none_gone : s.inputs.gone.keys ≡ []
  pub unread : (node : ℕ) → IsUnread (seen_at s.inputs.files.seen.items node)
  pub unscanned : (scan : Scan) → get same_scan s.inputs.found.files scan ≡ None
  pub below : are_below (length s.graph.nodes) o.wanted.requested ≡ true
  pub looked : AreLookedFor (begun_at o) s.graph o.wanted.requested
  pub loaded : IsLoaded s.graph o.wanted.requested s.plan
  pub records : (path : Path) → s.records path ≡ o.kept path
  pub goes_on : s.ended ≡ false

abbrev pub SettingOutStands : Type 0
SettingOutStands = (o : Outset) (s : Standing) → IsOutset o → IsSetOut o s → IsAt o [] s []

-- ---- a fault comes

-- Where an end is to be told of it is only known how far the build has come by its world.
abbrev pub EndsStand : Type 0
EndsStand = (o : Outset) (jobs : List Given) (old new : Standing) (past : List Step) → IsOutset o →
    IsAt o jobs old past → Clears [] old.around new.around → new.ended ≡ true → new.faulted ≡ true →
    new.plan.halted ≡ old.plan.halted → IsAt o jobs new past

-- The plan is halted behind it.
abbrev pub HaltsStand : Type 0
HaltsStand = (o : Outset) (jobs : List Given) (old new : Standing) (past : List Step) → IsOutset o →
    IsAt o jobs old past → new.around ≡ old.around → new.ended ≡ true → new.faulted ≡ true → IsAt o jobs new (Halts ∷ past)

-- ---- looks

-- The build looks at files: its graph may grow, and what is kept of them; what was true of them stays so.
pub record LooksOn (o : Outset) (past : List Step) (old new : Standing) : Type 0 where
  pub plan : new.plan ≡ old.plan
  pub records : new.records ≡ old.records
  pub faulted : new.faulted ≡ old.faulted
  pub ended : new.ended ≡ old.ended
  pub around : Asks old.around new.around
  pub grows : Grows old.graph new.graph
  pub now : IsGraphNow (begun_at o) old.graph → IsGraphNow (begun_at o) new.graph
  pub truth : AreTrue (begun_at o) old.graph old.inputs old.around → AreTrue (begun_at o) new.graph new.inputs new.around
  pub gone : new.inputs.gone ≡ old.inputs.gone
  pub unread : AreUnread o old.graph old.inputs past → AreUnread o new.graph new.inputs past

-- So it stands where it stood.
abbrev pub LooksStand : Type 0
LooksStand = (o : Outset) (jobs : List Given) (old new : Standing) (past : List Step) → IsOutset o →
    IsAt o jobs old past → LooksOn o past old new → IsAt o jobs new past

-- ---- a plan is told

-- What is to be reported stays so, and an end is to be reported.
pub record Reports (old new : Standing) : Type 0 where
  pub stays : old.faulted ≡ true → new.faulted ≡ true
  pub told : new.ended ≡ true → new.faulted ≡ true

-- the plan is told an event that it takes without halting; a fault may come with it
pub record IsTold (old new : Standing) (event : PlanEvent) : Type 0 where
  pub step : IsStep old.graph old.plan event new.plan
  pub goes : new.plan.halted ≡ old.plan.halted
  pub rest : new ≡ record old { plan = new.plan; faulted = new.faulted; ended = new.ended }
  pub reports : Reports old new

-- It is told what a file includes.
abbrev pub ScansStand : Type 0
ScansStand = (o : Outset) (jobs : List Given) (old new : Standing) (past : List Step) (rule : RuleId) (file : NodeId) (found : List NodeId) →
    IsOutset o → IsAt o jobs old past → old.ended ≡ false → IsScannedNext old.plan rule.0 file →
    IsFoundIn (begun_at o) old.graph old.around.tree old.plan rule file found →
    IsTold old new (told.Scanned rule found) → IsAt o jobs new past

-- ---- decisions

-- the rule that a plan wants decided next, and that stands first of those that could be
pub record IsChosen (plan : Planned) (rule : RuleId) : Type 0 where
  pub next : IsDecidedNext plan rule.0
  pub none_ready : IsNoneReady plan
  pub first : (order : List RuleId) → IsOrder plan.rules plan.origins plan.notes.roots order → IsFirstOf plan order rule

-- what a file holds that no running job writes has been met
abbrev pub HasMet : Around → Type 0
HasMet around = (path bytes : List ℕ) → around.tree path ≡ Some bytes → (IsRunningTarget around.running path → ⊥) →
    Contains around.met bytes

-- The rule with this number is decided: a build that goes on has chosen it, and this is its record over the files as they
-- are, on the dependencies that the plan lists.
pub record IsWeighed (o : Outset) (s : Standing) (rule : RuleId) (r : Rule) (rec : Rec) : Type 0 where
  pub goes_on : s.ended ≡ false
  pub met : HasMet s.around
  pub chosen : IsChosen s.plan rule
  pub is : rule_numbered (begun_at o) s.graph rule.0 ≡ Some r
  pub present : IsPresent (begun_at o) r (paths_of s.graph (deps_of s.plan.rules rule.0)) s.around.tree (stamp_of s.around) rec

-- whether it is due by the files, stamps and records as they are
abbrev pub is_due_now : Standing → Rule → Rec → Bool
is_due_now s r rec = is_due r s.around.tree (stamp_of s.around) (records_in s.records) (record_in rec)

-- It is found up to date.
abbrev pub FreshStands : Type 0
FreshStands = (o : Outset) (jobs : List Given) (old new : Standing) (past : List Step) (rule : RuleId) (r : Rule) (rec : Rec) →
    IsOutset o → IsAt o jobs old past → IsWeighed o old rule r rec → is_due_now old r rec ≡ false →
    IsTold old new (told.Fresh rule) → IsAt o jobs new (Fresh r ∷ past)

-- It lacks a dependency; only a build that goes on after faults goes on then.
abbrev pub LacksStand : Type 0
LacksStand = (o : Outset) (jobs : List Given) (old new : Standing) (past : List Step) (rule : RuleId) (node : NodeId) (r : Rule) (path : Path) →
    IsOutset o → IsAt o jobs old past → old.ended ≡ false → IsDecidedNext old.plan rule.0 →
    rule_numbered (begun_at o) old.graph rule.0 ≡ Some r →
    IsFirstAbsent (begun_at o) (paths_of old.graph (deps_of old.plan.rules rule.0)) old.around.tree path →
    IsTold old new (told.Absent rule node) → new.faulted ≡ true → (new.ended ≡ false → o.wanted.keep ≡ true) →
    IsAt o jobs new (Lacks r path ∷ past)

-- ---- starts

-- the job of the rule with this number, by its record
pub record IsJobFrom (g : RuleGraph) (rule : RuleId) (rec : Rec) (job : Job) : Type 0 where
  pub id : job.id ≡ rule.0
  pub work : job.work ≡ rec.work
  pub targets : job.targets ≡ rec.targets
  pub lines : (of : declared.Rule) → slice_get g.rules rule.0 ≡ Some of → job.lines ≡ of.lines
  pub signed : job.signed ≡ rec.signed
  pub deps : job.deps ≡ map name_of rec.deps

-- It is started: its targets are cleared, and a job starts that is its own; of the records only those of its targets change.
pub record IsLaunched (o : Outset) (old : Standing) (mid : Around) (new : Standing) (rule : RuleId) (r : Rule) (rec : Rec) (job : Job)
    (at : Counts) : Type 0 where
  pub room : length old.around.running < jobs_at_once o.wanted.jobs
  pub clears : Clears r.targets old.around mid
  pub starts : Starts job at mid new.around
  pub job_from : IsJobFrom old.graph rule rec job
  pub unrisen : AreUnrisen o.wanted.keep o.counts at
  pub step : IsStep old.graph old.plan (told.Started rule) new.plan
  pub goes : new.plan.halted ≡ old.plan.halted
  pub rest : new ≡ record old { plan = new.plan; records = new.records; faulted = new.faulted; ended = new.ended; around = new.around }
  pub reports : Reports old new
  pub records : (path : Path) → (Contains r.targets path → ⊥) → new.records path ≡ old.records path

abbrev pub LaunchesStand : Type 0
LaunchesStand = (o : Outset) (jobs : List Given) (old : Standing) (mid : Around) (new : Standing) (past : List Step) (rule : RuleId) (r : Rule)
    (rec : Rec) (job : Job) (at : Counts) → IsOutset o → IsAt o jobs old past → IsWeighed o old rule r rec →
    is_due_now old r rec ≡ true → IsLaunched o old mid new rule r rec job at →
    IsAt o (job_for o.wanted o.before old.around r ∷ jobs) new (Began r ∷ past)

-- Or no job starts, and the build is to end.
abbrev pub RefusalsStand : Type 0
RefusalsStand = (o : Outset) (jobs : List Given) (old new : Standing) (past : List Step) (rule : RuleId) (r : Rule) (rec : Rec) →
    IsOutset o → IsAt o jobs old past → IsWeighed o old rule r rec → is_due_now old r rec ≡ true →
    length old.around.running < jobs_at_once o.wanted.jobs → Clears r.targets old.around new.around → new.ended ≡ true →
    new.faulted ≡ true → new.plan.halted ≡ old.plan.halted →
    IsAt o (job_for o.wanted o.before old.around r ∷ jobs) new (model.Ended r false ∷ Began r ∷ past)

-- ---- endings

abbrev pub told_by : RuleId → Bool → PlanEvent
told_by rule true = told.DoneOk rule
told_by rule false = told.DoneFailed rule

-- what a plan is told of an ending
abbrev pub told_of : Ended → PlanEvent
told_of ended = told_by (record { 0 = ended.id }) (is_done ended.outcome)

-- The plan is told of an ending; of the records only those of what running jobs make change.
pub record IsToldEnding (old new : Standing) (ended : Ended) : Type 0 where
  pub step : IsStep old.graph old.plan (told_of ended) new.plan
  pub rest : new ≡ record old { plan = new.plan; records = new.records; faulted = new.faulted; ended = new.ended; around = new.around }
  pub records : (path : Path) → (IsRunningTarget old.around.running path → ⊥) → new.records path ≡ old.records path

-- A job ended. Where it wasn't done that is to be reported, and only a build that goes on after faults goes on then.
pub record IsEnded (o : Outset) (old new : Standing) (ended : Ended) : Type 0 where
  pub reports : Reports old new
  pub stays : old.ended ≡ true → new.ended ≡ true
  pub goes : new.plan.halted ≡ old.plan.halted
  pub failed : is_done ended.outcome ≡ false → new.faulted ≡ true
  pub keeps : is_done ended.outcome ≡ false → new.ended ≡ false → o.wanted.keep ≡ true
  pub told : new.ended ≡ false → IsToldEnding old new ended

-- so the build stands behind an ending of some rule
pub record StandsBehind (o : Outset) (jobs : List Given) (new : Standing) (past : List Step) (ended : Ended) : Type 0 where
  pub rule : Rule
  pub stands : IsAt o jobs new (model.Ended rule (is_done ended.outcome) ∷ past)

-- It holds by whatever makes a world sure (proofs/Endings.antt); a law can't say so.
abbrev pub EndingsStand : Type 0
EndingsStand = (o : Outset) (jobs : List Given) (old new : Standing) (past : List Step) (ended : Ended) →
    IsOutset o → IsAt o jobs old past → MayWait o.wanted o.kept o.before old.around past →
    Ends (Unit {0}) ended old.around new.around → IsEnded o old new ended → StandsBehind o jobs new past ended

-- ---- at the end

-- However a build stands, it did these steps.
abbrev pub StandingRuns : Type 0
StandingRuns = (o : Outset) (jobs : List Given) (s : Standing) (past : List Step) → IsOutset o → IsAt o jobs s past →
    RunsSo o.wanted o.kept o.counts o.before s.around past

-- Where nothing is to be reported and nothing runs, no rule of the plan runs or is at fault.
abbrev pub WellGoesOn : Type 0
WellGoesOn = (o : Outset) (jobs : List Given) (s : Standing) (past : List Step) → IsOutset o → IsAt o jobs s past →
    s.faulted ≡ false → count_by is_running s.plan.states ≡ 0 → AreGoingOn s.plan

-- And where the plan is finished then, the build succeeded by these steps.
abbrev pub FinishedSucceed : Type 0
FinishedSucceed = (o : Outset) (jobs : List Given) (s : Standing) (past : List Step) → IsOutset o → IsAt o jobs s past →
    s.faulted ≡ false → IsNoneReady s.plan → IsFinished s.plan →
    (succeeded : Succeeded o.wanted o.kept o.counts o.before s.around) × (succeeded.runs.steps ≡ past)
