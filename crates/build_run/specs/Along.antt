-- How a build goes along: what its site knows, beside the steps of the model that it took.
use Rattle.std.specs.Prelude.{◌≡◌, ◌⊎◌, ◌<◌, ◌≤◌, ℕ, Bool, true, false, ◌||◌, nat_lt, List, length, Contains, Some, Result, Ok, Err}
use Rattle.scons_base.specs.declared.ids.RuleId.{RuleId}
use Rattle.world_api.specs.Meaning.{Meaning}
use Rattle.world_api.specs.declared.job.Outcome.{Outcome}
use Rattle.world_api.specs.declared.job.Outcome.TheVariants as outcome
use Rattle.task_plan.specs.Plans.{Planned, IsScannedNext, is_halt, is_scan}
use Rattle.task_plan.specs.Ordered.{KeepsOrder}
use Rattle.task_plan.specs.Settled.{deps_of}
use Rattle.task_plan.specs.Watched.{IsComplete, IsStill}
use Rattle.task_plan.specs.declared.want.PlanEvent.{PlanEvent}
use Rattle.task_plan.specs.declared.want.PlanEvent.TheVariants.{Started}
use Rattle.task_plan.specs.declared.want.Want.{Want}
use Rattle.task_plan.specs.declared.want.Want.TheVariants as want
use Rattle.build_model.specs.Rules.{Path, Rule, Among}
use Rattle.build_model.specs.Moments.{Job as Given}
use Rattle.build_model.specs.Steps.{Step, began}
use Rattle.build_means.specs.Builds.{jobs_at_once}
use Rattle.build_means.specs.Logs.{AreUnrisen}
use Rattle.build_files.specs.Kept.{Gives, SameGone, StaysTrue}
use Rattle.build_files.specs.Marked.{AreGoneOver, KeepsMarks}
use Rattle.build_files.specs.Presence.{AreStill, IsPresentFor}
use Rattle.build_files.specs.Reading.{ReadsOnly}
use Rattle.build_files.specs.declared.record.Present.{Present}
use Rattle.build_files.specs.declared.end.ListEnd.{ListEnd}
use Rattle.plan_means.specs.Planning.{IsStep}
use Rattle.rule_graph.specs.Graphs.{RuleGraph}
use Rattle.turn_means.specs.Standing.{Outset, IsOutset, setting_at, Standing, IsAt}
use Rattle.run_means.specs.Laws.{MayWait}
use Rattle.build_means.specs.Records.{HasOwnDigests}
use Rattle.deciders.specs.declared.recorded.Rec.{Rec}
use Rattle.turn_means.specs.Laws.{IsChosen, IsTold, IsWeighed, is_due_now}
use Rattle.build_run.specs.Books.{Book, AreBooked, book_of}
use Rattle.build_run.specs.Holds.{Busy}
use Rattle.build_run.specs.Sites.{most_jobs, records_of}
use Rattle.build_run.specs.declared.account.Account.{Account}
use Rattle.build_run.specs.declared.building.Options.{Options}
use Rattle.build_run.specs.declared.site.Run.{Run}
use Rattle.build_run.specs.declared.site.Site.{Site}

-- ---- how a build stands

-- anything is to be reported
abbrev pub is_faulted : Account → Bool
is_faulted account = account.memory || nat_lt 0 (length account.faults.items)

-- how a site stands
abbrev pub standing_of : {W O E : Type 0} → Meaning W → Site W O E → Standing
standing_of m site = record {
  graph = site.graph.now;
  inputs = site.run.now.inputs;
  plan = site.run.now.plan;
  records = records_of site;
  faulted = is_faulted site.account.now;
  ended = site.account.now.is_ended;
  around = m.around site.world.now;
}

-- what is held was made by rules that began
abbrev pub HeldBegan : Outset → List Step → List Busy → Type 0
HeldBegan o past held = (busy : Busy) (path : Path) → Contains held busy → Contains busy.hold.targets path →
    (r : Rule) × ((setting_at o).rule_of path ≡ Some r) × Among r (began past)

-- a build stands so at some steps, and until the store refuses the records are as they leave them
pub record IsOn (o : Outset) (book : Book) (s : Standing) : Type 0 where
  pub jobs : List Given
  pub past : List Step
  pub at : IsAt o jobs s past
  pub began : HeldBegan o past book.held
  pub booked : book.shut ≡ false → AreBooked o s.around past book

-- it is to be done as was asked
pub record AreAsked (o : Outset) (options : Options) : Type 0 where
  pub keep : options.keep ≡ o.wanted.keep
  pub jobs : most_jobs options ≡ jobs_at_once o.wanted.jobs

-- Until a fault comes after which nothing new is decided no count rose since the build began, but for failures of actions where
-- it goes on after them; the store hasn't refused; and all that the rules name that were looked at was looked for.
pub record GoesWell {W O E : Type 0} (m : Meaning W) (o : Outset) (site : Site W O E) : Type 0 where
  pub unrisen : AreUnrisen o.wanted.keep o.counts (m.counts site.world.now)
  pub unshut : site.account.now.is_store_shut ≡ false
  pub looked : AreGoneOver site.graph.now site.run.now.inputs

-- a build goes along: it stands at some steps, and behind an end its plan is halted
pub record IsAlong {W O E : Type 0} (m : Meaning W) (o : Outset) (site : Site W O E) : Type 0 where
  pub on : IsOn o (book_of site) (standing_of m site)
  pub asked : AreAsked o site.options
  pub well : site.account.now.is_ended ≡ false → GoesWell m o site
  pub halted : site.account.now.is_ended ≡ true → site.run.now.plan.halted ≡ true

-- ---- accounts

-- nothing new starts any more, and that is to be reported
pub record IsEnd (account : Account) : Type 0 where
  pub ended : account.is_ended ≡ true
  pub faulted : is_faulted account ≡ true

-- what was reported stays so, and whether an end came
pub record SameEnds (before after : Account) : Type 0 where
  pub ended : after.is_ended ≡ before.is_ended
  pub faulted : is_faulted after ≡ is_faulted before

-- a fault is kept, and so is an end; an end is to be reported
pub record KeepsEnds (before after : Account) : Type 0 where
  pub faulted : is_faulted before ≡ true → is_faulted after ≡ true
  pub ended : before.is_ended ≡ true → after.is_ended ≡ true
  pub told : (before.is_ended ≡ true → is_faulted before ≡ true) → after.is_ended ≡ true → is_faulted after ≡ true

-- ---- turns

-- a plan that goes on overlooks nothing, and keeps to the build order
pub record IsReliable (plan : Planned) : Type 0 where
  pub complete : IsComplete plan
  pub order : KeepsOrder plan

-- what is wanted may be done: the file that is scanned next, the rule that is decided next, or a wait where as many actions
-- run as may, or nothing can be scanned and decided
abbrev pub IsWantedOf : ℕ → ℕ → Planned → Want → Type 0
IsWantedOf running most plan (want.Scan rule file) = IsScannedNext plan rule.0 file
IsWantedOf running most plan (want.Decide rule) = IsChosen plan rule × (running < most)
IsWantedOf running most plan want.Wait = (most ≤ running) ⊎ (plan.halted ≡ false → IsStill plan)
IsWantedOf running most plan want.Rest = ⊥

-- where an end is told of it the build stands at some steps still
abbrev pub EndsOn : {W O E : Type 0} → Meaning W → Outset → Site W O E → Type 0
EndsOn m o site = (s : Standing) → s.around ≡ m.around site.world.now → s.ended ≡ true → s.faulted ≡ true →
    s.plan.halted ≡ site.run.now.plan.halted → IsOn o (book_of site) s

-- What came of a turn is told, and by its event the build stands at some steps.
pub record GoesOn {W O E : Type 0} (m : Meaning W) (o : Outset) (site : Site W O E) (event : PlanEvent) : Type 0 where
  pub told : (s : Standing) → IsTold (standing_of m site) s event → (site.account.now.is_ended ≡ true → s.ended ≡ true) →
      IsOn o (book_of site) s
  -- where memory is wanting for what a scan found that is an end
  pub ends : is_scan event ≡ true → EndsOn m o site
  pub goes : is_halt event ≡ false
  pub reported : site.account.now.is_ended ≡ true → is_faulted site.account.now ≡ true
  pub well : site.account.now.is_ended ≡ false → GoesWell m o site

abbrev pub Leads : {W O E : Type 0} → Meaning W → Outset → Site W O E → Result PlanEvent ListEnd → Type 0
Leads m o site (Ok event) = GoesOn m o site event
Leads m o site (Err end) = EndsOn m o site

-- So a turn goes along, in a world that tells and is sure, whatever the build began with.
abbrev pub GoesAlong : {W O E : Type 0} → Meaning W → Site W O E → Site W O E → Want → Result PlanEvent ListEnd → Type 0
GoesAlong m old new wanted result = m.tells new.world.now → m.sure new.world.now → (o : Outset) → IsOutset o → IsAlong m o old →
    IsWantedOf (length old.run.now.tickets) (most_jobs old.options) old.run.now.plan wanted → Leads m o new result

-- and so do turns
abbrev pub StaysAlong : {W O E : Type 0} → Meaning W → Site W O E → Site W O E → Type 0
StaysAlong m old new = m.tells new.world.now → m.sure new.world.now → (o : Outset) → IsOutset o → IsAlong m o old → IsAlong m o new

-- at the end it stands at some steps, and the store has refused only where an end came
pub record IsAtEnd {W O E : Type 0} (m : Meaning W) (o : Outset) (site : Site W O E) : Type 0 where
  pub on : IsOn o (book_of site) (standing_of m site)
  pub unshut : site.account.now.is_ended ≡ false → site.account.now.is_store_shut ≡ false

abbrev pub ComesOn : {W O E : Type 0} → Meaning W → Site W O E → Site W O E → Type 0
ComesOn m old new =
    m.tells new.world.now → m.sure new.world.now → (o : Outset) → IsOutset o → IsAlong m o old → IsAtEnd m o new

-- ---- waits

-- a build stands at some steps and may wait for an ending, whatever was put before
pub record MayTake {W O E : Type 0} (m : Meaning W) (o : Outset) (site : Site W O E) : Type 0 where
  pub on : IsOn o (book_of site) (standing_of m site)
  pub wait : MayWait o.wanted o.kept o.before (m.around site.world.now) on.past
  pub asked : AreAsked o site.options
  pub well : site.account.now.is_ended ≡ false → GoesWell m o site

-- So an ending is taken.
abbrev pub TakesAlong : {W O E : Type 0} → Meaning W → Site W O E → Site W O E → PlanEvent → Type 0
TakesAlong m old new event = m.tells new.world.now → m.sure new.world.now → (o : Outset) → IsOutset o → MayTake m o old → GoesOn m o new event

-- ---- decisions

-- A rule that is chosen may start, and this is its record.
pub record IsDue {W O E : Type 0} (m : Meaning W) (o : Outset) (site : Site W O E) (rule : RuleId) (rec : Rec) : Type 0 where
  pub room : length site.run.now.tickets < most_jobs site.options
  pub own : HasOwnDigests rec
  pub model : Rule
  pub weighed : IsWeighed o (standing_of m site) rule model rec

-- So it is found up to date, or its action starts.
abbrev pub MakesAlong : {W O E : Type 0} → Meaning W → Site W O E → Site W O E → RuleId → Rec → Result PlanEvent ListEnd → Type 0
MakesAlong m old new rule rec result =
    m.tells new.world.now → m.sure new.world.now → (o : Outset) → IsOutset o → IsAlong m o old → IsDue m o old rule rec → Leads m o new result

abbrev pub LeadsTo : {W O E T : Type 0} → Meaning W → Outset → Site W O E → PlanEvent → Result T ListEnd → Type 0
LeadsTo m o site event (Ok done) = GoesOn m o site event
LeadsTo m o site event (Err end) = EndsOn m o site

-- So its action starts where it is due.
abbrev pub StartsAlong : {W O E T : Type 0} → Meaning W → Site W O E → Site W O E → RuleId → Rec → Result T ListEnd → Type 0
StartsAlong m old new rule rec result =
    m.tells new.world.now → m.sure new.world.now → (o : Outset) → IsOutset o → IsAlong m o old → (due : IsDue m o old rule rec) →
    is_due_now (standing_of m old) due.model rec ≡ true → LeadsTo m o new (Started rule) result

-- what the plan and the files are known by stays
pub record KeepsKnown {W O E : Type 0} (old new : Site W O E) : Type 0 where
  pub graph : new.graph.now ≡ old.graph.now
  pub plan : new.run.now.plan ≡ old.run.now.plan
  pub inputs : new.run.now.inputs ≡ old.run.now.inputs

-- held ones were put, or not
abbrev pub HoldsFewer : List Busy → List Busy → Type 0
HoldsFewer held new_held = (busy : Busy) → Contains new_held busy → Contains held busy

-- the store and the counts are as well as they were
pub record IsWellStill {W O E : Type 0} (m : Meaning W) (old new : Site W O E) : Type 0 where
  pub counts : m.counts new.world.now ≡ m.counts old.world.now
  pub unshut : new.account.now.is_store_shut ≡ old.account.now.is_store_shut

-- records were put, or an end was noted
pub data StandsPut {W O E : Type 0} (m : Meaning W) (old new : Site W O E) : Type 0 where
  was_put : new.account.now ≡ old.account.now → m.counts new.world.now ≡ m.counts old.world.now → StandsPut m old new
  was_refused : IsEnd new.account.now → StandsPut m old new

-- an action failed
abbrev pub HasFailed : Outcome → Type 0
HasFailed (outcome.Failed code) = Unit {0}
HasFailed outcome.Done = ⊥
HasFailed outcome.Broken = ⊥
HasFailed outcome.NoMemory = ⊥

-- an action that wasn't done is an end, unless it failed and the build goes on after that
abbrev pub GoesOnAfter : Outcome → Options → Account → Type 0
GoesOnAfter outcome options account = account.is_ended ≡ false → options.keep ≡ true × HasFailed outcome

-- an ending is taken where the build may wait
abbrev pub EndsAlong : {W O E : Type 0} → Meaning W → Site W O E → Site W O E → PlanEvent → Type 0
EndsAlong m old new event = GoesAlong m old new want.Wait (Ok event)

-- ---- what is present

-- What a rule reads is looked at: what is kept of files stays true, and of no other file anything was read.
pub record Presents {W : Type 0} (m : Meaning W) (g : RuleGraph) (old : Run) (world : W) (rule : RuleId) (new : Run) (after : W)
    (result : Result Present ListEnd) : Type 0 where
  pub gone : SameGone old.inputs new.inputs
  pub truth : AreStill g (m.around world) (deps_of old.plan.rules rule.0) → StaysTrue m g old.inputs world g new.inputs after
  pub present : AreStill g (m.around world) (deps_of old.plan.rules rule.0) → Gives m g old.inputs world after result
      (IsPresentFor g rule.0 (deps_of old.plan.rules rule.0) old.inputs.gone.keys (m.around world))
  pub only : ReadsOnly (deps_of old.plan.rules rule.0) old.inputs new.inputs
  pub marks : KeepsMarks g old.inputs g new.inputs

-- A plan took an event, or memory was wanting for it: then that is an end.
pub data StepsOr (g : RuleGraph) (old : Planned) (event : PlanEvent) (new : Planned) (before after : Account) : Type 0 where
  stepped : IsStep g old event new → new.halted ≡ (old.halted || is_halt event) → after ≡ before → StepsOr g old event new before after
  wanted : after.is_ended ≡ true → is_faulted after ≡ true → is_scan event ≡ true → StepsOr g old event new before after

-- What came of a turn was told: the event to the plan, or the end to the account.
abbrev pub Tells : RuleGraph → Planned → Account → Result PlanEvent ListEnd → Planned → Account → Type 0
Tells g plan account (Ok event) new_plan new_account = StepsOr g plan event new_plan account new_account
Tells g plan account (Err end) new_plan new_account = (new_plan ≡ plan) × IsEnd new_account

-- Where it is told a build goes along.
abbrev pub TellsAlong : {W O E : Type 0} → Meaning W → Site W O E → Site W O E → Result PlanEvent ListEnd → Type 0
TellsAlong m old new done = (o : Outset) → IsOutset o → AreAsked o old.options → Leads m o old done → IsAlong m o new

-- no job runs, or the plan has halted
abbrev pub IsSpent : {W O E : Type 0} → Site W O E → Type 0
IsSpent site = (length site.run.now.tickets ≡ 0) ⊎ (site.run.now.plan.halted ≡ true)

-- At rest nothing can be scanned and decided, unless the plan has halted.
abbrev pub RestsAlong : {W O E : Type 0} → Meaning W → Site W O E → Site W O E → Type 0
RestsAlong m old new = m.tells new.world.now → m.sure new.world.now → (o : Outset) → IsOutset o → IsAlong m o old →
    new.run.now.plan.halted ≡ false → IsStill new.run.now.plan
