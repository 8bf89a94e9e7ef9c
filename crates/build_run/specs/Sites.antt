-- The site of a build: what holds of it between calls, and what a call keeps of it.
use Rattle.std.specs.Prelude.{◌≡◌, ◌≢◌, ◌≤◌, ◌<◌, ◌+◌, ◌++◌, ◌∷◌, [], ℕ, false, List, length, max, min, Some, Contains, Result, Ok, Err}
use Rattle.world_api.specs.Around.{Finished}
use Rattle.world_api.specs.Meaning.{Meaning}
use Rattle.world_api.specs.Printed.{SinkMeaning}
use Rattle.world_api.specs.declared.job.Job.{Job}
use Rattle.world_api.specs.declared.job.Outcome.TheVariants.{Done}
use Rattle.scons_base.specs.declared.ids.RuleId.{RuleId}
use Rattle.deciders.specs.declared.recorded.Rec.{Rec}
use Rattle.sign_store.specs.Putting.{map_with}
use Rattle.sign_store.specs.Stores.{IsTicket}
use Rattle.sign_store.specs.Tables.{Map, with_each}
use Rattle.sign_store.specs.declared.ticket.Ticket.{Ticket}
use Rattle.task_plan.specs.declared.want.PlanEvent.{PlanEvent}
use Rattle.task_plan.specs.declared.want.PlanEvent.TheVariants.{DoneOk}
use Rattle.build_files.specs.declared.end.ListEnd.{ListEnd}
use Rattle.build_run.specs.Causes.{Outside, outside}
use Rattle.build_run.specs.Goings.{AreAbsent, Goes, IsJoined, Passes}
use Rattle.build_run.specs.Holds.{Busy, KeepsApart, hold_for, holds_in}
use Rattle.build_run.specs.Ledgers.{Accounts, ledger_of, with_done}
use Rattle.build_run.specs.Outs.{HasOwnRoom, IsStored, IsTicketFor, ShareNone}
use Rattle.build_run.specs.Withdrawals.{AreWithdrawn}
use Rattle.build_run.specs.declared.building.Options.{Options}
use Rattle.build_run.specs.declared.site.Site.{Site}
use Rattle.build_run.specs.declared.tickets.Hold.{Hold}

-- how many jobs may run at a time: none asked for counts as one
abbrev pub most_jobs : Options → ℕ
most_jobs options = max (min options.jobs 64) 1

-- ---- between calls

-- the store of a site, for these tickets
abbrev pub IsStoredFor : {W O E : Type 0} → Meaning W → List Busy → Site W O E → Type 0
IsStoredFor m busies site = IsStored m site.world.now site.store.now busies site.account.now.is_store_shut

-- No directory is closed. The running jobs have these holds, and their tickets and the held ones are out by the store. Fewer
-- records are held than jobs may run, and no more than 64 jobs run.
pub record IsSoundWith {W O E : Type 0} (m : Meaning W) (holds : List Hold) (busies : List Busy) (site : Site W O E) : Type 0
  where
    pub unclosed : m.closed site.world.now ≡ []
    pub joined : IsJoined m site.world.now holds
    pub stored : IsStoredFor m busies site
    pub few : length site.run.now.held < most_jobs site.options
    pub limit : length site.run.now.tickets ≤ 64

-- the running jobs are those of its tickets
abbrev pub IsSound : {W O E : Type 0} → Meaning W → Site W O E → Type 0
IsSound m site = IsSoundWith m (holds_in site.run.now.tickets) (site.run.now.held ++ site.run.now.tickets) site

-- ---- over calls

-- the same things are lent, and the build is to be done in the same way
pub record IsSame {W O E : Type 0} (old new : Site W O E) : Type 0 where
  pub graph : new.graph.ghost_name ≡ old.graph.ghost_name
  pub store : new.store.ghost_name ≡ old.store.ghost_name
  pub world : new.world.ghost_name ≡ old.world.ghost_name
  pub out : new.out.ghost_name ≡ old.out.ghost_name
  pub err : new.err.ghost_name ≡ old.err.ghost_name
  pub run : new.run.ghost_name ≡ old.run.ghost_name
  pub account : new.account.ghost_name ≡ old.account.ghost_name
  pub options : new.options ≡ old.options

-- any calls
pub record SitePasses {W O E : Type 0} (m : Meaning W) (old new : Site W O E) : Type 0 where
  pub same : IsSame old new
  pub passes : Passes m old.world.now new.world.now

-- calls that neither start a job nor wait for one, and print nothing
pub record SiteGoes {W O E : Type 0} (m : Meaning W) (old new : Site W O E) : Type 0 where
  pub same : IsSame old new
  pub goes : Goes m old.world.now new.world.now
  pub tickets : new.run.now.tickets ≡ old.run.now.tickets
  pub out : new.out.now ≡ old.out.now
  pub err : new.err.now ≡ old.err.now

-- calls on the store: nothing around it changes, and a disk that has refused isn't asked again
pub record SitePuts {W O E : Type 0} (m : Meaning W) (old new : Site W O E) : Type 0 where
  pub same : IsSame old new
  pub goes : Goes m old.world.now new.world.now
  pub around : m.tells new.world.now → m.around new.world.now ≡ m.around old.world.now
  pub tickets : new.run.now.tickets ≡ old.run.now.tickets
  pub out : new.out.now ≡ old.out.now
  pub shut : new.account.now.is_store_shut ≡ false → old.account.now.is_store_shut ≡ false

-- ---- what was found

-- what lies outside of a site
abbrev pub outside_of : {W O E : Type 0} → Meaning W → SinkMeaning O → SinkMeaning E → Site W O E → Outside
outside_of m o e site = outside (m.counts site.world.now) (o.faults site.out.now) (e.faults site.err.now)

-- what was accounted for is so still
abbrev pub SiteAccounts : {W O E : Type 0} → Meaning W → SinkMeaning O → SinkMeaning E → Site W O E → Site W O E → Type 0
SiteAccounts m o e old new = Accounts (outside_of m o e old) (ledger_of old.account.now) (outside_of m o e new) (ledger_of new.account.now)

-- the same, and then the end that comes is to be reported
abbrev pub SiteEnds : {W O E T : Type 0} → Meaning W → SinkMeaning O → SinkMeaning E → Site W O E → Site W O E
    → Result T ListEnd → Type 0
SiteEnds m o e old new result =
    Accounts (outside_of m o e old) (ledger_of old.account.now) (outside_of m o e new) (with_done (ledger_of new.account.now) result)

-- ---- starts

-- what the running jobs keep to themselves behind the start of this one
abbrev pub holds_after : {W O E T : Type 0} → Result T ListEnd → Job → Site W O E → List Hold
holds_after (Ok value) job site = holds_in site.run.now.tickets ++ hold_for job ∷ []
holds_after (Err end) job site = holds_in site.run.now.tickets

-- a job with a ticket of its own gets in no other's way, and the disk hasn't refused
pub record IsReady {W O E : Type 0} (site : Site W O E) (job : Job) (ticket : Ticket) : Type 0 where
  pub unshut : site.account.now.is_store_shut ≡ false
  pub apart : (hold : Hold) → Contains (holds_in site.run.now.tickets) hold → KeepsApart job hold
  pub out : IsTicketFor site.store.now ticket job.targets
  pub room : HasOwnRoom ticket (site.run.now.held ++ site.run.now.tickets)
  pub beside : (busy : Busy) → Contains site.run.now.held busy → ShareNone job.targets busy.hold.targets

-- no file stands at the targets of a job, nothing is recorded of them, and its ticket is out
pub record IsCleared {W O E : Type 0} (m : Meaning W) (site : Site W O E) (job : Job) (ticket : Ticket) : Type 0 where
  pub gone : AreAbsent m site.world.now job.targets
  pub withdrawn : AreWithdrawn m site.world.now site.store.now job.targets
  pub out : IsTicketFor site.store.now ticket job.targets

-- ---- records

-- what has a record, or will have one once the held records are put
abbrev pub records_of : {W O E : Type 0} → Site W O E → Map
records_of site = map_with site.store.now site.run.now.held

-- unless the disk has refused, no record was lost and none was added: held ones may have been put
abbrev pub KeepsRecords : {W O E : Type 0} → Site W O E → Site W O E → Type 0
KeepsRecords old new = new.account.now.is_store_shut ≡ false → records_of new ≡ records_of old

-- the same of all paths but these
abbrev pub KeepsRecordsBut : {W O E : Type 0} → List (List ℕ) → Site W O E → Site W O E → Type 0
KeepsRecordsBut targets old new = new.account.now.is_store_shut ≡ false
    → (path : List ℕ) → (Contains targets path → ⊥) → records_of new path ≡ records_of old path

-- the same of what held rules have made
abbrev pub KeepsHeld : {W O E : Type 0} → Site W O E → Site W O E → Type 0
KeepsHeld old new = new.account.now.is_store_shut ≡ false → (busy : Busy) (path : List ℕ) → Contains old.run.now.held busy
    → Contains busy.hold.targets path → records_of new path ≡ records_of old path

-- unless the disk has refused, the targets of a ticket's record have it now, and all other paths what they had
abbrev pub PutsRecord : {W O E : Type 0} → Ticket → Site W O E → Site W O E → Type 0
PutsRecord ticket old new = new.account.now.is_store_shut ≡ false → (rec : Rec) → IsTicket old.store.now rec ticket
    → records_of new ≡ with_each rec.targets (Some rec) (records_of old)

-- the record of a running rule was held or put
pub record HasPut {W O E : Type 0} (rule : RuleId) (old new : Site W O E) : Type 0 where
  pub busy : Busy
  pub among : Contains old.run.now.tickets busy
  pub own : busy.hold.rule ≡ rule
  pub puts : PutsRecord busy.ticket old new

-- ---- endings

-- A job ended. The plan is told that a rule is done just where its action ended well by the log; then its record was held or
-- put, and else no path has another record or will have.
pub record TakesEnding {W O E : Type 0} (m : Meaning W) (old new : Site W O E) (event : PlanEvent) : Type 0 where
  pub fewer : m.tells new.world.now → length new.run.now.tickets + 1 ≡ length old.run.now.tickets
  pub no_more : length new.run.now.tickets ≤ length old.run.now.tickets
  pub done : m.tells new.world.now → (id : ℕ)
      → (m.around new.world.now).log ≡ (m.around old.world.now).log ++ Finished id Done ∷ []
      → event ≡ DoneOk (record { 0 = id })
  pub only : m.tells new.world.now → (rule : RuleId) → event ≡ DoneOk rule
      → (m.around new.world.now).log ≡ (m.around old.world.now).log ++ Finished rule.0 Done ∷ []
  pub puts : (rule : RuleId) → event ≡ DoneOk rule → HasPut rule old new
  pub kept : ((rule : RuleId) → event ≢ DoneOk rule) → KeepsRecords old new
  pub out : new.out.now ≡ old.out.now
  pub shut : new.account.now.is_store_shut ≡ false → old.account.now.is_store_shut ≡ false
