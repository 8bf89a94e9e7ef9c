-- That rules at fault are noted as long as no end came, and that each has its fault in the report.
use Rattle.std.specs.Prelude.{◌≡◌, ℕ, Bool, true, List, Contains, Some, Result, Ok, Err}
use Rattle.scons_base.specs.declared.ids.RuleId.{RuleId}
use Rattle.rule_graph.specs.Graphs.{RuleGraph}
use Rattle.rule_graph.specs.declared.build_fault.BuildFault.{BuildFault}
use Rattle.rule_graph.specs.declared.build_fault.BuildFault.TheVariants as fault
use Rattle.task_plan.specs.Orders.{is_among}
use Rattle.task_plan.specs.Plans.{Planned}
use Rattle.task_plan.specs.States.{is_faulty, state_of}
use Rattle.task_plan.specs.declared.want.PlanEvent.{PlanEvent}
use Rattle.task_plan.specs.declared.want.PlanEvent.TheVariants as told
use Rattle.build_model.specs.Rules.{Path}
use Rattle.build_files.specs.Firsts.{first_target_of}
use Rattle.build_files.specs.declared.end.ListEnd.{ListEnd}
use Rattle.build_run.specs.Causes.{HasAny}
use Rattle.build_run.specs.declared.account.Account.{Account}
use Rattle.build_run.specs.declared.site.Site.{Site}

-- a fault says of the rule that is named so that its action failed, or that it lacks a dependency
abbrev pub IsOfRule : Path → BuildFault → Type 0
IsOfRule path (fault.Missing node target) = target ≡ path
IsOfRule path (fault.ActionFailed target code) = target ≡ path
IsOfRule path (fault.Cycle paths) = ⊥
IsOfRule path (fault.TreeFault other) = ⊥
IsOfRule path (fault.StartFault target) = ⊥
IsOfRule path fault.StoreFault = ⊥
IsOfRule path fault.OutFault = ⊥
IsOfRule path (fault.TooLarge other size) = ⊥
IsOfRule path (fault.TooMany what count) = ⊥

-- a fault is of a rule, by its first target
pub record IsFaultOf (g : RuleGraph) (rule : ℕ) (f : BuildFault) : Type 0 where
  pub path : Path
  pub named : first_target_of g rule ≡ Some path
  pub of : IsOfRule path f

-- a fault stands in the report, or nothing new starts any more
pub data IsKept (ended : Bool) (faults : List BuildFault) (f : BuildFault) : Type 0 where
  over : ended ≡ true → IsKept ended faults f
  stands : Contains faults f → IsKept ended faults f

-- A rule is noted, and a fault in the report is of that rule by its first target; or nothing new starts any more.
pub data IsNoted (g : RuleGraph) (ended : Bool) (noted : List RuleId) (faults : List BuildFault) (rule : ℕ) : Type 0 where
  over : ended ≡ true → IsNoted g ended noted faults rule
  stands : (path : Path) → first_target_of g rule ≡ Some path → is_among rule noted ≡ true → HasAny (IsOfRule path) faults → IsNoted g ended noted faults rule

-- ---- accounts

abbrev pub IsKeptIn : Account → BuildFault → Type 0
IsKeptIn account f = IsKept account.is_ended account.faults.items f

abbrev pub IsNotedIn : RuleGraph → Account → ℕ → Type 0
IsNotedIn g account rule = IsNoted g account.is_ended account.faulty.items account.faults.items rule

-- what was kept is so still
abbrev pub KeepsFaults : Account → Account → Type 0
KeepsFaults old new = (f : BuildFault) → IsKeptIn old f → IsKeptIn new f

-- and what was noted
abbrev pub KeepsNoted : Account → Account → Type 0
KeepsNoted old new = (g : RuleGraph) (rule : ℕ) → IsNotedIn g old rule → IsNotedIn g new rule

-- a rule of this fault, by its first target, is noted
abbrev pub NotesRule : Account → ℕ → BuildFault → Type 0
NotesRule account rule f = (g : RuleGraph) (path : Path) → first_target_of g rule ≡ Some path → IsOfRule path f → IsNotedIn g account rule

-- ---- sites

abbrev pub SiteKeepsNoted : {W O E : Type 0} → Site W O E → Site W O E → Type 0
SiteKeepsNoted old new = (rule : ℕ) → IsNotedIn old.graph.now old.account.now rule → IsNotedIn new.graph.now new.account.now rule

-- the rule that is at fault by an event is noted
abbrev pub NotesEvent : RuleGraph → Account → PlanEvent → Type 0
NotesEvent g account (told.Scanned rule found) = Unit {0}
NotesEvent g account (told.Fresh rule) = Unit {0}
NotesEvent g account (told.Started rule) = Unit {0}
NotesEvent g account (told.DoneOk rule) = Unit {0}
NotesEvent g account (told.DoneFailed rule) = IsNotedIn g account rule.0
NotesEvent g account (told.Absent rule node) = IsNotedIn g account rule.0
NotesEvent g account told.Halt = Unit {0}

abbrev pub NotesDone : RuleGraph → Account → Result PlanEvent ListEnd → Type 0
NotesDone g account (Ok event) = NotesEvent g account event
NotesDone g account (Err end) = Unit {0}

-- whatever failed or lacks a dependency by a plan is noted
abbrev pub AreNotedBy : Planned → RuleGraph → Account → Type 0
AreNotedBy plan g account = (rule : ℕ) → is_faulty (state_of plan.states rule) ≡ true → IsNotedIn g account rule

abbrev pub SiteNotes : {W O E : Type 0} → Site W O E → Type 0
SiteNotes site = AreNotedBy site.run.now.plan site.graph.now site.account.now

abbrev pub SiteStaysNoting : {W O E : Type 0} → Site W O E → Site W O E → Type 0
SiteStaysNoting old new = SiteNotes old → SiteNotes new
