-- What a plan is, as contracts see it, and what an event changes.
use Rattle.std.specs.Prelude.{◌≡◌, ◌⊎◌, ◌≤◌, ℕ, Bool, true, false, List, Option, Some, None, get_or, slice_get, slice_set, if◌then◌else◌}
use Rattle.std.specs.Option.{option_and_then}
use Rattle.scons_base.specs.declared.ids.NodeId.{NodeId}
use Rattle.task_plan.specs.States.{state_of, stage, is_running}
use Rattle.task_plan.specs.Queues.{Queued, is_open, IsFirst}
use Rattle.task_plan.specs.Noted.{Notes}
use Rattle.task_plan.specs.Settled.{Kept, CanScan, IsReady}
use Rattle.task_plan.specs.declared.files.Origin.{Origin}
use Rattle.task_plan.specs.declared.states.RuleState.{RuleState}
use Rattle.task_plan.specs.declared.states.RuleState.TheVariants.{Unneeded, Waiting, Running, Settled, Failed, Lacking}
use Rattle.task_plan.specs.declared.want.PlanEvent.{PlanEvent}
use Rattle.task_plan.specs.declared.want.PlanEvent.TheVariants.{Scanned, Fresh, Started, DoneOk, DoneFailed, Absent, Halt}

-- How far each rule is, by its number; the needed rules in the build order, where those are open that can be decided now; whether
-- nothing further is to be scanned or decided; what is known of each rule; where each file comes from, by its number; which rules have
-- a file that can be scanned now, with the next file of each rule; and how the plan sees to it that it overlooks nothing.
pub record Planned : Type 0 where
  pub states : List RuleState
  pub queue : Queued
  pub halted : Bool
  pub rules : List Kept
  pub origins : List Origin
  pub marks : List Bool
  pub nexts : List (Option NodeId)
  pub notes : Notes

-- the file that is to be scanned next for a rule, where one can be
abbrev pub wanted : Planned → ℕ → Option NodeId
wanted plan rule = if get_or plan.marks rule false then option_and_then (λ file. file) (slice_get plan.nexts rule) else None

-- what can be decided waits
pub record AreWaiting (states : List RuleState) (queue : Queued) : Type 0 where
  pub waits : (rule : ℕ) → is_open queue rule ≡ true → state_of states rule ≡ Waiting

-- a rule waits, and nothing stands before its decision
pub record CanDecide (plan : Planned) (rule : ℕ) : Type 0 where
  pub kept : Kept
  pub at : slice_get plan.rules rule ≡ Some kept
  pub waits : state_of plan.states rule ≡ Waiting
  pub ready : IsReady plan.states plan.origins kept

-- A rule may be decided now, and none that stands before it in the build order.
pub record IsDecidedNext (plan : Planned) (rule : ℕ) : Type 0 where
  pub first : IsFirst plan.queue rule
  pub can : CanDecide plan rule
  pub goes : plan.halted ≡ false

-- a rule waits, and a file of it can be scanned: the one that is wanted next for it
pub record IsReadyToScan (plan : Planned) (rule : ℕ) (file : NodeId) : Type 0 where
  pub kept : Kept
  pub at : slice_get plan.rules rule ≡ Some kept
  pub waits : state_of plan.states rule ≡ Waiting
  pub place : ℕ
  pub is_file : slice_get kept.files place ≡ Some file
  pub can : CanScan plan.states plan.origins kept.found file
  pub wants : wanted plan rule ≡ Some file

-- a file may be scanned for a rule now
pub record IsScannedNext (plan : Planned) (rule : ℕ) (file : NodeId) : Type 0 where
  pub ready : IsReadyToScan plan rule file
  pub goes : plan.halted ≡ false

-- a rule can be decided, or runs
abbrev pub GoesNow : Planned → ℕ → Type 0
GoesNow plan rule = (is_open plan.queue rule ≡ true) ⊎ (state_of plan.states rule ≡ Running)

-- nothing further is to be decided, or nothing can be
abbrev pub IsIdle : Planned → Type 0
IsIdle plan = plan.halted ≡ false → (rule : ℕ) → is_open plan.queue rule ≡ false

-- a rule that wasn't needed may be needed now, and nothing else has changed
pub record AreMet (old new : List RuleState) : Type 0 where
  pub at : (rule : ℕ) → (state_of new rule ≡ state_of old rule) ⊎ ((state_of old rule ≡ Unneeded) × (state_of new rule ≡ Waiting))

-- rules are met, and else the plan goes on as it did
pub record Meets (old new : Planned) : Type 0 where
  pub states : AreMet old.states new.states
  pub halted : new.halted ≡ old.halted

-- no state changes, nor what is known of a rule or of a file
pub record Stays (old new : Planned) : Type 0 where
  pub states : new.states ≡ old.states
  pub halted : new.halted ≡ old.halted
  pub rules : new.rules ≡ old.rules
  pub origins : new.origins ≡ old.origins

-- a rule that can be decided is in this state now; of another one nothing is taken
abbrev pub decided : Planned → ℕ → RuleState → List RuleState
decided plan rule state = if is_open plan.queue rule then slice_set plan.states rule state else plan.states

-- a rule that runs is in this state now; of another one nothing is taken
abbrev pub ended : Planned → ℕ → RuleState → List RuleState
ended plan rule state = if is_running (state_of plan.states rule) then slice_set plan.states rule state else plan.states

-- what an event makes of the states
abbrev pub Goes : Planned → PlanEvent → List RuleState → Type 0
Goes plan (Scanned rule found) new = AreMet plan.states new
Goes plan (Fresh rule) new = new ≡ decided plan rule.0 Settled
Goes plan (Started rule) new = new ≡ decided plan rule.0 Running
Goes plan (DoneOk rule) new = new ≡ ended plan rule.0 Settled
Goes plan (DoneFailed rule) new = new ≡ ended plan rule.0 Failed
Goes plan (Absent rule node) new = new ≡ decided plan rule.0 Lacking
Goes plan Halt new = new ≡ plan.states

-- whether an event is a scan, the only one that takes memory
abbrev pub is_scan : PlanEvent → Bool
is_scan (Scanned rule found) = true
is_scan (Fresh rule) = false
is_scan (Started rule) = false
is_scan (DoneOk rule) = false
is_scan (DoneFailed rule) = false
is_scan (Absent rule node) = false
is_scan Halt = false

abbrev pub is_halt : PlanEvent → Bool
is_halt (Scanned rule found) = false
is_halt (Fresh rule) = false
is_halt (Started rule) = false
is_halt (DoneOk rule) = false
is_halt (DoneFailed rule) = false
is_halt (Absent rule node) = false
is_halt Halt = true

-- no rule goes back
pub record GoesOn (old new : List RuleState) : Type 0 where
  pub on : (rule : ℕ) → stage (state_of old rule) ≤ stage (state_of new rule)
