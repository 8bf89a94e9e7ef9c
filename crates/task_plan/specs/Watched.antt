-- That a plan overlooks nothing: it is told of each file that a rule waits for, and so knows what can be scanned and what can be decided.
use Rattle.std.specs.Prelude.{◌≡◌, ◌≢◌, ◌<◌, ◌≤◌, ◌++◌, ◌&&◌, ℕ, Bool, true, false, List, [], Option, Some, None, length, get_or, slice_get}
use Rattle.scons_base.specs.declared.ids.NodeId.{NodeId}
use Rattle.scons_base.specs.declared.ids.RuleId.{RuleId}
use Rattle.task_plan.specs.States.{state_of}
use Rattle.task_plan.specs.Queues.{is_open, is_placed}
use Rattle.task_plan.specs.Named.{stands}
use Rattle.task_plan.specs.Noted.{Places, waiters_of}
use Rattle.task_plan.specs.Settled.{Kept, CanScan, origin_of, is_done, is_scanned, IsUnscannedAt}
use Rattle.task_plan.specs.Listed.{included}
use Rattle.task_plan.specs.Plans.{Planned}
use Rattle.task_plan.specs.Met.{is_met}
use Rattle.task_plan.specs.Admits.{queues, none}
use Rattle.task_plan.specs.declared.states.RuleState.{RuleState}
use Rattle.task_plan.specs.declared.states.RuleState.TheVariants.{Unneeded, Waiting, Running, Settled, Failed, Lacking}
use Rattle.task_plan.specs.declared.files.Origin.TheVariants.{Made}

-- a file that a rule has to do with: it requires or depends on it, or it is to be scanned for the rule, or a scan found it
pub data IsSought (kept : Kept) (n : NodeId) : Type 0 where
  needed : stands (kept.required ++ kept.deps) n ≡ true → IsSought kept n
  scanned : stands kept.files n ≡ true → IsSought kept n
  found : (by : NodeId) → stands (included kept.found by) n ≡ true → stands kept.left_out n ≡ false → IsSought kept n

abbrev pub every : NodeId → Bool
every n = true

-- a file is done, and is one of these: those of which the rules that wait for them were told
abbrev pub is_told : Planned → (NodeId → Bool) → NodeId → Bool
is_told plan known n = is_done plan.states plan.origins n && known n

-- a file was met, and a rule will be told when it is done, unless it was
pub record IsHeard (plan : Planned) (known : NodeId → Bool) (rule : ℕ) (n : NodeId) : Type 0 where
  pub met : is_met plan.origins n ≡ true
  pub waits : is_told plan known n ≡ false → queues (waiters_of plan.notes.waiters n.0) rule ≡ true

-- the need at a place, if there is one, isn't done, as far as the rule was told
pub record IsHeldAt (plan : Planned) (known : NodeId → Bool) (needs : List NodeId) (place : ℕ) : Type 0 where
  pub held : (n : NodeId) → slice_get needs place ≡ Some n → is_told plan known n ≡ false

-- no file before a place can be scanned, as far as the rule was told
pub record AreSeenTo (plan : Planned) (known : NodeId → Bool) (kept : Kept) (next : ℕ) : Type 0 where
  pub none : (place : ℕ) (n : NodeId) → place < next → slice_get kept.files place ≡ Some n → is_scanned kept.found n ≡ false → is_told plan known n ≡ false

-- All that a rule has to do with is heard of. It stands at a need that isn't done, at a file that wasn't scanned, and behind files of which
-- none can be scanned; it is marked where it stands before another file.
pub record IsWatched (plan : Planned) (known : NodeId → Bool) (rule : ℕ) (kept : Kept) (at : Places) : Type 0 where
  pub whole : kept.whole ≡ true
  pub sought : (n : NodeId) → IsSought kept n → IsHeard plan known rule n
  pub passed : IsHeldAt plan known (kept.required ++ kept.deps) at.passed
  pub scanned : IsUnscannedAt kept.found kept.files at.whole
  pub next : AreSeenTo plan known kept at.next
  pub marked : at.next < length kept.files → get_or plan.marks rule false ≡ true

-- that is so of a rule if it waits
pub record IsWatchedAt (plan : Planned) (known : NodeId → Bool) (rule : ℕ) : Type 0 where
  pub each : (kept : Kept) (at : Places) → state_of plan.states rule ≡ Waiting → slice_get plan.rules rule ≡ Some kept → slice_get plan.notes.places rule ≡ Some at → IsWatched plan known rule kept at

-- that is so of each rule but some
pub record AreWatched (plan : Planned) (known : NodeId → Bool) (apart : ℕ → Bool) : Type 0 where
  pub each : (rule : ℕ) → apart rule ≡ false → IsWatchedAt plan known rule

-- a rule that waits is open where it stands behind all its needs and files
pub record IsOffered (plan : Planned) (rule : ℕ) : Type 0 where
  pub opened : (kept : Kept) (at : Places) → state_of plan.states rule ≡ Waiting → slice_get plan.rules rule ≡ Some kept → slice_get plan.notes.places rule ≡ Some at
      → length (kept.required ++ kept.deps) ≤ at.passed → length kept.files ≤ at.whole → is_open plan.queue rule ≡ true

-- where the order fits, each rule that waits stands in it, and that is so of each but some
pub record AreQueued (plan : Planned) (apart : ℕ → Bool) : Type 0 where
  pub placed : plan.notes.is_ordered ≡ true → (rule : ℕ) → state_of plan.states rule ≡ Waiting → is_placed plan.queue rule ≡ true
  pub opened : plan.notes.is_ordered ≡ true → (rule : ℕ) → apart rule ≡ false → IsOffered plan rule

-- where no rule is marked the order fits
pub record IsInOrder (plan : Planned) : Type 0 where
  pub fits : ((rule : ℕ) → get_or plan.marks rule false ≡ false) → plan.notes.is_ordered ≡ true

-- each rule can be marked, and each file can have rules that are told
pub record HasNotes (plan : Planned) : Type 0 where
  pub marks : length plan.rules ≤ length plan.marks
  pub waiters : length plan.origins ≤ length plan.notes.waiters

-- the plan overlooks nothing
pub record IsComplete (plan : Planned) : Type 0 where
  pub watched : AreWatched plan every none
  pub queued : AreQueued plan none
  pub ordered : IsInOrder plan
  pub room : HasNotes plan

abbrev pub targets_in : Option Kept → List NodeId
targets_in None = []
targets_in (Some kept) = kept.targets

-- the targets of a rule
abbrev pub targets_at : List Kept → ℕ → List NodeId
targets_at rules rule = targets_in (slice_get rules rule)

-- a file that a rule makes stands among its targets
pub record AreTargets (plan : Planned) : Type 0 where
  pub each : (node : NodeId) (rule : RuleId) → origin_of plan.origins node.0 ≡ Made rule → stands (targets_at plan.rules rule.0) node ≡ true

-- no file can be scanned for a rule that waits
pub record IsNoneReady (plan : Planned) : Type 0 where
  pub none : (rule : ℕ) (kept : Kept) (place : ℕ) (file : NodeId) → state_of plan.states rule ≡ Waiting → slice_get plan.rules rule ≡ Some kept → slice_get kept.files place ≡ Some file
      → CanScan plan.states plan.origins kept.found file → ⊥

-- a rule requires or depends on a file that isn't done
pub record IsHeldUp (plan : Planned) (kept : Kept) : Type 0 where
  pub place : ℕ
  pub file : NodeId
  pub at : slice_get (kept.required ++ kept.deps) place ≡ Some file
  pub undone : is_done plan.states plan.origins file ≡ false

-- no file can be scanned, and each rule that waits needs a file that isn't done
pub record IsStill (plan : Planned) : Type 0 where
  pub scans : IsNoneReady plan
  pub waits : (rule : ℕ) (kept : Kept) → state_of plan.states rule ≡ Waiting → slice_get plan.rules rule ≡ Some kept → IsHeldUp plan kept

-- a rule neither runs nor failed, and no dependency of it is lacking
abbrev pub IsGoingOn : RuleState → Type 0
IsGoingOn Unneeded = Unit {0}
IsGoingOn Waiting = Unit {0}
IsGoingOn Running = ⊥
IsGoingOn Settled = Unit {0}
IsGoingOn Failed = ⊥
IsGoingOn Lacking = ⊥

-- that is so of all rules
pub record AreGoingOn (plan : Planned) : Type 0 where
  pub each : (rule : ℕ) → IsGoingOn (state_of plan.states rule)

-- each needed rule is settled
pub record IsFinished (plan : Planned) : Type 0 where
  pub each : (rule : ℕ) → state_of plan.states rule ≢ Unneeded → state_of plan.states rule ≡ Settled
