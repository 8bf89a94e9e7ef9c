-- What a plan keeps true of its rules at all times.
use Rattle.std.specs.Prelude.{◌≡◌, ◌≤◌, ◌<◌, ℕ, Bool, true, false, List, Some, length, get_or, slice_get}
use Rattle.scons_base.specs.declared.ids.NodeId.{NodeId}
use Rattle.task_plan.specs.States.{state_of}
use Rattle.task_plan.specs.Queues.{Queued, is_open}
use Rattle.task_plan.specs.Settled.{is_done, is_scanned, CanScan, AreDoneTo, AreScannedTo, IsThrough}
use Rattle.task_plan.specs.Listed.{IsListing}
use Rattle.task_plan.specs.declared.states.RuleState.{RuleState}
use Rattle.task_plan.specs.declared.states.RuleState.TheVariants.{Waiting}
use Rattle.task_plan.specs.declared.files.Origin.{Origin}
use Rattle.task_plan.specs.declared.reach.Reach.{Reach}
use Rattle.task_plan.specs.declared.task.Task.{Task}

-- what a rule has passed is done, the files that count as scanned were, and its lists follow from the scans
pub record IsTracked (states : List RuleState) (origins : List Origin) (task : Task) : Type 0 where
  pub needs : AreDoneTo states origins task task.passed
  pub files : AreScannedTo task task.reach.whole
  pub listing : IsListing task

-- an open rule waits, and nothing stands before its decision
pub record IsOpened (states : List RuleState) (tasks : List Task) (rule : ℕ) : Type 0 where
  pub task : Task
  pub at : slice_get tasks rule ≡ Some task
  pub waits : state_of states rule ≡ Waiting
  pub through : IsThrough task

-- a marked rule waits, and its next file can be scanned
pub record IsMarked (states : List RuleState) (origins : List Origin) (tasks : List Task) (rule : ℕ) : Type 0 where
  pub task : Task
  pub at : slice_get tasks rule ≡ Some task
  pub waits : state_of states rule ≡ Waiting
  pub file : NodeId
  pub next : slice_get task.reach.files.keys task.reach.next ≡ Some file
  pub can : CanScan states origins task.reach.found.entries file

pub record AreTracked (states : List RuleState) (queue : Queued) (tasks : List Task) (origins : List Origin) (marks : List Bool) : Type 0 where
  pub each : (rule : ℕ) (task : Task) → slice_get tasks rule ≡ Some task → IsTracked states origins task
  pub opened : (rule : ℕ) → is_open queue rule ≡ true → IsOpened states tasks rule
  pub marked : (rule : ℕ) → get_or marks rule false ≡ true → IsMarked states origins tasks rule
  pub room : length states ≤ length tasks

-- the file at a place, if there is one and it wasn't scanned, isn't done
pub record IsUnreadyAt (states : List RuleState) (origins : List Origin) (r : Reach) (place : ℕ) : Type 0 where
  pub undone : (n : NodeId) → slice_get r.files.keys place ≡ Some n → is_scanned r.found.entries n ≡ false → is_done states origins n ≡ false

-- that is so from a place on and before another
pub record AreUnreadyTo (states : List RuleState) (origins : List Origin) (r : Reach) (start end : ℕ) : Type 0 where
  pub each : (place : ℕ) → start ≤ place → place < end → IsUnreadyAt states origins r place
