-- The moments of a world in memory: what was around at each, and what a stop could leave of the banks then.
use Rattle.std.specs.Prelude.{◌≡◌, ◌⊎◌, ℕ, zero, suc, List, [], ◌∷◌}
use Rattle.mem_banks.specs.Past.{Store, back, IsImage}
use Rattle.world_api.specs.Around.{Around}
use Rattle.world_api.specs.Banks.{Banks}
use Rattle.world_api.specs.declared.disk.Bank.{Bank}
use Rattle.world_mem.specs.Undone.{undone}
use Rattle.world_mem.specs.declared.past.Change.{Change}
use Rattle.world_mem.specs.declared.past.Turn.{Turn}
use Rattle.world_mem.specs.declared.past.Turn.TheVariants.{Disk, Tree}

-- what is around, with the changes that led to it, newest first
pub record Course : Type 0 where
  pub around : Around
  pub changes : List Change

-- before the newest change
abbrev pub before_by : List Change → Course → Course
before_by [] course = course
before_by (change ∷ older) course = record { around = undone change course.around; changes = older }

abbrev pub before : Course → Course
before course = before_by course.changes course

-- a course, and the banks with what led to them
pub record Machine : Type 0 where
  pub course : Course
  pub store : Store

-- the state before the newest change of the banks, or of what is around
abbrev pub back_by : Turn → Machine → Machine
back_by Disk machine = record machine { store = back machine.store }
back_by Tree machine = record machine { course = before machine.course }

-- what is around, with what a stop may leave of the banks
abbrev pub IsHere : Machine → Around → Banks → Type 0
IsHere machine around banks =
    (around ≡ machine.course.around) × ((bank : Bank) → IsImage machine.store bank (banks bank))

-- so it is, or was at one of so many states before
abbrev pub IsMoment : List Turn → Machine → ℕ → Around → Banks → Type 0
IsMoment turns machine zero around banks = IsHere machine around banks
IsMoment [] machine (suc n) around banks = IsHere machine around banks
IsMoment (turn ∷ older) machine (suc n) around banks =
    IsHere machine around banks ⊎ IsMoment older (back_by turn machine) n around banks
