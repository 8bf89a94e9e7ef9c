-- What a world in memory keeps of the past.
use Rattle.std.specs.Prelude.{◌≡◌, ◌<◌, Bool, ℕ, List, length, Some, IsTrue, Contains}
use Rattle.std.specs.List.{flat_map, slice_index_or, list_any}
use Rattle.std.specs.Str.{bytes_eq}
use Rattle.world_api.specs.Act.{Given}
use Rattle.act_table.specs.Listed.{contents_in}
use Rattle.world_api.specs.Around.{Running, Entry, Started, Finished}
use Rattle.world_api.specs.Counts.{Counts}
use Rattle.world_mem.specs.CallCounts.{next}
use Rattle.world_mem.specs.InSlots.{slot_at, content_of, mark_of}
use Rattle.world_mem.specs.declared.event.Event.{Event}
use Rattle.world_mem.specs.declared.event.Event.TheVariants as events
use Rattle.world_mem.specs.declared.event.Faults.{Faults}
use Rattle.world_mem.specs.declared.running.RunningJob.{RunningJob}
use Rattle.world_mem.specs.declared.slots.Slot.TheVariants as slot
use Rattle.world_mem.specs.declared.slots.Slots.{Slots}

abbrev pub counts_of : Faults → Counts
counts_of faults = record {
  disk_faults = faults.disk;
  tree_faults = faults.tree;
  start_faults = faults.start;
  action_failures = faults.action;
}

-- nothing has failed yet
abbrev pub no_faults : Counts
no_faults = record { disk_faults = 0; tree_faults = 0; start_faults = 0; action_failures = 0 }

-- one fault more, and no other
abbrev pub disk_fault : Counts → Counts
disk_fault counts = record counts { disk_faults = next counts.disk_faults }

abbrev pub tree_fault : Counts → Counts
tree_fault counts = record counts { tree_faults = next counts.tree_faults }

abbrev pub start_fault : Counts → Counts
start_fault counts = record counts { start_faults = next counts.start_faults }

abbrev pub action_failure : Counts → Counts
action_failure counts = record counts { action_failures = next counts.action_failures }

abbrev pub entry_of : Event → Entry
entry_of (events.Started job faults) = Started job (counts_of faults)
entry_of (events.Finished id outcome) = Finished id outcome

abbrev pub running_of : RunningJob → Running
running_of run = record { job = run.job; given = run.given }

-- whether a running job makes a path
abbrev pub is_target : List RunningJob → List ℕ → Bool
is_target running path = list_any (λ run. list_any (bytes_eq path) run.job.targets) running

abbrev pub met_of : List Given → List (List ℕ)
met_of groups = flat_map contents_in groups

-- no two running jobs have one id
abbrev pub IdsApart : List RunningJob → Type 0
IdsApart running = (j k : ℕ) (d : RunningJob) → j < length running → k < length running
    → (slice_index_or running j d).job.id ≡ (slice_index_or running k d).job.id → j ≡ k

-- the slot of each target of a running job is kept for it
abbrev pub AreOwned : List RunningJob → Slots → Type 0
AreOwned running slots = (run : RunningJob) (path : List ℕ) → Contains running run → Contains run.job.targets path
    → slot_at slots path ≡ Some (slot.Running run.job.id)

-- none of these targets is one of a running job
abbrev pub HaveOwn : List RunningJob → List (List ℕ) → Type 0
HaveOwn running targets = (other : RunningJob) (path : List ℕ) → Contains running other → Contains targets path
    → Contains other.job.targets path → ⊥

-- a slot that is kept for a job is that of a target of a running job
abbrev pub MarkTargets : List RunningJob → Slots → Type 0
MarkTargets running slots = (path : List ℕ) (id : ℕ) → mark_of (slot_at slots path) ≡ Some id
    → IsTrue (is_target running path)

-- what a file holds has been met
abbrev pub HoldMet : List Given → Slots → Type 0
HoldMet met slots = (path bytes : List ℕ) → content_of (slot_at slots path) ≡ Some bytes
    → IsTrue (list_any (bytes_eq bytes) (met_of met))
