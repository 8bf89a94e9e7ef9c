-- A job that may start at once: nothing of its start can fail any more.
use Rattle.std.specs.Prelude.{◌≡◌, ◌↔◌, ◌+◌, ◌-◌, ◌<◌, ◌≤◌, ℕ, List, false, Contains, IsSome, length, vec_len}
use Rattle.std.specs.Vec.{vec_capacity}
use Rattle.world_api.specs.Around.{Around, given_of}
use Rattle.world_api.specs.Calls.{CanStart, Starts}
use Rattle.world_api.specs.declared.job.Job.{Job}
use Rattle.world_mem.specs.AsAround.{around_of}
use Rattle.world_mem.specs.Blocked.{LiesBelow}
use Rattle.act_table.specs.Listed.{contents_in}
use Rattle.world_mem.specs.Kept.{counts_of}
use Rattle.world_mem.specs.Planned.{makes, ends}
use Rattle.world_mem.specs.Settles.{HavePlaces}
use Rattle.world_mem.specs.Standing.{is_dir}
use Rattle.world_mem.specs.declared.event.Event.TheVariants.{Started}
use Rattle.world_mem.specs.declared.event.Faults.{Faults}
use Rattle.world_mem.specs.declared.state.Entering.{Entering}
use Rattle.world_mem.specs.declared.state.State.{State}
use Rattle.world_mem.specs.declared.world.MemWorld.{MemWorld}

-- some directory is above a target of the job, and doesn't stand
abbrev pub IsMissing : State → List (List ℕ) → List ℕ → Type 0
IsMissing state targets dir = ((target : List ℕ) × Contains targets target × LiesBelow target dir)
    × (is_dir state.dirs dir ≡ false)

-- these are such directories, and all of them
abbrev pub AreMissing : State → List (List ℕ) → List (List ℕ) → Type 0
AreMissing state targets dirs = (dir : List ℕ) → Contains dirs dir ↔ IsMissing state targets dir

-- the past has room for a start and its ending, beside what has its room already
abbrev pub HasPastRoom : State → Type 0
HasPastRoom state =
    vec_len state.past + vec_len state.running + (262144 - state.removals) + 2 ≤ vec_capacity state.past

-- the job may start, what it is given and what it comes to are known, and there is room for all that its start and its
-- ending leave
pub record IsReady (entering : Entering) (state : State) : Type 0 where
  pub can : CanStart entering.run.job (around_of state)
  pub given : entering.run.given ≡ given_of (around_of state).tree entering.run.job.deps
  pub made : entering.run.made ≡ makes state.table entering.run.job entering.run.given
  pub kept : entering.run.kept ≡ entering.run.made
  pub gains : entering.run.gained ≡ length (contents_in entering.run.made)
  pub outcome : entering.run.outcome ≡ ends state.table entering.run.job entering.run.given
  pub event : (faults : Faults) × (entering.event ≡ Started entering.run.job faults)
  pub started : entering.job ≡ entering.run.job
  pub dirs : AreMissing state entering.run.job.targets entering.dirs
  pub places : HavePlaces entering.run.job.targets state.slots
  pub fresh : HavePlaces entering.dirs state.dirs.slots
  pub log_room : vec_len state.log + vec_len state.running + 2 ≤ vec_capacity state.log
  pub met_room : vec_len state.met + vec_len state.running + 1 ≤ vec_capacity state.met
  pub run_room : vec_len state.running + 1 ≤ vec_capacity state.running
  pub job_room : vec_len state.jobs + 1 ≤ vec_capacity state.jobs
  pub past_room : HasPastRoom state

-- the record of moments has the room too
pub record MayEnter (entering : Entering) (world : MemWorld) : Type 0 where
  pub ready : IsReady entering world.state
  pub turns : vec_len world.turns + vec_len world.state.running
      + (262144 - (vec_len world.banks.changes + world.state.removals)) + 2 ≤ vec_capacity world.turns

-- the job starts, with the counts that its event tells
abbrev pub StartsAs : Entering → Around → Around → Type 0
StartsAs entering old new = (faults : Faults) → entering.event ≡ Started entering.run.job faults
    → Starts entering.run.job (counts_of faults) old new

-- the job starts, with the counts of now
abbrev pub StartsNow : Job → MemWorld → MemWorld → Type 0
StartsNow job old new = Starts job (counts_of old.faults) (around_of old.state) (around_of new.state)

-- the same, where its event tells the counts of now
abbrev pub StartsTold : Entering → MemWorld → MemWorld → Type 0
StartsTold entering old new = entering.event ≡ Started entering.run.job old.faults → StartsNow entering.run.job old new
