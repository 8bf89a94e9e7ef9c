-- What a wait of a world in memory ends.
use Rattle.std.specs.Prelude.{◌≡◌, ◌%◌, ℕ, List, length, slice_index, unwrap_or}
use Rattle.world_api.specs.Around.{Running}
use Rattle.world_api.specs.declared.job.Outcome.{Outcome}
use Rattle.world_mem.specs.AsAround.{around_of}
use Rattle.world_mem.specs.CallCounts.{count_of, verdict_of}
use Rattle.world_mem.specs.Ending.{cut_of}
use Rattle.world_mem.specs.Runs.{run_at, run_ending, run_contents, MeetsMade}
use Rattle.world_mem.specs.declared.calls.Call.TheVariants.{Wait}
use Rattle.world_mem.specs.declared.world.MemWorld.{MemWorld}

-- the place of the running job that the next wait ends: what the orders say, modulo the number of jobs
abbrev pub place_by : MemWorld → ℕ
place_by world = slice_index world.orders.items (count_of Wait world.calls) % length (around_of world.state).running

-- that job (some job runs, so the job `d` is never it)
abbrev pub ended_by : MemWorld → Running → Running
ended_by world d = run_at (around_of world.state) (place_by world) d

-- how a job ends that isn't made to fail: as the table says
abbrev pub row_ending : MemWorld → Running → Outcome
row_ending world run = run_ending world.state.table run

-- what a job that is done has made, which has been met from then on
abbrev pub row_contents : MemWorld → Running → List (List ℕ)
row_contents world run = run_contents world.state.table run

-- what the job has made where it is done has been met from then on, and nothing else
abbrev pub MeetsRow : MemWorld → Running → Outcome → MemWorld → Type 0
MeetsRow old run outcome new = MeetsMade old.state.table run outcome (around_of old.state) (around_of new.state)

-- the job ends as the call is listed, or as the table says
abbrev pub EndsAsListed : MemWorld → Outcome → Type 0
EndsAsListed old outcome = (d : Running)
    → outcome ≡ unwrap_or (cut_of (verdict_of Wait old.calls)) (row_ending old (ended_by old d))
