-- What runs at a place, and what its ending leaves.
use Rattle.std.specs.Prelude.{◌≡◌, ◌≢◌, ◌++◌, ℕ, List, Option, None, Contains, unwrap_or}
use Rattle.std.specs.List.{slice_index_or}
use Rattle.world_api.specs.Around.{Around, Running}
use Rattle.world_api.specs.declared.job.Outcome.{Outcome}
use Rattle.world_api.specs.declared.job.Outcome.TheVariants.{Done}
use Rattle.act_table.specs.Listed.{contents_in}
use Rattle.world_mem.specs.Planned.{ends, makes}
use Rattle.act_table.specs.declared.table.ActRow.{ActRow}

-- the running job at a place (some job runs there, so the job `d` is never it)
abbrev pub run_at : Around → ℕ → Running → Running
run_at around place d = slice_index_or around.running place d

-- how a job ends that isn't made to fail: as the table says
abbrev pub run_ending : List ActRow → Running → Outcome
run_ending rows run = ends rows run.job run.given

-- what a job that is done has made
abbrev pub run_contents : List ActRow → Running → List (List ℕ)
run_contents rows run = contents_in (makes rows run.job run.given)

-- nothing stands at the targets of a job that isn't done
abbrev pub LeavesNone : Running → Outcome → Around → Type 0
LeavesNone run outcome new = (path : List ℕ) → outcome ≢ Done → Contains run.job.targets path → new.tree path ≡ None

-- what a job that is done has made has been met from then on
abbrev pub MeetsMade : List ActRow → Running → Outcome → Around → Around → Type 0
MeetsMade rows run outcome old new = outcome ≡ Done → new.met ≡ old.met ++ run_contents rows run

-- the job that runs at a place ends as it is cut, or as the table says
abbrev pub EndsBy : List ActRow → ℕ → Option Outcome → Outcome → Around → Type 0
EndsBy rows place cut outcome old = (d : Running) → outcome ≡ unwrap_or cut (run_ending rows (run_at old place d))

-- nothing stands at the targets of the job that ran at a place, where it isn't done
abbrev pub LeavesNoneAt : ℕ → Outcome → Around → Around → Type 0
LeavesNoneAt place outcome old new = (d : Running) → LeavesNone (run_at old place d) outcome new

-- what the job that ran at a place has made, where it is done, has been met from then on
abbrev pub MeetsMadeAt : List ActRow → ℕ → Outcome → Around → Around → Type 0
MeetsMadeAt rows place outcome old new = (d : Running) → MeetsMade rows (run_at old place d) outcome old new

-- nothing stands at the targets of the running jobs
abbrev pub AreUnmade : Around → Type 0
AreUnmade around = (run : Running) (path : List ℕ) → Contains around.running run → Contains run.job.targets path
    → around.tree path ≡ None
