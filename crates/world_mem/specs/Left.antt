-- What a stop leaves of what stands around.
use Rattle.std.specs.Prelude.{◌≡◌, ℕ, List, [], ◌∷◌, ◌++◌, ◌+◌, ◌%◌, ◌/◌, ◌^◌, ◌==◌, Some, None, Contains, map, take, length, codes, if◌then◌else◌}
use Rattle.std.specs.List.{flat_map}
use Rattle.world_api.specs.Act.{Content, Given}
use Rattle.world_api.specs.Around.{Around, Running, IsRunningTarget}
use Rattle.act_table.specs.Listed.{contents_in}
use Rattle.act_table.specs.Listed.{listed}
use Rattle.world_mem.specs.Planned.{makes}
use Rattle.world_mem.specs.declared.running.RunningJob.{RunningJob}
use Rattle.act_table.specs.declared.table.ActRow.{ActRow}

-- the paths in a list of paths with their contents
abbrev pub names : Given → List (List ℕ)
names given = map (λ entry. entry.0) given

-- every target of a running job is among these
abbrev pub Cover : List RunningJob → Given → Type 0
Cover running given = (run : RunningJob) (path : List ℕ) → Contains running run → Contains run.job.targets path
    → Contains (names given) path

-- each of these is a target of a running job
abbrev pub AreTargets : Given → List Running → Type 0
AreTargets given running = (path : List ℕ) → Contains (names given) path → IsRunningTarget running path

abbrev junk : List ℕ
junk = codes "junk"

-- what is left of these bytes: all, the first half, or junk
abbrev torn : ℕ → List ℕ → List ℕ
torn kind bytes = if kind == 1 then bytes else (if kind == 2 then take (length bytes / 2) bytes else junk)

abbrev left_of : ℕ → Content → List ℕ
left_of kind None = junk
left_of kind (Some bytes) = torn kind bytes

-- what is left at a target where an action makes this: nothing, all of it, the first half, or junk
abbrev pub left_at : ℕ → Content → Content
left_at number made = if number % 4 == 0 then None else Some (left_of (number % 4) made)

-- the number of the next outcome, of 32 bits
abbrev pub next_number : ℕ → ℕ
next_number number = (number + 1) % 2 ^ 32

-- what is left at each of these, by outcomes of which the first has this number
abbrev pub left_over : ℕ → Given → Given
left_over number [] = []
left_over number (entry ∷ rest) = (entry.0, left_at number entry.1) ∷ left_over (next_number number) rest

-- the number of the outcome after these
abbrev pub number_after : ℕ → Given → ℕ
number_after number [] = number
number_after number (entry ∷ rest) = number_after (next_number number) rest

-- the targets of the running jobs, with what their actions make
abbrev pub makings : List ActRow → List Running → Given
makings rows running = flat_map (λ run. makes rows run.job run.given) running

-- What a stop leaves: these contents at the targets of the jobs that ran, which have been met from then on; nothing
-- runs, and the log is empty.
pub record Leaves (left : Given) (old new : Around) : Type 0 where
  pub targets : (path : List ℕ) → IsRunningTarget old.running path → new.tree path ≡ listed left path
  pub files : (path : List ℕ) → (IsRunningTarget old.running path → ⊥) → new.tree path ≡ old.tree path
  pub stamps : (path : List ℕ) → (IsRunningTarget old.running path → ⊥) → new.stamps path ≡ old.stamps path
  pub dirs : (dir : List ℕ) → new.dirs dir ≡ old.dirs dir
  pub running : new.running ≡ []
  pub log : new.log ≡ []
  pub met : new.met ≡ old.met ++ contents_in left
  pub law : new.law ≡ old.law
  pub top : new.top ≡ old.top
