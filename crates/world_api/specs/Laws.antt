-- What is so of every disk and every world at any moment, and what a call of a world did with a job.
use Rattle.std.specs.Prelude.{◌≡◌, ◌≤◌, ℕ, false, List, None, Some, Contains}
use Rattle.world_api.specs.declared.job.Job.{Job}
use Rattle.world_api.specs.declared.job.Ended.{Ended}
use Rattle.world_api.specs.Around.{Around, IsRunningTarget}
use Rattle.world_api.specs.Banks.{Banks}
use Rattle.world_api.specs.Calls.{Starts, Ends, IsClosed}
use Rattle.world_api.specs.Meaning.{Meaning, IsImage}

-- the present moment is one of those since any time
abbrev pub CountsNow : {W : Type 0} → Meaning W → Type 0
CountsNow {W} meaning = (disk : W) → meaning.tells disk → (time : ℕ) (banks : Banks) → time ≤ meaning.clock disk
    → IsImage meaning disk banks → meaning.left_since disk time (meaning.around disk) banks

-- since now there is the present moment alone
abbrev pub HasOnlyNow : {W : Type 0} → Meaning W → Type 0
HasOnlyNow {W} meaning = (disk : W) → meaning.tells disk → (around : Around) (banks : Banks)
    → meaning.left_since disk (meaning.clock disk) around banks → (around ≡ meaning.around disk) × IsImage meaning disk banks

-- what a file holds that no running job writes has been met
abbrev pub HasMetFiles : {W : Type 0} → Meaning W → Type 0
HasMetFiles {W} meaning = (world : W) → meaning.tells world → (path bytes : List ℕ) → (meaning.around world).tree path ≡ Some bytes
    → (IsRunningTarget (meaning.around world).running path → ⊥) → Contains (meaning.around world).met bytes

-- nothing stands at or below a closed directory
abbrev pub HasNoneClosed : {W : Type 0} → Meaning W → Type 0
HasNoneClosed {W} meaning = (world : W) → meaning.tells world → (path : List ℕ) → IsClosed (meaning.closed world) path
    → ((meaning.around world).tree path ≡ None) × ((meaning.around world).dirs path ≡ false)

-- a call started the job
abbrev pub StartsJob : {W : Type 0} → Meaning W → Job → W → W → Type 0
StartsJob meaning job old new = Starts job (meaning.counts old) (meaning.around old) (meaning.around new)

-- in a call a job ended
abbrev pub EndsJob : {W : Type 0} → Meaning W → Ended → W → W → Type 0
EndsJob meaning ended old new = Ends (meaning.sure new) ended (meaning.around old) (meaning.around new)
