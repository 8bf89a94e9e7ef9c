-- How jobs ended by a world's log, and that those that failed and those that couldn't be run were counted.
use Rattle.std.specs.Prelude.{◌≡◌, ◌++◌, ℕ, Bool, true, false, List}
use Rattle.std.specs.List.{count_by}
use Rattle.world_api.specs.Around.{Entry, Started, Finished}
use Rattle.world_api.specs.Counts.{Counts}
use Rattle.world_api.specs.Meaning.{Meaning}
use Rattle.world_api.specs.declared.job.Outcome.{Outcome}
use Rattle.world_api.specs.declared.job.Outcome.TheVariants.{Done, Failed, Broken, NoMemory}
use Rattle.build_run.specs.Counting.{RoseBy}
use Rattle.build_run.specs.declared.account.Account.{Account}
use Rattle.build_run.specs.declared.site.Site.{Site}

-- the action failed
abbrev pub is_failure : Outcome → Bool
is_failure Done = false
is_failure (Failed code) = true
is_failure Broken = false
is_failure NoMemory = false

-- it couldn't be run
abbrev pub is_breaking : Outcome → Bool
is_breaking Done = false
is_breaking (Failed code) = false
is_breaking Broken = true
is_breaking NoMemory = false

-- memory was wanting for it
abbrev pub is_want : Outcome → Bool
is_want Done = false
is_want (Failed code) = false
is_want Broken = false
is_want NoMemory = true

-- an entry is the ending of a job with such an outcome
abbrev pub is_ending : (Outcome → Bool) → Entry → Bool
is_ending test (Started job counts) = false
is_ending test (Finished id outcome) = test outcome

-- so many of the jobs that ended by these entries ended so
abbrev pub count_ended : (Outcome → Bool) → List Entry → ℕ
count_ended test entries = count_by (is_ending test) entries

-- A log grew. Of the jobs that ended there no more failed, and no more couldn't be run, than the counts rose by, and for none
-- memory was wanting unless that was noted.
pub record CountsEndings (before after : Counts) (memory : Bool) (old new : List Entry) : Type 0 where
  pub entries : List Entry
  pub grown : new ≡ old ++ entries
  pub failed : RoseBy (count_ended is_failure entries) before.action_failures after.action_failures
  pub broken : RoseBy (count_ended is_breaking entries) before.start_faults after.start_faults
  pub wants : memory ≡ false → count_ended is_want entries ≡ 0

-- ---- accounts

-- want of memory, once noted, stays noted
abbrev pub KeepsWant : Account → Account → Type 0
KeepsWant old new = new.memory ≡ false → old.memory ≡ false

-- ---- over calls

-- So endings are counted and noted, where the world tells.
pub record EndingsAreCounted {W : Type 0} (m : Meaning W) (old : W) (account : Account) (new : W) (new_account : Account) : Type 0 where
  pub want : KeepsWant account new_account
  pub endings : m.tells new → CountsEndings (m.counts old) (m.counts new) new_account.memory (m.around old).log (m.around new).log

abbrev pub SiteCounts : {W O E : Type 0} → Meaning W → Site W O E → Site W O E → Type 0
SiteCounts m old new = EndingsAreCounted m old.world.now old.account.now new.world.now new.account.now
