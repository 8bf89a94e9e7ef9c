-- What a world means: what it says of the outside, and when it says it; and what is so over any of its calls.
use Rattle.std.specs.Prelude.{◌≡◌, ◌⊎◌, ◌≤◌, ℕ, List}
use Rattle.world_api.specs.declared.disk.Bank.{Bank}
use Rattle.world_api.specs.Around.{Around}
use Rattle.world_api.specs.Banks.{Banks, Only}
use Rattle.world_api.specs.Calls.{Asks}
use Rattle.world_api.specs.Counts.{Counts}

-- tells: what is said below of banks, files, jobs and moments is so. Closed directories and counts are told always.
-- sure: what each job that was done has made is what the law says.
-- seen: what a read of a bank gives.
-- image: what a stop now may leave of a bank, whatever it leaves of the other.
-- around: all that no call of a disk changes.
-- clock: the moments so far.
-- left_since: what was around at some moment from this time on, and what a stop at that moment may leave of the banks.
-- closed: directories in which nothing is ever found.
-- counts: how often the outside was at fault.
pub record Meaning (W : Type 0) : Type 1 where
  pub tells : W → Type 0
  pub sure : W → Type 0
  pub seen : W → Banks
  pub image : W → Bank → List ℕ → Type 0
  pub around : W → Around
  pub clock : W → ℕ
  pub left_since : W → ℕ → Around → Banks → Type 0
  pub closed : W → List (List ℕ)
  pub counts : W → Counts

-- a stop now may leave these banks
abbrev pub IsImage : {W : Type 0} → Meaning W → W → Banks → Type 0
IsImage meaning world banks = (bank : Bank) → meaning.image world bank (banks bank)

-- a stop now leaves a bank as it reads
abbrev pub IsSettled : {W : Type 0} → Meaning W → W → Bank → Type 0
IsSettled meaning world bank = Only (meaning.seen world bank) (meaning.image world bank)

-- what holds over any calls: who tells now told before, and no directory was closed or opened
pub record Told {W : Type 0} (meaning : Meaning W) (old new : W) : Type 0 where
  pub told : meaning.tells new → meaning.tells old
  pub sure : meaning.tells new → meaning.sure new → meaning.sure old
  pub closed : meaning.closed new ≡ meaning.closed old

-- no moment is forgotten
pub record Recalls {W : Type 0} (meaning : Meaning W) (old new : W) : Type 0 where
  pub later : meaning.tells new → meaning.clock old ≤ meaning.clock new
  pub keeps : meaning.tells new → (time : ℕ) (around : Around) (banks : Banks) → time ≤ meaning.clock old → meaning.left_since old time around banks → meaning.left_since new time around banks

-- a bank that no call wrote
pub record BankKept {W : Type 0} (meaning : Meaning W) (bank : Bank) (old new : W) : Type 0 where
  pub same : meaning.seen new bank ≡ meaning.seen old bank
  pub no_more : (bytes : List ℕ) → meaning.image new bank bytes → meaning.image old bank bytes

-- neither bank was written
abbrev pub BanksKept : {W : Type 0} → Meaning W → W → W → Type 0
BanksKept meaning old new = (bank : Bank) → BankKept meaning bank old new

-- at every moment since the old state what is around, with what a stop may leave of the banks, has P
pub record Throughout {W : Type 0} (meaning : Meaning W) (old new : W) (P : Around → Banks → Type 0) : Type 0 where
  pub told : meaning.tells new → meaning.tells old
  pub each : meaning.tells new → (around : Around) (banks : Banks) → meaning.left_since new (meaning.clock old) around banks → P around banks
  pub before : meaning.tells new → (time : ℕ) (around : Around) (banks : Banks) → meaning.left_since new time around banks → meaning.left_since old time around banks ⊎ P around banks
  pub now : meaning.tells new → (banks : Banks) → IsImage meaning new banks → P (meaning.around new) banks

-- the same of a P that rests on being sure
unfoldable pub Surely : {W : Type 0} → Meaning W → W → W → (Around → Banks → Type 0) → Type 0
Surely meaning old new P = Throughout meaning old new (λ around banks. meaning.sure new → P around banks)

-- a moment within a call: as before it, but for what running jobs write meanwhile; or as after it
abbrev pub Meanwhile : {W : Type 0} → Meaning W → W → W → Around → Banks → Type 0
Meanwhile meaning old new around banks =
    (Asks (meaning.around old) around × IsImage meaning old banks)
    ⊎ ((around ≡ meaning.around new) × IsImage meaning new banks)

-- a moment within a call of a disk: the banks as before it or as after it
abbrev pub AtEither : {W : Type 0} → Meaning W → W → W → Around → Banks → Type 0
AtEither meaning old new around banks =
    (around ≡ meaning.around new) × (IsImage meaning old banks ⊎ IsImage meaning new banks)
