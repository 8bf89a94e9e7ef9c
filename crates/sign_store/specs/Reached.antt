-- What the calls over a disk leave.
use Rattle.std.specs.Prelude.{◌≡◌, ◌≢◌, Result, Err}
use Rattle.world_api.specs.Causes.{DiskFails}
use Rattle.world_api.specs.Around.{Around}
use Rattle.world_api.specs.Looks.{IsSince}
use Rattle.world_api.specs.Meaning.{Meaning, Told, Recalls, BankKept, BanksKept, Throughout}
use Rattle.world_api.specs.declared.disk.Bank.{Bank}
use Rattle.sign_store.specs.declared.refusals.StoreRefusal.{StoreRefusal}
use Rattle.sign_store.specs.declared.refusals.StoreRefusal.TheVariants as refusal
use Rattle.sign_store.specs.Ends.{AreSettled, StandsFor}
use Rattle.sign_store.specs.Tables.{Map}

-- a fault comes only where the disk was at fault, and nothing else counts
pub record HasFaultCause {W T : Type 0} (m : Meaning W) (old new : W) (result : Result T StoreRefusal) : Type 0 where
  pub kept : result ≢ Err refusal.Fault → m.counts new ≡ m.counts old
  pub rose : result ≡ Err refusal.Fault → DiskFails (m.counts old) (m.counts new)

-- each bank reads as before
abbrev pub SeesTheSame : {W : Type 0} → Meaning W → W → W → Type 0
SeesTheSame m old new = (each : Bank) → m.seen new each ≡ m.seen old each

-- what the banks stood for at every moment, from some time on, they stand for at every moment until now
pub record Endures {W : Type 0} (m : Meaning W) (old new : W) (stood : Around) (map : Map) : Type 0 where
  pub on : (from : W) → Throughout m from old (StandsFor stood map) → Throughout m from new (StandsFor stood map)

-- the disk was read and no more: its banks and all around are as they were, and were so at every moment
pub record ReadsBanks {W : Type 0} (m : Meaning W) (old new : W) : Type 0 where
  pub told : Told m old new
  pub recalls : Recalls m old new
  pub around : m.tells new → m.around new ≡ m.around old
  pub banks : m.tells new → BanksKept m old new
  pub moments : (stood : Around) (map : Map) → Endures m old new stood map
  pub before : m.tells new → IsSince m old new

-- one bank was written at most: the other and all around are as they were
pub record Writes {W : Type 0} (m : Meaning W) (bank : Bank) (old new : W) : Type 0 where
  pub told : Told m old new
  pub recalls : Recalls m old new
  pub around : m.tells new → m.around new ≡ m.around old
  pub other : m.tells new → (other : Bank) → other ≢ bank → BankKept m other old new

-- where a stop left the banks as they read, it still does
pub record KeepsSettled {W : Type 0} (m : Meaning W) (old new : W) : Type 0 where
  pub on : m.tells new → AreSettled m old → AreSettled m new

-- unless the disk was at fault, where a stop left the banks as they read, it still does
abbrev pub RestsUnlessFault : {W : Type 0} → Meaning W → W → W → StoreRefusal → Type 0
RestsUnlessFault m old new e = e ≢ refusal.Fault → KeepsSettled m old new

-- both banks were synced, and neither was written
pub record AreSynced {W : Type 0} (m : Meaning W) (old new : W) : Type 0 where
  pub kept : BanksKept m old new
  pub settled : AreSettled m new

-- what a refusal leaves of the banks: where their bytes were refused nothing was written, and unless the disk was at
-- fault a stop leaves them as they read
abbrev pub LeavesBanks : {W : Type 0} → Meaning W → W → W → StoreRefusal → Type 0
LeavesBanks m old new refusal.Fault = Unit {0}
LeavesBanks m old new (refusal.Foreign bank) = AreSynced m old new
LeavesBanks m old new (refusal.Large size) = AreSynced m old new
LeavesBanks m old new refusal.Memory = AreSettled m new
