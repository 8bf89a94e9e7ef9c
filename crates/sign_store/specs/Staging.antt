-- Entries that are written behind a closed gate, before it is opened for all of them.
use Rattle.std.specs.Prelude.{◌≡◌, ◌≤◌, ◌<◌, ◌+◌, ℕ, List, ◌∷◌, ◌++◌, length, drop, Result, OnOk}
use Rattle.world_api.specs.declared.disk.Bank.{Bank}
use Rattle.world_api.specs.Meaning.{Meaning, Throughout}
use Rattle.deciders.specs.declared.version.Version.TheVariants.{Two}
use Rattle.sign_store.specs.Ends.{IsEither, KeepsAt, StandsFor}
use Rattle.sign_store.specs.Forms.{Leads}
use Rattle.sign_store.specs.Tables.{Map}

-- an entry behind its open gate, which leads from the one map to the other
pub record IsEntry (from map : Map) (bytes : List ℕ) : Type 0 where
  pub behind : List ℕ
  pub gate : bytes ≡ 1 ∷ behind
  pub leads : Leads Two bytes from map

-- a bank has the gate at `end`, and all bytes up to the place
pub record Spans (end place : ℕ) (bank : List ℕ) : Type 0 where
  pub gate : end < length bank
  pub inside : place ≤ length bank

-- were the gate at `end` open, whole entries up to the place would lead from the one map to the other
pub record AreStaged (end place : ℕ) (from map : Map) (bank : List ℕ) : Type 0 where
  pub entries : List ℕ
  pub rest : List ℕ
  pub are : 1 ∷ drop (end + 1) bank ≡ entries ++ rest
  pub upto : place ≡ end + length entries
  pub leads : Leads Two entries from map

-- so it is of a bank as it reads now
abbrev pub AreStagedIn : {W : Type 0} → Meaning W → W → Bank → ℕ → ℕ → Map → Map → Type 0
AreStagedIn m world bank end place from map = m.tells world → AreStaged end place from map (m.seen world bank)

-- and whatever a stop leaves now stands for the first map
pub record IsStaging {W : Type 0} (m : Meaning W) (world : W) (bank : Bank) (end place : ℕ) (from map : Map) : Type 0 where
  pub keeps : KeepsAt m world bank end from
  pub staged : AreStagedIn m world bank end place from map

-- nothing was written but behind the gate at which the entries of a bank end: what the banks stand for stays
pub record StaysBehind {W : Type 0} (m : Meaning W) (old new : W) (bank : Bank) (end : ℕ) : Type 0 where
  pub moments : (map : Map) → KeepsAt m old bank end map → Throughout m old new (StandsFor (m.around old) map)
  pub keeps : (map : Map) → KeepsAt m old bank end map → KeepsAt m new bank end map

-- an entry is written at the place up to which others were
abbrev pub Stages : {W T E : Type 0} → Meaning W → W → W → Bank → ℕ → ℕ → List ℕ → Result T E → Type 0
Stages m old new bank end place entry result = (from mid map : Map) → IsEntry mid map entry
    → AreStagedIn m old bank end place from mid → OnOk result (AreStagedIn m new bank end (place + length entry) from map)

-- the gate in front of them is opened: the banks stand for the map before all of them or behind all of them
abbrev pub PublishesThroughout : {W : Type 0} → Meaning W → W → W → Bank → ℕ → ℕ → Type 0
PublishesThroughout m old new bank end place = (from map : Map) → IsStaging m old bank end place from map
    → Throughout m old new (IsEither (m.around old) from map)

abbrev pub Publishes : {W T E : Type 0} → Meaning W → W → W → Bank → ℕ → ℕ → Result T E → Type 0
Publishes m old new bank end place result = (from map : Map) → IsStaging m old bank end place from map
    → OnOk result (KeepsAt m new bank place map)
