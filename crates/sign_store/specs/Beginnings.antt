-- What the steps of beginning a store keep.
use Rattle.std.specs.Prelude.{◌≡◌, ◌≤◌, ◌<◌, ◌+◌, ◌-◌, ◌^◌, ◌⊎◌, ℕ, List, ◌++◌, length, take, drop, None}
use Rattle.world_api.specs.declared.disk.Bank.{Bank}
use Rattle.world_api.specs.Around.{Around}
use Rattle.world_api.specs.Banks.{Banks}
use Rattle.world_api.specs.Meaning.{Meaning, IsImage}
use Rattle.sign_store.specs.declared.entries.EndGate.{EndGate}
use Rattle.world_api.specs.declared.disk.Bank.TheVariants.{A}
use Rattle.deciders.specs.declared.version.Version.{Version}
use Rattle.deciders.specs.declared.version.Version.TheVariants.{One, Two}
use Rattle.sign_store.specs.declared.head.Edition.{Edition}
use Rattle.sign_store.specs.declared.head.Choice.{Choice}
use Rattle.sign_store.specs.declared.head.Choice.TheVariants as choice
use Rattle.sign_store.specs.declared.map.RecordMap.{RecordMap}
use Rattle.sign_store.specs.Compacts.{compact_bytes, IsWorth}
use Rattle.sign_store.specs.Heads.{other_bank}
use Rattle.sign_store.specs.declared.opening.Opened.{Opened}
use Rattle.sign_store.specs.declared.opening.Read.{Read}
use Rattle.sign_store.specs.Ends.{StandsAt, AreSettled, image_in}
use Rattle.sign_store.specs.Forms.{IsSpare}
use Rattle.sign_store.specs.Gates.{IsGate}
use Rattle.sign_store.specs.Images.{entry_in, after_entries, entries_map, body_of}
use Rattle.sign_store.specs.Maps.{map_in}
use Rattle.sign_store.specs.Orders.{IsOrdered}
use Rattle.sign_store.specs.Readings.{choice_of}
use Rattle.sign_store.specs.Tables.{Map}

-- a stop leaves the banks as they read, and this is around
pub record IsAtRest {W : Type 0} (m : Meaning W) (world : W) (stood : Around) : Type 0 where
  pub around : m.tells world → m.around world ≡ stood
  pub settled : m.tells world → AreSettled m world

-- a bank can be written while another one counts, and would count in this generation
pub record CanFill {W : Type 0} (m : Meaning W) (world : W) (to : Bank) (stood : Around) (map : Map) (generation : ℕ)
    : Type 0 where
  pub rest : IsAtRest m world stood
  pub spare : m.tells world → IsSpare to map generation (m.seen world)

-- up to this place a live bank of this version has whole entries, which stand for this map; no entry is behind them
pub record IsWrittenTo (version : Version) (place : ℕ) (map : Map) (bank : List ℕ) : Type 0 where
  pub behind_head : 17 ≤ place
  pub long : 17 < length bank
  pub inside : place ≤ length bank
  pub entries : (behind : List ℕ)
      → entries_map version (body_of (take place bank) ++ behind) ≡ after_entries version (length behind) map behind
  pub none : entry_in version (drop place bank) ≡ None

-- what was read of a bank: the map of its entries, whole ones to their end, and the gate there
abbrev pub HasEntriesOf : Version → List ℕ → Read → Type 0
HasEntriesOf version bank read = map_in read.map ≡ entries_map version (body_of bank)

abbrev pub ReadsToEnd : Version → List ℕ → Read → Type 0
ReadsToEnd version bank read = IsWrittenTo version read.end (map_in read.map) bank

abbrev pub HasGateOf : List ℕ → Read → Type 0
HasGateOf bank read = IsGate read.gate read.end bank

-- the bank that counts, its last gate, and what its entries stand for
pub record IsMendable {W : Type 0} (m : Meaning W) (world : W) (bank : Bank) (gate : EndGate) (place : ℕ)
    (stood : Around) (map : Map) (edition : Edition) : Type 0 where
  pub rest : IsAtRest m world stood
  pub counts : m.tells world → choice_of (m.seen world) ≡ choice.Live bank edition
  pub written : m.tells world → IsWrittenTo edition.version place map (m.seen world bank)
  pub gate_is : m.tells world → IsGate gate place (m.seen world bank)

-- a bank that counts and ends at a closed gate, with its map
pub record IsOpened {W : Type 0} (m : Meaning W) (stood : Around) (map : Map) (world : W) (opened : Opened)
    : Type 0 where
  pub rest : IsAtRest m world stood
  pub stands : m.tells world → StandsAt opened.edition.version opened.bank opened.end map (m.seen world)
  pub counts : m.tells world → choice_of (m.seen world) ≡ choice.Live opened.bank opened.edition
  pub held : m.tells world → map_in opened.map ≡ map
  pub ordered : IsOrdered opened.map

-- the same of a bank of version 2, to which entries are added
pub record IsCurrent {W : Type 0} (m : Meaning W) (stood : Around) (map : Map) (world : W) (opened : Opened)
    : Type 0 where
  pub opens : IsOpened m stood map world opened
  pub second : m.tells world → opened.edition.version ≡ Two

-- a bank was filled: it counts, and ends at this place
pub record IsFilled {W : Type 0} (m : Meaning W) (world : W) (to : Bank) (place : ℕ) (stood : Around) (map : Map)
    (edition : Edition) : Type 0 where
  pub rest : IsAtRest m world stood
  pub stands : m.tells world → StandsAt edition.version to place map (m.seen world)
  pub counts : m.tells world → choice_of (m.seen world) ≡ choice.Live to edition

-- at every moment a stop leaves what one could have left before
pub record IsAsBefore {W : Type 0} (m : Meaning W) (old : W) (around : Around) (banks : Banks) : Type 0 where
  pub same : around ≡ m.around old
  pub image : IsImage m old banks

-- this bank counts, and the banks stand for this map
pub record IsCounted {W : Type 0} (m : Meaning W) (world : W) (bank : Bank) (stood : Around) (map : Map)
    (edition : Edition) : Type 0 where
  pub rest : IsAtRest m world stood
  pub counts : m.tells world → choice_of (m.seen world) ≡ choice.Live bank edition
  pub image : m.tells world → image_in (m.seen world) ≡ map

-- a bank whose entries end at this place is to be exchanged for a compact one: it is of version 1, or long
abbrev pub IsDue : Edition → ℕ → RecordMap → Type 0
IsDue edition place held = (edition.generation < 2 ^ 64 - 1)
    × ((edition.version ≡ One) ⊎ IsWorth (place + 1) (length (compact_bytes (edition.generation + 1) held) + 1))

-- where that is due, the other bank is live, in compact form; elsewhere it is the bank itself
abbrev pub Exchanges : Bank → Edition → ℕ → RecordMap → Bank → ℕ → Type 0
Exchanges bank edition place held to end =
    (IsDue edition place held × (to ≡ other_bank bank)
    × (end ≡ length (compact_bytes (edition.generation + 1) held)))
    ⊎ ((IsDue edition place held → ⊥) × (to ≡ bank) × (end ≡ place))

-- the other bank is live, with the same map, and its entries end at this place
abbrev pub IsOtherBank : Opened → ℕ → Opened → Type 0
IsOtherBank opened end after = (after.map ≡ opened.map) × (after.bank ≡ other_bank opened.bank) × (after.end ≡ end)

pub record GoesOver (opened after : Opened) : Type 0 where
  pub map : after.map ≡ opened.map
  pub exchanges : Exchanges opened.bank opened.edition opened.end opened.map after.bank after.end

-- a live bank of these bytes was read and mended, and exchanged where that is due
pub record IsReopened (bank : Bank) (edition : Edition) (bytes : List ℕ) (held : RecordMap) (to : Bank) (end : ℕ)
    : Type 0 where
  pub place : ℕ
  pub written : IsWrittenTo edition.version place (map_in held) bytes
  pub exchanges : Exchanges bank edition place held to end

-- by the bank that counted: bank A is live and has no entry where none did
abbrev pub begun_by : Choice → Banks → RecordMap → Bank → ℕ → Type 0
begun_by choice.None banks held to end = (to ≡ A) × (end ≡ 17)
begun_by (choice.Foreign bank) banks held to end = ⊥
begun_by (choice.Live bank edition) banks held to end = IsReopened bank edition (banks bank) held to end

-- which bank is live, and where its entries end, once these banks were begun
abbrev pub IsBegunOver : Banks → RecordMap → Bank → ℕ → Type 0
IsBegunOver banks held to end = begun_by (choice_of banks) banks held to end

-- the same of the bank that was opened
abbrev pub BeginsOver : Banks → Opened → Type 0
BeginsOver banks opened = IsBegunOver banks opened.map opened.bank opened.end

-- the gate at which its entries end is there
abbrev pub EndsInside : Banks → Opened → Type 0
EndsInside banks opened = opened.end < length (banks opened.bank)

-- a bank of version 2 that counts was opened, with the map that the banks stood for, and all around is as it was
abbrev pub OpensAs : {W : Type 0} → Meaning W → W → W → Opened → Type 0
OpensAs m old new = IsCurrent m (m.around old) (image_in (m.seen old)) new
