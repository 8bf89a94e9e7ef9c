-- Where the entries of a bank end, and what the banks stand for there.
use Rattle.std.specs.Prelude.{◌≡◌, ◌≢◌, ◌≤◌, ◌<◌, ◌^◌, ◌⊎◌, ℕ, List, [], ◌∷◌, ◌++◌, length, take, slice_index, Some, Result, OnOk}
use Rattle.world_api.specs.declared.disk.Bank.{Bank}
use Rattle.world_api.specs.declared.disk.Bank.TheVariants.{A, B}
use Rattle.world_api.specs.Around.{Around}
use Rattle.world_api.specs.Banks.{Banks, Holds, Torn}
use Rattle.world_api.specs.Meaning.{Meaning, IsImage, IsSettled, Throughout}
use Rattle.deciders.specs.declared.version.Version.{Version}
use Rattle.deciders.specs.declared.version.Version.TheVariants.{Two}
use Rattle.sign_store.specs.declared.head.Choice.TheVariants as choice
use Rattle.sign_store.specs.Heads.{head_of, chosen, edition_of}
use Rattle.sign_store.specs.Images.{after_entries, entries_map, body_of, image_of}
use Rattle.sign_store.specs.Tables.{Map}

-- up to this place a bank of this version has a head and whole entries, which stand for this map whatever is behind
-- them; the gate there isn't open
pub record EndsAt (version : Version) (place : ℕ) (map : Map) (bank : List ℕ) : Type 0 where
  pub behind_head : 17 ≤ place
  pub inside : place < length bank
  pub closed : slice_index bank place ≢ 1
  pub entries : (behind : List ℕ)
      → entries_map version (body_of (take place bank) ++ behind) ≡ after_entries version (length behind) map behind

-- a bank has a byte at this place then
abbrev pub ReachesPlace : {W T E : Type 0} → Meaning W → Bank → ℕ → W → Result T E → Type 0
ReachesPlace m bank place world result = m.tells world → OnOk result (place < length (m.seen world bank))

abbrev pub image_in : Banks → Map
image_in banks = image_of (banks A) (banks B)

-- the banks read as the map that they stood for
abbrev pub ReadsAsBefore : {W : Type 0} → Meaning W → W → W → Type 0
ReadsAsBefore m old new = image_in (m.seen new) ≡ image_in (m.seen old)

-- this bank counts and is of this version, its entries end at this place, and the banks stand for this map
pub record StandsAt (version : Version) (bank : Bank) (place : ℕ) (map : Map) (banks : Banks) : Type 0 where
  pub generation : ℕ
  pub counts : chosen (head_of (banks A)) (head_of (banks B)) ≡ choice.Live bank (edition_of version generation)
  pub ends : EndsAt version place map (banks bank)
  pub image : image_in banks ≡ map

-- whatever a stop leaves now stands for this map, in entries of this bank, of version 2, that end at this place
pub record KeepsAt {W : Type 0} (m : Meaning W) (world : W) (bank : Bank) (place : ℕ) (map : Map) : Type 0 where
  pub each : m.tells world → (banks : Banks) → IsImage m world banks → StandsAt Two bank place map banks

-- the banks stand for the one map or for the other, and all around is as it was
pub record IsEither (stood : Around) (before after : Map) (around : Around) (banks : Banks) : Type 0 where
  pub same : around ≡ stood
  pub map : (image_in banks ≡ before) ⊎ (image_in banks ≡ after)

-- one bank is as a stop could have left it, with the written range torn; the other as a stop could have left it
pub record IsTornFrom {W : Type 0} (m : Meaning W) (old : W) (bank : Bank) (place len : ℕ)
    (around : Around) (banks : Banks) : Type 0 where
  pub same : around ≡ m.around old
  pub others : (other : Bank) → other ≢ bank → m.image old other (banks other)
  pub was : List ℕ
  pub stood : m.image old bank was
  pub torn : Torn place len was (banks bank)

-- these bytes were written at a place of a bank
abbrev pub WritesAt : {W T E : Type 0} → Meaning W → Bank → ℕ → List ℕ → W → W → Result T E → Type 0
WritesAt m bank place bytes old new result =
    m.tells new → OnOk result (Holds (m.seen old bank) place bytes (m.seen new bank))

-- so many bytes are written there: at every moment that bank is as it could have been, with the range torn
abbrev pub IsTornThroughout : {W : Type 0} → Meaning W → Bank → ℕ → ℕ → W → W → Type 0
IsTornThroughout m bank place len old new = Throughout m old new (IsTornFrom m old bank place len)

-- the same banks but for this one
abbrev pub with_bank : Bank → List ℕ → Banks → Banks
with_bank A bytes banks A = bytes
with_bank A bytes banks B = banks B
with_bank B bytes banks A = banks A
with_bank B bytes banks B = bytes

-- the banks stand for this map, and all around is as it was
pub record StandsFor (stood : Around) (map : Map) (around : Around) (banks : Banks) : Type 0 where
  pub same : around ≡ stood
  pub image : image_in banks ≡ map

-- the banks stand for this map, or are as a stop could have left them before; all around is as it was
pub record IsLeftOr {W : Type 0} (m : Meaning W) (old : W) (map : Map) (around : Around) (banks : Banks) : Type 0 where
  pub same : around ≡ m.around old
  pub left : IsImage m old banks ⊎ (image_in banks ≡ map)

-- a stop now leaves the banks as they read
abbrev pub AreSettled : {W : Type 0} → Meaning W → W → Type 0
AreSettled m world = (bank : Bank) → IsSettled m world bank
