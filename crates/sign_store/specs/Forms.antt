-- A bank that is written while another one counts, and the form that it gets.
use Rattle.std.specs.Prelude.{◌≡◌, ◌≢◌, ◌≤◌, ◌<◌, ◌⊎◌, ℕ, List, [], ◌∷◌, ◌++◌, length, drop, slice_index}
use Rattle.world_api.specs.declared.disk.Bank.{Bank}
use Rattle.world_api.specs.Banks.{Banks}
use Rattle.deciders.specs.declared.version.Version.{Version}
use Rattle.deciders.specs.declared.version.Version.TheVariants.{Two}
use Rattle.sign_store.specs.declared.head.Head.TheVariants.{Short, Closed, Live}
use Rattle.sign_store.specs.declared.head.Choice.TheVariants as choice
use Rattle.sign_store.specs.Heads.{head_of, edition_of}
use Rattle.sign_store.specs.Images.{after_entries}
use Rattle.sign_store.specs.Readings.{choice_of}
use Rattle.sign_store.specs.Ends.{image_in, with_bank}
use Rattle.sign_store.specs.Tables.{Map, nothing}

abbrev pub IsBlank : List ℕ → Type 0
IsBlank bank = (head_of bank ≡ Short) ⊎ (head_of bank ≡ Closed)

-- the banks stand for this map, and would if this bank were blank; with version 2 it would count in this generation
pub record IsSpare (to : Bank) (map : Map) (generation : ℕ) (banks : Banks) : Type 0 where
  pub now : image_in banks ≡ map
  pub blank : (bytes : List ℕ) → IsBlank bytes → image_in (with_bank to bytes banks) ≡ map
  pub newer : (bytes : List ℕ) → head_of bytes ≡ Live (edition_of Two generation)
      → choice_of (with_bank to bytes banks) ≡ choice.Live to (edition_of Two generation)

-- the gate is there, and isn't open
pub record IsShut (bank : List ℕ) : Type 0 where
  pub there : 0 < length bank
  pub closed : slice_index bank 0 ≢ 1

-- whole entries of this version lead from the one map to the other, whatever is behind them
pub record Leads (version : Version) (bytes : List ℕ) (from map : Map) : Type 0 where
  pub on : (behind : List ℕ)
      → after_entries version (length (bytes ++ behind)) from (bytes ++ behind)
      ≡ after_entries version (length behind) map behind

-- what stands behind the gate of a bank of this generation and this map: 16 bytes of a head, entries, and a gate that
-- is closed
pub record IsForm (generation : ℕ) (map : Map) (form : List ℕ) : Type 0 where
  pub front : List ℕ
  pub is : form ≡ front ++ 0 ∷ []
  pub long : 16 ≤ length front
  pub head : (behind : List ℕ) → head_of (1 ∷ (front ++ (0 ∷ behind))) ≡ Live (edition_of Two generation)
  pub leads : Leads Two (drop 16 front) nothing map
