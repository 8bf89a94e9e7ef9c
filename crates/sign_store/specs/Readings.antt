-- What is read of two banks, or why they aren't read.
use Rattle.std.specs.Prelude.{◌≡◌, ◌≢◌, ◌≤◌, ◌<◌, ◌^◌, ◌⊎◌, ℕ, List, ◌++◌, length, take, drop, None}
use Rattle.world_api.specs.declared.disk.Bank.{Bank}
use Rattle.world_api.specs.declared.disk.Bank.TheVariants.{A, B}
use Rattle.world_api.specs.Banks.{Banks}
use Rattle.deciders.specs.declared.version.Version.{Version}
use Rattle.sign_store.specs.declared.head.Choice.{Choice}
use Rattle.sign_store.specs.declared.head.Choice.TheVariants as choice
use Rattle.sign_store.specs.declared.refusals.StoreRefusal.{StoreRefusal}
use Rattle.sign_store.specs.declared.refusals.StoreRefusal.TheVariants as refusal
use Rattle.sign_store.specs.Heads.{head_of, chosen}
use Rattle.sign_store.specs.Images.{entry_in, after_entries}
use Rattle.sign_store.specs.Tables.{Map}

-- the bank that counts
abbrev pub choice_of : Banks → Choice
choice_of banks = chosen (head_of (banks A)) (head_of (banks B))

-- neither bank is too large
pub record AreSmall (banks : Banks) : Type 0 where
  pub a : length (banks A) ≤ 2 ^ 40
  pub b : length (banks B) ≤ 2 ^ 40

-- the first bank that is too large has this many bytes
abbrev pub IsLarge : Banks → ℕ → Type 0
IsLarge banks size =
    ((length (banks A) ≡ size) × (2 ^ 40 < size))
    ⊎ ((length (banks A) ≤ 2 ^ 40) × (length (banks B) ≡ size) × (2 ^ 40 < size))

-- neither is too large, and none is live with another mark
pub record AreReadable (banks : Banks) : Type 0 where
  pub small : AreSmall banks
  pub known : (bank : Bank) → choice_of banks ≢ choice.Foreign bank

-- when each refusal comes; a fault and want of memory come by the outside
abbrev pub IsRefusal : Banks → StoreRefusal → Type 0
IsRefusal banks refusal.Fault = Unit {0}
IsRefusal banks (refusal.Foreign bank) = AreSmall banks × (choice_of banks ≡ choice.Foreign bank)
IsRefusal banks (refusal.Large size) = IsLarge banks size
IsRefusal banks refusal.Memory = Unit {0}

-- a refusal that the bytes have no part in
abbrev pub IsOutside : StoreRefusal → Type 0
IsOutside refusal.Fault = Unit {0}
IsOutside (refusal.Foreign bank) = ⊥
IsOutside (refusal.Large size) = ⊥
IsOutside refusal.Memory = Unit {0}

-- so many bytes of what stands behind a head are whole entries, which lead from the one map to the other whatever is
-- behind them; what is behind them is no entry
pub record IsReadTo (version : Version) (len : ℕ) (from map : Map) (body : List ℕ) : Type 0 where
  pub reads : (behind : List ℕ)
      → after_entries version (length (take len body ++ behind)) from (take len body ++ behind)
      ≡ after_entries version (length behind) map behind
  pub ends : entry_in version (drop len body) ≡ None
