-- What a store keeps over calls that write no bank, for the crates above.
use Rattle.std.proofs.Common.{◌≡◌, ℕ, sym, subst}
use Rattle.world_api.specs.declared.disk.Bank.{Bank}
use Rattle.world_api.specs.Meaning.{Meaning, IsImage, BanksKept}
use Rattle.sign_store.specs.declared.store.Store.{Store}
use Rattle.sign_store.specs.Ends.{KeepsAt}
use Rattle.sign_store.specs.Stores.{IsKept, IsStoredIn, KeepsBanks, map_of}
use Rattle.sign_store.specs.Tables.{Map}

pub keeps_on : {W : Type 0} (m : Meaning W) (old new : W) (bank : Bank) (place : ℕ) (map : Map) → (m.tells new → m.tells old) → (m.tells new → BanksKept m old new) → KeepsAt m old bank place map → KeepsAt m new bank place map
keeps_on m old new bank place map back kept keeps = record {
  each = λ told banks image. keeps.each (back told) banks (λ b. (kept told b).no_more (banks b) (image b));
}

-- a call that leaves map and bank
pub kept_as : {W : Type 0} (m : Meaning W) (world : W) (old new : Store) → KeepsBanks old new → map_of new ≡ map_of old → IsKept m world old → IsKept m world new
kept_as m world old new banks map kept =
    subst (λ (bank : Bank). KeepsAt m world bank new.end (map_of new)) (sym banks.bank)
    (subst (λ (place : ℕ). KeepsAt m world old.bank place (map_of new)) (sym banks.end)
    (subst (λ (map : Map). KeepsAt m world old.bank old.end map) (sym map) kept))

-- what is kept in each image stands in the banks as they read
pub stands_in : {W : Type 0} (m : Meaning W) (world : W) (store : Store) → (m.tells world → IsImage m world (m.seen world)) → IsKept m world store → m.tells world → IsStoredIn (m.seen world) store
stands_in m world store reads kept told = record { place = (kept.each told (m.seen world) (reads told)).ends.inside }
