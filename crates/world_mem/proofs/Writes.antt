-- What a write or a sync of a bank tells.
use Rattle.std.proofs.Common.{◌≡◌, ◌≢◌, ◌∙◌, ◌≤◌, ◌++◌, ◌∷◌, [], sym, ap, subst, ℕ, List, length}
use Rattle.mem_banks.specs.AsStore.{store_of}
use Rattle.mem_banks.specs.Past.{Store, bytes_in, spliced, wrote, synced, back, IsImage}
use Rattle.mem_banks.proofs.Images.{back_wrote, image_wrote, image_other, wrote_here, wrote_other, image_synced, images_synced, synced_bytes}
use Rattle.mem_banks.proofs.Splices.{splice_torn}
use Rattle.world_api.specs.Banks.{Torn, Follows}
use Rattle.world_api.specs.Meaning.{BankKept, BanksKept, IsSettled, Recalls, Throughout, AtEither}
use Rattle.world_api.specs.declared.disk.Bank.{Bank}
use Rattle.world_mem.specs.AsCourse.{course_of}
use Rattle.world_mem.specs.Means.{world_meaning}
use Rattle.world_mem.specs.declared.past.Turn.TheVariants.{Disk}
use Rattle.world_mem.specs.declared.world.MemWorld.{MemWorld}
use Rattle.world_mem.specs.AsAround.{around_of}
use Rattle.world_mem.proofs.Passing.{Turns, turn_disk, turn_recalls}

module _ (old new : MemWorld) (bank : Bank) (place : ℕ) (xs : List ℕ) (count : ℕ) (is : store_of new.banks ≡ wrote bank place xs count (store_of old.banks)) (within : place ≤ length (bytes_in (store_of old.banks) bank)) where
  pub write_bytes : bytes_in (store_of new.banks) bank ≡ spliced place xs (bytes_in (store_of old.banks) bank)
  write_bytes = ap (λ (s : Store). bytes_in s bank) is ∙ wrote_here bank place xs count (store_of old.banks)

  pub write_cut : length xs ≤ count → Torn place count (bytes_in (store_of old.banks) bank) (bytes_in (store_of new.banks) bank)
  write_cut small = subst (λ bytes. Torn place count (bytes_in (store_of old.banks) bank) bytes) (sym write_bytes) (splice_torn (bytes_in (store_of old.banks) bank) xs place within count small)

  pub write_image : Follows (Torn place count) (world_meaning.image old bank) (world_meaning.image new bank)
  write_image c left = image_wrote bank place xs count (store_of old.banks) c within (subst (λ (s : Store). IsImage s bank c) is left)

  pub write_other : (other : Bank) → other ≢ bank → BankKept world_meaning other old new
  write_other other apart = record {
    same = ap (λ (s : Store). bytes_in s other) is ∙ wrote_other bank place xs count (store_of old.banks) other apart;
    no_more = λ c left. image_other bank place xs count (store_of old.banks) other c within apart (subst (λ (s : Store). IsImage s other c) is left);
  }

  pub write_back : back (store_of new.banks) ≡ store_of old.banks
  write_back = ap back is ∙ back_wrote bank place xs count (store_of old.banks) within

module _ (old new : MemWorld) (bank : Bank) (is : store_of new.banks ≡ synced bank (store_of old.banks)) where
  pub sync_settled : IsSettled world_meaning new bank
  sync_settled c left =
      image_synced bank (store_of old.banks) c (subst (λ (s : Store). IsImage s bank c) is left)
      ∙ sym (ap (λ (s : Store). bytes_in s bank) is ∙ synced_bytes bank (store_of old.banks) bank)

  pub sync_banks : BanksKept world_meaning old new
  sync_banks other = record {
    same = ap (λ (s : Store). bytes_in s other) is ∙ synced_bytes bank (store_of old.banks) other;
    no_more = λ c left. images_synced bank (store_of old.banks) other c old.banks.whole (subst (λ (s : Store). IsImage s other c) is left);
  }

  pub sync_back : back (store_of new.banks) ≡ store_of old.banks
  sync_back = ap back is

-- One turn of the disk.
module _ (old new : MemWorld) (turns : new.turns.items ≡ old.turns.items ++ Disk ∷ []) (horizon : new.horizon ≡ old.horizon) (since : old.horizon ≤ length old.turns.items) (state : new.state ≡ old.state) where
  disk_turned : back (store_of new.banks) ≡ store_of old.banks → Turns Disk old new
  disk_turned store = record {
    turns = turns;
    horizon = horizon;
    since = since;
    machine = λ i. record { course = course_of (state i); store = store i };
  }

  pub write_recalls : (bank : Bank) (place : ℕ) (xs : List ℕ) (count : ℕ) → store_of new.banks ≡ wrote bank place xs count (store_of old.banks) → place ≤ length (bytes_in (store_of old.banks) bank) → Recalls world_meaning old new
  write_recalls bank place xs count is within = turn_recalls Disk old new (disk_turned (write_back old new bank place xs count is within))

  pub write_time : (bank : Bank) (place : ℕ) (xs : List ℕ) (count : ℕ) → store_of new.banks ≡ wrote bank place xs count (store_of old.banks) → place ≤ length (bytes_in (store_of old.banks) bank) → Throughout world_meaning old new (AtEither world_meaning old new)
  write_time bank place xs count is within = turn_disk Disk old new (disk_turned (write_back old new bank place xs count is within)) (ap around_of state)

  pub sync_recalls : (bank : Bank) → store_of new.banks ≡ synced bank (store_of old.banks) → Recalls world_meaning old new
  sync_recalls bank is = turn_recalls Disk old new (disk_turned (sync_back old new bank is))

  pub sync_time : (bank : Bank) → store_of new.banks ≡ synced bank (store_of old.banks) → Throughout world_meaning old new (AtEither world_meaning old new)
  sync_time bank is = turn_disk Disk old new (disk_turned (sync_back old new bank is)) (ap around_of state)

-- A write, as its banks tell it.
module _ (old new : Store) (bank : Bank) (place : ℕ) (xs : List ℕ) (count : ℕ) (is : new ≡ wrote bank place xs count old) (within : place ≤ length (bytes_in old bank)) where
  pub store_cut : length xs ≤ count → Torn place count (bytes_in old bank) (bytes_in new bank)
  store_cut small =
      subst (λ bytes. Torn place count (bytes_in old bank) bytes) (sym (ap (λ (s : Store). bytes_in s bank) is ∙ wrote_here bank place xs count old))
      (splice_torn (bytes_in old bank) xs place within count small)

  pub store_image : Follows (Torn place count) (λ bytes. IsImage old bank bytes) (λ bytes. IsImage new bank bytes)
  store_image c left = image_wrote bank place xs count old c within (subst (λ (s : Store). IsImage s bank c) is left)
