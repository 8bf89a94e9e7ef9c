-- When a call of a world in memory is refused, and what a refused write or removal leaves.
use Rattle.std.specs.Prelude.{◌≡◌, ◌≢◌, ◌⊎◌, ◌+◌, ◌<◌, ◌%◌, ◌/◌, ℕ, List, [], length, take}
use Rattle.mem_banks.specs.AsStore.{store_of}
use Rattle.mem_banks.specs.Past.{wrote}
use Rattle.world_api.specs.Banks.{Torn, Follows}
use Rattle.world_api.specs.declared.disk.Bank.{Bank}
use Rattle.world_mem.specs.AsAround.{around_of}
use Rattle.world_mem.specs.Blocked.{AreBlocked, IsInTheWay}
use Rattle.world_mem.specs.CallCounts.{Fails, count_of, verdict_of}
use Rattle.world_mem.specs.Means.{seen_in, image_in}
use Rattle.world_mem.specs.Room.{recorded, HasRoom}
use Rattle.world_mem.specs.declared.calls.Call.TheVariants.{WriteAt, MakeDir, Remove, Start}
use Rattle.world_mem.specs.declared.calls.Verdict.TheVariants.{Goes, Listed, Spent}
use Rattle.world_mem.specs.declared.world.MemWorld.{MemWorld}

-- there is something to write, and room for it
abbrev pub CanWrite : MemWorld → ℕ → List ℕ → Type 0
CanWrite world place bytes = (bytes ≢ []) × HasRoom world place (length bytes)

-- there is something to write, and no room for it
abbrev pub LacksRoom : MemWorld → ℕ → List ℕ → Type 0
LacksRoom world place bytes = (bytes ≢ []) × (HasRoom world place (length bytes) → ⊥)

-- a start is refused: it is listed to fail, or a target can't be a file
abbrev pub CantStart : MemWorld → List (List ℕ) → Type 0
CantStart world targets = Fails Start world.calls ⊎ AreBlocked (around_of world.state) targets

-- a directory isn't made: the call is listed to fail, or a file is in the way
abbrev pub CantMake : MemWorld → List ℕ → Type 0
CantMake world path = Fails MakeDir world.calls ⊎ IsInTheWay (around_of world.state) path

-- a write of so many bytes at a place of a bank was cut short
abbrev pub IsCutAt : ℕ → ℕ → Bank → MemWorld → MemWorld → Type 0
IsCutAt place count bank old new = Torn place count (seen_in old bank) (seen_in new bank)

-- each image of a bank is one of before, of which such a write may have torn a range
abbrev pub IsTornAt : ℕ → ℕ → Bank → MemWorld → MemWorld → Type 0
IsTornAt place count bank old new = Follows (Torn place count) (image_in old bank) (image_in new bank)

-- A write puts down all its bytes; where it is listed to fail, their first half, and a stop may tear the whole range;
-- and else nothing. Only the bytes asked for are counted as written.
pub record Writes (bank : Bank) (place : ℕ) (bytes : List ℕ) (old new : MemWorld) : Type 0 where
  pub all : verdict_of WriteAt old.calls ≡ Goes → CanWrite old place bytes
      → store_of new.banks ≡ wrote bank place bytes (length bytes) (store_of old.banks)
  pub half : verdict_of WriteAt old.calls ≡ Listed → CanWrite old place bytes
      → store_of new.banks ≡ wrote bank place (take (length bytes / 2) bytes) (length bytes) (store_of old.banks)
  pub count : verdict_of WriteAt old.calls ≢ Spent → CanWrite old place bytes
      → new.banks.written ≡ old.banks.written + length bytes
  pub none : (verdict_of WriteAt old.calls ≡ Spent) ⊎ (CanWrite old place bytes → ⊥) → new.banks ≡ old.banks

-- a removal that is listed to fail, by an odd number, and has room: the file is gone nevertheless
pub record IsGoneAnyway (world : MemWorld) : Type 0 where
  pub listed : verdict_of Remove world.calls ≡ Listed
  pub odd : count_of Remove world.calls % 2 ≡ 1
  pub room : recorded world < 262144
