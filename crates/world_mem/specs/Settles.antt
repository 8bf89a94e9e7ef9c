-- What an ending settles, slot by slot.
use Rattle.std.specs.Prelude.{◌≡◌, ◌⊎◌, ◌<◌, ℕ, List, Some, IsSome, IsTrue, Contains, length, map}
use Rattle.std.specs.List.{list_any, slice_index_or}
use Rattle.std.specs.Str.{bytes_eq}
use Rattle.world_api.specs.Act.{Content, Given}
use Rattle.world_mem.specs.InSlots.{slot_at, file_of, content_of, stamp_at}
use Rattle.world_mem.specs.declared.slots.File.{File}
use Rattle.world_mem.specs.declared.slots.Slots.{Slots}

-- each of these paths has a slot
abbrev pub HavePlaces : List (List ℕ) → Slots → Type 0
HavePlaces paths slots = (k : ℕ) (d : List ℕ) → k < length paths → IsSome (slot_at slots (slice_index_or paths k d))

-- each target that has a slot holds what was made for it
abbrev pub HoldMade : Given → List (List ℕ) → Slots → Slots → Type 0
HoldMade made targets old new = (makes : List ℕ → Content) → made ≡ map (λ target. (target, makes target)) targets
    → (path : List ℕ) → Contains targets path → IsSome (slot_at old path) → content_of (slot_at new path) ≡ makes path

-- each file at one of these paths has this stamp
abbrev pub AreStamped : ℕ → List (List ℕ) → Slots → Type 0
AreStamped stamp targets slots = (path : List ℕ) → Contains targets path → IsSome (content_of (slot_at slots path))
    → stamp_at (slot_at slots path) ≡ stamp

-- what a file holds it held before, or it has been met
abbrev pub HeldOrMet : List (List ℕ) → Slots → Slots → Type 0
HeldOrMet met old new = (path bytes : List ℕ) → content_of (slot_at new path) ≡ Some bytes
    → (content_of (slot_at old path) ≡ Some bytes) ⊎ IsTrue (list_any (bytes_eq bytes) met)

-- a file whose name was its path still has its path as its name
abbrev pub StillNamed : Slots → Slots → Type 0
StillNamed old new = (path : List ℕ) (file : File) → (file_of (slot_at old path) ≡ Some file → file.name ≡ path)
    → file_of (slot_at new path) ≡ Some file → file.name ≡ path
