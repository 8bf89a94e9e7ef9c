-- What a call changes, slot by slot.
use Rattle.std.specs.Prelude.{◌≡◌, ◌↔◌, ℕ, List, Some, None, IsSome, Contains, if◌then◌else◌}
use Rattle.std.specs.Str.{bytes_eq}
use Rattle.scons_base.specs.Parts.{dir_of}
use Rattle.world_api.specs.Act.{Given}
use Rattle.world_mem.specs.InSlots.{slot_at, file_of, content_of, mark_of, marked, written, settled}
use Rattle.world_mem.specs.declared.slots.File.{File}
use Rattle.world_mem.specs.declared.slots.Slot.{Slot}
use Rattle.world_mem.specs.declared.slots.Slots.{Slots}

-- the slots of all other paths are as they were
abbrev pub OthersStay : List (List ℕ) → Slots → Slots → Type 0
OthersStay paths old new = (path : List ℕ) → (Contains paths path → ⊥) → slot_at new path ≡ slot_at old path

-- no file is at one of these paths
abbrev pub HoldNone : List (List ℕ) → Slots → Type 0
HoldNone paths slots = (path : List ℕ) → Contains paths path → content_of (slot_at slots path) ≡ None

-- each slot that there was is as it was
abbrev pub SlotsStay : Slots → Slots → Type 0
SlotsStay old new = (path : List ℕ) (slot : Slot) → slot_at old path ≡ Some slot → slot_at new path ≡ Some slot

-- no slot is kept for a job for which it wasn't kept before
abbrev pub NoneMarked : Slots → Slots → Type 0
NoneMarked old new = (path : List ℕ) (id : ℕ) → mark_of (slot_at new path) ≡ Some id
    → mark_of (slot_at old path) ≡ Some id

-- a path has this slot, and the others are as they were
abbrev pub IsPut : List ℕ → Slot → Slots → Slots → Type 0
IsPut path slot old new = (other : List ℕ)
    → slot_at new other ≡ (if bytes_eq path other then Some slot else slot_at old other)

-- each of these paths that has a slot has this one
abbrev pub AreMarked : List (List ℕ) → Slot → Slots → Slots → Type 0
AreMarked paths slot old new = (path : List ℕ) → slot_at new path ≡ marked paths slot path (slot_at old path)

-- a path that has a slot has this one
abbrev pub IsWritten : List ℕ → Slot → Slots → Slots → Type 0
IsWritten path slot old new = (other : List ℕ) → slot_at new other ≡ written path slot other (slot_at old other)

-- each of these paths that has a slot holds the content that is listed for it
abbrev pub AreSettled : ℕ → Given → Slots → Slots → Type 0
AreSettled stamp given old new = (path : List ℕ) → slot_at new path ≡ settled stamp given path (slot_at old path)

-- each file has its path as its name
abbrev pub AreNamed : Slots → Type 0
AreNamed slots = (path : List ℕ) (file : File) → file_of (slot_at slots path) ≡ Some file → file.name ≡ path

-- these are the files directly in a directory
abbrev pub AreFilesIn : Slots → List ℕ → List (List ℕ) → Type 0
AreFilesIn slots dir paths = (path : List ℕ)
    → Contains paths path ↔ (IsSome (content_of (slot_at slots path)) × (dir_of path ≡ dir))
