-- The tree as it is kept: a slot for each path that was ever a file or a target.
use Rattle.std.specs.Prelude.{ℕ, Bool, true, false, IsTrue, List, [], ◌∷◌, Option, Some, None, if◌then◌else◌}
use Rattle.std.specs.BTreeMap.{get_by}
use Rattle.std.specs.Cmp.Lexicographic.{slice_cmp}
use Rattle.std.specs.Option.{option_map, is_some}
use Rattle.std.specs.Ordering.{nat_cmp}
use Rattle.std.specs.Str.{bytes_eq}
use Rattle.scons_base.specs.Parts.{dir_of}
use Rattle.world_api.specs.Act.{Content, Given}
use Rattle.world_mem.specs.declared.slots.File.{File}
use Rattle.world_mem.specs.declared.slots.Slot.{Slot}
use Rattle.world_mem.specs.declared.slots.Slot.TheVariants.{Running, Settled}
use Rattle.world_mem.specs.declared.slots.Slots.{Slots}

abbrev pub slot_at : Slots → List ℕ → Option Slot
slot_at slots path = get_by (λ key. slice_cmp nat_cmp path key.items) slots.slots

abbrev settled_file : Slot → Option File
settled_file (Running id) = None
settled_file (Settled file) = file

abbrev pub file_of : Option Slot → Option File
file_of None = None
file_of (Some slot) = settled_file slot

abbrev pub content_of : Option Slot → Content
content_of slot = option_map (λ file. file.bytes) (file_of slot)

abbrev pub stamp_in : Option File → ℕ
stamp_in None = 0
stamp_in (Some file) = file.stamp

-- when a file last changed
abbrev pub stamp_at : Option Slot → ℕ
stamp_at slot = stamp_in (file_of slot)

-- the file of this content
abbrev pub file_with : ℕ → List ℕ → Content → Option File
file_with stamp path content = option_map (λ bytes. record { name = path; bytes = bytes; stamp = stamp }) content

-- a file stands, or a target is to
abbrev pub is_live : Slot → Bool
is_live (Running id) = true
is_live (Settled file) = is_some file

abbrev pub holds_live : Option Slot → Bool
holds_live None = false
holds_live (Some slot) = is_live slot

abbrev pub Stands : Slots → List ℕ → Type 0
Stands slots path = IsTrue (holds_live (slot_at slots path))

abbrev mark : Slot → Option ℕ
mark (Running id) = Some id
mark (Settled file) = None

-- the running job that a slot is kept for
abbrev pub mark_of : Option Slot → Option ℕ
mark_of None = None
mark_of (Some slot) = mark slot

-- a slot whose file was taken away
abbrev pub emptied : Option Slot → Option Slot
emptied None = None
emptied (Some (Running id)) = Some (Running id)
emptied (Some (Settled file)) = Some (Settled None)

-- what a slot is after the file at a path was taken away
abbrev pub taken : List ℕ → List ℕ → Option Slot → Option Slot
taken at path old = if bytes_eq at path then emptied old else old

-- what a slot is after a write at a path, where one stands there
abbrev pub written : List ℕ → Slot → List ℕ → Option Slot → Option Slot
written at slot path old = if bytes_eq at path then option_map (λ _. slot) old else old

-- after the same write at each of these paths
abbrev pub marked : List (List ℕ) → Slot → List ℕ → Option Slot → Option Slot
marked [] slot path old = old
marked (at ∷ rest) slot path old = marked rest slot path (written at slot path old)

-- after a write of each of these contents; what is listed first stands
abbrev pub settled : ℕ → Given → List ℕ → Option Slot → Option Slot
settled stamp [] path old = old
settled stamp (entry ∷ rest) path old =
    written entry.0 (Settled (file_with stamp entry.0 entry.1)) path (settled stamp rest path old)

-- the path of a file that lies directly in a directory
abbrev pub name_in : List ℕ → Option File → List (List ℕ)
name_in dir None = []
name_in dir (Some file) = if bytes_eq (dir_of file.name) dir then file.name ∷ [] else []

-- what a list of files has at a path
abbrev pub file_at : List (List ℕ × List ℕ) → List ℕ → Content
file_at [] path = None
file_at (file ∷ rest) path = if bytes_eq file.0 path then Some file.1 else file_at rest path
