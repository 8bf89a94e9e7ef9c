-- The directories as they are kept: as the targets of a job.
use Rattle.std.specs.Prelude.{ℕ, Bool, true, false, List, [], ◌∷◌, ◌||◌}
use Rattle.std.specs.List.{list_any}
use Rattle.std.specs.Str.{bytes_eq}
use Rattle.scons_base.specs.Normal.{is_top, is_root}
use Rattle.world_mem.specs.InSlots.{slot_at, holds_live}
use Rattle.world_mem.specs.declared.dirs.Dirs.{Dirs}

abbrev is_nothing : List ℕ → Bool
is_nothing [] = true
is_nothing (b ∷ bs) = false

-- the top directory, the root, and the empty text in front of it
abbrev pub is_always : List ℕ → Bool
is_always path = (is_top path || is_root path) || is_nothing path

abbrev pub is_dir : Dirs → List ℕ → Bool
is_dir dirs path = is_always path || holds_live (slot_at dirs.slots path)

-- a list of paths has a path
abbrev pub is_in : List (List ℕ) → List ℕ → Bool
is_in paths path = list_any (bytes_eq path) paths
