-- The files of a tree as a list.
use Rattle.std.specs.Prelude.{◌≡◌, ◌↔◌, ℕ, List, [], ◌∷◌, Option, Some, None, Contains, AllPairs}
use Rattle.std.specs.Cmp.Lexicographic.{slice_cmp}
use Rattle.std.specs.Ordering.{nat_cmp}
use Rattle.std.specs.declared.cmp.Ordering.TheVariants.{Less}
use Rattle.world_api.specs.Around.{Tree}
use Rattle.world_mem.specs.declared.slots.File.{File}

-- each file with its bytes, in byte order of their paths
pub record AreFiles (tree : Tree) (files : List (List ℕ × List ℕ)) : Type 0 where
  pub each : (path bytes : List ℕ) → Contains files (path, bytes) ↔ (tree path ≡ Some bytes)
  pub sorted : AllPairs (λ one other. slice_cmp nat_cmp one.0 other.0 ≡ Less) files

-- the path and the bytes of a file
abbrev pub file_in : Option File → List (List ℕ × List ℕ)
file_in None = []
file_in (Some file) = (file.name, file.bytes) ∷ []
