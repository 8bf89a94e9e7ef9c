-- What a world answers of what stands around.
use Rattle.std.specs.Prelude.{◌≡◌, ◌≢◌, ◌↔◌, ℕ, List, length, Option, Some, IsSome, Contains, if◌then◌else◌}
use Rattle.std.specs.Prelude.{AllPairs}
use Rattle.std.specs.Option.{is_some, option_map}
use Rattle.scons_base.specs.Parts.{dir_of}
use Rattle.world_api.specs.declared.refusal.ReadRefusal.{ReadRefusal}
use Rattle.world_api.specs.declared.refusal.ReadRefusal.TheVariants.{Fault, TooLarge, Memory}
use Rattle.world_api.specs.declared.world.Kind.{Kind}
use Rattle.world_api.specs.declared.world.Kind.TheVariants.{Absent, File, Dir}
use Rattle.world_api.specs.Act.{Content}
use Rattle.world_api.specs.Around.{Around}

-- a refusal for its size names the size that the file has
abbrev pub IsOver : Content → ReadRefusal → Type 0
IsOver content Fault = Unit {0}
IsOver content (TooLarge size) = (bytes : List ℕ) × (content ≡ Some bytes) × (length bytes ≡ size)
IsOver content Memory = Unit {0}

-- a file, a directory or nothing
abbrev pub kind_of : Around → List ℕ → Kind
kind_of around path =
    if is_some (around.tree path) then File else (if around.dirs path then Dir else Absent)

-- when a file last changed
abbrev pub stamp_of : Around → List ℕ → Option ℕ
stamp_of around path = option_map (λ bytes. around.stamps path) (around.tree path)

-- the files that stand directly in a directory, each once
pub record IsListing (around : Around) (dir : List ℕ) (paths : List (List ℕ)) : Type 0 where
  pub each : (path : List ℕ) → Contains paths path ↔ (IsSome (around.tree path) × (dir_of path ≡ dir))
  pub once : AllPairs (λ one other. one ≢ other) paths
