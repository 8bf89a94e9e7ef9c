-- Which records there are.
use Rattle.std.specs.Prelude.{ℕ, Bool, true, not, IsTrue, ◌==◌, ◌&&◌, List, [], ◌∷◌, ◌++◌, length, map}
use Rattle.std.specs.List.{list_any, list_all}
use Rattle.std.specs.Option.{option_map_or}
use Rattle.std.specs.Str.{bytes_eq}
use Rattle.world_api.specs.declared.hash.Hash.{Hash}
use Rattle.deciders.specs.declared.recorded.Dep.{Dep}
use Rattle.deciders.specs.declared.recorded.Rec.{Rec}
use Rattle.deciders.specs.Digests.{hash_of, is_same}

-- each path is another one than those before it
abbrev pub named_once : List (List ℕ) → List (List ℕ) → Bool
named_once before [] = true
named_once before (path ∷ paths) = not (list_any (bytes_eq path) before) && named_once (before ++ path ∷ []) paths

abbrev pub name_of : Dep → List ℕ
name_of dep = dep.name

-- a dependency's digest, where it has one, was made by this function
abbrev pub is_by : Hash → Dep → Bool
is_by hash dep = option_map_or (λ digest. is_same (hash_of digest) hash) dep.digest true

-- a record has a target, names no target and no dependency twice, and all its digests were made by its function
abbrev pub is_valid : Rec → Bool
is_valid rec = not (length rec.targets == 0)
    && (named_once [] rec.targets && (named_once [] (map name_of rec.deps) && list_all (is_by rec.hash) rec.deps))

abbrev pub IsValid : Rec → Type 0
IsValid rec = IsTrue (is_valid rec)
