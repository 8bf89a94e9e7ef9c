-- Variant directories: each with the directory of its sources, and whether the sources are copied into it. The chapter
-- on variant directories of the SCons User Guide tells what they are for; which of them may stand beside each other is
-- this project's own.
use Rattle.std.specs.Prelude.{◌≡◌, Bool, true, false, not, ℕ, List, [], ◌∷◌, ◌++◌, ◌&&◌, ◌||◌, Option, Some, None, ⊤, IsTrue, filter, if◌then◌else◌}
use Rattle.std.specs.List.{list_any, list_all, find}
use Rattle.std.specs.Option.{option_to_list, option_map}
use Rattle.std.specs.Str.{bytes_eq}
use Rattle.scons_base.specs.Parts.{is_below, lies_in, moved_path}
use Rattle.scons_base.specs.Resolve.{spelling, IsResolved}
use Rattle.scons_base.specs.declared.fault.PathFault.{PathFault}
use Rattle.variant_dirs.specs.declared.variants.Variant.{Variant}
use Rattle.variant_dirs.specs.declared.fault.VariantFault.{VariantFault}
use Rattle.variant_dirs.specs.declared.fault.VariantFault.TheVariants.{Nested, Twice, BadName}

-- the variant directory that a path lies in
abbrev pub variant_of : List Variant → List ℕ → Option Variant
variant_of variants path = find (λ v. lies_in path v.dir) variants

-- all variant directories that a path lies in
abbrev pub variants_with : List Variant → List ℕ → List Variant
variants_with variants path = filter (λ v. lies_in path v.dir) variants

-- the path in the source directory that stands for a path in a variant directory, in its one spelling where the top
-- directory has the absolute path `top`
abbrev pub source_in : List ℕ → List ℕ → Option Variant → Option (List ℕ)
source_in top path (Some v) = option_map (spelling top) (moved_path path v.dir v.source)
source_in top path None = None

-- the source of a path, taken once: none where the path lies in no variant directory or its source would be too long
abbrev pub source_of : List Variant → List ℕ → List ℕ → Option (List ℕ)
source_of variants top path = source_in top path (variant_of variants path)

-- a path that is found is its own one spelling
abbrev pub IsSpelled : List ℕ → Option (List ℕ) → Type 0
IsSpelled top None = ⊤
IsSpelled top (Some path) = IsResolved top path

-- each of these paths is its own one spelling
abbrev pub AreSpelled : List ℕ → List (List ℕ) → Type 0
AreSpelled top [] = ⊤
AreSpelled top (path ∷ paths) = IsResolved top path × AreSpelled top paths

abbrev pub uncopied_in : List ℕ → List ℕ → Option Variant → List (List ℕ)
uncopied_in top path (Some v) = if v.duplicate then [] else option_to_list (source_in top path (Some v))
uncopied_in top path None = []

-- where a path is looked for: at itself, and then, where sources aren't copied, at its source
abbrev pub searched : List Variant → List ℕ → List ℕ → List (List ℕ)
searched variants top path = path ∷ uncopied_in top path (variant_of variants path)

-- whether this very variant directory is there
abbrev pub is_there : List Variant → List ℕ → List ℕ → Bool → Bool
is_there variants dir source duplicate =
    list_any (λ v. bytes_eq v.dir dir && (bytes_eq v.source source && same v.duplicate duplicate)) variants
  where
    same : Bool → Bool → Bool
    same true b = b
    same false b = not b

-- whether the directory stands among the variant directories
abbrev pub stands : List Variant → List ℕ → Bool
stands variants dir = list_any (λ v. bytes_eq v.dir dir) variants

-- whether two directories are the same, or one of them lies below the other
abbrev pub meet : List ℕ → List ℕ → Bool
meet a b = bytes_eq a b || (is_below a b || is_below b a)

-- whether a directory is apart from all variant directories
abbrev pub is_apart_from : List Variant → List ℕ → Bool
is_apart_from variants dir = list_all (λ v. not (meet v.dir dir)) variants

-- no two variant directories are the same or lie in each other
abbrev pub AreApart : List Variant → Type 0
AreApart [] = ⊤
AreApart (v ∷ variants) = IsTrue (list_all (λ w. not (meet v.dir w.dir)) variants) × AreApart variants

-- whether a variant directory would lie in another one, or its source in one
abbrev pub is_nested : List Variant → List ℕ → List ℕ → Bool
is_nested variants dir source =
    lies_in source dir || list_any (λ v. lies_in source v.dir || (is_below dir v.dir || is_below v.dir dir)) variants

-- why a variant directory can't be added: one that is there already can
abbrev pub add_fault : List Variant → List ℕ → List ℕ → Bool → Option VariantFault
add_fault variants dir source duplicate =
    if is_there variants dir source duplicate then None
    else (if is_nested variants dir source then Some Nested
    else (if stands variants dir then Some Twice else None))

abbrev pub added : List Variant → List ℕ → List ℕ → Bool → List Variant
added variants dir source duplicate =
    if is_there variants dir source duplicate then variants
    else variants ++ record { dir = dir; source = source; duplicate = duplicate } ∷ []

-- the fault of a name that gives no path
abbrev pub IsBadName : Option PathFault → VariantFault → Type 0
IsBadName (Some fault) e = e ≡ BadName fault
IsBadName None e = ⊥
