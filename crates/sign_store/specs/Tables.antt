-- A table of paths, each with the number of its record where it has one.
use Rattle.std.specs.Prelude.{◌≡◌, ℕ, Bool, true, false, List, Option, None, if◌then◌else◌}
use Rattle.std.specs.Option.{option_and_then, option_map, is_some}
use Rattle.std.specs.List.{list_any}
use Rattle.std.specs.Str.{bytes_eq}
use Rattle.std.specs.declared.hash.FoldHasher.{FoldHasher}
use Rattle.std.specs.declared.hash.BuildHasherDefault.{BuildHasherDefault}
use Rattle.indexmap.specs.IndexMap.{IndexMap, get}
use Rattle.deciders.specs.declared.recorded.Rec.{Rec}

abbrev pub Table : Type 0
Table = IndexMap (List ℕ) (Option ℕ) (BuildHasherDefault FoldHasher)

-- the place of a path, if it was met
abbrev pub place_in : Table → List ℕ → Option (Option ℕ)
place_in table path = get bytes_eq table path

-- the number of a path's record
abbrev pub number_in : Table → List ℕ → Option ℕ
number_in table path = option_and_then (λ number. number) (place_in table path)

-- a path is one of these
abbrev pub is_among : List (List ℕ) → List ℕ → Bool
is_among paths path = list_any (λ other. bytes_eq other path) paths

abbrev pub overwritten : Bool → Option ℕ → Option (Option ℕ) → Option (Option ℕ)
overwritten true value place = option_map (λ _. value) place
overwritten false value place = place

-- what a map from paths to records stands for
abbrev pub Map : Type 0
Map = List ℕ → Option Rec

abbrev pub nothing : Map
nothing path = None

-- these paths have this record, or none, and all others what they had
abbrev pub with_each : List (List ℕ) → Option Rec → Map → Map
with_each paths rec map path = if is_among paths path then rec else map path

-- a path has a place
abbrev pub HasPlaceOf : Table → List ℕ → Type 0
HasPlaceOf table path = is_some (place_in table path) ≡ true

-- what has a place keeps one
abbrev pub KeepsPlaces : Table → Table → Type 0
KeepsPlaces old new = (path : List ℕ) → HasPlaceOf old path → HasPlaceOf new path

-- a path that has a place has this value there, and all else is as before
abbrev pub WritesOne : List ℕ → Option ℕ → Table → Table → Type 0
WritesOne path value old new = (other : List ℕ)
    → place_in new other ≡ overwritten (bytes_eq path other) value (place_in old other)

-- each of these paths that has a place has this value there, and all else is as before
pub record WritesEach (paths : List (List ℕ)) (value : Option ℕ) (old new : Table) : Type 0 where
  pub at : (path : List ℕ) → place_in new path ≡ overwritten (is_among paths path) value (place_in old path)

-- each of these paths has a place
pub record Enters (paths : List (List ℕ)) (table : Table) : Type 0 where
  pub at : (path : List ℕ) → is_among paths path ≡ true → HasPlaceOf table path

-- a path has a record
abbrev pub has_any : Map → List (List ℕ) → Bool
has_any map paths = list_any (λ path. is_some (map path)) paths
