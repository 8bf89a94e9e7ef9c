-- The targets declared so far.
use Rattle.std.specs.Prelude.{◌≡◌, ◌<◌, ◌||◌, ℕ, List, [], Bool, length, unwrap_or, fold, true, String, string_bytes}
use Rattle.std.specs.List.{list_any}
use Rattle.std.specs.Str.{bytes_eq}
use Rattle.indexmap.specs.IndexSet.{insert_key}
use Rattle.scons_base.specs.Normal.{is_top, is_root}
use Rattle.scons_base.specs.Parts.{dir_of, lies_in}
use Rattle.scons_decls.specs.Tables.{Table, value_at, put}

-- each once, by their directories
abbrev pub Declared : Type 0
Declared = Table (List (List ℕ))

-- those that stand directly in a directory
abbrev pub targets_in : Declared → List ℕ → List (List ℕ)
targets_in made dir = unwrap_or (value_at made dir) []

abbrev pub is_made : Declared → List ℕ → Bool
is_made made path = list_any (bytes_eq path) (targets_in made (dir_of path))

-- whether a target was declared below a path: a directory that has targets is the path, or lies below it
abbrev pub has_below : Declared → List ℕ → Bool
has_below made path = list_any (λ row. lies_in row.0 path) made

abbrev pub with_target : Declared → List ℕ → Declared
with_target made path = put made (dir_of path) (insert_key bytes_eq (targets_in made (dir_of path)) path)

abbrev pub with_targets : Declared → List (List ℕ) → Declared
with_targets made paths = fold with_target made paths

-- whether a directory stands in a list of names
abbrev pub is_named : {Z : Type 0} → List (String Z) → List ℕ → Bool
is_named names dir = list_any (λ name. bytes_eq dir (string_bytes name)) names

-- the names are those of the directories below which targets were declared
abbrev pub AreAbove : {Z : Type 0} → List (String Z) → Declared → Type 0
AreAbove names made = (dir : List ℕ) → 0 < length dir → is_named names dir ≡ has_below made dir

-- with each directory stand those that it lies in
abbrev pub AreClosed : {Z : Type 0} → List (String Z) → Type 0
AreClosed names =
    (dir above : List ℕ) → 0 < length dir → 0 < length above
    → is_named names dir ≡ true → lies_in dir above ≡ true → is_named names above ≡ true

-- a directory and those that it lies in are named besides
abbrev pub NamesAbove : {Y Z : Type 0} → List (String Y) → List ℕ → List (String Z) → Type 0
NamesAbove before dir names = (above : List ℕ) → 0 < length above → is_named names above ≡ (is_named before above || lies_in dir above)

-- the directories that no other is above
abbrev pub is_end : List ℕ → Bool
is_end dir = is_top dir || is_root dir
