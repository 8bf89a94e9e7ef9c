-- Records in the order of their puts, each with its spelling, and what so many of them stand for.
use Rattle.std.specs.Prelude.{◌≡◌, ◌≤◌, ℕ, Bool, true, false, List, length, Option, None, Some, slice_get, nat_lt, ◌==◌, if◌then◌else◌}
use Rattle.std.specs.Option.{option_and_then, option_map_or}
use Rattle.deciders.specs.declared.recorded.Rec.{Rec}
use Rattle.deciders.specs.declared.version.Version.TheVariants.{Two}
use Rattle.deciders.specs.Spelling.{Spells, spelling}
use Rattle.sign_store.specs.declared.entries.Change.{Change}
use Rattle.sign_store.specs.declared.entries.Change.TheVariants.{Put, Withdraw}
use Rattle.sign_store.specs.declared.map.RecordMap.{RecordMap}
use Rattle.sign_store.specs.Tables.{Map, number_in, is_among}

-- a record that an entry can put
pub record IsWhole (rec : Rec) : Type 0 where
  pub spells : Spells Two (spelling Two rec) rec
  pub fits : length (spelling Two rec) ≤ 4294967294

-- the change of an entry
abbrev pub IsWholeChange : Change → Type 0
IsWholeChange (Put rec) = IsWhole rec
IsWholeChange (Withdraw paths) = Unit {0}

-- a path has the last of the records that name it, or none
pub record AreOrdered (numbers : List ℕ → Option ℕ) (records : List Rec) : Type 0 where
  pub named : (path : List ℕ) (number : ℕ) (rec : Rec) → numbers path ≡ Some number
      → slice_get records number ≡ Some rec → is_among rec.targets path ≡ true
  pub last : (path : List ℕ) (number other : ℕ) (rec : Rec) → numbers path ≡ Some number
      → slice_get records other ≡ Some rec → is_among rec.targets path ≡ true → other ≤ number
  pub whole : (number : ℕ) (rec : Rec) → slice_get records number ≡ Some rec → IsWhole rec

pub record IsOrdered (held : RecordMap) : Type 0 where
  pub records : AreOrdered (number_in held.table) held.records.items

-- these paths have this number, or none, and all others what they had
pub record SetsNumbers (paths : List (List ℕ)) (value : Option ℕ) (old new : List ℕ → Option ℕ) : Type 0 where
  pub at : (path : List ℕ) → new path ≡ (if is_among paths path then value else old path)

-- the same of what two maps have of these paths
abbrev pub SetsEach : List (List ℕ) → Option ℕ → RecordMap → RecordMap → Type 0
SetsEach paths value old new = SetsNumbers paths value (number_in old.table) (number_in new.table)

-- the targets of a record have this number
abbrev pub GetsNumber : Rec → ℕ → RecordMap → RecordMap → Type 0
GetsNumber rec number old new = SetsEach rec.targets (Some number) old new

-- a path has the record of this number
abbrev pub is_held : RecordMap → ℕ → List ℕ → Bool
is_held held number path = option_map_or (λ other. other == number) (number_in held.table path) false

-- what the records up to this number stand for
abbrev pub map_up_to : ℕ → RecordMap → Map
map_up_to n held path =
    option_and_then (λ number. if nat_lt number n then slice_get held.records.items number else None)
    (number_in held.table path)
