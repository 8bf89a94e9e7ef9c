-- What a table and its records stand for: a map from paths to records.
use Rattle.std.specs.Prelude.{◌≡◌, ℕ, List, None, Some, slice_get}
use Rattle.std.specs.Option.{option_and_then}
use Rattle.deciders.specs.declared.recorded.Rec.{Rec}
use Rattle.sign_store.specs.declared.map.RecordMap.{RecordMap}
use Rattle.sign_store.specs.Tables.{Map, number_in, with_each, Enters}

abbrev pub map_in : RecordMap → Map
map_in held path = option_and_then (slice_get held.records.items) (number_in held.table path)

-- the targets of a record have it now, and all other paths what they had
abbrev pub Puts : Rec → RecordMap → RecordMap → Type 0
Puts rec old new = map_in new ≡ with_each rec.targets (Some rec) (map_in old)

-- these paths have none now, and all others what they had
abbrev pub Withdraws : List (List ℕ) → RecordMap → RecordMap → Type 0
Withdraws paths old new = map_in new ≡ with_each paths None (map_in old)

-- the record of this number, with a place for each of its targets
pub record HasRecord (held : RecordMap) (rec : Rec) (number : ℕ) : Type 0 where
  pub record_at : slice_get held.records.items number ≡ Some rec
  pub places : Enters rec.targets held.table
