-- The records of copies in a map.
use Rattle.std.specs.Prelude.{◌≡◌, ℕ, List, true, Some, Contains}
use Rattle.deciders.specs.declared.recorded.Rec.{Rec}
use Rattle.world_api.specs.declared.job.Work.TheVariants.{Copy}
use Rattle.sign_store.specs.Tables.{Map, is_among}

-- a record of a copy, which a target of it has
pub record IsCopyIn (map : Map) (rec : Rec) : Type 0 where
  pub copies : rec.work ≡ Copy
  pub path : List ℕ
  pub among : is_among rec.targets path ≡ true
  pub has : map path ≡ Some rec

-- these are the records of copies, and no others
pub record AreCopiesOf (map : Map) (recs : List Rec) : Type 0 where
  pub each : (rec : Rec) → Contains recs rec → IsCopyIn map rec
  pub all : (rec : Rec) → IsCopyIn map rec → Contains recs rec
