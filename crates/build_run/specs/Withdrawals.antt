-- Before a job starts nothing is recorded of what it makes.
use Rattle.std.specs.Prelude.{◌≡◌, ℕ, true, List, None}
use Rattle.world_api.specs.Banks.{Banks}
use Rattle.world_api.specs.Meaning.{Meaning, IsImage}
use Rattle.sign_store.specs.Ends.{image_in}
use Rattle.sign_store.specs.Stores.{map_of}
use Rattle.sign_store.specs.Tables.{Map, is_among}
use Rattle.sign_store.specs.declared.store.Store.{Store}

-- none of these paths has a record
abbrev pub HasNone : Map → List (List ℕ) → Type 0
HasNone map paths = (path : List ℕ) → is_among paths path ≡ true → map path ≡ None

-- none has one in the store, nor in any banks that a stop may leave now
pub record AreWithdrawn {W : Type 0} (m : Meaning W) (world : W) (store : Store) (paths : List (List ℕ)) : Type 0 where
  pub map : HasNone (map_of store) paths
  pub images : m.tells world → (banks : Banks) → IsImage m world banks → HasNone (image_in banks) paths
