-- What stands in a heap stays while a host is asked.
use Rattle.std.specs.Prelude.{◌≡◌, ℕ, List, ◌++◌}
use Rattle.py_heap.specs.declared.value.Value.{Value}
use Rattle.py_heap.specs.Heap.{Objects}

-- a heap that has all that one had, under the same numbers and unchanged, and maybe more. The texts by which objects show
-- may change.
pub record Extends (old new : Objects) : Type 0 where
  pub texts : (more : List (List ℕ)) × (new.texts ≡ old.texts ++ more)
  pub lists : (more : List (List Value)) × (new.lists ≡ old.lists ++ more)
  pub tuples : (more : List (List Value)) × (new.tuples ≡ old.tuples ++ more)
  pub dicts : (more : _) × (new.dicts ≡ old.dicts ++ more)
