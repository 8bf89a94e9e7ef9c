use Rattle.std.proofs.Common.{◌≡◌, ◌≤◌, length}
use Rattle.indexmap.specs.IndexMap.{spare}
use Rattle.py_heap.specs.Dicts.{put_all}
use Rattle.py_heap.proofs.dict.put_within.Given as goal

abbrev pub invariant-entries : goal.invariant-entries
invariant-entries l = (put_all l.map.entries l.key-iterator.rest.items ≡ put_all l.initial.map.entries l.fn.more.items) × (length l.key-iterator.rest.items ≤ spare l.map)
