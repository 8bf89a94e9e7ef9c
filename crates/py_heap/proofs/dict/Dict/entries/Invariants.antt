use Rattle.std.proofs.Common.{◌≡◌, take}
use Rattle.py_heap.proofs.dict.Dict.entries.Given as goal

abbrev pub invariant-places : goal.invariant-places
invariant-places l = l.entries.items ≡ take l.place l.self
