use Rattle.std.proofs.Common.{◌≡◌, take}
use Rattle.py_heap.proofs.dict.Dict.copy.Given as goal

abbrev pub invariant-places : goal.invariant-places
invariant-places l = l.copy ≡ take l.place l.self
