use Rattle.std.proofs.Common.{◌≡◌, drop}
use Rattle.py_compare.specs.Equality.{place_from}
use Rattle.py_compare.proofs.equal.place_of.Given as goal

abbrev pub invariant-items : goal.invariant-items
invariant-items l = place_from l.place l.heap l.budget (drop l.place l.items) l.value ≡ place_from 0 l.heap l.initial.budget l.items l.value
