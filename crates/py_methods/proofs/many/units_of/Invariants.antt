use Rattle.std.proofs.Common.{◌≡◌, ◌+◌, drop, map, length}
use Rattle.py_compare.specs.Iterables.{total_length}
use Rattle.py_methods.proofs.many.units_of.Given as goal

abbrev pub invariant-texts : goal.invariant-texts
invariant-texts l = l.units + total_length (map (λ t. t.now) (drop l.text-index l.texts)) ≡ length l.texts + total_length (map (λ t. t.now) l.texts)
