use Rattle.std.proofs.Common.{◌≡◌, ◌++◌, drop, map}
use Rattle.py_methods.proofs.many.copies_of.Given as goal

abbrev pub invariant-texts : goal.invariant-texts
invariant-texts l = l.made.items ++ map (λ t. t.now) (drop l.text-index l.texts) ≡ map (λ t. t.now) l.texts
