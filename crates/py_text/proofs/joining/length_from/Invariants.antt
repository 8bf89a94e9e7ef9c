use Rattle.std.proofs.Common.{◌≡◌, ◌++◌, length, map, flat_map}
use Rattle.py_text.specs.Sizes.{saturated}
use Rattle.py_text.proofs.joining.length_from.Given as goal

abbrev pub invariant-loop-part : goal.invariant-loop-part
invariant-loop-part l = l.length ≡ saturated (length (l.first ++ flat_map (λ y. l.separator ++ y) (map (λ part. part.now) l.yielded)))
