use Rattle.std.proofs.Common.{◌≡◌, ◌+◌, length, flat_map}
use Rattle.py_text.specs.Quoting.{escaped}
use Rattle.py_text.specs.Sizes.{saturated}
use Rattle.py_text.proofs.quoting.quoted_length.Given as goal

abbrev pub invariant-loop-c : goal.invariant-loop-c
invariant-loop-c l = l.length ≡ saturated (2 + length (flat_map (escaped l.quote) l.yielded))
