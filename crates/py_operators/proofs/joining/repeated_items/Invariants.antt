use Rattle.std.proofs.Common.{◌≡◌}
use Rattle.std.specs.List.{repeat}
use Rattle.py_operators.proofs.joining.repeated_items.Given as goal

abbrev pub invariant-turns : goal.invariant-turns
invariant-turns l = l.made ≡ repeat l.counter l.items
