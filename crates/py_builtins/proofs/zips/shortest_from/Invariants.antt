use Rattle.std.proofs.Common.{◌≡◌, drop}
use Rattle.py_builtins.specs.Rows.{shortest_from}
use Rattle.py_builtins.proofs.zips.shortest_from.Given as goal

abbrev pub invariant-values : goal.invariant-values
invariant-values l = shortest_from l.heap l.shortest (drop l.value-index l.values) ≡ shortest_from l.heap l.count l.values
