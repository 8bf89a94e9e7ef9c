use Rattle.std.proofs.Common.{◌≡◌, ◌+◌, drop}
use Rattle.py_compare.specs.Iterables.{total_length}
use Rattle.py_builtins.specs.Rows.{zip_texts}
use Rattle.py_builtins.proofs.zips.bytes_of.Given as goal

abbrev pub invariant-values : goal.invariant-values
invariant-values l = l.bytes + total_length (zip_texts l.heap l.count (drop l.value-index l.values)) ≡ total_length (zip_texts l.heap l.count l.values)
