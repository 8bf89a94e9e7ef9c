use Rattle.std.proofs.Common.{◌≡◌, ◌++◌, drop}
use Rattle.py_builtins.specs.Rows.{zip_texts}
use Rattle.py_builtins.proofs.zips.zip_texts.Given as goal

abbrev pub invariant-values : goal.invariant-values
invariant-values l = l.texts.items ++ zip_texts l.heap l.count (drop l.value-index l.values) ≡ zip_texts l.heap l.count l.values
