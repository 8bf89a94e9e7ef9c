use Rattle.std.proofs.Common.{◌≡◌, drop}
use Rattle.scons_calls.specs.Results.{along}
use Rattle.scons_calls.specs.Values.{one_text, text_values}
use Rattle.py_host.specs.Extends.{Extends}
use Rattle.scons_calls.proofs.values.text_values.Given as goal

abbrev pub invariant-loop-text : goal.invariant-loop-text
invariant-loop-text l = (along one_text (l.values.items, l.heap) (drop l.text-index l.texts) ≡ text_values l.fn.heap l.texts) × Extends l.fn.heap l.heap
