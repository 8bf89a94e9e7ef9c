use Rattle.std.proofs.Common.{◌≡◌, drop}
use Rattle.scons_calls.specs.Results.{along}
use Rattle.scons_calls.specs.Values.{push_made, item_value, item_values}
use Rattle.py_host.specs.Extends.{Extends}
use Rattle.scons_calls.proofs.variable_values.item_values.Given as goal

abbrev pub invariant-loop-item : goal.invariant-loop-item
invariant-loop-item l = (along (λ m a. push_made m.0 (item_value m.1 m.2 a)) (l.values.items, l.objects, l.heap) (drop l.item-index l.items) ≡ item_values l.fn.objects l.fn.heap l.items) × Extends l.fn.heap l.heap
