use Rattle.std.proofs.Common.{◌≡◌, drop}
use Rattle.scons_calls.specs.Results.{along}
use Rattle.scons_calls.specs.Values.{push_made, pair_value, pair_values}
use Rattle.py_host.specs.Extends.{Extends}
use Rattle.scons_calls.proofs.variable_values.pair_values.Given as goal

abbrev pub invariant-loop-name : goal.invariant-loop-name
invariant-loop-name l = (along (λ m a. push_made m.0 (pair_value m.1 m.2 a)) (l.values.items, l.objects, l.heap) (drop l.name-index l.pairs) ≡ pair_values l.fn.objects l.fn.heap l.pairs) × Extends l.fn.heap l.heap
