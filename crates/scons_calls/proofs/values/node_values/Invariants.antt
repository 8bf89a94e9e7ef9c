use Rattle.std.proofs.Common.{◌≡◌, drop}
use Rattle.scons_calls.specs.Results.{along}
use Rattle.scons_calls.specs.Values.{push_made, given_value, node_values}
use Rattle.py_host.specs.Extends.{Extends}
use Rattle.scons_calls.proofs.values.node_values.Given as goal

abbrev pub invariant-loop-node : goal.invariant-loop-node
invariant-loop-node l = (along (λ m a. push_made m.0 (given_value m.1 m.2 a)) (l.values.items, l.objects, l.heap) (drop l.node-index l.nodes) ≡ node_values l.fn.objects l.fn.heap l.nodes) × Extends l.fn.heap l.heap
