use Rattle.std.proofs.Common.{◌≡◌, drop}
use Rattle.py_state.specs.Arguments.{all_set}
use Rattle.py_state.proofs.arguments.all_set.Given as goal

abbrev pub invariant-places : goal.invariant-places
invariant-places l = all_set l.names (drop l.place l.named) ≡ all_set l.names l.named
