use Rattle.std.proofs.Common.{◌≡◌, [], drop}
use Rattle.py_meaning.specs.Arguments.{bound_onto}
use Rattle.py_state.proofs.arguments.bound.Given as goal

abbrev pub invariant-parameters : goal.invariant-parameters
invariant-parameters l = bound_onto l.names (drop l.place l.parameters) (drop l.place l.positional) l.args.named ≡ bound_onto [] l.parameters l.positional l.args.named
