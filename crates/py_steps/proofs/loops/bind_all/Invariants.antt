use Rattle.std.proofs.Common.{◌≡◌, drop}
use Rattle.py_meaning.specs.Statements.{with_all_bound}
use Rattle.py_state.specs.Stores.{state_of}
use Rattle.py_steps.proofs.loops.bind_all.Given as goal

abbrev pub invariant-names : goal.invariant-names
invariant-names l = with_all_bound (state_of l.machine l.frame) (drop l.place l.names) (drop l.place l.values) ≡ with_all_bound (state_of l.initial.machine l.initial.frame) l.names l.values
