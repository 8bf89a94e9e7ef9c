use Rattle.std.proofs.Common.{◌≡◌, drop}
use Rattle.py_meaning.specs.States.{State, with_frame}
use Rattle.py_meaning.specs.Expressions.{with_inners}
use Rattle.py_steps.proofs.comprehensions.bind_inner_all.Given as goal

abbrev pub invariant-names : goal.invariant-names
invariant-names l = (s : State) → with_inners (with_frame s l.frame) (drop l.place l.names) (drop l.place l.values) ≡ with_inners (with_frame s l.initial.frame) l.names l.values
