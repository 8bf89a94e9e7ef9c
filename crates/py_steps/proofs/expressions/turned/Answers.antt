use Rattle.std.proofs.Common.{◌∙◌, ◌∷◌, ap, sym}
use Rattle.std.specs.Prelude.{not}
use Rattle.py_heap.specs.declared.value.Value.TheVariants as v
use Rattle.py_heap.specs.Heap.{truth_of}
use Rattle.py_meaning.specs.States.{goes_on}
use Rattle.py_state.specs.Stores.{state_of}
use Rattle.py_steps.specs.Desks.{tasks_of, values_of, below}
use Rattle.py_steps.specs.Todos.{left}
use Rattle.py_steps.specs.Leads.{same}
use Rattle.py_steps.proofs.Going.{in_place}
use Rattle.py_steps.proofs.expressions.turned.Goals as goal

pub returns : goal.returns
returns c =
    λ f. same (sym (in_place c.args.desk.now c.take-operand.new.self c.give.new.self _ (state_of c.args.machine.now f) c.take-operand.ensures.left c.in_ok-give.ensures
    ∙ ap (λ b. left (tasks_of c.args.desk.now) (v.Bool (not b) ∷ below (values_of c.args.desk.now)) (goes_on (state_of c.args.machine.now f))) (c.truth.ensures ∙ ap (truth_of c.args.machine.now.heap) c.take-operand.ensures.value)))
