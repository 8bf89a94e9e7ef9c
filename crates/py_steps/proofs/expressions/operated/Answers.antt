use Rattle.std.proofs.Common.{◌∙◌, ap, sym, subst, Err}
use Rattle.py_operators.specs.Binary.{binary_of}
use Rattle.py_state.specs.Stores.{state_of}
use Rattle.py_steps.specs.Desks.{tasks_of, values_of, top, below}
use Rattle.py_steps.specs.Todos.{left}
use Rattle.py_steps.specs.Leads.{Steps, left_with, left_at}
use Rattle.py_steps.specs.declared.task.Task.TheVariants as task
use Rattle.py_steps.proofs.Going.{made_comes, made_stops, in_place_of_two}
use Rattle.py_steps.proofs.Stepping.{steps_value}
use Rattle.py_steps.proofs.expressions.operated.Goals as goal

pub returns-in_ok-give-in-Ok : goal.returns-in_ok-give-in-Ok
returns-in_ok-give-in-Ok c =
    let left_one = c.take-left.ensures.value ∙ ap (λ st. top st.values) c.take-right.ensures.left in
    made_comes c.args.line (state_of c.args.machine.now c.args.frame.now) _ (c.in-Ok.value, c.binary.new.heap, c.binary.new.budget) (below (below (values_of c.args.desk.now))) (left (tasks_of c.args.desk.now)) _
    (ap (λ x. binary_of c.args.op c.args.machine.now.heap c.args.machine.now.budget x (top (values_of c.args.desk.now))) (sym left_one)
    ∙ ap (binary_of c.args.op c.args.machine.now.heap c.args.machine.now.budget c.take-left.result) (sym c.take-right.ensures.value) ∙ c.in-Ok.ensures.ok)
    (in_place_of_two c.args.desk.now c.take-right.new.self c.take-left.new.self c.give.new.self c.in-Ok.value _ c.take-right.ensures.left c.take-left.ensures.left c.in_ok-give-in-Ok.ensures)

pub returns-in-Err : goal.returns-in-Err
returns-in-Err c =
    let left_one = c.take-left.ensures.value ∙ ap (λ st. top st.values) c.take-right.ensures.left in
    subst (λ stop. Steps {X = Unit {0}} (left_with (task.Binary c.args.line c.args.op) c.args.desk.now c.args.machine.now c.args.frame.now) (Err stop) (left_at c.take-left.new.self (record c.args.machine.now { heap = c.binary.new.heap; budget = c.binary.new.budget }) c.args.frame.now)) (sym c.value_fault.ensures.stop)
    (steps_value (Unit {0}) _ _ c.args.line (state_of c.args.machine.now c.args.frame.now) c.in-Err.fault (λ p. made_stops c.args.line (state_of c.args.machine.now c.args.frame.now) _ c.in-Err.fault (below (below (values_of c.args.desk.now))) (left (tasks_of c.args.desk.now))
    (ap (λ x. binary_of c.args.op c.args.machine.now.heap c.args.machine.now.budget x (top (values_of c.args.desk.now))) (sym left_one)
    ∙ ap (binary_of c.args.op c.args.machine.now.heap c.args.machine.now.budget c.take-left.result) (sym c.take-right.ensures.value) ∙ c.in-Err.ensures.fault p)))
