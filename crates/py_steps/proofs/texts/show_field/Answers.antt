use Rattle.std.proofs.Common.{◌∙◌, ap, sym, subst, Err}
use Rattle.py_meaning.specs.Joined.{shown_field}
use Rattle.py_state.specs.Stores.{state_of}
use Rattle.py_steps.specs.Desks.{tasks_of, values_of, below}
use Rattle.py_steps.specs.Todos.{left}
use Rattle.py_steps.specs.Leads.{Steps, left_with, left_at}
use Rattle.py_steps.specs.declared.task.Task.TheVariants as task
use Rattle.py_steps.proofs.Going.{made_comes, made_stops, in_place}
use Rattle.py_steps.proofs.Stepping.{steps_value}
use Rattle.py_steps.proofs.texts.show_field.Goals as goal

pub returns-in_ok-give-in-Ok : goal.returns-in_ok-give-in-Ok
returns-in_ok-give-in-Ok c =
    made_comes c.args.line (state_of c.args.machine.now c.args.frame.now) _ (c.in-Ok.text, c.shown.new.heap, c.shown.new.budget) (below (values_of c.args.desk.now)) (left (tasks_of c.args.desk.now)) _
    (ap (shown_field c.args.machine.now.heap c.args.machine.now.budget) (sym c.take-value.ensures.value) ∙ c.in-Ok.ensures.ok)
    (in_place c.args.desk.now c.take-value.new.self c.give.new.self c.in-Ok.text _ c.take-value.ensures.left c.in_ok-give-in-Ok.ensures)

pub returns-in-Err : goal.returns-in-Err
returns-in-Err c =
    subst (λ stop. Steps {X = Unit {0}} (left_with (task.Show c.args.line) c.args.desk.now c.args.machine.now c.args.frame.now) (Err stop) (left_at c.take-value.new.self (record c.args.machine.now { heap = c.shown.new.heap; budget = c.shown.new.budget }) c.args.frame.now)) (sym c.value_fault.ensures.stop)
    (steps_value (Unit {0}) _ _ c.args.line (state_of c.args.machine.now c.args.frame.now) c.in-Err.fault (λ p. made_stops c.args.line (state_of c.args.machine.now c.args.frame.now) _ c.in-Err.fault (below (values_of c.args.desk.now)) (left (tasks_of c.args.desk.now))
    (ap (shown_field c.args.machine.now.heap c.args.machine.now.budget) (sym c.take-value.ensures.value) ∙ c.in-Err.ensures.fault p)))
