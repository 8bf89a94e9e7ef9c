-- Each function goes down by the calls that may still be open, and for the same number by its place in the chain of calls.
use Rattle.std.proofs.Common.{◌+◌, ◌*◌, [], map}
use Rattle.py_tree.specs.Tree.{trees, line_tree}
use Rattle.py_heap.specs.declared.value.Value.TheVariants as v
use Rattle.py_host.specs.Calls.{arguments_of, given_of}
use Rattle.py_meaning.specs.Jobs.{a_value, exec_all, reply}
use Rattle.py_meaning.specs.Plans.{first}
use Rattle.py_meaning.specs.Calls.{plan_perform}
use Rattle.py_meaning.specs.Evaluates.{plan}
use Rattle.py_state.specs.Stores.{state_of}
use Rattle.py_steps.specs.Leads.{LeadsOn, left_at}
use Rattle.py_steps.specs.Todos.{left}
use Rattle.py_eval.proofs.calls.+calls.Given as goal

abbrev pub decreases-call_function : goal.decreases-call_function
decreases-call_function g l = 8 * l.calls

abbrev pub decreases-call_object : goal.decreases-call_object
decreases-call_object g l = 8 * l.calls

abbrev pub decreases-call : goal.decreases-call
decreases-call g l = 8 * l.calls + 1

abbrev pub decreases-call_task : goal.decreases-call_task
decreases-call_task g l = 8 * l.calls + 2

abbrev pub decreases-step : goal.decreases-step
decreases-step g l = 8 * l.calls + 3

abbrev pub decreases-run_body : goal.decreases-run_body
decreases-run_body g l = 8 * l.calls + 4

abbrev pub decreases-run_script : goal.decreases-run_script
decreases-run_script g l = 8 * l.calls + 5

abbrev pub decreases-run_inner : goal.decreases-run_inner
decreases-run_inner g l = 8 * l.calls + 6

-- what follows from what is left now, followed at the beginning, and what the host keeps is kept
abbrev pub invariant-run_body-tasks : goal.invariant-run_body-tasks
invariant-run_body-tasks g l = record {
  keeps : g.H.Host.meaning.keeps l.fn.host l.host;
  leads : LeadsOn g.H.Host.meaning l.calls (first (exec_all (trees (map line_tree l.lines))) (state_of l.fn.machine l.fn.frame) (left [] [])) l.fn.host (left_at l.desk l.machine l.frame) l.host;
}

-- the same of the reply to the call
abbrev pub invariant-call_object-scripts : goal.invariant-call_object-scripts
invariant-call_object-scripts g l = record {
  keeps : g.H.Host.meaning.keeps l.fn.host l.host;
  leads : LeadsOn g.H.Host.meaning l.inside (plan_perform l.line (a_value (v.Object l.fn.object)) (arguments_of l.fn.args) (state_of l.fn.machine l.frame)) l.fn.host (plan (reply l.line (given_of l.reply)) (state_of l.machine l.frame)) l.host;
}
