use Rattle.std.proofs.Common.{◌≡◌, ◌≢◌, ◌∙◌, List, [], ◌∷◌, map, length, Option, Some, None, Result, Ok, Err, refl, sym, subst, ap}
use Rattle.std.proofs.lemmas.Result.{err_from_is_err_and}
use Rattle.py_tree.specs.Tree.{trees, line_tree, script_tree, argument_tree}
use Rattle.py_heap.specs.declared.value.Value.{Value}
use Rattle.py_heap.specs.declared.value.Value.TheVariants as v
use Rattle.py_methods.specs.declared.name.Name.{Name}
use Rattle.py_methods.specs.Names.{takes as method_takes}
use Rattle.py_builtins.specs.Takes.{takes}
use Rattle.py_host.specs.declared.reply.Reply.{Reply}
use Rattle.py_host.specs.Calls.{arguments_of, given_of}
use Rattle.py_meaning.specs.declared.fault.EvalKind.TheVariants as kind
use Rattle.py_meaning.specs.declared.fault.Called.TheVariants as named
use Rattle.py_meaning.specs.Arguments.{arguments_by, bound}
use Rattle.py_meaning.specs.States.{Function, Frame, Out, goes_on, gives, returns, with_globals, script_frame, function_frame}
use Rattle.py_meaning.specs.Jobs.{a_value, a_method, exec_all, inner_script, reply, call}
use Rattle.py_meaning.specs.Plans.{Plan, first, goes}
use Rattle.py_meaning.specs.Calls.{begun, plan_perform}
use Rattle.py_meaning.specs.Evaluates.{Follows, plan}
use Rattle.py_state.specs.Stores.{Store, store_of, state_of, state_by, function_of}
use Rattle.py_state.specs.declared.function.Function as code
use Rattle.py_state.specs.declared.stop.Stop.{Stop}
use Rattle.py_state.specs.declared.stop.Stop.TheVariants as stop
use Rattle.py_steps.specs.Desks.{Stacks, tasks_of, values_of, top, below, above, under}
use Rattle.py_steps.specs.Leads.{left_at, left_with}
use Rattle.py_steps.specs.Todos.{callee, gives_on, left}
use Rattle.py_steps.specs.declared.statements.Flow.{Flow}
use Rattle.py_steps.specs.declared.task.Task.TheVariants as task
use Rattle.py_eval.specs.Bodies.{Halts, GivesOrHalts, LeadsOrHalts, FlowsOrHalts, EndsOrHalts}
use Rattle.py_eval.proofs.Beginning.{plain_refused, plain_too_deep, plain_gives, object_too_deep, object_gives, not_callable, no_function, not_bound, function_too_deep, function_gives, body_as}
use Rattle.py_eval.proofs.Giving.{gives_alone}
use Rattle.py_eval.proofs.Halting.{handed, whole, halts_after, halts_by, flows_by}
use Rattle.py_eval.proofs.Over.{ends_over, inner_stops, not_replied, no_further, further_paid, further_unpaid, script_begins, lines_as, value_replied, names_replied, end_replied, script_replied}
use Rattle.py_eval.proofs.Tasks.{begins, task_taken, body_over, body_ended, body_returns, body_halts, call_gives, call_halts, call_unpaid, call_as, call_in_place}
use Rattle.py_eval.proofs.calls.+calls.Goals as goal

pub run_script-returns-in-Ok-clause-over : goal.run_script-returns-in-Ok-clause-over
run_script-returns-in-Ok-clause-over g t c =
    let m = g.H.Host.meaning in
    let ts = trees (map line_tree c.args.lines.now) in
    ends_over m c.args.calls (plan (exec_all ts) (state_by (store_of c.args.machine.now) (script_frame c.args.number))) c.args.host.now c.run_body.new.host (store_of c.run_body.new.machine) c.run_body.new.frame c.in-Ok.field-0
    (subst (λ (f : Frame). EndsOrHalts m c.args.calls (plan (exec_all ts) (state_by (store_of c.args.machine.now) f)) c.args.host.now (Ok c.in-Ok.field-0) (state_of c.run_body.new.machine c.run_body.new.frame) c.run_body.new.host) c.of_script-frame.ensures c.in-Ok.ensures.ends)

pub run_body-tasks-init : goal.run_body-tasks-init
run_body-tasks-init g t c = record {
  keeps = g.met.H.Host.kept.same c.args.host.now;
  leads = begins g.H.Host.meaning c.args.calls c.push.new.self c.args.lines (state_of c.args.machine.now c.args.frame.now) c.args.host.now (c.in_ok-push.ensures ∙ ap (λ (st : Stacks). record st { tasks = task.Lines c.args.lines ∷ st.tasks }) c.new-desk.ensures);
}

pub run_body-returns-in_default-clause-ends : goal.run_body-returns-in_default-clause-ends
run_body-returns-in_default-clause-ends g t c =
    let j = exec_all (trees (map line_tree c.args.lines.now)) in
    let s0 = state_of c.args.machine.now c.args.frame.now in
    let s = state_of c.tasks.machine c.tasks.frame in
    body_over g.H.Host.meaning c.args.calls j s0 (goes_on s) c.args.host.now c.tasks.host
    (c.tasks.invariant.leads (Ok (goes_on s)) c.tasks.host (body_ended g.H.Host.meaning c.args.calls c.tasks.desk s c.tasks.host c.in_default.ensures.0))

pub run_body-returns-in_err-step-clause-ends : goal.run_body-returns-in_err-step-clause-ends
run_body-returns-in_err-step-clause-ends g t c =
    let m = g.H.Host.meaning in
    let p = err_from_is_err_and c.from_residual-in_err-step.result c.from_residual-in_err-step.ensures.1 in
    let j = exec_all (trees (map line_tree c.args.lines.now)) in
    let s0 = state_of c.args.machine.now c.args.frame.now in
    let s = state_of c.step.new.machine c.step.new.frame in
    let before = left_at c.tasks.desk c.tasks.machine c.tasks.frame in
    let x = c.in_err-step.field-0.0 in
    handed (λ (r : Result (Option Value) Stop). EndsOrHalts m c.args.calls (plan j s0) c.args.host.now r s c.step.new.host) c.from_residual-in_err-step.result p.0 x p.1 p.2
    (body_halts m c.args.calls j s0 s x c.args.host.now c.step.new.host
    (halts_after m c.args.calls (first j s0 (left [] [])) before c.args.host.now c.tasks.host c.step.new.host s x c.tasks.invariant.leads
    (subst (λ q. Halts m c.args.calls q c.tasks.host x s c.step.new.host) (sym (task_taken c.tasks.desk c.next.new.self c.in-Some.task (state_of c.tasks.machine c.tasks.frame) c.in-Some.ensures)) c.in_err-step.ensures.flows)))

pub run_body-returns-in-Returns-clause-ends : goal.run_body-returns-in-Returns-clause-ends
run_body-returns-in-Returns-clause-ends g t c =
    let m = g.H.Host.meaning in
    let j = exec_all (trees (map line_tree c.args.lines.now)) in
    let s0 = state_of c.args.machine.now c.args.frame.now in
    let s = state_of c.step.new.machine c.step.new.frame in
    let after = left_at c.step.new.desk c.step.new.machine c.step.new.frame in
    let before = left_at c.tasks.desk c.tasks.machine c.tasks.frame in
    let step = subst (λ q. FlowsOrHalts m c.args.calls q c.tasks.host (Ok c.in_ok-step.field-0) after s c.step.new.host) (sym (task_taken c.tasks.desk c.next.new.self c.in-Some.task (state_of c.tasks.machine c.tasks.frame) c.in-Some.ensures)) c.in_ok-step.ensures.flows in
    body_returns m c.args.calls j s0 s c.in-Returns.value c.args.host.now c.step.new.host
    (c.tasks.invariant.leads (Ok (returns c.in-Returns.value s)) c.step.new.host
    (subst (λ (w : Flow). FlowsOrHalts m c.args.calls before c.tasks.host (Ok w) after s c.step.new.host) c.in-Returns.is step))

pub run_body-tasks-preserved : goal.run_body-tasks-preserved
run_body-tasks-preserved g t c =
    let m = g.H.Host.meaning in
    let s = state_of c.step.new.machine c.step.new.frame in
    let after = left_at c.step.new.desk c.step.new.machine c.step.new.frame in
    let before = left_at c.tasks.desk c.tasks.machine c.tasks.frame in
    let step = subst (λ q. FlowsOrHalts m c.args.calls q c.tasks.host (Ok c.in_ok-step.field-0) after s c.step.new.host) (sym (task_taken c.tasks.desk c.next.new.self c.in-Some.task (state_of c.tasks.machine c.tasks.frame) c.in-Some.ensures)) c.in_ok-step.ensures.flows in
    record {
      keeps = g.met.H.Host.kept.joins c.args.host.now c.tasks.host c.step.new.host c.tasks.invariant.keeps c.step.ensures.keeps;
      leads = λ r h3 d. c.tasks.invariant.leads r h3 ((subst (λ (w : Flow). FlowsOrHalts m c.args.calls before c.tasks.host (Ok w) after s c.step.new.host) c.in-GoesOn.is step) r h3 d);
    }

pub step-returns-in_default : goal.step-returns-in_default
step-returns-in_default g t c = record {
  keeps = c.step.ensures.keeps;
  flows = flows_by g.H.Host.meaning c.args.calls (left_with c.args.task c.args.desk.now c.args.machine.now c.args.frame.now) (left_at c.step.new.desk c.step.new.machine c.step.new.frame) c.args.host.now c.step.new.host (state_of c.step.new.machine c.step.new.frame) c.step.result (c.step.ensures.flows c.args.calls);
}

pub call_task-returns-in_err-pay-clause-leads : goal.call_task-returns-in_err-pay-clause-leads
call_task-returns-in_err-pay-clause-leads g t c =
    let m = g.H.Host.meaning in
    let p = err_from_is_err_and c.from_residual-in_err-pay.result c.from_residual-in_err-pay.ensures.1 in
    let vs = values_of c.args.desk.now in
    let ts = tasks_of c.args.desk.now in
    let x = top (under c.args.base vs) in
    let rest = below (under c.args.base vs) in
    let given = arguments_by (trees (map argument_tree c.args.arguments.now)) (above c.args.base vs) in
    let s = state_of c.args.machine.now c.args.frame.now in
    let k : Out → Plan = gives_on rest (left ts) in
    handed (λ (r : Result (Unit {0}) Stop). LeadsOrHalts m c.args.calls (first (call c.args.line (callee x c.args.method) given) s k) c.args.host.now r (λ u. left_at c.take-called.new.self c.pay.new.self c.args.frame.now) (state_of c.pay.new.self c.args.frame.now) c.args.host.now) c.from_residual-in_err-pay.result p.0 c.in_err-pay.field-0.0 p.1 p.2
    (call_unpaid m c.args.calls c.args.line x c.args.method given s (state_of c.pay.new.self c.args.frame.now) k c.in_err-pay.field-0.0 c.args.host.now c.in_err-pay.ensures.fault)

pub call_task-returns-in_err-value-clause-leads : goal.call_task-returns-in_err-value-clause-leads
call_task-returns-in_err-value-clause-leads g t c =
    let m = g.H.Host.meaning in
    let p = err_from_is_err_and c.from_residual-in_err-value.result c.from_residual-in_err-value.ensures.1 in
    let vs = values_of c.args.desk.now in
    let ts = tasks_of c.args.desk.now in
    let x = top (under c.args.base vs) in
    let rest = below (under c.args.base vs) in
    let given = arguments_by (trees (map argument_tree c.args.arguments.now)) (above c.args.base vs) in
    let s = state_of c.args.machine.now c.args.frame.now in
    let called = c.take-called.ensures.value ∙ ap (λ (st : Stacks). top st.values) c.in_ok-values.ensures.left in
    let arguments = c.in_ok-args.ensures ∙ ap (arguments_by (trees (map argument_tree c.args.arguments.now))) (c.as_slice.ensures.value ∙ c.in_ok-values.ensures.values) in
    let paid = ap (λ (st : Store). state_by st c.args.frame.now) c.pay.ensures.paid in
    let e = c.in_err-value.field-0.0 in
    let s2 = state_of c.call.new.machine c.args.frame.now in
    handed (λ (r : Result (Unit {0}) Stop). LeadsOrHalts m c.args.calls (first (call c.args.line (callee x c.args.method) given) s (gives_on rest (left ts))) c.args.host.now r (λ u. left_at c.take-called.new.self c.call.new.machine c.args.frame.now) s2 c.call.new.host) c.from_residual-in_err-value.result p.0 e p.1 p.2
    (call_halts m c.args.calls c.args.line x c.args.method given s s2 c.pay.new.self.budget rest ts e c.args.host.now c.call.new.host c.in_ok-pay.ensures.ok
    (call_as m c.args.calls c.args.line c.take-called.result x c.args.method (arguments_of c.in_ok-args.args) given (state_of c.pay.new.self c.args.frame.now) (record s { units = c.pay.new.self.budget }) s2 (Err e) c.args.host.now c.call.new.host called arguments paid c.in_err-value.ensures.gives))

pub call_task-returns-clause-leads : goal.call_task-returns-clause-leads
call_task-returns-clause-leads g t c =
    let m = g.H.Host.meaning in
    let vs = values_of c.args.desk.now in
    let ts = tasks_of c.args.desk.now in
    let x = top (under c.args.base vs) in
    let rest = below (under c.args.base vs) in
    let given = arguments_by (trees (map argument_tree c.args.arguments.now)) (above c.args.base vs) in
    let s = state_of c.args.machine.now c.args.frame.now in
    let called = c.take-called.ensures.value ∙ ap (λ (st : Stacks). top st.values) c.in_ok-values.ensures.left in
    let arguments = c.in_ok-args.ensures ∙ ap (arguments_by (trees (map argument_tree c.args.arguments.now))) (c.as_slice.ensures.value ∙ c.in_ok-values.ensures.values) in
    let paid = ap (λ (st : Store). state_by st c.args.frame.now) c.pay.ensures.paid in
    let x2 = c.in_ok-value.value in
    let s2 = state_of c.call.new.machine c.args.frame.now in
    λ r h3 d. call_gives m c.args.calls c.args.line x c.args.method given s s2 c.pay.new.self.budget x2 rest ts c.args.host.now c.call.new.host c.in_ok-pay.ensures.ok
    (call_as m c.args.calls c.args.line c.take-called.result x c.args.method (arguments_of c.in_ok-args.args) given (state_of c.pay.new.self c.args.frame.now) (record s { units = c.pay.new.self.budget }) s2 (Ok x2) c.args.host.now c.call.new.host called arguments paid c.in_ok-value.ensures.gives)
    r h3 (subst (λ q. Follows m c.args.calls q c.call.new.host r h3) (call_in_place c.args.desk.now c.take_above.new.self c.take-called.new.self c.give.new.self c.args.base x2 s2 c.in_ok-values.ensures.left c.take-called.ensures.left c.in_ok-give.ensures) d)

pub call-returns-in_err-plain-in-Some-clause-gives : goal.call-returns-in_err-plain-in-Some-clause-gives
call-returns-in_err-plain-in-Some-clause-gives g t c =
    let m = g.H.Host.meaning in
    let n = c.in-Some.name in
    let given = arguments_of c.args.args.now in
    let s = state_of c.args.machine.now c.args.frame.now in
    let taken = c.takes.ensures ∙ ap (λ (xs : List Value). method_takes n (length xs)) c.as_slice-positional.ensures.value in
    let p = err_from_is_err_and c.from_residual.result c.from_residual.ensures.1 in
    subst (λ (o : Option Name). GivesOrHalts m c.args.calls (begun c.args.line (callee c.args.called o) given s) c.args.host.now c.from_residual.result s c.args.host.now) (sym c.in-Some.is)
    (handed (λ (r : Result Value Stop). GivesOrHalts m c.args.calls (begun c.args.line (a_method c.args.called n) given s) c.args.host.now r s c.args.host.now) c.from_residual.result p.0 c.in_err-plain-in-Some.field-0.0 p.1 p.2
    (plain_refused m c.args.calls c.args.line (a_method c.args.called n) tt given s s c.args.host.now c.takes.result c.in_err-plain-in-Some.field-0.0 taken c.in_err-plain-in-Some.ensures.fault))

pub call-returns-in_err-_inside-in-Some-clause-gives : goal.call-returns-in_err-_inside-in-Some-clause-gives
call-returns-in_err-_inside-in-Some-clause-gives g t c =
    let m = g.H.Host.meaning in
    let n = c.in-Some.name in
    let given = arguments_of c.args.args.now in
    let s = state_of c.args.machine.now c.args.frame.now in
    let taken = c.takes.ensures ∙ ap (λ (xs : List Value). method_takes n (length xs)) c.as_slice-positional.ensures.value in
    let p = err_from_is_err_and c.from_residual-in_err-_inside-in-Some.result c.from_residual-in_err-_inside-in-Some.ensures.1 in
    subst (λ (o : Option Name). GivesOrHalts m c.args.calls (begun c.args.line (callee c.args.called o) given s) c.args.host.now c.from_residual-in_err-_inside-in-Some.result s c.args.host.now) (sym c.in-Some.is)
    (handed (λ (r : Result Value Stop). GivesOrHalts m c.args.calls (begun c.args.line (a_method c.args.called n) given s) c.args.host.now r s c.args.host.now) c.from_residual-in_err-_inside-in-Some.result p.0 c.in_err-_inside-in-Some.field-0.0 p.1 p.2
    (plain_too_deep m c.args.calls c.args.line (a_method c.args.called n) tt given s s c.args.host.now c.takes.result c.in_err-_inside-in-Some.field-0.0 taken c.in_ok-plain-in-Some.ensures.ok c.in_err-_inside-in-Some.ensures.fault))

pub call-returns-in_ok-_inside-in-Some-clause-gives : goal.call-returns-in_ok-_inside-in-Some-clause-gives
call-returns-in_ok-_inside-in-Some-clause-gives g t c =
    let m = g.H.Host.meaning in
    let n = c.in-Some.name in
    let given = arguments_of c.args.args.now in
    let s = state_of c.args.machine.now c.args.frame.now in
    let taken = c.takes.ensures ∙ ap (λ (xs : List Value). method_takes n (length xs)) c.as_slice-positional.ensures.value in
    let s2 = state_of c.do_method.new.machine c.args.frame.now in
    let alone = subst (λ (xs : List Value). GivesOrHalts m c.in_ok-_inside-in-Some._inside (plan_perform c.args.line (a_method c.args.called n) (record { positional = xs; named = [] }) s) c.args.host.now c.do_method.result s2 c.args.host.now) c.as_slice-positional.ensures.value
    (gives_alone m c.in_ok-_inside-in-Some._inside (plan_perform c.args.line (a_method c.args.called n) (record { positional = c.as_slice-positional.result.now; named = [] }) s) c.do_method.result s2 c.args.host.now c.do_method.ensures) in
    subst (λ (o : Option Name). GivesOrHalts m c.args.calls (begun c.args.line (callee c.args.called o) given s) c.args.host.now c.do_method.result s2 c.args.host.now) (sym c.in-Some.is)
    (plain_gives m c.args.calls c.in_ok-_inside-in-Some._inside c.args.line (a_method c.args.called n) tt given s s2 c.args.host.now c.args.host.now c.takes.result c.do_method.result taken c.in_ok-plain-in-Some.ensures.ok c.in_ok-_inside-in-Some.ensures.ok alone)

pub call-returns-in_err-plain-in-Builtin-clause-gives : goal.call-returns-in_err-plain-in-Builtin-clause-gives
call-returns-in_err-plain-in-Builtin-clause-gives g t c =
    let m = g.H.Host.meaning in
    let b = c.in-Builtin.builtin in
    let given = arguments_of c.args.args.now in
    let s = state_of c.args.machine.now c.args.frame.now in
    let taken = c.takes-in-Builtin.ensures ∙ ap (λ (xs : List Value). takes b (length xs)) c.as_slice-positional.ensures.value in
    let p = err_from_is_err_and c.from_residual-in_err-plain-in-Builtin.result c.from_residual-in_err-plain-in-Builtin.ensures.1 in
    subst (λ (o : Option Name). GivesOrHalts m c.args.calls (begun c.args.line (callee c.args.called o) given s) c.args.host.now c.from_residual-in_err-plain-in-Builtin.result s c.args.host.now) (sym c.in-None.is)
    (subst (λ (x : Value). GivesOrHalts m c.args.calls (begun c.args.line (a_value x) given s) c.args.host.now c.from_residual-in_err-plain-in-Builtin.result s c.args.host.now) (sym c.in-Builtin.is)
    (handed (λ (r : Result Value Stop). GivesOrHalts m c.args.calls (begun c.args.line (a_value (v.Builtin b)) given s) c.args.host.now r s c.args.host.now) c.from_residual-in_err-plain-in-Builtin.result p.0 c.in_err-plain-in-Builtin.field-0.0 p.1 p.2
    (plain_refused m c.args.calls c.args.line (a_value (v.Builtin b)) tt given s s c.args.host.now c.takes-in-Builtin.result c.in_err-plain-in-Builtin.field-0.0 taken c.in_err-plain-in-Builtin.ensures.fault)))

pub call-returns-in_err-_inside-in-Builtin-clause-gives : goal.call-returns-in_err-_inside-in-Builtin-clause-gives
call-returns-in_err-_inside-in-Builtin-clause-gives g t c =
    let m = g.H.Host.meaning in
    let b = c.in-Builtin.builtin in
    let given = arguments_of c.args.args.now in
    let s = state_of c.args.machine.now c.args.frame.now in
    let taken = c.takes-in-Builtin.ensures ∙ ap (λ (xs : List Value). takes b (length xs)) c.as_slice-positional.ensures.value in
    let p = err_from_is_err_and c.from_residual-in_err-_inside-in-Builtin.result c.from_residual-in_err-_inside-in-Builtin.ensures.1 in
    subst (λ (o : Option Name). GivesOrHalts m c.args.calls (begun c.args.line (callee c.args.called o) given s) c.args.host.now c.from_residual-in_err-_inside-in-Builtin.result s c.args.host.now) (sym c.in-None.is)
    (subst (λ (x : Value). GivesOrHalts m c.args.calls (begun c.args.line (a_value x) given s) c.args.host.now c.from_residual-in_err-_inside-in-Builtin.result s c.args.host.now) (sym c.in-Builtin.is)
    (handed (λ (r : Result Value Stop). GivesOrHalts m c.args.calls (begun c.args.line (a_value (v.Builtin b)) given s) c.args.host.now r s c.args.host.now) c.from_residual-in_err-_inside-in-Builtin.result p.0 c.in_err-_inside-in-Builtin.field-0.0 p.1 p.2
    (plain_too_deep m c.args.calls c.args.line (a_value (v.Builtin b)) tt given s s c.args.host.now c.takes-in-Builtin.result c.in_err-_inside-in-Builtin.field-0.0 taken c.in_ok-plain-in-Builtin.ensures.ok c.in_err-_inside-in-Builtin.ensures.fault)))

pub call-returns-in_ok-_inside-in-Builtin-clause-gives : goal.call-returns-in_ok-_inside-in-Builtin-clause-gives
call-returns-in_ok-_inside-in-Builtin-clause-gives g t c =
    let m = g.H.Host.meaning in
    let b = c.in-Builtin.builtin in
    let given = arguments_of c.args.args.now in
    let s = state_of c.args.machine.now c.args.frame.now in
    let taken = c.takes-in-Builtin.ensures ∙ ap (λ (xs : List Value). takes b (length xs)) c.as_slice-positional.ensures.value in
    let s2 = state_of c.do_builtin.new.machine c.args.frame.now in
    let inside = subst (λ (xs : List Value). GivesOrHalts m c.in_ok-_inside-in-Builtin._inside (plan_perform c.args.line (a_value (v.Builtin b)) (record { positional = xs; named = [] }) s) c.args.host.now c.do_builtin.result s2 c.do_builtin.new.host) c.as_slice-positional.ensures.value (c.do_builtin.ensures.gives c.in_ok-_inside-in-Builtin._inside) in
    subst (λ (o : Option Name). GivesOrHalts m c.args.calls (begun c.args.line (callee c.args.called o) given s) c.args.host.now c.do_builtin.result s2 c.do_builtin.new.host) (sym c.in-None.is)
    (subst (λ (x : Value). GivesOrHalts m c.args.calls (begun c.args.line (a_value x) given s) c.args.host.now c.do_builtin.result s2 c.do_builtin.new.host) (sym c.in-Builtin.is)
    (plain_gives m c.args.calls c.in_ok-_inside-in-Builtin._inside c.args.line (a_value (v.Builtin b)) tt given s s2 c.args.host.now c.do_builtin.new.host c.takes-in-Builtin.result c.do_builtin.result taken c.in_ok-plain-in-Builtin.ensures.ok c.in_ok-_inside-in-Builtin.ensures.ok inside))

pub call-returns-in_default-clause-gives : goal.call-returns-in_default-clause-gives
call-returns-in_default-clause-gives g t c =
    let m = g.H.Host.meaning in
    let given = arguments_of c.args.args.now in
    let s = state_of c.args.machine.now c.args.frame.now in
    subst (λ (o : Option Name). Halts m c.args.calls (begun c.args.line (callee c.args.called o) given s) c.args.host.now c.fault.result s c.args.host.now) (sym c.in-None.is)
    (subst (λ z. Halts m c.args.calls (begun c.args.line (a_value c.args.called) given s) c.args.host.now z s c.args.host.now) (sym c.fault.ensures)
    (not_callable m c.args.calls c.args.line c.args.called given s s c.args.host.now c.in_default.not-Func c.in_default.not-Builtin c.in_default.not-Object))

pub call_function-returns-in_default-clause-gives : goal.call_function-returns-in_default-clause-gives
call_function-returns-in_default-clause-gives g t c =
    let m = g.H.Host.meaning in
    let given = arguments_of c.args.args.now in
    let s = state_of c.args.machine.now c.args.frame.now in
    let none = sym (rw c.in_default.is at c.in_ok-function.ensures) in
    subst (λ z. Halts m c.args.calls (begun c.args.line (a_value (v.Func c.args.id)) given s) c.args.host.now z s c.args.host.now) (sym c.fault.ensures)
    (no_function m c.args.calls c.args.line c.args.id given s s c.args.host.now none)

pub call_function-returns-in_default-2-clause-gives : goal.call_function-returns-in_default-2-clause-gives
call_function-returns-in_default-2-clause-gives g t c =
    let m = g.H.Host.meaning in
    let given = arguments_of c.args.args.now in
    let s = state_of c.args.machine.now c.args.frame.now in
    let f : Function = function_of c.in-Some.function.value in
    let some = sym (rw c.in-Some.is at c.in_ok-function.ensures) in
    let fits = ap (λ (x : code.Function). bound x.parameters.items given) (sym c.deref.ensures) ∙ sym c.in_ok-names.ensures in
    not_bound m c.args.calls c.args.line c.args.id given s s c.args.host.now f c.unfitting.result some (fits ∙ c.in_default-2.is)
    (subst (λ (x : code.Function). c.unfitting.result ≢ stop.Memory → c.unfitting.result ≡ stop.Fault s.frame.script c.args.line (kind.Args (named.Function x.name))) c.deref-in_default-2.ensures c.unfitting.ensures)

pub call_function-returns-in_err-inside-clause-gives : goal.call_function-returns-in_err-inside-clause-gives
call_function-returns-in_err-inside-clause-gives g t c =
    let m = g.H.Host.meaning in
    let given = arguments_of c.args.args.now in
    let s = state_of c.args.machine.now c.args.frame.now in
    let f : Function = function_of c.in-Some.function.value in
    let some = sym (rw c.in-Some.is at c.in_ok-function.ensures) in
    let fits = ap (λ (x : code.Function). bound x.parameters.items given) (sym c.deref.ensures) ∙ sym c.in_ok-names.ensures in
    let p = err_from_is_err_and c.from_residual-in_err-inside.result c.from_residual-in_err-inside.ensures.1 in
    handed (λ (r : Result Value Stop). GivesOrHalts m c.args.calls (begun c.args.line (a_value (v.Func c.args.id)) given s) c.args.host.now r s c.args.host.now) c.from_residual-in_err-inside.result p.0 c.in_err-inside.field-0.0 p.1 p.2
    (function_too_deep m c.args.calls c.args.line c.args.id given s s c.args.host.now f c.in-Some-2.names c.in_err-inside.field-0.0 some (fits ∙ c.in-Some-2.is) c.in_err-inside.ensures.fault)

pub call_function-returns-in_err-value-clause-gives : goal.call_function-returns-in_err-value-clause-gives
call_function-returns-in_err-value-clause-gives g t c =
    let m = g.H.Host.meaning in
    let given = arguments_of c.args.args.now in
    let s = state_of c.args.machine.now c.args.frame.now in
    let f : Function = function_of c.in-Some.function.value in
    let some = sym (rw c.in-Some.is at c.in_ok-function.ensures) in
    let fits = ap (λ (x : code.Function). bound x.parameters.items given) (sym c.deref.ensures) ∙ sym c.in_ok-names.ensures in
    let s2 = state_of c.run_body.new.machine c.args.frame.now in
    let lines : c.as_slice.result.now ≡ c.in-Some.function.value.body.value.items = cc (c.as_slice.ensures.value, c.deref-3.ensures, c.in_ok-body.ensures.cases, c.deref-2.ensures) in
    let own : Frame = function_frame c.args.frame.now f c.in-Some-2.names in
    let p = err_from_is_err_and c.from_residual-in_err-value.result c.from_residual-in_err-value.ensures.1 in
    let x : Result (Option Value) Stop = Err c.in_err-value.field-0.0 in
    handed (λ (r : Result Value Stop). GivesOrHalts m c.args.calls (begun c.args.line (a_value (v.Func c.args.id)) given s) c.args.host.now r s2 c.run_body.new.host) c.from_residual-in_err-value.result p.0 c.in_err-value.field-0.0 p.1 p.2
    (function_gives m c.args.calls c.in_ok-inside.inside c.args.line c.args.id given s (state_of c.run_body.new.machine c.run_body.new.frame) c.args.host.now c.run_body.new.host f c.in-Some-2.names x some (fits ∙ c.in-Some-2.is) c.in_ok-inside.ensures.ok
    (body_as m c.in_ok-inside.inside c.as_slice.result.now c.in-Some.function.value.body.value.items (store_of c.args.machine.now) c.of_function-own.result own x x (state_of c.run_body.new.machine c.run_body.new.frame) c.args.host.now c.run_body.new.host lines (c.of_function-own.ensures ∙ ap (λ (x : Frame). function_frame x f c.in-Some-2.names) c.frame.view_is) refl c.in_err-value.ensures.ends))

pub call_function-returns-in-Some-3-clause-gives : goal.call_function-returns-in-Some-3-clause-gives
call_function-returns-in-Some-3-clause-gives g t c =
    let m = g.H.Host.meaning in
    let given = arguments_of c.args.args.now in
    let s = state_of c.args.machine.now c.args.frame.now in
    let f : Function = function_of c.in-Some.function.value in
    let some = sym (rw c.in-Some.is at c.in_ok-function.ensures) in
    let fits = ap (λ (x : code.Function). bound x.parameters.items given) (sym c.deref.ensures) ∙ sym c.in_ok-names.ensures in
    let s2 = state_of c.run_body.new.machine c.args.frame.now in
    let lines : c.as_slice.result.now ≡ c.in-Some.function.value.body.value.items = cc (c.as_slice.ensures.value, c.deref-3.ensures, c.in_ok-body.ensures.cases, c.deref-2.ensures) in
    let own : Frame = function_frame c.args.frame.now f c.in-Some-2.names in
    let x0 : Result (Option Value) Stop = Ok c.in_ok-value.field-0 in
    let x1 : Result (Option Value) Stop = Ok (Some c.in-Some-3.value) in
    let same : x0 ≡ x1 = ap (λ (o : Option Value). Ok o) c.in-Some-3.is in
    function_gives m c.args.calls c.in_ok-inside.inside c.args.line c.args.id given s (state_of c.run_body.new.machine c.run_body.new.frame) c.args.host.now c.run_body.new.host f c.in-Some-2.names x1 some (fits ∙ c.in-Some-2.is) c.in_ok-inside.ensures.ok
    (body_as m c.in_ok-inside.inside c.as_slice.result.now c.in-Some.function.value.body.value.items (store_of c.args.machine.now) c.of_function-own.result own x0 x1 (state_of c.run_body.new.machine c.run_body.new.frame) c.args.host.now c.run_body.new.host lines (c.of_function-own.ensures ∙ ap (λ (x : Frame). function_frame x f c.in-Some-2.names) c.frame.view_is) same c.in_ok-value.ensures.ends)

pub call_function-returns-clause-gives : goal.call_function-returns-clause-gives
call_function-returns-clause-gives g t c =
    let m = g.H.Host.meaning in
    let given = arguments_of c.args.args.now in
    let s = state_of c.args.machine.now c.args.frame.now in
    let f : Function = function_of c.in-Some.function.value in
    let some = sym (rw c.in-Some.is at c.in_ok-function.ensures) in
    let fits = ap (λ (x : code.Function). bound x.parameters.items given) (sym c.deref.ensures) ∙ sym c.in_ok-names.ensures in
    let s2 = state_of c.run_body.new.machine c.args.frame.now in
    let lines : c.as_slice.result.now ≡ c.in-Some.function.value.body.value.items = cc (c.as_slice.ensures.value, c.deref-3.ensures, c.in_ok-body.ensures.cases, c.deref-2.ensures) in
    let own : Frame = function_frame c.args.frame.now f c.in-Some-2.names in
    let x0 : Result (Option Value) Stop = Ok c.in_ok-value.field-0 in
    let x1 : Result (Option Value) Stop = Ok None in
    let same : x0 ≡ x1 = ap (λ (o : Option Value). Ok o) c.in-None.is in
    function_gives m c.args.calls c.in_ok-inside.inside c.args.line c.args.id given s (state_of c.run_body.new.machine c.run_body.new.frame) c.args.host.now c.run_body.new.host f c.in-Some-2.names x1 some (fits ∙ c.in-Some-2.is) c.in_ok-inside.ensures.ok
    (body_as m c.in_ok-inside.inside c.as_slice.result.now c.in-Some.function.value.body.value.items (store_of c.args.machine.now) c.of_function-own.result own x0 x1 (state_of c.run_body.new.machine c.run_body.new.frame) c.args.host.now c.run_body.new.host lines (c.of_function-own.ensures ∙ ap (λ (x : Frame). function_frame x f c.in-Some-2.names) c.frame.view_is) same c.in_ok-value.ensures.ends)

pub call_object-returns-in_err-inside-clause-gives : goal.call_object-returns-in_err-inside-clause-gives
call_object-returns-in_err-inside-clause-gives g t c =
    let m = g.H.Host.meaning in
    let given = arguments_of c.args.args.now in
    let s = state_of c.args.machine.now c.args.frame.now in
    let p = err_from_is_err_and c.from_residual.result c.from_residual.ensures.1 in
    handed (λ (r : Result Value Stop). GivesOrHalts m c.args.calls (begun c.args.line (a_value (v.Object c.args.object)) given s) c.args.host.now r s c.args.host.now) c.from_residual.result p.0 c.in_err-inside.field-0.0 p.1 p.2
    (object_too_deep m c.args.calls c.args.line c.args.object given s s c.args.host.now c.in_err-inside.field-0.0 c.in_err-inside.ensures.fault)

pub call_object-returns-in_err-reply-clause-gives : goal.call_object-returns-in_err-reply-clause-gives
call_object-returns-in_err-reply-clause-gives g t c =
    let m = g.H.Host.meaning in
    let given = arguments_of c.args.args.now in
    let s = state_of c.args.machine.now c.args.frame.now in
    let p = err_from_is_err_and c.from_residual-in_err-reply.result c.from_residual-in_err-reply.ensures.1 in
    let s2 = state_of c.reply_to_call.new.machine c.args.frame.now in
    let x = c.in_err-reply.field-0.0 in
    handed (λ (r : Result Value Stop). GivesOrHalts m c.args.calls (begun c.args.line (a_value (v.Object c.args.object)) given s) c.args.host.now r s2 c.reply_to_call.new.host) c.from_residual-in_err-reply.result p.0 x p.1 p.2
    (object_gives m c.args.calls c.in_ok-inside.inside c.args.line c.args.object given s s2 c.args.host.now c.reply_to_call.new.host (Err x) c.in_ok-inside.ensures.ok
    (halts_by m c.in_ok-inside.inside (plan_perform c.args.line (a_value (v.Object c.args.object)) given s) c.args.host.now c.reply_to_call.new.host s2 x (c.in_err-reply.ensures.leads c.in_ok-inside.inside (λ a s1. goes (reply c.args.line a) s1))))

pub call_object-scripts-init : goal.call_object-scripts-init
call_object-scripts-init g t c = record {
  keeps = c.reply_to_call.ensures.keeps;
  leads = λ r h3 d. c.in_ok-reply.ensures.leads c.in_ok-inside.inside (λ a s1. goes (reply c.args.line a) s1) r h3 (whole r d);
}

pub call_object-returns-in-Value-clause-gives : goal.call_object-returns-in-Value-clause-gives
call_object-returns-in-Value-clause-gives g t c =
    let m = g.H.Host.meaning in
    let given = arguments_of c.args.args.now in
    let s = state_of c.args.machine.now c.args.frame.now in
    let s2 = state_of c.scripts.machine c.args.frame.now in
    object_gives m c.args.calls c.in_ok-inside.inside c.args.line c.args.object given s s2 c.args.host.now c.scripts.host (Ok c.in-Value.value) c.in_ok-inside.ensures.ok
    (c.scripts.invariant.leads (Ok (gives c.in-Value.value s2)) c.scripts.host (value_replied m c.in_ok-inside.inside c.args.line (given_of c.scripts.reply) c.in-Value.value s2 c.scripts.host (ap given_of c.in-Value.is)))

pub call_object-returns-in-Names-clause-gives : goal.call_object-returns-in-Names-clause-gives
call_object-returns-in-Names-clause-gives g t c =
    let m = g.H.Host.meaning in
    let given = arguments_of c.args.args.now in
    let s = state_of c.args.machine.now c.args.frame.now in
    let s2 = state_of c.scripts.machine c.args.frame.now in
    let s3 = state_of c.set_globals.new.self c.args.frame.now in
    object_gives m c.args.calls c.in_ok-inside.inside c.args.line c.args.object given s s3 c.args.host.now c.scripts.host (Ok v.Nil) c.in_ok-inside.ensures.ok
    (c.scripts.invariant.leads (Ok (gives v.Nil s3)) c.scripts.host (names_replied m c.in_ok-inside.inside c.args.line (given_of c.scripts.reply) c.in-Names.names s2 s3 c.scripts.host (ap given_of c.in-Names.is) (ap (λ (st : Store). state_by st c.args.frame.now) c.in_ok-set_globals-in-Names.ensures ∙ ap (λ (x : Frame). with_globals s2 x.running c.in-Names.names) c.frame.view_is)))

pub call_object-returns-in-Return-clause-gives : goal.call_object-returns-in-Return-clause-gives
call_object-returns-in-Return-clause-gives g t c =
    let m = g.H.Host.meaning in
    let given = arguments_of c.args.args.now in
    let s = state_of c.args.machine.now c.args.frame.now in
    let s2 = state_of c.scripts.machine c.args.frame.now in
    object_gives m c.args.calls c.in_ok-inside.inside c.args.line c.args.object given s s2 c.args.host.now c.scripts.host (Err stop.End) c.in_ok-inside.ensures.ok
    (halts_after m c.in_ok-inside.inside (plan_perform c.args.line (a_value (v.Object c.args.object)) given s) (plan (reply c.args.line (given_of c.scripts.reply)) s2) c.args.host.now c.scripts.host c.scripts.host s2 stop.End c.scripts.invariant.leads (end_replied m c.in_ok-inside.inside c.args.line (given_of c.scripts.reply) s2 c.scripts.host (ap given_of c.in-Return.is)))

pub call_object-returns-in_err-reply-in-Script-clause-gives : goal.call_object-returns-in_err-reply-in-Script-clause-gives
call_object-returns-in_err-reply-in-Script-clause-gives g t c =
    let m = g.H.Host.meaning in
    let given = arguments_of c.args.args.now in
    let s = state_of c.args.machine.now c.args.frame.now in
    let s2 = state_of c.scripts.machine c.args.frame.now in
    let p = err_from_is_err_and c.from_residual-in_err-reply-in-Script.result c.from_residual-in_err-reply-in-Script.ensures.1 in
    let s3 = state_of c.run_inner.new.machine c.args.frame.now in
    let x = c.in_err-reply-in-Script.field-0.0 in
    handed (λ (r : Result Value Stop). GivesOrHalts m c.args.calls (begun c.args.line (a_value (v.Object c.args.object)) given s) c.args.host.now r s3 c.run_inner.new.host) c.from_residual-in_err-reply-in-Script.result p.0 x p.1 p.2
    (object_gives m c.args.calls c.in_ok-inside.inside c.args.line c.args.object given s s3 c.args.host.now c.run_inner.new.host (Err x) c.in_ok-inside.ensures.ok
    (halts_after m c.in_ok-inside.inside (plan_perform c.args.line (a_value (v.Object c.args.object)) given s) (plan (inner_script c.args.line (script_tree c.in-Script.script)) s2) c.args.host.now c.scripts.host c.run_inner.new.host s3 x
    (λ r h3 d. c.scripts.invariant.leads r h3 (script_replied m c.in_ok-inside.inside c.args.line (given_of c.scripts.reply) (script_tree c.in-Script.script) s2 c.scripts.host (ap given_of c.in-Script.is) r h3 d)) c.in_err-reply-in-Script.ensures.leads))

pub call_object-scripts-preserved : goal.call_object-scripts-preserved
call_object-scripts-preserved g t c =
    let m = g.H.Host.meaning in
    let s2 = state_of c.scripts.machine c.args.frame.now in
    record {
      keeps = g.met.H.Host.kept.joins c.args.host.now c.scripts.host c.run_inner.new.host c.scripts.invariant.keeps c.run_inner.ensures.keeps;
      leads = λ r h3 d. c.scripts.invariant.leads r h3 (script_replied m c.in_ok-inside.inside c.args.line (given_of c.scripts.reply) (script_tree c.in-Script.script) s2 c.scripts.host (ap given_of c.in-Script.is) r h3 (c.in_ok-reply-in-Script.ensures.leads r h3 d));
    }

pub run_inner-returns-in_err-_exit-clause-leads : goal.run_inner-returns-in_err-_exit-clause-leads
run_inner-returns-in_err-_exit-clause-leads g t c =
    let m = g.H.Host.meaning in
    let ts = script_tree c.args.script.now in
    let s = state_of c.args.machine.now c.args.frame.now in
    let begun_as = script_begins c.args.machine.now c.begin_script.new.self c.args.frame.now c.in_ok-number.number c.in_ok-number.ensures.begun c.in_ok-number.ensures.ok in
    let p = err_from_is_err_and c.from_residual-in_err-_exit.result c.from_residual-in_err-_exit.ensures.1 in
    let s2 = state_of c.run_script.new.machine c.args.frame.now in
    let x = c.in_err-_exit.field-0.0 in
    handed (λ (r : Result Reply Stop). LeadsOrHalts m c.args.calls (plan (inner_script c.args.line ts) s) c.args.host.now r (λ a. plan (reply c.args.line (given_of a)) s2) s2 c.run_script.new.host) c.from_residual-in_err-_exit.result p.0 x p.1 p.2
    (inner_stops m c.args.calls c.args.line ts s s2 x c.args.host.now c.run_script.new.host (lines_as m c.args.calls c.as_slice.result.now c.args.script.now.lines.items (state_by (store_of c.begin_script.new.self) (script_frame c.in_ok-number.number)) _ (Err x) (store_of c.run_script.new.machine) c.args.host.now c.run_script.new.host c.as_slice.ensures.value begun_as c.in_err-_exit.ensures.over))

pub run_inner-returns-in_err-reply-clause-leads : goal.run_inner-returns-in_err-reply-clause-leads
run_inner-returns-in_err-reply-clause-leads g t c =
    let m = g.H.Host.meaning in
    let ts = script_tree c.args.script.now in
    let s = state_of c.args.machine.now c.args.frame.now in
    let begun_as = script_begins c.args.machine.now c.begin_script.new.self c.args.frame.now c.in_ok-number.number c.in_ok-number.ensures.begun c.in_ok-number.ensures.ok in
    let s1 = state_of c.run_script.new.machine c.args.frame.now in
    let kept = store_of c.run_script.new.machine in
    let s2 = state_of c.reply_to_end.new.machine c.args.frame.now in
    let p = err_from_is_err_and c.from_residual-in_err-reply.result c.from_residual-in_err-reply.ensures.1 in
    let x = c.in_err-reply.field-0.0 in
    handed (λ (r : Result Reply Stop). LeadsOrHalts m c.args.calls (plan (inner_script c.args.line ts) s) c.args.host.now r (λ a. plan (reply c.args.line (given_of a)) s2) s2 c.reply_to_end.new.host) c.from_residual-in_err-reply.result p.0 x p.1 p.2
    (not_replied m c.args.calls c.args.line ts s s2 c.in_ok-_exit._exit kept c.in_ok-number.number c.args.host.now c.run_script.new.host c.reply_to_end.new.host x (lines_as m c.args.calls c.as_slice.result.now c.args.script.now.lines.items (state_by (store_of c.begin_script.new.self) (script_frame c.in_ok-number.number)) _ (Ok c.in_ok-_exit._exit) (store_of c.run_script.new.machine) c.args.host.now c.run_script.new.host c.as_slice.ensures.value begun_as c.in_ok-_exit.ensures.over) c.in_ok-number.ensures.ok (c.in_err-reply.ensures.leads c.args.calls))

pub run_inner-returns-in_err-pay_script-clause-leads : goal.run_inner-returns-in_err-pay_script-clause-leads
run_inner-returns-in_err-pay_script-clause-leads g t c =
    let m = g.H.Host.meaning in
    let ts = script_tree c.args.script.now in
    let s = state_of c.args.machine.now c.args.frame.now in
    let begun_as = script_begins c.args.machine.now c.begin_script.new.self c.args.frame.now c.in_ok-number.number c.in_ok-number.ensures.begun c.in_ok-number.ensures.ok in
    let s1 = state_of c.run_script.new.machine c.args.frame.now in
    let kept = store_of c.run_script.new.machine in
    let s2 = state_of c.reply_to_end.new.machine c.args.frame.now in
    let p = err_from_is_err_and c.from_residual-in_err-pay_script.result c.from_residual-in_err-pay_script.ensures.1 in
    let s3 = state_of c.pay_script.new.machine c.args.frame.now in
    let x = c.in_err-pay_script.field-0.0 in
    handed (λ (r : Result Reply Stop). LeadsOrHalts m c.args.calls (plan (inner_script c.args.line ts) s) c.args.host.now r (λ a. plan (reply c.args.line (given_of a)) s3) s3 c.reply_to_end.new.host) c.from_residual-in_err-pay_script.result p.0 x p.1 p.2
    (further_unpaid m c.args.calls c.args.line ts (script_tree c.in-Script.field-0) s s2 s3 c.in_ok-_exit._exit kept c.in_ok-number.number c.args.host.now c.run_script.new.host c.reply_to_end.new.host (given_of c.in_ok-reply.reply) x (lines_as m c.args.calls c.as_slice.result.now c.args.script.now.lines.items (state_by (store_of c.begin_script.new.self) (script_frame c.in_ok-number.number)) _ (Ok c.in_ok-_exit._exit) (store_of c.run_script.new.machine) c.args.host.now c.run_script.new.host c.as_slice.ensures.value begun_as c.in_ok-_exit.ensures.over) c.in_ok-number.ensures.ok (ap given_of c.in-Script.is) (c.in_ok-reply.ensures.leads c.args.calls) (c.in_err-pay_script.ensures c.args.frame.now))

pub run_inner-returns-in-Script-clause-leads : goal.run_inner-returns-in-Script-clause-leads
run_inner-returns-in-Script-clause-leads g t c =
    let m = g.H.Host.meaning in
    let ts = script_tree c.args.script.now in
    let s = state_of c.args.machine.now c.args.frame.now in
    let begun_as = script_begins c.args.machine.now c.begin_script.new.self c.args.frame.now c.in_ok-number.number c.in_ok-number.ensures.begun c.in_ok-number.ensures.ok in
    let s1 = state_of c.run_script.new.machine c.args.frame.now in
    let kept = store_of c.run_script.new.machine in
    let s2 = state_of c.reply_to_end.new.machine c.args.frame.now in
    let s3 = state_of c.pay_script.new.machine c.args.frame.now in
    further_paid m c.args.calls c.args.line ts (script_tree c.in-Script.field-0) s s2 s3 c.in_ok-_exit._exit kept c.in_ok-number.number c.args.host.now c.run_script.new.host c.reply_to_end.new.host (given_of c.in_ok-reply.reply) (lines_as m c.args.calls c.as_slice.result.now c.args.script.now.lines.items (state_by (store_of c.begin_script.new.self) (script_frame c.in_ok-number.number)) _ (Ok c.in_ok-_exit._exit) (store_of c.run_script.new.machine) c.args.host.now c.run_script.new.host c.as_slice.ensures.value begun_as c.in_ok-_exit.ensures.over) c.in_ok-number.ensures.ok (ap given_of c.in-Script.is) (c.in_ok-reply.ensures.leads c.args.calls) (c.in_ok-pay_script.ensures c.args.frame.now)

pub run_inner-returns : goal.run_inner-returns
run_inner-returns g t c =
    let m = g.H.Host.meaning in
    let ts = script_tree c.args.script.now in
    let s = state_of c.args.machine.now c.args.frame.now in
    let begun_as = script_begins c.args.machine.now c.begin_script.new.self c.args.frame.now c.in_ok-number.number c.in_ok-number.ensures.begun c.in_ok-number.ensures.ok in
    let s1 = state_of c.run_script.new.machine c.args.frame.now in
    let kept = store_of c.run_script.new.machine in
    let s2 = state_of c.reply_to_end.new.machine c.args.frame.now in
    record {
      keeps = g.met.H.Host.kept.joins c.args.host.now c.run_script.new.host c.reply_to_end.new.host c.run_script.ensures.keeps c.reply_to_end.ensures.keeps;
      leads = no_further m c.args.calls c.args.line ts s s2 c.in_ok-_exit._exit kept c.in_ok-number.number c.args.host.now c.run_script.new.host c.reply_to_end.new.host c.in_ok-reply.reply (lines_as m c.args.calls c.as_slice.result.now c.args.script.now.lines.items (state_by (store_of c.begin_script.new.self) (script_frame c.in_ok-number.number)) _ (Ok c.in_ok-_exit._exit) (store_of c.run_script.new.machine) c.args.host.now c.run_script.new.host c.as_slice.ensures.value begun_as c.in_ok-_exit.ensures.over) c.in_ok-number.ensures.ok c.in_default.not-Script (c.in_ok-reply.ensures.leads c.args.calls);
    }

pub run_body-returns-in_err-step-clause-keeps : goal.run_body-returns-in_err-step-clause-keeps
run_body-returns-in_err-step-clause-keeps g t c = g.met.H.Host.kept.joins c.args.host.now c.tasks.host c.step.new.host c.tasks.invariant.keeps c.step.ensures.keeps

pub run_body-returns-in-Returns-clause-keeps : goal.run_body-returns-in-Returns-clause-keeps
run_body-returns-in-Returns-clause-keeps g t c = g.met.H.Host.kept.joins c.args.host.now c.tasks.host c.step.new.host c.tasks.invariant.keeps c.step.ensures.keeps

pub call_object-returns-in_err-reply-in-Script-clause-keeps : goal.call_object-returns-in_err-reply-in-Script-clause-keeps
call_object-returns-in_err-reply-in-Script-clause-keeps g t c = g.met.H.Host.kept.joins c.args.host.now c.scripts.host c.run_inner.new.host c.scripts.invariant.keeps c.run_inner.ensures.keeps

pub run_inner-returns-in_err-reply-clause-keeps : goal.run_inner-returns-in_err-reply-clause-keeps
run_inner-returns-in_err-reply-clause-keeps g t c = g.met.H.Host.kept.joins c.args.host.now c.run_script.new.host c.reply_to_end.new.host c.run_script.ensures.keeps c.reply_to_end.ensures.keeps

pub run_inner-returns-in_err-pay_script-clause-keeps : goal.run_inner-returns-in_err-pay_script-clause-keeps
run_inner-returns-in_err-pay_script-clause-keeps g t c = g.met.H.Host.kept.joins c.args.host.now c.run_script.new.host c.reply_to_end.new.host c.run_script.ensures.keeps c.reply_to_end.ensures.keeps

pub run_inner-returns-in-Script-clause-keeps : goal.run_inner-returns-in-Script-clause-keeps
run_inner-returns-in-Script-clause-keeps g t c = g.met.H.Host.kept.joins c.args.host.now c.run_script.new.host c.reply_to_end.new.host c.run_script.ensures.keeps c.reply_to_end.ensures.keeps
