use Rattle.std.proofs.Common.{◌≡◌, Err, refl}
use Rattle.py_host.specs.Calls.{arguments_of, given_of}
use Rattle.scons_host.specs.Calling.{answered, call}
use Rattle.scons_host.specs.Refusals.{of_refusal}
use Rattle.scons_host.specs.Shown.{IsTold}
use Rattle.scons_host.specs.SoFar.{so_far}
use Rattle.scons_host.specs.Untold.{untold_stop}
use Rattle.scons_host.proofs.Beginning.{unasked, asked_goes}
use Rattle.scons_host.proofs.Scripting.{exit_at, ok_same, err_same}
use Rattle.scons_host.proofs.calls.call.Goals as goal

pub returns-in_err-requested-clause-fault : goal.returns-in_err-requested-clause-fault
returns-in_err-requested-clause-fault g c = λ f s.
    let so = so_far c.args.state.now in
    let at = c.args.caller in
    let args = arguments_of c.args.args.now in
    let r = c.in_err-requested.field-0.0 in
    exit_at (λ e. IsTold e → call f so c.args.heap.now at.place at.locals.now at.globals.now c.args.object.0 args ≡ Err (untold_stop e)) (of_refusal r) c.from_residual.result c.from_residual.ensures.1
    (λ told. unasked f so c.args.heap.now at.place at.locals.now at.globals.now c.args.object.0 args r (of_refusal r) refl c.in_err-requested.ensures.fault told)

pub returns-clause-ok : goal.returns-clause-ok
returns-clause-ok g c = λ f s.
    let so = so_far c.args.state.now in
    let at = c.args.caller in
    let h = c.args.heap.now in
    let args = arguments_of c.args.args.now in
    let asked = c.in_ok-requested.field-0 in
    let part = answered f so h at.place at.locals.now at.globals.now asked.0.0 asked.1 in
    ok_same c.answered.result (λ reply. (given_of reply, so_far c.answered.new.state, c.answered.new.heap)) part (call f so h at.place at.locals.now at.globals.now c.args.object.0 args)
    (asked_goes f so h at.place at.locals.now at.globals.now c.args.object.0 asked.0.0 args asked.1 part c.in_ok-requested.ensures.ok refl) (c.answered.ensures.ok f s)

pub returns-clause-fault : goal.returns-clause-fault
returns-clause-fault g c = λ f s.
    let so = so_far c.args.state.now in
    let at = c.args.caller in
    let h = c.args.heap.now in
    let args = arguments_of c.args.args.now in
    let asked = c.in_ok-requested.field-0 in
    let part = answered f so h at.place at.locals.now at.globals.now asked.0.0 asked.1 in
    err_same c.answered.result part (call f so h at.place at.locals.now at.globals.now c.args.object.0 args)
    (asked_goes f so h at.place at.locals.now at.globals.now c.args.object.0 asked.0.0 args asked.1 part c.in_ok-requested.ensures.ok refl) (c.answered.ensures.fault f s)
