use Rattle.std.proofs.Common.{◌≡◌, Err, refl}
use Rattle.py_host.specs.Calls.{given_of}
use Rattle.scons_host.specs.Refusals.{of_refusal}
use Rattle.scons_host.specs.Scripts.{go_on, sconscript}
use Rattle.scons_host.specs.Shown.{IsTold}
use Rattle.scons_host.specs.SoFar.{so_far, waiting_of}
use Rattle.scons_host.specs.Untold.{untold_stop}
use Rattle.scons_host.proofs.Beginning.{unopened, opened_goes}
use Rattle.scons_host.proofs.Scripting.{exit_at, ok_same, err_same}
use Rattle.scons_host.proofs.scripts.open_scripts.Goals as goal

pub returns-in_err-call-clause-fault : goal.returns-in_err-call-clause-fault
returns-in_err-call-clause-fault g c = λ f s.
    let so = so_far c.args.state.now in
    let at = c.args.caller in
    let r = c.in_err-call.field-0.0 in
    exit_at (λ e. IsTold e → sconscript f so c.args.heap.now at.place at.locals.now at.globals.now c.args.env.0 c.args.files ≡ Err (untold_stop e)) (of_refusal r) c.from_residual.result c.from_residual.ensures.1
    (λ told. unopened f so c.args.heap.now at.place at.locals.now at.globals.now c.args.env.0 c.args.files r (of_refusal r) refl c.in_err-call.ensures.fault told)

pub returns-clause-ok : goal.returns-clause-ok
returns-clause-ok g c = λ f s.
    let so = so_far c.args.state.now in
    let at = c.args.caller in
    let h = c.args.heap.now in
    let part = go_on f so h (waiting_of c.in_ok-call.call) in
    ok_same c.go_on.result (λ reply. (given_of reply, so_far c.go_on.new.state, c.go_on.new.heap)) part (sconscript f so h at.place at.locals.now at.globals.now c.args.env.0 c.args.files)
    (opened_goes f so h at.place at.locals.now at.globals.now c.args.env.0 c.args.files (waiting_of c.in_ok-call.call) part c.in_ok-call.ensures.ok refl) (c.go_on.ensures.ok f s)

pub returns-clause-fault : goal.returns-clause-fault
returns-clause-fault g c = λ f s.
    let so = so_far c.args.state.now in
    let at = c.args.caller in
    let h = c.args.heap.now in
    let part = go_on f so h (waiting_of c.in_ok-call.call) in
    err_same c.go_on.result part (sconscript f so h at.place at.locals.now at.globals.now c.args.env.0 c.args.files)
    (opened_goes f so h at.place at.locals.now at.globals.now c.args.env.0 c.args.files (waiting_of c.in_ok-call.call) part c.in_ok-call.ensures.ok refl) (c.go_on.ensures.fault f s)
