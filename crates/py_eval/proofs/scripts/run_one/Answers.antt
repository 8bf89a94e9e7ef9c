use Rattle.std.proofs.Common.{Result, Ok, Err, ap}
use Rattle.std.proofs.lemmas.Result.{err_from_is_err_and}
use Rattle.py_tree.specs.Tree.{script_tree}
use Rattle.py_host.specs.Calls.{tree_of}
use Rattle.py_meaning.specs.States.{script_frame}
use Rattle.py_meaning.specs.Jobs.{first_scripts}
use Rattle.py_meaning.specs.Evaluates.{plan}
use Rattle.scons_base.specs.declared.limits.TheConstants.{CALL_DEPTH_LIMIT}
use Rattle.py_state.specs.Stores.{store_of, state_of, state_by}
use Rattle.py_state.specs.declared.stop.Stop.{Stop}
use Rattle.py_eval.specs.Bodies.{LeadsToNext}
use Rattle.py_eval.specs.declared.scripts.Next.{Next}
use Rattle.py_eval.proofs.Halting.{handed}
use Rattle.py_eval.proofs.Over.{script_begins, lines_as}
use Rattle.py_eval.proofs.Firsts.{first_stops, no_answer, last_script, further_paid, further_unpaid}
use Rattle.py_eval.proofs.scripts.run_one.Goals as goal

pub returns-in_err-exit-clause-leads : goal.returns-in_err-exit-clause-leads
returns-in_err-exit-clause-leads g c = λ f.
    let m = g.H.Host.meaning in
    let t = script_tree c.args.script.now in
    let s = state_of c.args.machine.now f in
    let begun_as = script_begins c.args.machine.now c.begin_script.new.self f c.in_ok-number.number c.in_ok-number.ensures.begun c.in_ok-number.ensures.ok in
    let p = err_from_is_err_and c.from_residual-in_err-exit.result c.from_residual-in_err-exit.ensures.1 in
    let x = c.in_err-exit.field-0.0 in
    handed (λ (r : Result Next Stop). LeadsToNext m CALL_DEPTH_LIMIT (plan (first_scripts t) s) c.args.host.now r (store_of c.run_script.new.machine) c.run_script.new.host) c.from_residual-in_err-exit.result p.0 x p.1 p.2
    (first_stops m CALL_DEPTH_LIMIT t s x c.args.host.now c.run_script.new.host (lines_as m CALL_DEPTH_LIMIT c.as_slice.result.now c.args.script.now.lines.items (state_by (store_of c.begin_script.new.self) (script_frame c.in_ok-number.number)) _ (Err x) (store_of c.run_script.new.machine) c.args.host.now c.run_script.new.host c.as_slice.ensures.value begun_as c.in_err-exit.ensures.over))

pub returns-in_err-script-clause-leads : goal.returns-in_err-script-clause-leads
returns-in_err-script-clause-leads g c = λ f.
    let m = g.H.Host.meaning in
    let t = script_tree c.args.script.now in
    let s = state_of c.args.machine.now f in
    let begun_as = script_begins c.args.machine.now c.begin_script.new.self f c.in_ok-number.number c.in_ok-number.ensures.begun c.in_ok-number.ensures.ok in
    let kept = store_of c.run_script.new.machine in
    let kept2 = store_of c.script_behind.new.machine in
    let exit = c.in_ok-exit.exit in
    let p = err_from_is_err_and c.from_residual-in_err-script.result c.from_residual-in_err-script.ensures.1 in
    let x = c.in_err-script.field-0.0 in
    handed (λ (r : Result Next Stop). LeadsToNext m CALL_DEPTH_LIMIT (plan (first_scripts t) s) c.args.host.now r kept2 c.script_behind.new.host) c.from_residual-in_err-script.result p.0 x p.1 p.2
    (no_answer m CALL_DEPTH_LIMIT t s exit kept c.args.host.now c.run_script.new.host c.script_behind.new.host x (lines_as m CALL_DEPTH_LIMIT c.as_slice.result.now c.args.script.now.lines.items (state_by (store_of c.begin_script.new.self) (script_frame c.in_ok-number.number)) _ (Ok exit) (store_of c.run_script.new.machine) c.args.host.now c.run_script.new.host c.as_slice.ensures.value begun_as c.in_ok-exit.ensures.over) (c.in_err-script.ensures.leads CALL_DEPTH_LIMIT))

pub returns-in_default-clause-leads : goal.returns-in_default-clause-leads
returns-in_default-clause-leads g c = λ f.
    let m = g.H.Host.meaning in
    let t = script_tree c.args.script.now in
    let s = state_of c.args.machine.now f in
    let begun_as = script_begins c.args.machine.now c.begin_script.new.self f c.in_ok-number.number c.in_ok-number.ensures.begun c.in_ok-number.ensures.ok in
    let kept = store_of c.run_script.new.machine in
    let kept2 = store_of c.script_behind.new.machine in
    let exit = c.in_ok-exit.exit in
    last_script m CALL_DEPTH_LIMIT t s exit kept kept2 c.args.host.now c.run_script.new.host c.script_behind.new.host (tree_of c.in_ok-script.field-0) (lines_as m CALL_DEPTH_LIMIT c.as_slice.result.now c.args.script.now.lines.items (state_by (store_of c.begin_script.new.self) (script_frame c.in_ok-number.number)) _ (Ok exit) (store_of c.run_script.new.machine) c.args.host.now c.run_script.new.host c.as_slice.ensures.value begun_as c.in_ok-exit.ensures.over) (ap tree_of c.in_default.is) (c.in_ok-script.ensures.leads CALL_DEPTH_LIMIT)

pub returns-in_err-pay_script-clause-leads : goal.returns-in_err-pay_script-clause-leads
returns-in_err-pay_script-clause-leads g c = λ f.
    let m = g.H.Host.meaning in
    let t = script_tree c.args.script.now in
    let s = state_of c.args.machine.now f in
    let begun_as = script_begins c.args.machine.now c.begin_script.new.self f c.in_ok-number.number c.in_ok-number.ensures.begun c.in_ok-number.ensures.ok in
    let kept = store_of c.run_script.new.machine in
    let kept2 = store_of c.script_behind.new.machine in
    let exit = c.in_ok-exit.exit in
    let kept3 = store_of c.pay_script.new.machine in
    let p = err_from_is_err_and c.from_residual-in_err-pay_script.result c.from_residual-in_err-pay_script.ensures.1 in
    let x = c.in_err-pay_script.field-0.0 in
    handed (λ (r : Result Next Stop). LeadsToNext m CALL_DEPTH_LIMIT (plan (first_scripts t) s) c.args.host.now r kept3 c.script_behind.new.host) c.from_residual-in_err-pay_script.result p.0 x p.1 p.2
    (further_unpaid m CALL_DEPTH_LIMIT t (script_tree c.in-Some.script) s exit kept kept2 kept3 c.args.host.now c.run_script.new.host c.script_behind.new.host (tree_of c.in_ok-script.field-0) x (lines_as m CALL_DEPTH_LIMIT c.as_slice.result.now c.args.script.now.lines.items (state_by (store_of c.begin_script.new.self) (script_frame c.in_ok-number.number)) _ (Ok exit) (store_of c.run_script.new.machine) c.args.host.now c.run_script.new.host c.as_slice.ensures.value begun_as c.in_ok-exit.ensures.over) (ap tree_of c.in-Some.is) (c.in_ok-script.ensures.leads CALL_DEPTH_LIMIT) c.in_err-pay_script.ensures)

pub returns-clause-leads : goal.returns-clause-leads
returns-clause-leads g c = λ f.
    let m = g.H.Host.meaning in
    let t = script_tree c.args.script.now in
    let s = state_of c.args.machine.now f in
    let begun_as = script_begins c.args.machine.now c.begin_script.new.self f c.in_ok-number.number c.in_ok-number.ensures.begun c.in_ok-number.ensures.ok in
    let kept = store_of c.run_script.new.machine in
    let kept2 = store_of c.script_behind.new.machine in
    let exit = c.in_ok-exit.exit in
    let kept3 = store_of c.pay_script.new.machine in
    further_paid m CALL_DEPTH_LIMIT t c.in-Some.script s exit kept kept2 kept3 c.args.host.now c.run_script.new.host c.script_behind.new.host (tree_of c.in_ok-script.field-0) (lines_as m CALL_DEPTH_LIMIT c.as_slice.result.now c.args.script.now.lines.items (state_by (store_of c.begin_script.new.self) (script_frame c.in_ok-number.number)) _ (Ok exit) (store_of c.run_script.new.machine) c.args.host.now c.run_script.new.host c.as_slice.ensures.value begun_as c.in_ok-exit.ensures.over) (ap tree_of c.in-Some.is) (c.in_ok-script.ensures.leads CALL_DEPTH_LIMIT) c.in_ok-pay_script.ensures

pub returns-in_err-script-clause-keeps : goal.returns-in_err-script-clause-keeps
returns-in_err-script-clause-keeps g c = g.met.H.Host.kept.joins c.args.host.now c.run_script.new.host c.script_behind.new.host c.run_script.ensures.keeps c.script_behind.ensures.keeps

pub returns-in_default-clause-keeps : goal.returns-in_default-clause-keeps
returns-in_default-clause-keeps g c = g.met.H.Host.kept.joins c.args.host.now c.run_script.new.host c.script_behind.new.host c.run_script.ensures.keeps c.script_behind.ensures.keeps

pub returns-in_err-pay_script-clause-keeps : goal.returns-in_err-pay_script-clause-keeps
returns-in_err-pay_script-clause-keeps g c = g.met.H.Host.kept.joins c.args.host.now c.run_script.new.host c.script_behind.new.host c.run_script.ensures.keeps c.script_behind.ensures.keeps

pub returns-clause-keeps : goal.returns-clause-keeps
returns-clause-keeps g c = g.met.H.Host.kept.joins c.args.host.now c.run_script.new.host c.script_behind.new.host c.run_script.ensures.keeps c.script_behind.ensures.keeps
