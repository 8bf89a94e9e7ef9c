use Rattle.std.proofs.Common.{Ok, Err, refl, sym, subst}
use Rattle.py_tree.specs.Tree.{script_tree}
use Rattle.py_meaning.specs.declared.fault.EvalFault.{EvalFault}
use Rattle.py_meaning.specs.Jobs.{first_scripts}
use Rattle.py_meaning.specs.States.{exits, script_frame}
use Rattle.py_meaning.specs.Evaluates.{plan}
use Rattle.py_state.specs.Stores.{store_of, state_by}
use Rattle.scons_base.specs.declared.limits.TheConstants.{CALL_DEPTH_LIMIT}
use Rattle.py_eval.specs.Answers.{IsFound, IsOnly, HasCause}
use Rattle.py_eval.specs.declared.scripts.Ran.{Ran}
use Rattle.py_eval.proofs.Answered.{evaluates, exit_only, is_stop, stop_found, stop_only, stop_cause}
use Rattle.py_eval.proofs.scripts.run.Goals as goal

pub fault_by-requires : goal.fault_by-requires
fault_by-requires g c = is_stop g.H.Host.meaning CALL_DEPTH_LIMIT (plan (first_scripts (script_tree c.args.script.now)) (state_by (store_of c.new-machine.result) (script_frame 0))) c.args.host.now c.run_first.new.host c.in-Err.stop c.in-Err.ensures.exits

pub returns-in-Ok-clause-found : goal.returns-in-Ok-clause-found
returns-in-Ok-clause-found g c =
    let m = g.H.Host.meaning in
    let t = script_tree c.args.script.now in
    let s = state_by (store_of c.run_first.new.machine) c.in-Ok.ensures.exits.0 in
    let d = evaluates m t c.new-machine.result c.args.heap c.args.budget c.args.host.now c.run_first.new.host (Ok (exits c.in-Ok.exit s)) c.new-machine.ensures c.in-Ok.ensures.exits.1 in
    subst (λ (r : Ran). IsFound m t c.args.heap c.args.budget c.args.host.now (Ok r) c.run_first.new.host) (sym c.left_by.ensures) (s, d, (refl, refl))

pub returns-in-Ok-clause-only : goal.returns-in-Ok-clause-only
returns-in-Ok-clause-only g c =
    let m = g.H.Host.meaning in
    let t = script_tree c.args.script.now in
    let s = state_by (store_of c.run_first.new.machine) c.in-Ok.ensures.exits.0 in
    let d = evaluates m t c.new-machine.result c.args.heap c.args.budget c.args.host.now c.run_first.new.host (Ok (exits c.in-Ok.exit s)) c.new-machine.ensures c.in-Ok.ensures.exits.1 in
    let ran : Ran = record { exit = c.in-Ok.exit; heap = c.run_first.new.machine.heap; budget = c.run_first.new.machine.budget } in
    subst (λ (r : Ran). IsOnly m t c.args.heap c.args.budget c.args.host.now (Ok r) c.run_first.new.host) (sym c.left_by.ensures)
    (exit_only m t c.args.heap c.args.budget c.args.host.now c.run_first.new.host ran s g.met.H.Host.kept g.met.H.Host.determined d (refl, refl))

pub returns-in-Err-clause-found : goal.returns-in-Err-clause-found
returns-in-Err-clause-found g c =
    let m = g.H.Host.meaning in
    let t = script_tree c.args.script.now in
    subst (λ (e : EvalFault). IsFound m t c.args.heap c.args.budget c.args.host.now (Err e) c.run_first.new.host) (sym c.fault_by.ensures)
    (stop_found m t c.new-machine.result c.args.heap c.args.budget c.args.host.now c.run_first.new.host c.new-machine.ensures c.in-Err.stop c.in-Err.ensures.exits)

pub returns-in-Err-clause-only : goal.returns-in-Err-clause-only
returns-in-Err-clause-only g c =
    let m = g.H.Host.meaning in
    let t = script_tree c.args.script.now in
    subst (λ (e : EvalFault). IsOnly m t c.args.heap c.args.budget c.args.host.now (Err e) c.run_first.new.host) (sym c.fault_by.ensures)
    (stop_only m t c.new-machine.result c.args.heap c.args.budget c.args.host.now c.run_first.new.host c.new-machine.ensures g.met.H.Host.kept g.met.H.Host.determined c.in-Err.stop c.in-Err.ensures.exits)

pub returns-in-Err-clause-cause : goal.returns-in-Err-clause-cause
returns-in-Err-clause-cause g c =
    let m = g.H.Host.meaning in
    let t = script_tree c.args.script.now in
    subst (λ (e : EvalFault). HasCause e (m.refusals c.args.host.now) (m.refusals c.run_first.new.host)) (sym c.fault_by.ensures)
    (stop_cause m t c.new-machine.result c.args.heap c.args.budget c.args.host.now c.run_first.new.host c.new-machine.ensures g.met.H.Host.kept c.in-Err.stop c.in-Err.ensures.exits)

pub returns-in-Ok-clause-later : goal.returns-in-Ok-clause-later
returns-in-Ok-clause-later g c = g.met.H.Host.kept.later c.args.host.now c.run_first.new.host c.run_first.ensures.keeps

pub returns-in-Err-clause-later : goal.returns-in-Err-clause-later
returns-in-Err-clause-later g c = g.met.H.Host.kept.later c.args.host.now c.run_first.new.host c.run_first.ensures.keeps
