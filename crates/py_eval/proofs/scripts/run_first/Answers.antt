use Rattle.std.proofs.Common.{Result}
use Rattle.std.proofs.lemmas.Result.{err_from_is_err_and}
use Rattle.py_tree.specs.Tree.{script_tree}
use Rattle.py_meaning.specs.declared.fault.Exit.{Exit}
use Rattle.py_meaning.specs.States.{script_frame}
use Rattle.py_meaning.specs.Jobs.{first_scripts}
use Rattle.py_meaning.specs.Evaluates.{plan}
use Rattle.scons_base.specs.declared.limits.TheConstants.{CALL_DEPTH_LIMIT}
use Rattle.py_state.specs.Stores.{store_of, state_of, state_by}
use Rattle.py_state.specs.declared.stop.Stop.{Stop}
use Rattle.py_eval.specs.Bodies.{ExitsOrStops}
use Rattle.py_eval.proofs.Halting.{handed}
use Rattle.py_eval.proofs.Firsts.{stops_after, next_runs, next_exits}
use Rattle.py_eval.proofs.scripts.run_first.Goals as goal

pub returns-in_err-next-in-Script-clause-exits : goal.returns-in_err-next-in-Script-clause-exits
returns-in_err-next-in-Script-clause-exits g c =
    let m = g.H.Host.meaning in
    let p0 = plan (first_scripts (script_tree c.args.script.now)) (state_by (store_of c.args.machine.now) (script_frame 0)) in
    let f = c.scripts.invariant.leads.0 in
    let s = state_of c.scripts.machine f in
    let t = script_tree c.in-Script.script in
    let runs = next_runs m CALL_DEPTH_LIMIT p0 c.args.host.now c.scripts.host c.scripts.next c.in-Script.script s c.in-Script.is c.scripts.invariant.leads.1 in
    let p = err_from_is_err_and c.from_residual-in_err-next-in-Script.result c.from_residual-in_err-next-in-Script.ensures.1 in
    let x = c.in_err-next-in-Script.field-0.0 in
    handed (λ (r : Result Exit Stop). ExitsOrStops m CALL_DEPTH_LIMIT p0 c.args.host.now r (store_of c.run_one-in-Script.new.machine) c.run_one-in-Script.new.host) c.from_residual-in_err-next-in-Script.result p.0 x p.1 p.2
    (stops_after m CALL_DEPTH_LIMIT p0 (plan (first_scripts t) s) c.args.host.now c.scripts.host c.run_one-in-Script.new.host x runs (c.in_err-next-in-Script.ensures.leads f))

pub returns-in-Exit-clause-exits : goal.returns-in-Exit-clause-exits
returns-in-Exit-clause-exits g c =
    let m = g.H.Host.meaning in
    let p0 = plan (first_scripts (script_tree c.args.script.now)) (state_by (store_of c.args.machine.now) (script_frame 0)) in
    next_exits m CALL_DEPTH_LIMIT p0 c.args.host.now c.scripts.host c.scripts.next c.in-Exit.exit (store_of c.scripts.machine) c.in-Exit.is c.scripts.invariant.leads

pub scripts-preserved : goal.scripts-preserved
scripts-preserved g c =
    let m = g.H.Host.meaning in
    let p0 = plan (first_scripts (script_tree c.args.script.now)) (state_by (store_of c.args.machine.now) (script_frame 0)) in
    let f = c.scripts.invariant.leads.0 in
    let s = state_of c.scripts.machine f in
    let t = script_tree c.in-Script.script in
    let runs = next_runs m CALL_DEPTH_LIMIT p0 c.args.host.now c.scripts.host c.scripts.next c.in-Script.script s c.in-Script.is c.scripts.invariant.leads.1 in
    let next = c.in_ok-next-in-Script.ensures.leads f in
    record {
      keeps = g.met.H.Host.kept.joins c.args.host.now c.scripts.host c.run_one-in-Script.new.host c.scripts.invariant.keeps c.run_one-in-Script.ensures.keeps;
      leads = (next.0, λ r h3 d. runs r h3 (next.1 r h3 d));
    }

pub returns-in_err-next-in-Script-clause-keeps : goal.returns-in_err-next-in-Script-clause-keeps
returns-in_err-next-in-Script-clause-keeps g c = g.met.H.Host.kept.joins c.args.host.now c.scripts.host c.run_one-in-Script.new.host c.scripts.invariant.keeps c.run_one-in-Script.ensures.keeps
