use Rattle.std.proofs.Common.{◌≡◌, Err, sym, ap}
use Rattle.std.specs.Prelude.{codes}
use Rattle.py_tree.specs.Tree.{script_tree}
use Rattle.scons_host.specs.declared.stop.Stop.TheVariants as stop
use Rattle.scons_host.specs.Scripts.{begins}
use Rattle.scons_host.specs.Shown.{IsTold}
use Rattle.scons_host.specs.SoFar.{so_far}
use Rattle.scons_host.specs.Untold.{untold_stop}
use Rattle.scons_host.proofs.Scripting.{exit_at, ok_same, err_same}
use Rattle.scons_host.proofs.scripts.first_begins.Goals as goal

pub returns-in_err-dir-clause-fault : goal.returns-in_err-dir-clause-fault
returns-in_err-dir-clause-fault c = λ f tells.
    exit_at (λ e. IsTold e → begins f (so_far c.args.state.now) c.args.source (codes ".") ≡ Err (untold_stop e)) stop.Memory c.from_residual.result c.from_residual.ensures.1 (λ told. absurd told)

pub returns-clause-ok : goal.returns-clause-ok
returns-clause-ok c = λ f tells.
    let so = so_far c.args.state.now in
    let source = c.args.source in
    ok_same c.begins.result (λ script. (script_tree script, so_far c.begins.new.state)) (begins f so source c.in_ok-dir.dir) (begins f so source (codes "."))
    (ap (λ d. begins f so source d) (sym c.in_ok-dir.ensures)) (c.begins.ensures.ok f tells)

pub returns-clause-fault : goal.returns-clause-fault
returns-clause-fault c = λ f tells.
    let so = so_far c.args.state.now in
    let source = c.args.source in
    err_same c.begins.result (begins f so source c.in_ok-dir.dir) (begins f so source (codes ".")) (ap (λ d. begins f so source d) (sym c.in_ok-dir.ensures)) (c.begins.ensures.fault f tells)
