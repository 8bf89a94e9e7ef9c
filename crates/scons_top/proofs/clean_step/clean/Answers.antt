use Rattle.scons_top.specs.declared.step.Step.TheVariants as step
use Rattle.scons_top.proofs.Stepping.{stops_list, sink_stops, cleaning_at}
use Rattle.scons_top.proofs.Removing.{on_ok, one_printed, one_stopped}
use Rattle.scons_top.proofs.Causing.{same_world, exit_list, world_stop, look_end, sink_step, step_back}
use Rattle.scons_top.proofs.clean_step.clean.Goals as goal

pub returns-in_err-removed-clause-steps : goal.returns-in_err-removed-clause-steps
returns-in_err-removed-clause-steps g c = λ err. exit_list _ _ c.from_residual.result _ c.from_residual.ensures.1 (world_stop _ _ _ err _ (look_end _ _ _ c.in_err-removed.ensures.cause))

pub returns-clause-steps : goal.returns-clause-steps
returns-clause-steps g c = λ err.
    step_back _ _ _ c.tell_removed.result (same_world _ _ _ err c.in_ok-removed.ensures.cause) (sink_step _ _ _ err c.tell_removed.result c.tell_removed.ensures.step)

pub returns-in_err-removed-clause-stops : goal.returns-in_err-removed-clause-stops
returns-in_err-removed-clause-stops g c = stops_list step.Cleaning c.from_residual.result _ c.from_residual.ensures.1 (cleaning_at _ c.in_err-removed.ensures.tree)

pub returns-clause-stops : goal.returns-clause-stops
returns-clause-stops g c = sink_stops step.Cleaning _ _ c.tell_removed.result c.tell_removed.ensures.step

pub returns-clause-gone : goal.returns-clause-gone
returns-clause-gone g c = on_ok c.tell_removed.result c.in_ok-removed.ensures.gone

pub returns-in_err-removed-clause-prints : goal.returns-in_err-removed-clause-prints
returns-in_err-removed-clause-prints g c =
    one_stopped g.W.Disk.meaning g.O.Sink.meaning c.args.words.now c.args.path.now c.args.world.now _ c.args.out.now _ c.from_residual.result c.from_residual.ensures.1

pub returns-clause-prints : goal.returns-clause-prints
returns-clause-prints g c =
    one_printed g.W.Disk.meaning g.O.Sink.meaning c.args.words.now c.args.path.now c.args.world.now _ c.args.out.now _ c.in_ok-removed.removed c.tell_removed.result c.in_ok-removed.ensures.there c.tell_removed.ensures.prints
