use Rattle.scons_top.proofs.Telling.{tells_stopped}
use Rattle.scons_top.specs.declared.step.Step.TheVariants as step
use Rattle.scons_top.proofs.Stepping.{reports_at, alone_at}
use Rattle.scons_top.proofs.Serving.{cut_ended}
use Rattle.scons_top.proofs.Treeing.{trees_ended}
use Rattle.scons_top.proofs.tree_step.tell_trees.Goals as goal

pub returns-in-Err-clause-causes : goal.returns-in-Err-clause-causes
returns-in-Err-clause-causes g c = c.ended.ensures.causes _ _ _ c.in-Err.ensures.reports

pub returns-in-Ok-clause-ends : goal.returns-in-Ok-clause-ends
returns-in-Ok-clause-ends g c = c.in-Ok.ensures.ends

pub returns-in-Err-clause-ends : goal.returns-in-Err-clause-ends
returns-in-Err-clause-ends g c = reports_at step.Building c.ended.result c.ended.ensures.at (alone_at step.Building _ _ c.ended.ensures.alone c.in-Err.ensures.ends) tt

pub returns-in-Err-clause-tells : goal.returns-in-Err-clause-tells
returns-in-Err-clause-tells g c = tells_stopped g.E.Sink.meaning _ _ c.ended.new.err c.ended.result c.in-Err.ensures.tells c.ended.ensures.tells

pub returns-in-Err-clause-prints : goal.returns-in-Err-clause-prints
returns-in-Err-clause-prints g c =
    trees_ended g.W.Disk.meaning g.O.Sink.meaning c.args.words.now c.args.declared c.args.graph.now c.args.requests.now c.args.started.now c.args.world.now c.args.out.now
    c.show_trees.new.world c.show_trees.new.out c.in-Err.stop c.ended.result (cut_ended c.in-Err.stop c.ended.result c.ended.ensures.told) c.in-Err.ensures.prints
