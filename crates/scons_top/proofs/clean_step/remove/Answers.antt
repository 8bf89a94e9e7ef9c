use Rattle.scons_top.proofs.clean_step.remove.Goals as goal
use Rattle.scons_top.proofs.Clearing.{cleared_removed}
use Rattle.scons_top.proofs.Stepping.{tree_end}
use Rattle.scons_top.proofs.Stopping.{steps_removed}
use Rattle.scons_top.proofs.Remembered.{banks_removed}

pub returns-in-Ok-clause-safe : goal.returns-in-Ok-clause-safe
returns-in-Ok-clause-safe g c =
    let is = c.remove.ensures in
    steps_removed g.W.Disk.meaning c.args.world.now c.remove.new.self c.args.path.now c.requires.idle is.told is.banks is.time is.around

pub returns-in-Ok-clause-moments : goal.returns-in-Ok-clause-moments
returns-in-Ok-clause-moments g c =
    let is = c.remove.ensures in
    banks_removed g.W.Disk.meaning c.args.world.now c.remove.new.self is.banks is.time

pub returns-in-Err-clause-safe : goal.returns-in-Err-clause-safe
returns-in-Err-clause-safe g c =
    let is = c.remove.ensures in
    steps_removed g.W.Disk.meaning c.args.world.now c.remove.new.self c.args.path.now c.requires.idle is.told is.banks is.time is.around

pub returns-in-Err-clause-moments : goal.returns-in-Err-clause-moments
returns-in-Err-clause-moments g c =
    let is = c.remove.ensures in
    banks_removed g.W.Disk.meaning c.args.world.now c.remove.new.self is.banks is.time

pub returns-in-Ok-clause-cleared : goal.returns-in-Ok-clause-cleared
returns-in-Ok-clause-cleared g c = λ t.
    let is = c.remove.ensures in
    cleared_removed c.args.path.now _ _ (c.requires.idle (is.told.told t)) (is.around t)

pub returns-in-Err-clause-cleared : goal.returns-in-Err-clause-cleared
returns-in-Err-clause-cleared g c = λ t.
    let is = c.remove.ensures in
    cleared_removed c.args.path.now _ _ (c.requires.idle (is.told.told t)) (is.around t)

pub returns-in-Err-clause-tree : goal.returns-in-Err-clause-tree
returns-in-Err-clause-tree g c = tree_end c.tree.result c.tree.ensures
