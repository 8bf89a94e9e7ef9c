use Rattle.build_run.proofs.Safely.{safe_removed}
use Rattle.build_run.proofs.Taking.{takes_removed}
use Rattle.build_run.proofs.clear.remove.Goals as goal

pub returns-in-Ok-clause-only : goal.returns-in-Ok-clause-only
returns-in-Ok-clause-only g c = takes_removed g.W.Disk.meaning c.args.world.now c.remove.new.self c.args.target.now c.remove.ensures.around

pub returns-in-Err-clause-only : goal.returns-in-Err-clause-only
returns-in-Err-clause-only g c = takes_removed g.W.Disk.meaning c.args.world.now c.remove.new.self c.args.target.now c.remove.ensures.around

pub returns-in-Ok-clause-safe : goal.returns-in-Ok-clause-safe
returns-in-Ok-clause-safe g c = λ s safe.
    let is = c.remove.ensures in
    safe_removed g.W.Disk.meaning s c.args.world.now c.remove.new.self is.told is.banks is.time safe c.args.target.now is.around

pub returns-in-Err-clause-safe : goal.returns-in-Err-clause-safe
returns-in-Err-clause-safe g c = λ s safe.
    let is = c.remove.ensures in
    safe_removed g.W.Disk.meaning s c.args.world.now c.remove.new.self is.told is.banks is.time safe c.args.target.now is.around
