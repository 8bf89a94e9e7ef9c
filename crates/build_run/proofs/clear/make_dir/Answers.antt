use Rattle.build_run.proofs.Safely.{safely_here}
use Rattle.build_run.proofs.clear.make_dir.Goals as goal

pub returns-in_default-clause-safe : goal.returns-in_default-clause-safe
returns-in_default-clause-safe g c = safely_here g.W.Disk.meaning g.met.W.Disk.only_now c.args.world.now

pub returns-then-contains-clause-safe : goal.returns-then-contains-clause-safe
returns-then-contains-clause-safe g c = safely_here g.W.Disk.meaning g.met.W.Disk.only_now c.args.world.now
