use Rattle.world_api.proofs.Looking.{looks_same}
use Rattle.build_run.proofs.explain.why_text.Goals as goal

pub returns-in_err-of-clause-looks : goal.returns-in_err-of-clause-looks
returns-in_err-of-clause-looks g c = looks_same g.W.Disk.meaning c.args.world.now

pub returns-then-not-is_told-clause-looks : goal.returns-then-not-is_told-clause-looks
returns-then-not-is_told-clause-looks g c = looks_same g.W.Disk.meaning c.args.world.now
