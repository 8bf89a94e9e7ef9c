use Rattle.job_runner.proofs.pool.Pool.next_end.Goals as goal

pub returns-clause-out : goal.returns-clause-out
returns-clause-out g c = (_, c.next_place.ensures.out)
