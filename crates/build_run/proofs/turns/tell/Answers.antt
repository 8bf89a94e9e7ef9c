use Rattle.build_run.proofs.turns.tell.Goals as goal

pub returns-in-Ok-clause-lists : goal.returns-in-Ok-clause-lists
returns-in-Ok-clause-lists g c = rw c.in-Ok.is c.step.ensures.texts.faults

pub returns-in-Err-clause-lists : goal.returns-in-Err-clause-lists
returns-in-Err-clause-lists g c = rw c.in-Err.is c.end.ensures.lists
