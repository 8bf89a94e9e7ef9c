use Rattle.env_subst.proofs.Stacks.{piece_faulted}
use Rattle.env_subst.proofs.desk.put_all.Goals as goal

pub returns-in-Err-clause-fault : goal.returns-in-Err-clause-fault
returns-in-Err-clause-fault c = piece_faulted c.in-Err.fault c.piece_fault.result c.piece_fault.ensures c.in-Err.ensures.fault
