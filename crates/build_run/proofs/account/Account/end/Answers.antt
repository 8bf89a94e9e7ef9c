use Rattle.build_run.proofs.Reporting.{same_told}
use Rattle.build_run.proofs.account.Account.end.Goals as goal

pub returns-in-Fault-clause-texts : goal.returns-in-Fault-clause-texts
returns-in-Fault-clause-texts g c = λ start has. c.report.ensures.texts start has

pub returns-in-Memory-clause-texts : goal.returns-in-Memory-clause-texts
returns-in-Memory-clause-texts g c = λ start has.
    same_told g.E.Sink.meaning c.args.err.now _ c.want_memory.new.self c.want_memory.ensures.same start has

pub returns-in-Fault-clause-lists : goal.returns-in-Fault-clause-lists
returns-in-Fault-clause-lists g c = rw c.in-Fault.is c.report.ensures.lists

pub returns-in-Memory-clause-lists : goal.returns-in-Memory-clause-lists
returns-in-Memory-clause-lists g c = rw c.in-Memory.is c.want_memory.ensures.same.faults
