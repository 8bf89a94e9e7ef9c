use Rattle.one_rule.proofs.Closing.{ended_at, refused_at}
use Rattle.one_rule.proofs.conclusion.end_output.Goals as goal

pub returns-in-Ok-clause-ends : goal.returns-in-Ok-clause-ends
returns-in-Ok-clause-ends g c =
    ended_at g.O.Sink.meaning c.args.out.now c.print.new.sink c.args.status c.args.faults.items c.args.last.now c.report.result.status c.report.result.faults
    c.report.ensures.status c.report.ensures.faults c.in-Ok.ensures.ok

pub returns-in-Err-clause-ends : goal.returns-in-Err-clause-ends
returns-in-Err-clause-ends g c =
    refused_at g.O.Sink.meaning c.args.out.now c.print.new.sink c.args.status c.args.faults.items c.args.last.now c.cut_off.result.status c.cut_off.result.faults
    c.cut_off.ensures.status c.cut_off.ensures.faults c.in-Err.ensures.err
