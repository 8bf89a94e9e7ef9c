use Rattle.build_run.proofs.Noting.{noted_or}
use Rattle.build_run.proofs.Reasons.{ended_before}
use Rattle.build_run.proofs.Reporting.{same_told}
use Rattle.build_run.proofs.Faulted.{adds_same}
use Rattle.build_run.proofs.account.Account.fail.Goals as goal

pub returns-clause-noted : goal.returns-clause-noted
returns-clause-noted g c = λ graph rule n. noted_or graph _ _ _ _ rule (c.note_faulty.ensures.noted graph rule (c.report.ensures.noted graph rule n))

pub returns-clause-notes : goal.returns-clause-notes
returns-clause-notes g c = λ graph path named of.
    noted_or graph _ _ _ _ c.args.rule.0 (c.note_faulty.ensures.notes c.args.fault c.report.ensures.kept graph path named of)

pub returns-clause-reason : goal.returns-clause-reason
returns-clause-reason g c = λ reason keep is.
    c.note_faulty.ensures.reason (c.report.ensures.reason (reason keep)) (ended_before _ c.args.goes_on keep is)

pub returns-clause-texts : goal.returns-clause-texts
returns-clause-texts g c = λ start has.
    same_told g.E.Sink.meaning _ c.report.new.self c.note_faulty.new.self c.note_faulty.ensures.same start (c.report.ensures.texts start has)

pub returns-clause-want : goal.returns-clause-want
returns-clause-want g c = λ ample. c.report.ensures.want (c.note_faulty.ensures.same.memory ample)

pub returns-clause-lists : goal.returns-clause-lists
returns-clause-lists g c =
    adds_same _ _ c.args.fault _ _ _ c.note_faulty.ensures.same.memory c.note_faulty.ensures.same.faults c.report.ensures.lists
