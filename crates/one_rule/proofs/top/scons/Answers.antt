use Rattle.one_rule.proofs.Promised.{has_status, succeeds, explained, risen, called_for}
use Rattle.one_rule.proofs.top.scons.Goals as goal

pub returns-clause-status : goal.returns-clause-status
returns-clause-status g c = has_status g.W.Disk.meaning g.O.Sink.meaning g.E.Sink.meaning c.args.words.now c.args.world.now c.take_course.new.world c.args.out.now c.take_course.new.out c.args.err.now c.take_course.new.err c.take_course.ensures.runs

pub returns-clause-success : goal.returns-clause-success
returns-clause-success g c = succeeds g.W.Disk.meaning g.O.Sink.meaning g.E.Sink.meaning c.args.words.now c.args.world.now c.take_course.new.world c.args.out.now c.take_course.new.out c.args.err.now c.take_course.new.err c.take_course.ensures.runs

pub returns-clause-explained : goal.returns-clause-explained
returns-clause-explained g c = explained g.W.Disk.meaning g.O.Sink.meaning g.E.Sink.meaning c.args.words.now c.args.world.now c.take_course.new.world c.args.out.now c.take_course.new.out c.args.err.now c.take_course.new.err c.take_course.ensures.runs

pub returns-clause-risen : goal.returns-clause-risen
returns-clause-risen g c = risen g.W.Disk.meaning g.O.Sink.meaning g.E.Sink.meaning c.args.words.now c.args.world.now c.take_course.new.world c.args.out.now c.take_course.new.out c.args.err.now c.take_course.new.err c.take_course.ensures.runs

pub returns-clause-called_for : goal.returns-clause-called_for
returns-clause-called_for g c none = called_for g.W.Disk.meaning g.O.Sink.meaning g.E.Sink.meaning c.args.words.now c.args.world.now c.take_course.new.world c.args.out.now c.take_course.new.out c.args.err.now c.take_course.new.err none c.take_course.ensures.runs
