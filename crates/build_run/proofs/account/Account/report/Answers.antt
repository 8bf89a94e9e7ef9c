use Rattle.std.specs.Prelude.{string_bytes}
use Rattle.build_run.proofs.Reporting.{reported, shows_this}
use Rattle.build_run.proofs.Endings.{shown_if}
use Rattle.build_run.proofs.Faulted.{adds_shown}
use Rattle.build_run.proofs.account.Account.report.Goals as goal

pub returns-clause-texts : goal.returns-clause-texts
returns-clause-texts g c = λ start has.
    let e = g.E.Sink.meaning in
    reported e start c.args.err.now c.show.new.err c.args.self.now c.keep.new.self c.show.new.self c.args.fault c.keep.ensures.adds has
    (shows_this e (λ s. string_bytes s) c.args.err.now c.show.new.err c.keep.new.self c.show.new.self c.fault_text-text.result _
    c.fault_text-text.ensures c.show.ensures.shows)

pub returns-clause-noted : goal.returns-clause-noted
returns-clause-noted g c = λ graph rule n. c.show.ensures.noted graph rule (c.keep.ensures.noted graph rule n)

pub returns-clause-kept : goal.returns-clause-kept
returns-clause-kept g c = c.show.ensures.faults c.args.fault c.keep.ensures.kept

pub returns-clause-want : goal.returns-clause-want
returns-clause-want g c = λ ample.
    c.keep.ensures.adds.memory
    (shown_if g.E.Sink.meaning c.args.err.now c.keep.new.self c.show.new.err c.show.new.self (λ s. string_bytes s) c.fault_text-text.result
    c.show.ensures.shows ample)

pub returns-clause-lists : goal.returns-clause-lists
returns-clause-lists g c =
    adds_shown _ _ c.args.fault _
    (shown_if g.E.Sink.meaning c.args.err.now c.keep.new.self c.show.new.err c.show.new.self (λ s. string_bytes s) c.fault_text-text.result c.show.ensures.shows)
    c.keep.ensures.lists c.show.ensures.lists
