use Rattle.std.proofs.Common.{List, ℕ, subst}
use Rattle.std.specs.Prelude.{string_bytes}
use Rattle.build_run.specs.FaultTexts.{Shows}
use Rattle.build_run.proofs.Reporting.{none_if, ok_if, shut_if}
use Rattle.build_run.proofs.Faulted.{same_out}
use Rattle.build_run.specs.Faulted.{none_added}
use Rattle.build_run.proofs.account.Account.show.Goals as goal

pub returns-then-self-clause-shows : goal.returns-then-self-clause-shows
returns-then-self-clause-shows g c = shut_if g.E.Sink.meaning (λ s. string_bytes s) c.args.err.now c.args.self.now c.args.text c.if-self.true

pub returns-in-Ok-clause-shows : goal.returns-in-Ok-clause-shows
returns-in-Ok-clause-shows g c =
    let e = g.E.Sink.meaning in
    ok_if e (λ s. string_bytes s) c.args.err.now c.write.new.err c.args.self.now c.write.new.self c.args.text _ c.in-Ok.is
    (subst (λ (l : List ℕ). Shows e c.args.err.now c.args.self.now l c.write.new.err c.write.new.self) c.as_str.ensures.value
    (c.write.ensures.shows c.if-self.false))

pub returns-in-Err-clause-shows : goal.returns-in-Err-clause-shows
returns-in-Err-clause-shows g c =
    none_if g.E.Sink.meaning (λ s. string_bytes s) c.args.err.now c.args.self.now c.want_memory.new.self c.args.text _ c.in-Err.is
    c.want_memory.ensures.memory c.want_memory.ensures.same.shut

pub returns-then-self-clause-lists : goal.returns-then-self-clause-lists
returns-then-self-clause-lists g c = none_added

pub returns-in-Ok-clause-lists : goal.returns-in-Ok-clause-lists
returns-in-Ok-clause-lists g c = c.write.ensures.lists

pub returns-in-Err-clause-lists : goal.returns-in-Err-clause-lists
returns-in-Err-clause-lists g c = same_out _ _ c.want_memory.ensures.same.faults
