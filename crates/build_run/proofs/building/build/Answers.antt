use Rattle.std.proofs.Common.{◌∙◌, ap, refl}
use Rattle.build_means.specs.Rules.{IsReading}
use Rattle.build_run.specs.Causes.{outside}
use Rattle.build_run.specs.Ledgers.{ledger_of, ledger_of_end, blank, with_end}
use Rattle.build_run.specs.Outsets.{wanted_of}
use Rattle.build_run.proofs.Builds.{build_forgets, build_printed, build_ran, build_refused, build_remembers, build_silent, build_skipped, build_succeeded, has_unwatched, is_blank, refused_forgets, refused_remembers, refused_skips, refused_untold}
use Rattle.build_run.proofs.Causing.{account_as, at_first, caused, ended, same_counts}
use Rattle.build_run.proofs.Goings.{passes_on}
use Rattle.build_run.proofs.Safely.{safe_on}
use Rattle.build_run.proofs.Stopped.{builds_safely, unwatched}
use Rattle.build_run.proofs.Taking.{take_accounted}
use Rattle.build_run.proofs.Reasons.{answers_so, not_ended}
use Rattle.build_run.proofs.Reporting.{begins_told, build_tells}
use Rattle.build_run.specs.Ledgers.{Ledger}
use Rattle.build_run.proofs.Builds.{build_counted, refused_counts}
use Rattle.build_run.proofs.Endings.{all_counted, none_counted}
use Rattle.build_run.proofs.Builds.{build_faulted, refused_faulted}
use Rattle.build_run.proofs.Reported.{plain_take}
use Rattle.build_run.proofs.building.build.Goals as goal

pub make_all-skipped-requires : goal.make_all-skipped-requires
make_all-skipped-requires g c =
    let goes = c.set_out.ensures.goes in
    record {
      unclosed = goes.passes.told.closed ∙ c.requires.unclosed;
      idle = λ t. goes.runs t ∙ c.requires.idle (goes.passes.told.told t);
      live = c.in-Ok.ensures.live;
      kept = c.in-Ok.ensures.kept;
      none = c.in-Ok.ensures.none;
      held = c.in-Ok.ensures.held;
    }

pub returns-in-Ok-clause-told : goal.returns-in-Ok-clause-told
returns-in-Ok-clause-told g c = (passes_on g.W.Disk.meaning _ _ _ c.set_out.ensures.goes.passes c.make_all-skipped.ensures.passes).told

pub returns-in-Ok-clause-later : goal.returns-in-Ok-clause-later
returns-in-Ok-clause-later g c = (passes_on g.W.Disk.meaning _ _ _ c.set_out.ensures.goes.passes c.make_all-skipped.ensures.passes).later

pub returns-in-Ok-clause-idle : goal.returns-in-Ok-clause-idle
returns-in-Ok-clause-idle g c = c.make_all-skipped.ensures.idle

pub returns-in-Ok-clause-causes : goal.returns-in-Ok-clause-causes
returns-in-Ok-clause-causes g c =
    let start = outside (g.W.Disk.meaning.counts c.args.world.now) (g.O.Sink.meaning.faults c.args.out.now) (g.E.Sink.meaning.faults c.args.err.now) in
    let first = account_as start start blank (ledger_of c.new-account.result) c.new-account.ensures.ledger (at_first start) in
    let begun = same_counts start (ledger_of c.new-account.result) _ _ _ _ c.in-Ok.ensures.cause first in
    let made = c.make_all-skipped.ensures.accounts start begun in
    caused start _ (ledger_of_end c.answer.result) (ended start _ (ledger_of c.make_all-skipped.new.account) _ _ c.answer.ensures.faults c.answer.ensures.memory made)

pub returns-in-Err-clause-causes : goal.returns-in-Err-clause-causes
returns-in-Err-clause-causes g c =
    let start = outside (g.W.Disk.meaning.counts c.args.world.now) (g.O.Sink.meaning.faults c.args.out.now) (g.E.Sink.meaning.faults c.args.err.now) in
    let begun = take_accounted start _ _ _ _ _ c.in-Err.ensures.cause (at_first start) in
    let owed = account_as start _ (with_end blank c.in-Err.end) (with_end (ledger_of c.new-account.result) c.in-Err.end) (ap (λ l. with_end l c.in-Err.end) c.new-account.ensures.ledger) begun in
    caused start _ (ledger_of_end c.answer-in-Err.result) (ended start _ (ledger_of c.end.new.self) _ _ c.answer-in-Err.ensures.faults c.answer-in-Err.ensures.memory (c.end.ensures.reports.accounts _ _ start owed))

pub returns-in-Ok-clause-runs : goal.returns-in-Ok-clause-runs
returns-in-Ok-clause-runs g c =
    let start = outside (g.W.Disk.meaning.counts c.args.world.now) (g.O.Sink.meaning.faults c.args.out.now) (g.E.Sink.meaning.faults c.args.err.now) in
    let first = account_as start start blank (ledger_of c.new-account.result) c.new-account.ensures.ledger (at_first start) in
    let made = c.make_all-skipped.ensures.accounts start (same_counts start (ledger_of c.new-account.result) _ _ _ _ c.in-Ok.ensures.cause first) in
    let read : IsReading c.args.graph.now = record { apart = c.laws.ensures.apart; single = c.laws.ensures.single; named = c.laws.ensures.named } in
    build_ran g.W.Disk.meaning c.args.graph.now c.args.requested.now c.args.options.now read c.args.world.now c.set_out.new.world
    c.make_all-skipped.new.world c.args.store.now c.set_out.new.store c.requires.idle c.set_out.new.graph c.in-Ok.run' c.new-account.result
    c.set_out.ensures.goes.passes.told.told c.in-Ok.ensures.cause
    c.in-Ok.ensures.sets (is_blank c.new-account.result c.new-account.ensures.ledger c.new-account.ensures.ended)
    (g.met.W.Disk.reads_as c.set_out.new.world) c.in-Ok.ensures.kept c.make_all-skipped.ensures.passes.told.sure c.set_out.ensures.safe
    c.runs_are_right.ensures
    c.make_all-skipped.new.account c.make_all-skipped.ensures.passes.told.told
    c.make_all-skipped.new.store c.make_all-skipped.ensures.makes made.shut c.make_all-skipped.ensures.stored c.answer.result c.answer.ensures.ended

pub returns-in-Ok-clause-succeeds : goal.returns-in-Ok-clause-succeeds
returns-in-Ok-clause-succeeds g c =
    let start = outside (g.W.Disk.meaning.counts c.args.world.now) (g.O.Sink.meaning.faults c.args.out.now) (g.E.Sink.meaning.faults c.args.err.now) in
    let first = account_as start start blank (ledger_of c.new-account.result) c.new-account.ensures.ledger (at_first start) in
    let made = c.make_all-skipped.ensures.accounts start (same_counts start (ledger_of c.new-account.result) _ _ _ _ c.in-Ok.ensures.cause first) in
    let read : IsReading c.args.graph.now = record { apart = c.laws.ensures.apart; single = c.laws.ensures.single; named = c.laws.ensures.named } in
    build_succeeded g.W.Disk.meaning c.args.graph.now c.args.requested.now c.args.options.now read c.args.world.now c.set_out.new.world
    c.make_all-skipped.new.world c.args.store.now c.set_out.new.store c.requires.idle c.set_out.new.graph c.in-Ok.run' c.new-account.result
    c.set_out.ensures.goes.passes.told.told c.in-Ok.ensures.cause
    c.in-Ok.ensures.sets (is_blank c.new-account.result c.new-account.ensures.ledger c.new-account.ensures.ended)
    (g.met.W.Disk.reads_as c.set_out.new.world) c.in-Ok.ensures.kept c.make_all-skipped.ensures.passes.told.sure c.set_out.ensures.safe
    c.runs_are_right.ensures
    c.make_all-skipped.new.account c.make_all-skipped.ensures.passes.told.told
    c.make_all-skipped.new.store c.make_all-skipped.ensures.makes made.shut c.make_all-skipped.ensures.stored c.answer.result c.answer.ensures.faulted

pub returns-in-Err-clause-runs : goal.returns-in-Err-clause-runs
returns-in-Err-clause-runs g c =
    let read : IsReading c.args.graph.now = record { apart = c.laws.ensures.apart; single = c.laws.ensures.single; named = c.laws.ensures.named } in
    build_refused g.W.Disk.meaning c.args.graph.now c.args.requested.now c.args.options.now read c.args.world.now c.set_out.new.world
    c.set_out.new.world c.args.store.now c.set_out.new.store c.requires.idle c.set_out.ensures.goes.passes.told.told c.in-Err.ensures.rest
    c.answer-in-Err.result (c.answer-in-Err.ensures.ended ∙ c.end.ensures.ends.ended)

pub returns-in-Err-clause-succeeds : goal.returns-in-Err-clause-succeeds
returns-in-Err-clause-succeeds g c =
    let read : IsReading c.args.graph.now = record { apart = c.laws.ensures.apart; single = c.laws.ensures.single; named = c.laws.ensures.named } in
    refused_untold g.W.Disk.meaning c.args.graph.now c.args.requested.now c.args.options.now read c.args.world.now c.set_out.new.world
    c.set_out.new.world c.args.store.now c.set_out.new.store c.requires.idle c.end.new.self c.end.ensures.ends.faulted c.answer-in-Err.result
    c.answer-in-Err.ensures.faulted

pub returns-in-Ok-clause-skips : goal.returns-in-Ok-clause-skips
returns-in-Ok-clause-skips g c =
    let start = outside (g.W.Disk.meaning.counts c.args.world.now) (g.O.Sink.meaning.faults c.args.out.now) (g.E.Sink.meaning.faults c.args.err.now) in
    let first = account_as start start blank (ledger_of c.new-account.result) c.new-account.ensures.ledger (at_first start) in
    let made = c.make_all-skipped.ensures.accounts start (same_counts start (ledger_of c.new-account.result) _ _ _ _ c.in-Ok.ensures.cause first) in
    let read : IsReading c.args.graph.now = record { apart = c.laws.ensures.apart; single = c.laws.ensures.single; named = c.laws.ensures.named } in
    build_skipped g.W.Disk.meaning c.args.graph.now c.args.requested.now c.args.options.now read c.args.world.now c.set_out.new.world
    c.make_all-skipped.new.world c.args.store.now c.set_out.new.store c.requires.idle c.set_out.new.graph c.in-Ok.run' c.new-account.result
    c.set_out.ensures.goes.passes.told.told c.in-Ok.ensures.cause
    c.in-Ok.ensures.sets (is_blank c.new-account.result c.new-account.ensures.ledger c.new-account.ensures.ended)
    (g.met.W.Disk.reads_as c.set_out.new.world) c.in-Ok.ensures.kept c.make_all-skipped.ensures.passes.told.sure c.set_out.ensures.safe
    c.runs_are_right.ensures
    c.make_all-skipped.new.account c.make_all-skipped.ensures.passes.told.told
    c.make_all-skipped.new.store c.make_all-skipped.result c.make_all-skipped.ensures.skips made.shut c.make_all-skipped.ensures.stored c.answer.result
    c.answer.ensures.ended c.answer.ensures.faults c.answer.ensures.skipped

pub returns-in-Err-clause-skips : goal.returns-in-Err-clause-skips
returns-in-Err-clause-skips g c =
    let read : IsReading c.args.graph.now = record { apart = c.laws.ensures.apart; single = c.laws.ensures.single; named = c.laws.ensures.named } in
    refused_skips g.W.Disk.meaning c.args.graph.now c.args.requested.now c.args.options.now read c.args.world.now c.set_out.new.world
    c.set_out.new.world c.args.store.now c.set_out.new.store c.requires.idle c.set_out.ensures.goes.passes.told.told c.in-Err.ensures.rest
    c.answer-in-Err.result (c.answer-in-Err.ensures.ended ∙ c.end.ensures.ends.ended)

pub returns-in-Ok-clause-safe : goal.returns-in-Ok-clause-safe
returns-in-Ok-clause-safe g c =
    let m = g.W.Disk.meaning in
    let mid = c.set_out.new.world in
    let read : IsReading c.args.graph.now =
    record { apart = c.laws.ensures.apart; single = c.laws.ensures.single; named = c.laws.ensures.named } in
    builds_safely m (wanted_of c.args.graph.now c.args.requested.now c.args.options.now) c.args.world.now c.make_all-skipped.new.world
    c.requires.idle
    (λ s below safe.
    let k = unwatched s (m.around c.args.world.now).log in
    safe_on m k c.args.world.now mid c.make_all-skipped.new.world c.make_all-skipped.ensures.passes.told
    (c.set_out.ensures.safe k (λ t left. refl) safe)
    (c.make_all-skipped.ensures.safe k (λ tells sure.
    has_unwatched m c.args.graph.now c.args.requested.now c.args.options.now read c.args.world.now mid
    c.make_all-skipped.new.world c.args.store.now c.set_out.new.store c.requires.idle c.set_out.new.graph c.in-Ok.run' c.new-account.result
    c.set_out.ensures.goes.passes.told.told c.in-Ok.ensures.cause
    c.in-Ok.ensures.sets (is_blank c.new-account.result c.new-account.ensures.ledger c.new-account.ensures.ended)
    (g.met.W.Disk.reads_as c.set_out.new.world) c.in-Ok.ensures.kept c.make_all-skipped.ensures.passes.told.sure c.set_out.ensures.safe
    c.runs_are_right.ensures tells below s)))

pub returns-in-Err-clause-safe : goal.returns-in-Err-clause-safe
returns-in-Err-clause-safe g c =
    builds_safely g.W.Disk.meaning (wanted_of c.args.graph.now c.args.requested.now c.args.options.now) c.args.world.now
    c.set_out.new.world c.requires.idle (λ s below safe. c.set_out.ensures.safe (unwatched s (g.W.Disk.meaning.around c.args.world.now).log) (λ t left. refl) safe)

pub returns-in-Ok-clause-remembers : goal.returns-in-Ok-clause-remembers
returns-in-Ok-clause-remembers g c = λ tells sure below.
    let m = g.W.Disk.meaning in
    let read : IsReading c.args.graph.now =
    record { apart = c.laws.ensures.apart; single = c.laws.ensures.single; named = c.laws.ensures.named } in
    build_remembers m c.args.graph.now c.args.requested.now c.args.options.now read c.args.world.now c.set_out.new.world
    c.make_all-skipped.new.world c.args.store.now c.set_out.new.store c.requires.idle c.set_out.new.graph c.in-Ok.run' c.new-account.result
    c.set_out.ensures.goes.passes.told.told c.in-Ok.ensures.cause
    c.in-Ok.ensures.sets (is_blank c.new-account.result c.new-account.ensures.ledger c.new-account.ensures.ended)
    (g.met.W.Disk.reads_as c.set_out.new.world) c.in-Ok.ensures.kept c.make_all-skipped.ensures.passes.told.sure c.set_out.ensures.safe
    c.runs_are_right.ensures c.requires.kept c.make_all-skipped.ensures.passes.told c.make_all-skipped.ensures.safe tells sure below

pub returns-in-Err-clause-remembers : goal.returns-in-Err-clause-remembers
returns-in-Err-clause-remembers g c = λ tells sure below.
    let read : IsReading c.args.graph.now =
    record { apart = c.laws.ensures.apart; single = c.laws.ensures.single; named = c.laws.ensures.named } in
    refused_remembers g.W.Disk.meaning c.args.graph.now c.args.requested.now c.args.options.now read c.args.world.now c.set_out.new.world
    c.set_out.new.world c.args.store.now c.set_out.new.store c.requires.idle c.requires.kept c.set_out.ensures.goes.passes.told.told
    c.in-Err.ensures.rest c.set_out.ensures.safe tells below

pub returns-in-Ok-clause-forgets : goal.returns-in-Ok-clause-forgets
returns-in-Ok-clause-forgets g c = λ tells sure below.
    let m = g.W.Disk.meaning in
    let all = c.make_all-skipped.ensures in
    let read : IsReading c.args.graph.now =
    record { apart = c.laws.ensures.apart; single = c.laws.ensures.single; named = c.laws.ensures.named } in
    build_forgets m c.args.graph.now c.args.requested.now c.args.options.now read c.args.world.now c.set_out.new.world
    c.make_all-skipped.new.world c.args.store.now c.set_out.new.store c.requires.idle c.set_out.new.graph c.in-Ok.run' c.new-account.result
    c.set_out.ensures.goes.passes.told.told c.in-Ok.ensures.cause
    c.in-Ok.ensures.sets (is_blank c.new-account.result c.new-account.ensures.ledger c.new-account.ensures.ended)
    (g.met.W.Disk.reads_as c.set_out.new.world) c.in-Ok.ensures.kept all.passes.told.sure c.set_out.ensures.safe
    c.runs_are_right.ensures all.passes.told all.safe c.make_all-skipped.new.account c.make_all-skipped.new.store all.makes
    (g.met.W.Disk.reads_as c.make_all-skipped.new.world) tells sure below

pub returns-in-Err-clause-forgets : goal.returns-in-Err-clause-forgets
returns-in-Err-clause-forgets g c = λ tells sure below.
    let m = g.W.Disk.meaning in
    let world = c.set_out.new.world in
    let read : IsReading c.args.graph.now =
    record { apart = c.laws.ensures.apart; single = c.laws.ensures.single; named = c.laws.ensures.named } in
    refused_forgets m c.args.graph.now c.args.requested.now c.args.options.now read c.args.world.now world
    world c.args.store.now c.set_out.new.store c.requires.idle c.set_out.ensures.goes.passes.told.told
    c.in-Err.ensures.rest c.set_out.ensures.safe (g.met.W.Disk.reads_as world tells) tells sure

pub returns-in-Ok-clause-ends : goal.returns-in-Ok-clause-ends
returns-in-Ok-clause-ends g c =
    let a = c.answer.ensures in
    answers_so c.args.options.now c.make_all-skipped.new.account c.answer.result a.faults a.memory a.ended
    (c.make_all-skipped.ensures.reason (λ keep. not_ended c.new-account.result c.new-account.ensures.ended))

pub returns-in-Ok-clause-prints : goal.returns-in-Ok-clause-prints
returns-in-Ok-clause-prints g c =
    let start = outside (g.W.Disk.meaning.counts c.args.world.now) (g.O.Sink.meaning.faults c.args.out.now) (g.E.Sink.meaning.faults c.args.err.now) in
    let first = account_as start start blank (ledger_of c.new-account.result) c.new-account.ensures.ledger (at_first start) in
    let made = c.make_all-skipped.ensures.accounts start (same_counts start (ledger_of c.new-account.result) _ _ _ _ c.in-Ok.ensures.cause first) in
    let read : IsReading c.args.graph.now = record { apart = c.laws.ensures.apart; single = c.laws.ensures.single; named = c.laws.ensures.named } in
    build_printed g.W.Disk.meaning c.args.graph.now c.args.requested.now c.args.options.now read c.args.world.now c.set_out.new.world
    c.make_all-skipped.new.world c.args.store.now c.set_out.new.store c.requires.idle c.set_out.new.graph c.in-Ok.run' c.new-account.result
    c.set_out.ensures.goes.passes.told.told c.in-Ok.ensures.cause
    c.in-Ok.ensures.sets (is_blank c.new-account.result c.new-account.ensures.ledger c.new-account.ensures.ended)
    (g.met.W.Disk.reads_as c.set_out.new.world) c.in-Ok.ensures.kept c.make_all-skipped.ensures.passes.told.sure c.set_out.ensures.safe
    c.runs_are_right.ensures
    c.make_all-skipped.new.account c.make_all-skipped.ensures.passes.told.told
    c.make_all-skipped.new.store c.make_all-skipped.ensures.makes made.shut c.make_all-skipped.ensures.stored
    g.O.Sink.meaning c.args.out.now c.make_all-skipped.new.out c.make_all-skipped.ensures.prints c.answer.result c.answer.ensures.ended

pub returns-in-Err-clause-prints : goal.returns-in-Err-clause-prints
returns-in-Err-clause-prints g c =
    let read : IsReading c.args.graph.now = record { apart = c.laws.ensures.apart; single = c.laws.ensures.single; named = c.laws.ensures.named } in
    build_silent g.W.Disk.meaning c.args.graph.now c.args.requested.now c.args.options.now read c.args.world.now c.set_out.new.world
    c.set_out.new.world c.args.store.now c.set_out.new.store c.requires.idle g.O.Sink.meaning c.args.out.now
    c.set_out.ensures.goes.passes.told.told c.in-Err.ensures.rest
    c.answer-in-Err.result (c.answer-in-Err.ensures.ended ∙ c.end.ensures.ends.ended)

pub returns-in-Ok-clause-tells : goal.returns-in-Ok-clause-tells
returns-in-Ok-clause-tells g c =
    let e = g.E.Sink.meaning in
    let new = c.new-account in
    build_tells e c.args.err.now c.make_all-skipped.new.err c.make_all-skipped.new.account c.answer.result c.answer.ensures.faults c.answer.ensures.memory
    (c.make_all-skipped.ensures.texts c.args.err.now
    (begins_told e c.args.err.now new.result (ap (λ (l : Ledger). l.faults) new.ensures.ledger) new.ensures.unshut))

pub returns-in-Err-clause-tells : goal.returns-in-Err-clause-tells
returns-in-Err-clause-tells g c =
    let e = g.E.Sink.meaning in
    let new = c.new-account in
    build_tells e c.args.err.now c.end.new.err c.end.new.self c.answer-in-Err.result c.answer-in-Err.ensures.faults c.answer-in-Err.ensures.memory
    (c.end.ensures.texts c.args.err.now
    (begins_told e c.args.err.now new.result (ap (λ (l : Ledger). l.faults) new.ensures.ledger) new.ensures.unshut))

pub returns-in-Ok-clause-counts : goal.returns-in-Ok-clause-counts
returns-in-Ok-clause-counts g c =
    let m = g.W.Disk.meaning in
    let start = outside (m.counts c.args.world.now) (g.O.Sink.meaning.faults c.args.out.now) (g.E.Sink.meaning.faults c.args.err.now) in
    let first = account_as start start blank (ledger_of c.new-account.result) c.new-account.ensures.ledger (at_first start) in
    let made = c.make_all-skipped.ensures.accounts start (same_counts start (ledger_of c.new-account.result) _ _ _ _ c.in-Ok.ensures.cause first) in
    let read : IsReading c.args.graph.now = record { apart = c.laws.ensures.apart; single = c.laws.ensures.single; named = c.laws.ensures.named } in
    let all = c.make_all-skipped.ensures in
    build_counted m c.args.graph.now c.args.requested.now c.args.options.now read c.args.world.now c.set_out.new.world
    c.make_all-skipped.new.world c.args.store.now c.set_out.new.store c.requires.idle c.set_out.new.graph c.in-Ok.run' c.new-account.result
    c.set_out.ensures.goes.passes.told.told c.in-Ok.ensures.cause
    c.in-Ok.ensures.sets (is_blank c.new-account.result c.new-account.ensures.ledger c.new-account.ensures.ended)
    (g.met.W.Disk.reads_as c.set_out.new.world) c.in-Ok.ensures.kept all.passes.told.sure c.set_out.ensures.safe
    c.runs_are_right.ensures
    c.make_all-skipped.new.account all.passes.told.told
    c.make_all-skipped.new.store all.all made.shut all.stored c.answer.result c.answer.ensures.ended
    (all_counted m c.args.world.now c.set_out.new.world c.make_all-skipped.new.world c.answer.result.memory c.new-account.result
    c.make_all-skipped.new.account c.answer.ensures.memory all.passes.told.told c.set_out.ensures.goes.passes.later c.set_out.ensures.log all.counts)

pub returns-in-Err-clause-counts : goal.returns-in-Err-clause-counts
returns-in-Err-clause-counts g c =
    let m = g.W.Disk.meaning in
    let read : IsReading c.args.graph.now = record { apart = c.laws.ensures.apart; single = c.laws.ensures.single; named = c.laws.ensures.named } in
    let world = c.set_out.new.world in
    refused_counts m c.args.graph.now c.args.requested.now c.args.options.now read c.args.world.now world
    world c.args.store.now c.set_out.new.store c.requires.idle c.set_out.ensures.goes.passes.told.told c.in-Err.ensures.rest
    c.answer-in-Err.result (c.answer-in-Err.ensures.ended ∙ c.end.ensures.ends.ended)
    (none_counted m c.args.world.now world world c.answer-in-Err.result.memory c.set_out.ensures.goes.passes.later c.set_out.ensures.log)

pub returns-in-Ok-clause-faulted : goal.returns-in-Ok-clause-faulted
returns-in-Ok-clause-faulted g c =
    let start = outside (g.W.Disk.meaning.counts c.args.world.now) (g.O.Sink.meaning.faults c.args.out.now) (g.E.Sink.meaning.faults c.args.err.now) in
    let first = account_as start start blank (ledger_of c.new-account.result) c.new-account.ensures.ledger (at_first start) in
    let made = c.make_all-skipped.ensures.accounts start (same_counts start (ledger_of c.new-account.result) _ _ _ _ c.in-Ok.ensures.cause first) in
    let read : IsReading c.args.graph.now = record { apart = c.laws.ensures.apart; single = c.laws.ensures.single; named = c.laws.ensures.named } in
    build_faulted g.W.Disk.meaning c.args.graph.now c.args.requested.now c.args.options.now read c.args.world.now c.set_out.new.world
    c.make_all-skipped.new.world c.args.store.now c.set_out.new.store c.requires.idle c.set_out.new.graph c.in-Ok.run' c.new-account.result
    c.set_out.ensures.goes.passes.told.told c.in-Ok.ensures.cause
    c.in-Ok.ensures.sets (is_blank c.new-account.result c.new-account.ensures.ledger c.new-account.ensures.ended)
    (g.met.W.Disk.reads_as c.set_out.new.world) c.in-Ok.ensures.kept c.make_all-skipped.ensures.passes.told.sure c.set_out.ensures.safe
    c.runs_are_right.ensures
    c.make_all-skipped.new.account c.make_all-skipped.ensures.passes.told.told
    c.make_all-skipped.new.store c.make_all-skipped.new.graph c.make_all-skipped.ensures.faulted made.shut c.make_all-skipped.ensures.stored
    c.answer.result c.answer.ensures.ended c.answer.ensures.faults c.answer.ensures.memory

pub returns-in-Err-clause-faulted : goal.returns-in-Err-clause-faulted
returns-in-Err-clause-faulted g c =
    let read : IsReading c.args.graph.now = record { apart = c.laws.ensures.apart; single = c.laws.ensures.single; named = c.laws.ensures.named } in
    refused_faulted g.W.Disk.meaning c.args.graph.now c.args.requested.now c.args.options.now read c.args.world.now c.set_out.new.world
    c.set_out.new.world c.args.store.now c.set_out.new.store c.requires.idle c.set_out.ensures.goes.passes.told.told c.in-Err.ensures.rest
    c.answer-in-Err.result (c.answer-in-Err.ensures.ended ∙ c.end.ensures.ends.ended) c.in-Err.end c.new-account.result c.end.new.self
    (plain_take _ _ _ c.in-Err.ensures.cause) c.end.ensures.lists (ap (λ (l : Ledger). l.faults) c.new-account.ensures.ledger)
    c.answer-in-Err.ensures.faults c.answer-in-Err.ensures.memory
