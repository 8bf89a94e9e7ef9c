use Rattle.build_run.proofs.Stopping.{site_begun, site_rests, takes_then}
use Rattle.world_api.proofs.Looking.{told_same}
use Rattle.std.proofs.Common.{◌++◌, ◌∙◌, List, Contains, ap, refl, subst, sym}
use Rattle.build_run.specs.Holds.{Busy, holds_in}
use Rattle.build_run.specs.Ledgers.{Ledger, ledger_of}
use Rattle.build_run.proofs.Causing.{account_as, begun, exit_same, print_end, same_out}
use Rattle.build_run.specs.Books.{withdrawn}
use Rattle.build_run.proofs.Clearing.{held_err, launched, refused}
use Rattle.build_run.proofs.Goings.{passes_on, stays_here}
use Rattle.build_run.proofs.Outs.{held_ok, stored_alike, stored_over, unheld_still}
use Rattle.build_run.proofs.Sites.{joined_after, site_goes, sound_refused, sound_still}
use Rattle.build_run.specs.Output.{nothing}
use Rattle.build_run.proofs.StartPrinting.{last_cut, last_whole}
use Rattle.build_run.proofs.Reporting.{cleared_told, same_told}
use Rattle.build_run.proofs.Faulted.{plain_exit, plain_print, plain_starts}
use Rattle.build_run.specs.Faulted.{EndsAtStart}
use Rattle.rule_graph.specs.Graphs.{RuleGraph}
use Rattle.build_run.proofs.site.Site.launch.Goals as goal

pub begin-requires-clause-apart : goal.begin-requires-clause-apart
begin-requires-clause-apart g c = λ hold there. c.requires.ready.apart hold (subst (λ (busies : List Busy). Contains (holds_in busies) hold) c.clear.ensures.goes.tickets there)

pub begin-requires-clause-clear : goal.begin-requires-clause-clear
begin-requires-clause-clear g c = c.in_ok-clear.ensures.cleared.gone

pub begin-requires-clause-withdrawn : goal.begin-requires-clause-withdrawn
begin-requires-clause-withdrawn g c = c.in_ok-clear.ensures.cleared.withdrawn

pub begin-requires-clause-unheld : goal.begin-requires-clause-unheld
begin-requires-clause-unheld g c = unheld_still c.args.self.now.run.now.held c.clear.new.self.run.now.held c.args.job.targets c.clear.ensures.held c.requires.ready.beside

pub returns-in_err-clear-clause-passes : goal.returns-in_err-clear-clause-passes
returns-in_err-clear-clause-passes g c = site_goes g.W.Disk.meaning _ _ c.clear.ensures.goes

pub returns-in_err-clear-clause-ends : goal.returns-in_err-clear-clause-ends
returns-in_err-clear-clause-ends g c = λ start a. exit_same start (ledger_of c.clear.new.self.account.now) _ c.from_residual.result _ c.from_residual.ensures.1 (c.in_err-clear.ensures.ends start a)

pub returns-in_err-clear-clause-sound : goal.returns-in_err-clear-clause-sound
returns-in_err-clear-clause-sound g c = sound_refused _ g.W.Disk.meaning c.from_residual.result c.args.job c.args.self.now c.clear.new.self c.from_residual.ensures.1 c.clear.ensures.goes.tickets c.clear.ensures.sound

pub returns-in_err-show-clause-passes : goal.returns-in_err-show-clause-passes
returns-in_err-show-clause-passes g c =
    let went = c.clear.ensures.goes in
    record {
      same = record { graph = went.same.graph; store = went.same.store; world = went.same.world; out = went.same.out; err = went.same.err; run = went.same.run; account = went.same.account; options = went.same.options };
      passes = went.goes.passes;
    }

pub returns-in_err-show-clause-ends : goal.returns-in_err-show-clause-ends
returns-in_err-show-clause-ends g c = λ start a.
    let r = c.from_residual-in_err-show in
    let before = c.in_ok-clear.ensures.ends start a in
    exit_same start (ledger_of c.show.new.account) _ r.result _ r.ensures.1
    (print_end start (ledger_of c.show.new.account) _ _ _ _ _ c.in_err-show.ensures.cause
    (account_as start _ (ledger_of c.clear.new.self.account.now) (ledger_of c.show.new.account) c.show.ensures.account before))

pub returns-in_err-show-clause-sound : goal.returns-in_err-show-clause-sound
returns-in_err-show-clause-sound g c =
    let m = g.W.Disk.meaning in
    let shut = ap (λ (l : Ledger). l.shut) c.show.ensures.account in
    let still = sound_still m c.clear.new.self _ (stays_here m c.clear.new.self.world.now) refl refl refl refl shut c.clear.ensures.sound in
    sound_refused _ m c.from_residual-in_err-show.result c.args.job c.args.self.now _ c.from_residual-in_err-show.ensures.1 c.clear.ensures.goes.tickets still

pub returns-in_err-show-clause-kept : goal.returns-in_err-show-clause-kept
returns-in_err-show-clause-kept g c = λ unshut. c.clear.ensures.kept (sym (ap (λ (l : Ledger). l.shut) c.show.ensures.account) ∙ unshut)

pub returns-clause-passes : goal.returns-clause-passes
returns-clause-passes g c =
    let went = c.clear.ensures.goes in
    record {
      same = record { graph = went.same.graph; store = went.same.store; world = went.same.world; out = went.same.out; err = went.same.err; run = went.same.run; account = went.same.account; options = went.same.options };
      passes = passes_on g.W.Disk.meaning _ _ _ went.goes.passes c.begin.ensures.passes;
    }

pub returns-clause-ends : goal.returns-clause-ends
returns-clause-ends g c = λ start a.
    let now = ledger_of c.show.new.account in
    let before = c.in_ok-clear.ensures.ends start a in
    begun start now _ _ _ _ c.begin.result c.begin.ensures.cause
    (same_out start now _ _ _ _ c.in_ok-show.ensures.cause
    (account_as start _ (ledger_of c.clear.new.self.account.now) now c.show.ensures.account before))

pub returns-clause-sound : goal.returns-clause-sound
returns-clause-sound g c =
    let m = g.W.Disk.meaning in
    let cleared = c.clear.new.self in
    let sound = c.clear.ensures.sound in
    let passes = c.begin.ensures.passes in
    record {
      unclosed = passes.told.closed ∙ sound.unclosed;
      joined = joined_after m c.begin.new.world c.begin.result c.args.job c.args.self.now cleared.run.now.tickets c.clear.ensures.goes.tickets c.begin.ensures.started c.begin.ensures.refused;
      stored =
          stored_over m cleared.world.now c.begin.new.world cleared.store.now (cleared.run.now.held ++ cleared.run.now.tickets) c.show.new.account.is_store_shut passes.told.told c.begin.ensures.banks
          (stored_alike m cleared.world.now cleared.store.now _ _ _ _ refl (ap (λ (l : Ledger). l.shut) c.show.ensures.account) sound.stored);
      few = sound.few;
      limit = sound.limit;
    }

pub returns-clause-kept : goal.returns-clause-kept
returns-clause-kept g c = λ unshut. c.clear.ensures.kept (sym (ap (λ (l : Ledger). l.shut) c.show.ensures.account) ∙ unshut)

pub returns-clause-ticket : goal.returns-clause-ticket
returns-clause-ticket g c = held_ok c.begin.result c.in_ok-clear.ensures.cleared.out

pub returns-clause-none : goal.returns-clause-none
returns-clause-none g c = held_ok c.begin.result c.in_ok-clear.ensures.cleared.withdrawn.map

pub returns-in_err-clear-clause-clears : goal.returns-in_err-clear-clause-clears
returns-in_err-clear-clause-clears g c = held_err c.from_residual.result c.clear.ensures.clears

pub returns-in_err-show-clause-clears : goal.returns-in_err-show-clause-clears
returns-in_err-show-clause-clears g c = held_err c.from_residual-in_err-show.result c.clear.ensures.clears

pub returns-clause-starts : goal.returns-clause-starts
returns-clause-starts g c =
    launched g.W.Disk.meaning c.args.job c.args.self.now.world.now c.clear.new.self.world.now c.begin.new.world c.begin.result
    c.begin.ensures.passes.told c.clear.ensures.clears c.in_ok-clear.ensures.same c.begin.ensures.starts

pub returns-clause-clears : goal.returns-clause-clears
returns-clause-clears g c =
    refused g.W.Disk.meaning c.args.job c.args.self.now.world.now c.clear.new.self.world.now c.begin.new.world c.begin.result
    c.begin.ensures.passes.told c.clear.ensures.clears c.begin.ensures.asks

pub returns-in_err-clear-clause-refused : goal.returns-in_err-clear-clause-refused
returns-in_err-clear-clause-refused g c = held_err c.from_residual.result c.in_err-clear.ensures.refused

pub returns-in_err-show-clause-refused : goal.returns-in_err-show-clause-refused
returns-in_err-show-clause-refused g c = held_err c.from_residual-in_err-show.result (withdrawn c.in_ok-clear.ensures.cleared.withdrawn.map)

pub returns-clause-refused : goal.returns-clause-refused
returns-clause-refused g c = held_err c.begin.result (withdrawn c.in_ok-clear.ensures.cleared.withdrawn.map)

pub returns-in_err-show-clause-safe : goal.returns-in_err-show-clause-safe
returns-in_err-show-clause-safe g c =
    let m = g.W.Disk.meaning in
    let cleared = c.clear.new.self in
    takes_then m c.args.job.targets c.args.self.now cleared _ (told_same m cleared.world.now) c.clear.ensures.safe
    (site_rests m g.met.W.Disk.only_now cleared _ refl refl refl refl (λ unshut. sym (ap (λ (l : Ledger). l.shut) c.show.ensures.account) ∙ unshut))

pub returns-clause-safe : goal.returns-clause-safe
returns-clause-safe g c =
    let m = g.W.Disk.meaning in
    let cleared = c.clear.new.self in
    takes_then m c.args.job.targets c.args.self.now cleared _ c.begin.ensures.passes.told c.clear.ensures.safe
    (site_begun m cleared _ c.args.job c.begin.result c.begin.ensures.passes.told c.begin.ensures.safe c.begin.ensures.starts c.begin.ensures.asks refl refl
    (λ unshut. sym (ap (λ (l : Ledger). l.shut) c.show.ensures.account) ∙ unshut)
    (unheld_still c.args.self.now.run.now.held cleared.run.now.held c.args.job.targets c.clear.ensures.held c.requires.ready.beside)
    (λ hold there. c.requires.ready.apart hold (subst (λ (busies : List Busy). Contains (holds_in busies) hold) c.clear.ensures.goes.tickets there)))

pub returns-in_err-clear-clause-cuts : goal.returns-in_err-clear-clause-cuts
returns-in_err-clear-clause-cuts g c = held_err c.from_residual.result (nothing c.clear.ensures.goes.out)

pub returns-in_err-show-clause-cuts : goal.returns-in_err-show-clause-cuts
returns-in_err-show-clause-cuts g c =
    held_err c.from_residual-in_err-show.result (last_cut g.O.Sink.meaning _ _ _ _ c.clear.ensures.goes.out c.in_err-show.ensures.cuts)

pub returns-clause-cuts : goal.returns-clause-cuts
returns-clause-cuts g c =
    held_err c.begin.result (last_whole g.O.Sink.meaning _ _ _ _ c.clear.ensures.goes.out c.in_ok-show.ensures.prints)

pub returns-in_err-clear-clause-texts : goal.returns-in_err-clear-clause-texts
returns-in_err-clear-clause-texts g c = cleared_told g.E.Sink.meaning _ _ _ _ c.clear.ensures.goes.err c.clear.ensures.texts

pub returns-in_err-show-clause-texts : goal.returns-in_err-show-clause-texts
returns-in_err-show-clause-texts g c = λ start has.
    same_told g.E.Sink.meaning _ _ _ c.show.ensures.texts start (cleared_told g.E.Sink.meaning _ _ _ _ c.clear.ensures.goes.err c.clear.ensures.texts start has)

pub returns-clause-texts : goal.returns-clause-texts
returns-clause-texts g c = λ start has.
    same_told g.E.Sink.meaning _ _ _ c.show.ensures.texts start (cleared_told g.E.Sink.meaning _ _ _ _ c.clear.ensures.goes.err c.clear.ensures.texts start has)

pub returns-in_err-show-clause-noted : goal.returns-in_err-show-clause-noted
returns-in_err-show-clause-noted g c = λ rule n. c.show.ensures.noted c.clear.new.self.graph.now rule (c.clear.ensures.noted rule n)

pub returns-clause-noted : goal.returns-clause-noted
returns-clause-noted g c = λ rule n. c.show.ensures.noted c.clear.new.self.graph.now rule (c.clear.ensures.noted rule n)

pub returns-in_err-show-clause-want : goal.returns-in_err-show-clause-want
returns-in_err-show-clause-want g c = λ ample. c.clear.ensures.texts.memory (c.show.ensures.texts.memory ample)

pub returns-clause-want : goal.returns-clause-want
returns-clause-want g c = λ ample. c.clear.ensures.texts.memory (c.show.ensures.texts.memory ample)

pub returns-in_err-clear-clause-told : goal.returns-in_err-clear-clause-told
returns-in_err-clear-clause-told g c = c.clear.ensures.texts

pub returns-in_err-show-clause-told : goal.returns-in_err-show-clause-told
returns-in_err-show-clause-told g c =
    let first = c.clear.ensures.texts in
    let then = c.show.ensures.texts in
    record { faults = then.faults ∙ first.faults; shut = then.shut ∙ first.shut; memory = λ ample. first.memory (then.memory ample) }

pub returns-clause-told : goal.returns-clause-told
returns-clause-told g c =
    let first = c.clear.ensures.texts in
    let then = c.show.ensures.texts in
    record { faults = then.faults ∙ first.faults; shut = then.shut ∙ first.shut; memory = λ ample. first.memory (then.memory ample) }

pub returns-in_err-clear-clause-faulted : goal.returns-in_err-clear-clause-faulted
returns-in_err-clear-clause-faulted g c =
    plain_starts c.args.self.now.graph.now c.args.job.id c.from_residual.result (plain_exit c.from_residual.result _ c.from_residual.ensures.1 c.in_err-clear.ensures.plain)

pub returns-in_err-show-clause-faulted : goal.returns-in_err-show-clause-faulted
returns-in_err-show-clause-faulted g c =
    let r = c.from_residual-in_err-show in
    plain_starts c.args.self.now.graph.now c.args.job.id r.result (plain_exit r.result _ r.ensures.1 (plain_print _ _ _ c.in_err-show.ensures.cause))

pub returns-clause-faulted : goal.returns-clause-faulted
returns-clause-faulted g c =
    subst (λ (of : RuleGraph). EndsAtStart of c.args.job.id c.begin.result) c.clear.ensures.known.graph c.begin.ensures.faulted
