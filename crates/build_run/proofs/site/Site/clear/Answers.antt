use Rattle.build_run.proofs.Outs.{unheld_still}
use Rattle.build_run.proofs.Stopping.{same_tickets, site_called, site_looked, site_takes, takes_then, then_takes}
use Rattle.std.proofs.Common.{ℕ, List, [], Contains, inl, refl, subst}
use Rattle.build_run.specs.Goings.{ClearsAt}
use Rattle.build_run.specs.Holds.{Busy, holds_in}
use Rattle.build_run.specs.Ledgers.{ledger_of}
use Rattle.build_run.specs.Books.{shut, untouched, withdrawn}
use Rattle.build_run.proofs.Clearing.{clears_none, clears_on, held_err}
use Rattle.build_run.proofs.Goings.{goes_on, are_unused}
use Rattle.build_run.proofs.Outs.{withdrawn_on}
use Rattle.build_run.proofs.Sites.{cleared_by, sound_still}
use Rattle.build_run.proofs.Causing.{exit_same, same_counts, look_end, looked}
use Rattle.build_run.proofs.Faulted.{plain_exit, plain_look, plain_result}
use Rattle.build_run.proofs.site.Site.clear.Goals as goal

pub withdraw-requires-clause-sound : goal.withdraw-requires-clause-sound
withdraw-requires-clause-sound g c = sound_still g.W.Disk.meaning c.args.self.now _ c.make_dirs.ensures.stays refl refl refl refl refl c.requires.sound

pub withdraw-requires-clause-ready : goal.withdraw-requires-clause-ready
withdraw-requires-clause-ready g c =
    let ready = c.requires.ready in
    record { unshut = ready.unshut; apart = ready.apart; out = ready.out; room = ready.room; beside = ready.beside }

pub remove_all-requires : goal.remove_all-requires
remove_all-requires g c = λ t path h.
    let m = g.W.Disk.meaning in
    let now = c.withdraw.new.self in
    are_unused c.args.job.now (m.around now.world.now).running (holds_in now.run.now.tickets) (c.withdraw.ensures.sound.joined.runs t)
    (λ hold there. c.requires.ready.apart hold (subst (λ (busies : List Busy). Contains (holds_in busies) hold) c.withdraw.ensures.goes.tickets there))
    path (subst (λ (paths : List (List ℕ)). Contains paths path) c.as_slice-targets.ensures h)

pub returns-in_err-make_dirs-clause-goes : goal.returns-in_err-make_dirs-clause-goes
returns-in_err-make_dirs-clause-goes g c = record {
  same = record { graph = refl; store = refl; world = refl; out = refl; err = refl; run = refl; account = refl; options = refl };
  goes = c.make_dirs.ensures.stays.goes;
  tickets = refl;
  out = refl;
  err = refl;
}

pub returns-in_err-make_dirs-clause-ends : goal.returns-in_err-make_dirs-clause-ends
returns-in_err-make_dirs-clause-ends g c = λ start a.
    let before = ledger_of c.args.self.now.account.now in
    exit_same start before _ c.from_residual.result _ c.from_residual.ensures.1 (look_end start before _ _ _ _ _ c.in_err-make_dirs.ensures.cause a)

pub returns-in_err-make_dirs-clause-sound : goal.returns-in_err-make_dirs-clause-sound
returns-in_err-make_dirs-clause-sound g c = sound_still g.W.Disk.meaning c.args.self.now _ c.make_dirs.ensures.stays refl refl refl refl refl c.requires.sound

pub returns-in_err-make_dirs-clause-held : goal.returns-in_err-make_dirs-clause-held
returns-in_err-make_dirs-clause-held g c = inl refl

pub returns-in_err-make_dirs-clause-kept : goal.returns-in_err-make_dirs-clause-kept
returns-in_err-make_dirs-clause-kept g c = λ unshut path not. refl

pub returns-in_err-withdraw-clause-goes : goal.returns-in_err-withdraw-clause-goes
returns-in_err-withdraw-clause-goes g c =
    let went = c.withdraw.ensures.goes in
    record {
      same = record { graph = went.same.graph; store = went.same.store; world = went.same.world; out = went.same.out; err = went.same.err; run = went.same.run; account = went.same.account; options = went.same.options };
      goes = goes_on g.W.Disk.meaning _ _ _ c.make_dirs.ensures.stays.goes went.goes;
      tickets = went.tickets;
      out = went.out;
      err = went.err;
    }

pub returns-in_err-withdraw-clause-ends : goal.returns-in_err-withdraw-clause-ends
returns-in_err-withdraw-clause-ends g c = λ start a.
    exit_same start (ledger_of c.withdraw.new.self.account.now) _ c.from_residual-in_err-withdraw.result _ c.from_residual-in_err-withdraw.ensures.1
    (c.in_err-withdraw.ensures.ends start (same_counts start (ledger_of c.args.self.now.account.now) _ _ _ _ c.in_ok-make_dirs.ensures.cause a))

pub returns-clause-goes : goal.returns-clause-goes
returns-clause-goes g c =
    let m = g.W.Disk.meaning in
    let went = c.withdraw.ensures.goes in
    record {
      same = record { graph = went.same.graph; store = went.same.store; world = went.same.world; out = went.same.out; err = went.same.err; run = went.same.run; account = went.same.account; options = went.same.options };
      goes = goes_on m _ _ _ (goes_on m _ _ _ c.make_dirs.ensures.stays.goes went.goes) c.remove_all.ensures.stays.goes;
      tickets = went.tickets;
      out = went.out;
      err = went.err;
    }

pub returns-clause-ends : goal.returns-clause-ends
returns-clause-ends g c = λ start a.
    looked start (ledger_of c.withdraw.new.self.account.now) _ _ _ _ _ c.remove_all.ensures.cause
    (c.in_ok-withdraw.ensures.ends start (same_counts start (ledger_of c.args.self.now.account.now) _ _ _ _ c.in_ok-make_dirs.ensures.cause a))

pub returns-clause-sound : goal.returns-clause-sound
returns-clause-sound g c = sound_still g.W.Disk.meaning c.withdraw.new.self _ c.remove_all.ensures.stays refl refl refl refl refl c.withdraw.ensures.sound

pub returns-clause-cleared : goal.returns-clause-cleared
returns-clause-cleared g c =
    let stays = c.remove_all.ensures.stays in
    let after = c.in_ok-withdraw.ensures in
    cleared_by g.W.Disk.meaning _ c.args.job.now c.args.ticket.now _ c.remove_all.result c.as_slice-targets.ensures c.remove_all.ensures.gone
    (withdrawn_on g.W.Disk.meaning _ _ c.withdraw.new.self.store.now c.args.job.now.targets stays.goes.passes.told.told stays.banks after.withdrawn) after.ticket

pub returns-in_err-make_dirs-clause-clears : goal.returns-in_err-make_dirs-clause-clears
returns-in_err-make_dirs-clause-clears g c =
    clears_none g.W.Disk.meaning c.args.job.now.targets _ _ c.make_dirs.ensures.clears

pub returns-in_err-withdraw-clause-clears : goal.returns-in_err-withdraw-clause-clears
returns-in_err-withdraw-clause-clears g c =
    let m = g.W.Disk.meaning in
    clears_none m c.args.job.now.targets _ _
    (clears_on m [] _ _ _ c.withdraw.ensures.goes.goes.passes.told c.make_dirs.ensures.clears c.withdraw.ensures.clears)

pub returns-clause-clears : goal.returns-clause-clears
returns-clause-clears g c =
    let m = g.W.Disk.meaning in
    let first = clears_none m c.args.job.now.targets _ _
    (clears_on m [] _ _ _ c.withdraw.ensures.goes.goes.passes.told c.make_dirs.ensures.clears c.withdraw.ensures.clears) in
    clears_on m c.args.job.now.targets _ _ _ c.remove_all.ensures.stays.goes.passes.told first
    (subst (λ (paths : List (List ℕ)). ClearsAt m paths c.withdraw.new.self.world.now c.remove_all.new.world) c.as_slice-targets.ensures c.remove_all.ensures.clears)

pub returns-in_err-make_dirs-clause-tickets : goal.returns-in_err-make_dirs-clause-tickets
returns-in_err-make_dirs-clause-tickets g c = record { each = λ rec ticket is. is }

pub returns-in_err-make_dirs-clause-refused : goal.returns-in_err-make_dirs-clause-refused
returns-in_err-make_dirs-clause-refused g c = held_err c.from_residual.result (untouched c.make_dirs.ensures.clears refl)

pub returns-in_err-withdraw-clause-refused : goal.returns-in_err-withdraw-clause-refused
returns-in_err-withdraw-clause-refused g c = held_err c.from_residual-in_err-withdraw.result (shut c.in_err-withdraw.ensures.shut)

pub returns-clause-refused : goal.returns-clause-refused
returns-clause-refused g c = held_err c.remove_all.result (withdrawn c.in_ok-withdraw.ensures.withdrawn.map)

pub returns-in_err-make_dirs-clause-safe : goal.returns-in_err-make_dirs-clause-safe
returns-in_err-make_dirs-clause-safe g c =
    let m = g.W.Disk.meaning in
    site_takes m c.args.job.now.targets c.args.self.now _
    (site_looked m c.args.self.now _ c.make_dirs.ensures.stays.goes.passes.told c.make_dirs.ensures.safe c.make_dirs.ensures.clears
    (same_tickets c.args.self.now.store.now) (λ busy h. h) refl (λ unshut. unshut))

pub returns-in_err-withdraw-clause-safe : goal.returns-in_err-withdraw-clause-safe
returns-in_err-withdraw-clause-safe g c =
    let m = g.W.Disk.meaning in
    then_takes m c.args.job.now.targets [] c.args.self.now _ _ c.make_dirs.ensures.stays.goes.passes.told c.withdraw.ensures.goes.goes.passes.told
    c.make_dirs.ensures.clears
    (site_looked m c.args.self.now _ c.make_dirs.ensures.stays.goes.passes.told c.make_dirs.ensures.safe c.make_dirs.ensures.clears
    (same_tickets c.args.self.now.store.now) (λ busy h. h) refl (λ unshut. unshut))
    c.withdraw.ensures.safe

pub returns-clause-safe : goal.returns-clause-safe
returns-clause-safe g c =
    let m = g.W.Disk.meaning in
    let told = c.remove_all.ensures.stays.goes.passes.told in
    takes_then m c.args.job.now.targets c.args.self.now c.withdraw.new.self _ told
    (then_takes m c.args.job.now.targets [] c.args.self.now _ _ c.make_dirs.ensures.stays.goes.passes.told c.withdraw.ensures.goes.goes.passes.told
    c.make_dirs.ensures.clears
    (site_looked m c.args.self.now _ c.make_dirs.ensures.stays.goes.passes.told c.make_dirs.ensures.safe c.make_dirs.ensures.clears
    (same_tickets c.args.self.now.store.now) (λ busy h. h) refl (λ unshut. unshut))
    c.withdraw.ensures.safe)
    (site_called m c.args.job.now.targets c.withdraw.new.self _ told c.remove_all.ensures.safe
    (subst (λ (paths : List (List ℕ)). ClearsAt m paths c.withdraw.new.self.world.now c.remove_all.new.world) c.as_slice-targets.ensures c.remove_all.ensures.clears)
    (same_tickets c.withdraw.new.self.store.now) (λ busy h. h) refl (λ unshut. unshut)
    (unheld_still c.args.self.now.run.now.held c.withdraw.new.self.run.now.held c.args.job.now.targets c.withdraw.ensures.held c.requires.ready.beside))

pub returns-in_err-make_dirs-clause-plain : goal.returns-in_err-make_dirs-clause-plain
returns-in_err-make_dirs-clause-plain g c = plain_exit c.from_residual.result _ c.from_residual.ensures.1 (plain_look _ _ _ c.in_err-make_dirs.ensures.cause)

pub returns-in_err-withdraw-clause-plain : goal.returns-in_err-withdraw-clause-plain
returns-in_err-withdraw-clause-plain g c = plain_exit c.from_residual-in_err-withdraw.result _ c.from_residual-in_err-withdraw.ensures.1 c.in_err-withdraw.ensures.plain

pub returns-clause-plain : goal.returns-clause-plain
returns-clause-plain g c = plain_result _ _ c.remove_all.result c.remove_all.ensures.cause
