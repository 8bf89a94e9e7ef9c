use Rattle.build_run.proofs.Begun.{own_launched, site_kept}
use Rattle.build_run.proofs.Ended.{mapped}
use Rattle.build_run.proofs.Goings.{told_here}
use Rattle.build_run.proofs.Holding.{in_pushed}
use Rattle.build_run.proofs.Stopping.{site_rests, site_then}
use Rattle.build_run.specs.Holds.{hold_of}
use Rattle.build_run.specs.Safe.{AreSafeIn, HasOwnRecord}
use Rattle.build_run.specs.Watches.{MayGo}
use Rattle.std.proofs.Common.{◌≡◌, ◌∙◌, ◌++◌, ◌∷◌, ℕ, List, [], Contains, inl, inr, ap, append_assoc, arith, length, length-append, refl, subst, sym}
use Rattle.std.proofs.lemmas.List.{map-append}
use Rattle.sign_store.specs.Tables.{Map}
use Rattle.world_api.specs.Printing.{Prints}
use Rattle.build_run.specs.Holds.{Busy, holds_in, hold_for}
use Rattle.build_run.specs.Goings.{IsJoined}
use Rattle.build_run.specs.Ledgers.{ledger_of}
use Rattle.build_run.specs.Outs.{IsOutFor, IsStored}
use Rattle.build_run.specs.declared.tickets.Hold.{Hold}
use Rattle.build_run.proofs.Causing.{exit_same, exit_inside, inside, shut_fault}
use Rattle.build_run.proofs.Goings.{passes_here}
use Rattle.build_run.proofs.Outs.{apart_both, kept_held, no_more_held, own_after, own_room, stored_prepared, stored_beside, stored_added, unheld_still}
use Rattle.build_run.specs.Books.{book_of}
use Rattle.build_run.proofs.Alongs.{along_ends}
use Rattle.build_run.proofs.Booking.{store_book}
use Rattle.build_run.proofs.Launching.{left_by, takes_away}
use Rattle.build_run.proofs.Starting.{end_leads, ends_as, held_within, launched_on, left_on, room_in}
use Rattle.build_run.proofs.Reasons.{last_exit, last_inside, last_within}
use Rattle.std.specs.Prelude.{string_bytes}
use Rattle.build_model.specs.Rules.{Record}
use Rattle.build_run.specs.Output.{PrintsLast}
use Rattle.build_run.proofs.Printing.{end_printed}
use Rattle.build_run.proofs.StartPrinting.{last_told, refused_printed, started_printed}
use Rattle.build_run.proofs.Endings.{counts_cleared, counts_launched, counts_still}
use Rattle.build_run.proofs.Faulted.{faulted_started, leads_plainly, plain_end, plain_exit, plain_inside, plain_within, since_entry, since_kept, since_log, start_end}
use Rattle.build_run.specs.Faulted.{IsFaultedAt, IsUnstarted}
use Rattle.build_run.proofs.Unstarted.{job_first, none_started}
use Rattle.build_run.proofs.Unmade.{since_same}
use Rattle.rule_graph.specs.Graphs.{RuleGraph}
use Rattle.rule_graph.specs.declared.build_fault.BuildFault.TheVariants as fault
use Rattle.build_files.specs.Firsts.{first_target_of}
use Rattle.build_files.specs.declared.end.ListEnd.TheVariants as list_end
use Rattle.world_api.specs.Around.{Entry, Started}
use Rattle.build_run.proofs.site.Site.start.Goals as goal

pub returns-then-self-clause-ends : goal.returns-then-self-clause-ends
returns-then-self-clause-ends g c = λ start a. shut_fault start (ledger_of c.args.self.now.account.now) _ c.if-self.true a

pub returns-in_err-text-clause-ends : goal.returns-in_err-text-clause-ends
returns-in_err-text-clause-ends g c = λ start a. exit_inside start (ledger_of c.args.self.now.account.now) _ _ _ c.from_residual.result c.from_residual.ensures.1 a

pub returns-in_err-job-clause-ends : goal.returns-in_err-job-clause-ends
returns-in_err-job-clause-ends g c = λ start a. exit_inside start (ledger_of c.args.self.now.account.now) _ _ _ c.from_residual-in_err-job.result c.from_residual-in_err-job.ensures.1 a

pub returns-in_err-hold-clause-ends : goal.returns-in_err-hold-clause-ends
returns-in_err-hold-clause-ends g c = λ start a. exit_inside start (ledger_of c.args.self.now.account.now) _ _ _ c.from_residual-in_err-hold.result c.from_residual-in_err-hold.ensures.1 a

pub returns-in_err-ticket-clause-passes : goal.returns-in_err-ticket-clause-passes
returns-in_err-ticket-clause-passes g c = record {
  same = record { graph = refl; store = refl; world = refl; out = refl; err = refl; run = refl; account = refl; options = refl };
  passes = passes_here g.W.Disk.meaning c.args.self.now.world.now;
}

pub returns-in_err-ticket-clause-ends : goal.returns-in_err-ticket-clause-ends
returns-in_err-ticket-clause-ends g c = λ start a.
    let before = ledger_of c.args.self.now.account.now in
    exit_same start before _ c.from_residual-in_err-ticket.result _ c.from_residual-in_err-ticket.ensures.1 (inside start before _ _ _ _ c.in_err-ticket.ensures.quiet a)

pub returns-in_err-ticket-clause-sound : goal.returns-in_err-ticket-clause-sound
returns-in_err-ticket-clause-sound g c =
    let p = c.prepare.ensures in
    let site = c.args.self.now in
    let s = c.requires.sound in
    record {
      unclosed = s.unclosed;
      joined = s.joined;
      stored = stored_prepared g.W.Disk.meaning _ site.store.now c.prepare.new.store (site.run.now.held ++ site.run.now.tickets) site.account.now.is_store_shut p.live p.banks p.map p.outs s.stored;
      few = s.few;
      limit = s.limit;
    }

pub launch-requires-clause-sound : goal.launch-requires-clause-sound
launch-requires-clause-sound g c =
    let p = c.prepare.ensures in
    let site = c.args.self.now in
    let s = c.requires.sound in
    record {
      unclosed = s.unclosed;
      joined = s.joined;
      stored = stored_prepared g.W.Disk.meaning _ site.store.now c.prepare.new.store (site.run.now.held ++ site.run.now.tickets) site.account.now.is_store_shut p.live p.banks p.map p.outs s.stored;
      few = s.few;
      limit = s.limit;
    }

pub launch-requires-clause-ready : goal.launch-requires-clause-ready
launch-requires-clause-ready g c =
    let site = c.args.self.now in
    record {
      unshut = c.if-self.false;
      apart = c.are_apart.ensures c.if-not-are_apart.false;
      out = record { rec = c.args.now; out = c.in_ok-ticket.ensures.out; same = sym c.in_ok-job.ensures.targets };
      room = own_room site.store.now c.in_ok-ticket.ticket (site.run.now.held ++ site.run.now.tickets) c.in_ok-ticket.ensures.fresh (c.requires.sound.stored.outs c.if-self.false);
      beside = c.make_none_of.ensures c.if-not-make_none_of.false;
    }

pub returns-in-Ok-clause-passes : goal.returns-in-Ok-clause-passes
returns-in-Ok-clause-passes g c =
    let p = c.launch.ensures.passes in
    record {
      same = record { graph = p.same.graph; store = p.same.store; world = p.same.world; out = p.same.out; err = p.same.err; run = p.same.run; account = p.same.account; options = p.same.options };
      passes = p.passes;
    }

pub returns-in-Ok-clause-sound : goal.returns-in-Ok-clause-sound
returns-in-Ok-clause-sound g c =
    let m = g.W.Disk.meaning in
    let site = c.args.self.now in
    let now = c.launch.new.self in
    let busies = now.run.now.tickets in
    let held = now.run.now.held in
    let shut = now.account.now.is_store_shut in
    let same = c.launch.ensures.tickets in
    let job = c.in_ok-job.job in
    let new : Busy = record { hold = c.in_ok-hold.hold; ticket = c.in_ok-ticket.ticket } in
    let apart = c.are_apart.ensures c.if-not-are_apart.false in
    let own = own_after site.store.now new.ticket site.run.now.held held site.run.now.tickets busies c.in_ok-ticket.ensures.fresh (c.requires.sound.stored.outs c.if-self.false) c.launch.ensures.held same in
    let added = ap holds_in c.add.ensures ∙ (map-append (λ (b : Busy). b.hold) busies (new ∷ []) ∙ (ap (λ (h : Hold). holds_in busies ++ h ∷ []) c.in_ok-hold.ensures ∙ ap (λ (all : List Busy). holds_in all ++ hold_for job ∷ []) same)) in
    record {
      unclosed = c.launch.ensures.sound.unclosed;
      joined = subst (λ (holds : List Hold). IsJoined m now.world.now holds) (sym added) c.in-Ok.ensures.sound.joined;
      stored =
          subst (λ (all : List Busy). IsStored m now.world.now now.store.now (held ++ all) shut) (sym c.add.ensures)
          (subst (λ (all : List Busy). IsStored m now.world.now now.store.now all shut) (append_assoc held busies (new ∷ []))
          (stored_added m now.world.now now.store.now new (held ++ busies) shut
          (subst (λ (h : Hold). IsOutFor now.store.now (record { hold = h; ticket = new.ticket })) (sym c.in_ok-hold.ensures) (record { ticket = c.in-Ok.ensures.ticket; none = c.in-Ok.ensures.none })) own
          (λ hold path among here there.
          apart_both held busies job.targets hold path (unheld_still site.run.now.held held job.targets c.launch.ensures.held (c.make_none_of.ensures c.if-not-make_none_of.false))
          (λ h k. (apart h (subst (λ (all : List Busy). Contains (holds_in all) h) same k)).made) among
          (subst (λ (h : Hold). Contains h.targets path) c.in_ok-hold.ensures here) there)
          c.launch.ensures.sound.stored));
      few = c.launch.ensures.sound.few;
      limit = omega (arith, ap (λ (all : List Busy). length all) c.add.ensures, length-append busies (new ∷ []), ap (λ (all : List Busy). length all) same, c.requires.room);
    }

pub returns-in-Ok-clause-few : goal.returns-in-Ok-clause-few
returns-in-Ok-clause-few g c = no_more_held c.args.self.now.run.now.held c.launch.new.self.run.now.held c.launch.ensures.held

pub returns-in-Ok-clause-kept : goal.returns-in-Ok-clause-kept
returns-in-Ok-clause-kept g c = λ unshut busy path h made.
    let p = c.prepare.ensures in
    let site = c.args.self.now in
    let now = c.launch.new.self in
    let before = store_book (book_of site) c.prepare.new.store p.map (c.requires.sound.stored.outs c.if-self.false) (λ busy rec h out. p.outs.each rec busy.ticket out) in
    let apart = c.make_none_of.ensures c.if-not-make_none_of.false in
    kept_held c.prepare.new.store site.run.now.held now.store.now now.run.now.held c.in_ok-job.job.targets apart (c.launch.ensures.kept unshut) busy path h made ∙ ap (λ (m : Map). m path) before.records

pub returns-clause-passes : goal.returns-clause-passes
returns-clause-passes g c =
    let p = c.launch.ensures.passes in
    record {
      same = record { graph = p.same.graph; store = p.same.store; world = p.same.world; out = p.same.out; err = p.same.err; run = p.same.run; account = p.same.account; options = p.same.options };
      passes = p.passes;
    }

pub returns-clause-sound : goal.returns-clause-sound
returns-clause-sound g c =
    let m = g.W.Disk.meaning in
    let site = c.args.self.now in
    let now = c.launch.new.self in
    let busies = now.run.now.tickets in
    let held = now.run.now.held in
    let same = c.launch.ensures.tickets in
    let ticket = c.in_ok-ticket.ticket in
    let own = own_after site.store.now ticket site.run.now.held held site.run.now.tickets busies c.in_ok-ticket.ensures.fresh (c.requires.sound.stored.outs c.if-self.false) c.launch.ensures.held same in
    record {
      unclosed = c.launch.ensures.sound.unclosed;
      joined = subst (λ (all : List Busy). IsJoined m now.world.now (holds_in all)) (sym same) c.in-Err.ensures.sound.joined;
      stored = stored_beside m now.world.now now.store.now c.give_up.new.store ticket (held ++ busies) now.account.now.is_store_shut c.give_up.ensures.live c.give_up.ensures.banks c.give_up.ensures.map c.give_up.ensures.outs (λ unshut. own) c.launch.ensures.sound.stored;
      few = c.launch.ensures.sound.few;
      limit = c.launch.ensures.sound.limit;
    }

pub returns-clause-few : goal.returns-clause-few
returns-clause-few g c = no_more_held c.args.self.now.run.now.held c.launch.new.self.run.now.held c.launch.ensures.held

pub returns-clause-kept : goal.returns-clause-kept
returns-clause-kept g c = λ unshut busy path h made.
    let p = c.prepare.ensures in
    let site = c.args.self.now in
    let now = c.launch.new.self in
    let busies = now.run.now.tickets in
    let held = now.run.now.held in
    let same = c.launch.ensures.tickets in
    let ticket = c.in_ok-ticket.ticket in
    let before = store_book (book_of site) c.prepare.new.store p.map (c.requires.sound.stored.outs c.if-self.false) (λ busy rec h out. p.outs.each rec busy.ticket out) in
    let apart = c.make_none_of.ensures c.if-not-make_none_of.false in
    let after = kept_held c.prepare.new.store site.run.now.held now.store.now held c.in_ok-job.job.targets apart (c.launch.ensures.kept unshut) busy path h made in
    let own = own_after site.store.now ticket site.run.now.held held site.run.now.tickets busies c.in_ok-ticket.ensures.fresh (c.requires.sound.stored.outs c.if-self.false) c.launch.ensures.held same in
    let given = store_book (book_of now) c.give_up.new.store c.give_up.ensures.map (c.launch.ensures.sound.stored.outs unshut)
    (λ busy rec k out. c.give_up.ensures.outs.each rec busy.ticket (own busy k) out) in
    ap (λ (m : Map). m path) given.records ∙ (after ∙ ap (λ (m : Map). m path) before.records)

pub returns-then-self-clause-kept : goal.returns-then-self-clause-kept
returns-then-self-clause-kept g c = λ unshut busy path h made. refl

pub returns-in_err-text-clause-kept : goal.returns-in_err-text-clause-kept
returns-in_err-text-clause-kept g c = λ unshut busy path h made. refl

pub returns-in_err-job-clause-kept : goal.returns-in_err-job-clause-kept
returns-in_err-job-clause-kept g c = λ unshut busy path h made. refl

pub returns-in_err-hold-clause-kept : goal.returns-in_err-hold-clause-kept
returns-in_err-hold-clause-kept g c = λ unshut busy path h made. refl

pub returns-then-not-are_apart-clause-kept : goal.returns-then-not-are_apart-clause-kept
returns-then-not-are_apart-clause-kept g c = λ unshut busy path h made. refl

pub returns-then-not-make_none_of-clause-kept : goal.returns-then-not-make_none_of-clause-kept
returns-then-not-make_none_of-clause-kept g c = λ unshut busy path h made. refl

pub returns-in_err-ticket-clause-kept : goal.returns-in_err-ticket-clause-kept
returns-in_err-ticket-clause-kept g c = λ unshut busy path h made.
    let p = c.prepare.ensures in
    let site = c.args.self.now in
    let before = store_book (book_of site) c.prepare.new.store p.map (c.requires.sound.stored.outs c.if-self.false) (λ busy rec h out. p.outs.each rec busy.ticket out) in
    ap (λ (m : Map). m path) before.records

pub returns-then-self-clause-along : goal.returns-then-self-clause-along
returns-then-self-clause-along g c = λ tells sure o outset along due is_due. along_ends g.W.Disk.meaning o outset c.args.self.now along

pub returns-then-not-are_apart-clause-along : goal.returns-then-not-are_apart-clause-along
returns-then-not-are_apart-clause-along g c = λ tells sure o outset along due is_due. along_ends g.W.Disk.meaning o outset c.args.self.now along

pub returns-then-not-make_none_of-clause-along : goal.returns-then-not-make_none_of-clause-along
returns-then-not-make_none_of-clause-along g c = λ tells sure o outset along due is_due. along_ends g.W.Disk.meaning o outset c.args.self.now along

pub returns-in_err-text-clause-along : goal.returns-in_err-text-clause-along
returns-in_err-text-clause-along g c = λ tells sure o outset along due is_due.
    let m = g.W.Disk.meaning in
    end_leads _ m o _ _ c.from_residual.result c.from_residual.ensures.1 (along_ends m o outset c.args.self.now along)

pub returns-in_err-job-clause-along : goal.returns-in_err-job-clause-along
returns-in_err-job-clause-along g c = λ tells sure o outset along due is_due.
    let m = g.W.Disk.meaning in
    end_leads _ m o _ _ c.from_residual-in_err-job.result c.from_residual-in_err-job.ensures.1 (along_ends m o outset c.args.self.now along)

pub returns-in_err-hold-clause-along : goal.returns-in_err-hold-clause-along
returns-in_err-hold-clause-along g c = λ tells sure o outset along due is_due.
    let m = g.W.Disk.meaning in
    end_leads _ m o _ _ c.from_residual-in_err-hold.result c.from_residual-in_err-hold.ensures.1 (along_ends m o outset c.args.self.now along)

pub returns-in_err-ticket-clause-along : goal.returns-in_err-ticket-clause-along
returns-in_err-ticket-clause-along g c = λ tells sure o outset along due is_due.
    let m = g.W.Disk.meaning in
    let p = c.prepare.ensures in
    let site = c.args.self.now in
    let book = book_of site in
    end_leads _ m o _ _ c.from_residual-in_err-ticket.result c.from_residual-in_err-ticket.ensures.1
    (ends_as m o site.world.now book (record book { store = c.prepare.new.store }) site.run.now.plan (λ busy h. h)
    (record {
      unshut = λ e. e;
      keeps = λ e. store_book book c.prepare.new.store p.map (c.requires.sound.stored.outs e) (λ busy rec h out. p.outs.each rec busy.ticket out);
    })
    (along_ends m o outset site along))

pub returns-in-Ok-clause-along : goal.returns-in-Ok-clause-along
returns-in-Ok-clause-along g c = λ tells sure o outset along due is_due.
    let m = g.W.Disk.meaning in
    let p = c.prepare.ensures in
    let site = c.args.self.now in
    let now = c.launch.new.self in
    let known = c.launch.ensures.known in
    let account = c.launch.ensures.account in
    let well = c.in-Ok.ensures.well in
    let unshut = well.unshut ∙ c.if-self.false in
    let room = room_in m o site c.requires.sound.joined (c.launch.ensures.passes.passes.told.told tells) along.asked due.room in
    launched_on m o outset site along c.args.rule c.args.now due is_due c.in_ok-job.job c.in_ok-job.ensures room _
    (c.in-Ok.ensures.starts tells) well.counts known.graph known.plan known.inputs account.ended account.faulted unshut
    (held_within site.run.now.held now.run.now.held c.launch.ensures.held)
    now.run.now.tickets
    (takes_away m site now c.prepare.new.store c.in_ok-job.job.targets (c.requires.sound.stored.outs c.if-self.false) p.map p.outs c.launch.ensures.tickets c.launch.ensures.held
    (c.make_none_of.ensures c.if-not-make_none_of.false) c.launch.ensures.outs c.launch.ensures.kept c.launch.ensures.sound.stored.outs unshut c.in-Ok.ensures.none)
    (record { hold = c.in_ok-hold.hold; ticket = c.in_ok-ticket.ticket })
    (ap (λ (h : Hold). h.targets) c.in_ok-hold.ensures) (c.launch.ensures.outs.each c.args.now c.in_ok-ticket.ticket c.in_ok-ticket.ensures.out.own)
    c.add.ensures

pub returns-clause-along : goal.returns-clause-along
returns-clause-along g c = λ tells sure o outset along due is_due.
    let m = g.W.Disk.meaning in
    let site = c.args.self.now in
    let now = c.launch.new.self in
    let p = c.prepare.ensures in
    let outs = c.requires.sound.stored.outs c.if-self.false in
    let own = own_after site.store.now c.in_ok-ticket.ticket site.run.now.held now.run.now.held site.run.now.tickets now.run.now.tickets
    c.in_ok-ticket.ensures.fresh outs c.launch.ensures.held c.launch.ensures.tickets in
    let room = room_in m o site c.requires.sound.joined (c.launch.ensures.passes.passes.told.told tells) along.asked due.room in
    ends_as m o now.world.now (book_of now) (record (book_of now) { store = c.give_up.new.store }) now.run.now.plan (λ busy h. h)
    (record {
      unshut = λ e. e;
      keeps = λ e.
          store_book (book_of now) c.give_up.new.store c.give_up.ensures.map (c.launch.ensures.sound.stored.outs e)
          (λ busy rec h out. c.give_up.ensures.outs.each rec busy.ticket (own busy h) out);
    })
    (left_on m o outset site along c.args.rule c.args.now due is_due c.in_ok-job.job c.in_ok-job.ensures room
    now.world.now (book_of now) now.run.now.plan (c.in-Err.ensures.clears tells)
    (held_within site.run.now.held now.run.now.held c.launch.ensures.held) c.launch.ensures.known.plan
    (left_by m site now c.prepare.new.store c.in_ok-job.job.targets outs p.map p.outs c.launch.ensures.tickets c.launch.ensures.held
    (c.make_none_of.ensures c.if-not-make_none_of.false) c.launch.ensures.outs c.launch.ensures.kept c.launch.ensures.sound.stored.outs
    _ tells c.in-Err.ensures.refused refl refl))

pub returns-then-self-clause-safe : goal.returns-then-self-clause-safe
returns-then-self-clause-safe g c = λ k safe over.
    site_rests g.W.Disk.meaning g.met.W.Disk.only_now c.args.self.now _ refl refl refl refl (λ unshut. unshut) k safe

pub returns-in_err-text-clause-safe : goal.returns-in_err-text-clause-safe
returns-in_err-text-clause-safe g c = λ k safe over.
    site_rests g.W.Disk.meaning g.met.W.Disk.only_now c.args.self.now _ refl refl refl refl (λ unshut. unshut) k safe

pub returns-in_err-job-clause-safe : goal.returns-in_err-job-clause-safe
returns-in_err-job-clause-safe g c = λ k safe over.
    site_rests g.W.Disk.meaning g.met.W.Disk.only_now c.args.self.now _ refl refl refl refl (λ unshut. unshut) k safe

pub returns-in_err-hold-clause-safe : goal.returns-in_err-hold-clause-safe
returns-in_err-hold-clause-safe g c = λ k safe over.
    site_rests g.W.Disk.meaning g.met.W.Disk.only_now c.args.self.now _ refl refl refl refl (λ unshut. unshut) k safe

pub returns-then-not-are_apart-clause-safe : goal.returns-then-not-are_apart-clause-safe
returns-then-not-are_apart-clause-safe g c = λ k safe over.
    site_rests g.W.Disk.meaning g.met.W.Disk.only_now c.args.self.now _ refl refl refl refl (λ unshut. unshut) k safe

pub returns-then-not-make_none_of-clause-safe : goal.returns-then-not-make_none_of-clause-safe
returns-then-not-make_none_of-clause-safe g c = λ k safe over.
    site_rests g.W.Disk.meaning g.met.W.Disk.only_now c.args.self.now _ refl refl refl refl (λ unshut. unshut) k safe

pub returns-in_err-ticket-clause-safe : goal.returns-in_err-ticket-clause-safe
returns-in_err-ticket-clause-safe g c = λ k safe over.
    site_kept g.W.Disk.meaning g.met.W.Disk.only_now c.args.self.now _ refl c.prepare.ensures.tickets refl refl (λ unshut. unshut) k safe

pub returns-clause-safe : goal.returns-clause-safe
returns-clause-safe g c = λ k safe over.
    let m = g.W.Disk.meaning in
    let now = c.launch.new.self in
    site_then m k c.args.self.now now _ (told_here m now.world.now)
    (site_then m k c.args.self.now _ now c.launch.ensures.passes.passes.told
    (site_kept m g.met.W.Disk.only_now c.args.self.now _ refl c.prepare.ensures.tickets refl refl (λ unshut. unshut) k safe)
    (c.launch.ensures.safe k (λ tells sure.
    subst (λ (paths : List (List ℕ)). MayGo k (m.around c.args.self.now.world.now) paths) (sym c.in_ok-job.ensures.targets) (over tells sure).allows.goes)))
    (site_kept m g.met.W.Disk.only_now now _ refl c.give_up.ensures.tickets refl refl (λ unshut. unshut) k)

pub returns-in-Ok-clause-safe : goal.returns-in-Ok-clause-safe
returns-in-Ok-clause-safe g c = λ k safe over.
    let m = g.W.Disk.meaning in
    let site = c.args.self.now in
    let now = c.launch.new.self in
    let job = c.in_ok-job.job in
    let from = c.in_ok-job.ensures in
    let told = c.launch.ensures.passes.passes.told in
    let new : Busy = record { hold = c.in_ok-hold.hold; ticket = c.in_ok-ticket.ticket } in
    let apart = c.are_apart.ensures c.if-not-are_apart.false in
    let chain = site_then m k site _ now told
    (site_kept m g.met.W.Disk.only_now site _ refl c.prepare.ensures.tickets refl refl (λ unshut. unshut) k safe)
    (c.launch.ensures.safe k (λ tells sure.
    subst (λ (paths : List (List ℕ)). MayGo k (m.around site.world.now) paths) (sym from.targets) (over tells sure).allows.goes)) in
    record {
      moments = chain.moments;
      now = record {
        world = chain.now.world;
        tickets = λ tells sure.
            let t = chain.now.tickets tells sure in
            let before = told.told tells in
            subst (λ (all : List Busy). AreSafeIn m k now.world.now now.store.now now.run.now.held all now.account.now) (sym c.add.ensures) (record {
              held = t.held;
              tickets = λ busy h. elim (in_pushed now.run.now.tickets new busy h) [
                | inl more ↦ t.tickets busy more
                | inr same ↦ subst (λ (b : Busy). HasOwnRecord k now.store.now (m.around now.world.now) b) same
                    (own_launched k job (m.counts site.world.now) (m.around site.world.now) (m.around now.world.now) c.args.now now.store.now new
                    (c.in-Ok.ensures.starts tells) (over before (told.sure tells sure))
                    (c.launch.ensures.outs.each c.args.now new.ticket c.in_ok-ticket.ensures.out.own)
                    from.work from.signed from.targets from.deps
                    (sym from.targets ∙ ap (λ (hold : Hold). hold.targets) (sym c.in_ok-hold.ensures))
                    (ap (λ (hold : Hold). hold.rule.0) (sym c.in_ok-hold.ensures))
                    (λ run there. (apart (hold_of run) (subst (λ (holds : List Hold). Contains holds (hold_of run)) (c.requires.sound.joined.runs before)
                    (mapped (m.around site.world.now).running run there))).new_id))
              ];
            });
      };
    }

pub returns-in_err-text-clause-last : goal.returns-in_err-text-clause-last
returns-in_err-text-clause-last g c = last_within c.from_residual.result c.from_residual.ensures.1

pub returns-in_err-job-clause-last : goal.returns-in_err-job-clause-last
returns-in_err-job-clause-last g c = last_within c.from_residual-in_err-job.result c.from_residual-in_err-job.ensures.1

pub returns-in_err-hold-clause-last : goal.returns-in_err-hold-clause-last
returns-in_err-hold-clause-last g c = last_within c.from_residual-in_err-hold.result c.from_residual-in_err-hold.ensures.1

pub returns-in_err-ticket-clause-last : goal.returns-in_err-ticket-clause-last
returns-in_err-ticket-clause-last g c =
    let r = c.from_residual-in_err-ticket in
    last_exit r.result _ r.ensures.1 (last_inside _ c.in_err-ticket.ensures.quiet)

pub returns-in-Ok-clause-prints : goal.returns-in-Ok-clause-prints
returns-in-Ok-clause-prints g c = λ x at.
    let site = c.args.self.now in
    subst (λ (t : List ℕ). Prints g.O.Sink.meaning site.out.now c.launch.new.self.out.now t) (c.as_str.ensures.value ∙ c.in_ok-text.ensures x at)
    c.in-Ok.ensures.prints

pub returns-then-self-clause-printing : goal.returns-then-self-clause-printing
returns-then-self-clause-printing g c = record { told = λ t. t; prints = λ tells sure shows o outset along due is_due says start is. is.has }

pub returns-then-not-are_apart-clause-printing : goal.returns-then-not-are_apart-clause-printing
returns-then-not-are_apart-clause-printing g c = record { told = λ t. t; prints = λ tells sure shows o outset along due is_due says start is. is.has }

pub returns-then-not-make_none_of-clause-printing : goal.returns-then-not-make_none_of-clause-printing
returns-then-not-make_none_of-clause-printing g c = record { told = λ t. t; prints = λ tells sure shows o outset along due is_due says start is. is.has }

pub returns-in_err-text-clause-printing : goal.returns-in_err-text-clause-printing
returns-in_err-text-clause-printing g c = record {
  told = λ t. t;
  prints = λ tells sure shows o outset along due is_due says start is.
      end_printed g.W.Disk.meaning g.O.Sink.meaning _ c.from_residual.result o start _ c.from_residual.ensures.1 is.has;
}

pub returns-in_err-job-clause-printing : goal.returns-in_err-job-clause-printing
returns-in_err-job-clause-printing g c = record {
  told = λ t. t;
  prints = λ tells sure shows o outset along due is_due says start is.
      end_printed g.W.Disk.meaning g.O.Sink.meaning _ c.from_residual-in_err-job.result o start _ c.from_residual-in_err-job.ensures.1 is.has;
}

pub returns-in_err-hold-clause-printing : goal.returns-in_err-hold-clause-printing
returns-in_err-hold-clause-printing g c = record {
  told = λ t. t;
  prints = λ tells sure shows o outset along due is_due says start is.
      end_printed g.W.Disk.meaning g.O.Sink.meaning _ c.from_residual-in_err-hold.result o start _ c.from_residual-in_err-hold.ensures.1 is.has;
}

pub returns-in_err-ticket-clause-printing : goal.returns-in_err-ticket-clause-printing
returns-in_err-ticket-clause-printing g c = record {
  told = λ t. t;
  prints = λ tells sure shows o outset along due is_due says start is.
      end_printed g.W.Disk.meaning g.O.Sink.meaning _ c.from_residual-in_err-ticket.result o start _ c.from_residual-in_err-ticket.ensures.1 is.has;
}

pub returns-in-Ok-clause-printing : goal.returns-in-Ok-clause-printing
returns-in-Ok-clause-printing g c = record {
  told = c.in-Ok.ensures.prints.told;
  prints = λ tells sure shows o outset along due is_due says start is.
      let m = g.W.Disk.meaning in
      let p = g.O.Sink.meaning in
      let site = c.args.self.now in
      let now = c.launch.new.self in
      let from = c.in_ok-job.ensures in
      let before = c.launch.ensures.passes.passes.told.told tells in
      let text = c.in_ok-text.text in
      let on = started_printed m p o outset site along c.args.rule c.args.now due c.requires.sound g.met.W.Disk.reads_as before
      c.in_ok-ticket.ensures.out.spells.valid (string_bytes c.args.why) says is_due (string_bytes text) c.in_ok-text.ensures c.in_ok-job.job from now
      (c.in-Ok.ensures.starts tells) c.launch.ensures.passes.same.options (from.targets ∙ ap (λ (x : Record). x.targets) due.weighed.present.is) start is.has
      (is.none due.weighed.goes_on)
      (subst (λ (t : List ℕ). Prints p site.out.now now.out.now t) c.as_str.ensures.value c.in-Ok.ensures.prints) shows in
      record { has = on.has; none = on.none };
}

pub returns-clause-printing : goal.returns-clause-printing
returns-clause-printing g c = record {
  told = λ t. last_told g.O.Sink.meaning _ _ _ c.in-Err.ensures.cuts t;
  prints = λ tells sure shows o outset along due is_due says start is.
      let m = g.W.Disk.meaning in
      let p = g.O.Sink.meaning in
      let site = c.args.self.now in
      let now = c.launch.new.self in
      let from = c.in_ok-job.ensures in
      let before = c.launch.ensures.passes.passes.told.told tells in
      let text = c.in_ok-text.text in
      refused_printed m p o outset site along c.args.rule c.args.now due c.requires.sound g.met.W.Disk.reads_as before
      c.in_ok-ticket.ensures.out.spells.valid (string_bytes c.args.why) says is_due (string_bytes text) c.in_ok-text.ensures c.in_ok-job.job
      (from.targets ∙ ap (λ (x : Record). x.targets) due.weighed.present.is) now (c.in-Err.ensures.clears tells) c.launch.ensures.passes.same.options
      start is.has (is.none due.weighed.goes_on)
      (subst (λ (t : List ℕ). PrintsLast p site.out.now now.out.now t) c.as_str.ensures.value c.in-Err.ensures.cuts) shows;
}

pub returns-then-self-clause-counts : goal.returns-then-self-clause-counts
returns-then-self-clause-counts g c =
    let site = c.args.self.now in
    counts_still g.W.Disk.meaning site.world.now site.account.now site.account.now (λ ample. ample)

pub returns-in_err-text-clause-counts : goal.returns-in_err-text-clause-counts
returns-in_err-text-clause-counts g c =
    let site = c.args.self.now in
    counts_still g.W.Disk.meaning site.world.now site.account.now site.account.now (λ ample. ample)

pub returns-in_err-job-clause-counts : goal.returns-in_err-job-clause-counts
returns-in_err-job-clause-counts g c =
    let site = c.args.self.now in
    counts_still g.W.Disk.meaning site.world.now site.account.now site.account.now (λ ample. ample)

pub returns-in_err-hold-clause-counts : goal.returns-in_err-hold-clause-counts
returns-in_err-hold-clause-counts g c =
    let site = c.args.self.now in
    counts_still g.W.Disk.meaning site.world.now site.account.now site.account.now (λ ample. ample)

pub returns-then-not-are_apart-clause-counts : goal.returns-then-not-are_apart-clause-counts
returns-then-not-are_apart-clause-counts g c =
    let site = c.args.self.now in
    counts_still g.W.Disk.meaning site.world.now site.account.now site.account.now (λ ample. ample)

pub returns-then-not-make_none_of-clause-counts : goal.returns-then-not-make_none_of-clause-counts
returns-then-not-make_none_of-clause-counts g c =
    let site = c.args.self.now in
    counts_still g.W.Disk.meaning site.world.now site.account.now site.account.now (λ ample. ample)

pub returns-in_err-ticket-clause-counts : goal.returns-in_err-ticket-clause-counts
returns-in_err-ticket-clause-counts g c =
    let site = c.args.self.now in
    counts_still g.W.Disk.meaning site.world.now site.account.now site.account.now (λ ample. ample)

pub returns-in-Ok-clause-counts : goal.returns-in-Ok-clause-counts
returns-in-Ok-clause-counts g c =
    let site = c.args.self.now in
    let now = c.launch.new.self in
    let is = c.launch.ensures in
    counts_launched g.W.Disk.meaning site.world.now site.account.now now.world.now now.account.now c.in_ok-job.job is.want is.passes.passes.later
    c.in-Ok.ensures.starts

pub returns-clause-counts : goal.returns-clause-counts
returns-clause-counts g c =
    let site = c.args.self.now in
    let now = c.launch.new.self in
    let is = c.launch.ensures in
    counts_cleared g.W.Disk.meaning c.in_ok-job.job.targets site.world.now site.account.now now.world.now now.account.now is.want
    is.passes.passes.later c.in-Err.ensures.clears

pub returns-then-self-clause-faulted : goal.returns-then-self-clause-faulted
returns-then-self-clause-faulted g c = λ tells sure o outset along due is_due has.
    let site = c.args.self.now in
    (has, plain_end o site.graph.now (g.W.Disk.meaning.around site.world.now).log site.account.now (list_end.Fault fault.StoreFault) has tt)

pub returns-then-not-are_apart-clause-faulted : goal.returns-then-not-are_apart-clause-faulted
returns-then-not-are_apart-clause-faulted g c = λ tells sure o outset along due is_due has. (has, tt)

pub returns-then-not-make_none_of-clause-faulted : goal.returns-then-not-make_none_of-clause-faulted
returns-then-not-make_none_of-clause-faulted g c = λ tells sure o outset along due is_due has. (has, tt)

pub returns-in_err-text-clause-faulted : goal.returns-in_err-text-clause-faulted
returns-in_err-text-clause-faulted g c = λ tells sure o outset along due is_due has.
    let r = c.from_residual in
    leads_plainly o c.args.self.now.graph.now c.args.self.now.account.now _ r.result (plain_within r.result r.ensures.1) has

pub returns-in_err-job-clause-faulted : goal.returns-in_err-job-clause-faulted
returns-in_err-job-clause-faulted g c = λ tells sure o outset along due is_due has.
    let r = c.from_residual-in_err-job in
    leads_plainly o c.args.self.now.graph.now c.args.self.now.account.now _ r.result (plain_within r.result r.ensures.1) has

pub returns-in_err-hold-clause-faulted : goal.returns-in_err-hold-clause-faulted
returns-in_err-hold-clause-faulted g c = λ tells sure o outset along due is_due has.
    let r = c.from_residual-in_err-hold in
    leads_plainly o c.args.self.now.graph.now c.args.self.now.account.now _ r.result (plain_within r.result r.ensures.1) has

pub returns-in_err-ticket-clause-faulted : goal.returns-in_err-ticket-clause-faulted
returns-in_err-ticket-clause-faulted g c = λ tells sure o outset along due is_due has.
    let r = c.from_residual-in_err-ticket in
    leads_plainly o c.args.self.now.graph.now c.args.self.now.account.now _ r.result (plain_exit r.result _ r.ensures.1 (plain_inside _ c.in_err-ticket.ensures.quiet)) has

pub returns-in-Ok-clause-faulted : goal.returns-in-Ok-clause-faulted
returns-in-Ok-clause-faulted g c = λ tells sure o outset along due is_due has.
    let m = g.W.Disk.meaning in
    let site = c.args.self.now in
    let now = c.launch.new.self in
    let is = c.launch.ensures in
    let job = c.in_ok-job.job in
    let launch = c.in-Ok.ensures.starts tells in
    subst (λ (of : RuleGraph). IsFaultedAt o of now.account.now (m.around now.world.now).log) (sym is.known.graph)
    (since_entry o site.graph.now (m.around site.world.now).log (m.around now.world.now).log site.account.now now.account.now
    (Started job (m.counts site.world.now))
    (launch.starts.log ∙ ap (λ (l : List Entry). l ++ Started job (m.counts site.world.now) ∷ []) launch.clears.log)
    (λ entries are. faulted_started o site.graph.now entries site.account.now now.account.now is.told.memory (λ e. sym is.account.ended ∙ e) are job
    (m.counts site.world.now) due.weighed.goes_on is.told.faults (job_first m o outset site along c.args.rule c.args.now due job c.in_ok-job.ensures)) has)

pub returns-clause-faulted : goal.returns-clause-faulted
returns-clause-faulted g c = λ tells sure o outset along due is_due has.
    let m = g.W.Disk.meaning in
    let site = c.args.self.now in
    let now = c.launch.new.self in
    let is = c.launch.ensures in
    let job = c.in_ok-job.job in
    let before = (m.around site.world.now).log in
    let after = (m.around now.world.now).log in
    let same : after ≡ before = (c.in-Err.ensures.clears tells).log in
    let room = room_in m o site c.requires.sound.joined (is.passes.passes.told.told tells) along.asked due.room in
    let kept = since_log o site.graph.now before after now.account.now same
    (since_kept o site.graph.now before site.account.now now.account.now is.told.memory (λ e. sym is.account.ended ∙ e) has is.told.faults) in (
      subst (λ (of : RuleGraph). IsFaultedAt o of now.account.now after) (sym is.known.graph) kept,
      start_end o site.graph.now after now.account.now site.graph.now job.id _ kept c.in-Err.ensures.faulted
          (λ target named. since_same o.before.log before after (λ entries. IsUnstarted o entries target) same
          (none_started m o outset site along c.args.rule c.args.now due is_due room target
          (ap (λ id. first_target_of site.graph.now id) (sym c.in_ok-job.ensures.id) ∙ named))),
    )
