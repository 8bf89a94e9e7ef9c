use Rattle.std.proofs.Common.{◌≡◌, ◌≤◌, ◌∙◌, ◌++◌, ◌∷◌, [], Bool, List, Contains, ap, length, refl, subst, sym, arith}
use Rattle.build_run.proofs.Ended.{are_done, are_ended}
use Rattle.build_run.proofs.Outs.{outs_back}
use Rattle.build_run.proofs.Safely.{safe_on}
use Rattle.build_run.proofs.Stopping.{same_tickets}
use Rattle.std.proofs.lemmas.List.Elements.{Contains-append_left, Contains-append_right}
use Rattle.build_model.proofs.Lists.{true_false}
use Rattle.world_api.specs.Calls.{Ends}
use Rattle.sign_store.specs.Tables.{Map}
use Rattle.build_run.specs.Sites.{records_of}
use Rattle.build_run.specs.Goings.{IsJoined}
use Rattle.build_run.specs.Holds.{Busy, holds_in}
use Rattle.build_run.specs.Outs.{IsStored}
use Rattle.world_api.specs.Around.{Around, Finished}
use Rattle.world_api.specs.declared.job.Outcome.TheVariants.{Done}
use Rattle.world_api.specs.declared.job.Outcome.{Outcome}
use Rattle.build_run.specs.Ledgers.{Ledger, ledger_of, wanting}
use Rattle.scons_base.specs.declared.ids.RuleId.{RuleId}
use Rattle.build_run.specs.declared.tickets.Hold.{Hold}
use Rattle.build_run.proofs.Holding.{no_more}
use Rattle.build_run.specs.Books.{book_of}
use Rattle.build_run.proofs.Booking.{given_up}
use Rattle.build_run.proofs.EndingOn.{done_is, put_counts, put_ends, put_others, put_unshut, taken_on, told_done, told_failed, unrisen_as, unrisen_done, unrisen_failed, was_done}
use Rattle.build_run.proofs.Causing.{account_as, settled, untold}
use Rattle.build_run.proofs.Goings.{passes_on}
use Rattle.build_run.proofs.Outs.{held_count, last_of, out_in, room_beside, rule_of, stored_alike, stored_beside, stored_left, stored_over, stored_taken}
use Rattle.build_run.proofs.Choosing.{goes_before}
use Rattle.build_run.proofs.Printing.{ends_same, put_ended, quiet_ended}
use Rattle.build_run.proofs.Reporting.{same_told}
use Rattle.build_run.proofs.Endings.{counts_ended, counts_none, counts_on, not_wanted}
use Rattle.build_run.proofs.Faulted.{faulted_done, faulted_ended, faulted_lost, since_entry}
use Rattle.build_run.specs.Faulted.{AddsOutcome}
use Rattle.std.proofs.Common.{ℕ}
use Rattle.build_run.proofs.site.Site.take_ended.Goals as goal

pub returns-in_default-clause-passes : goal.returns-in_default-clause-passes
returns-in_default-clause-passes g c = record {
  same = record { graph = refl; store = refl; world = refl; out = refl; err = refl; run = refl; account = refl; options = refl };
  passes = c.wait-ended.ensures.passes;
}

pub returns-in_default-clause-accounts : goal.returns-in_default-clause-accounts
returns-in_default-clause-accounts g c = λ start a.
    let before = ledger_of c.args.self.now.account.now in
    account_as start _ (wanting before) (ledger_of c.want_memory.new.self) c.want_memory.ensures.ledger
    (untold start before _ [] c.wait-ended.result.outcome (settled start before _ _ _ _ [] c.wait-ended.result.outcome c.wait-ended.ensures.cause a))

pub returns-in_default-clause-sound : goal.returns-in_default-clause-sound
returns-in_default-clause-sound g c =
    let m = g.W.Disk.meaning in
    let site = c.args.self.now in
    let s = c.requires.sound in
    let world = c.wait-ended.new.world in
    let told = c.wait-ended.ensures.passes.told in
    record {
      unclosed = told.closed ∙ s.unclosed;
      joined = subst (λ (holds : List Hold). IsJoined m world holds) (sym c.take.ensures.left) c.wait-ended.ensures.joined;
      stored =
          stored_alike m world site.store.now _ _ _ _ (ap (λ (all : List Busy). site.run.now.held ++ all) c.in_default.ensures.none) (ap (λ (l : Ledger). l.shut) c.want_memory.ensures.ledger)
          (stored_over m site.world.now world site.store.now (site.run.now.held ++ site.run.now.tickets) site.account.now.is_store_shut told.told c.wait-ended.ensures.banks s.stored);
      few = s.few;
      limit = subst (λ (all : List Busy). length all ≤ 64) (sym c.in_default.ensures.none) s.limit;
    }

pub returns-in_default-clause-takes : goal.returns-in_default-clause-takes
returns-in_default-clause-takes g c =
    let site = c.args.self.now in
    record {
      fewer = λ t. omega (arith, c.wait-ended.ensures.fewer t, ap length c.take.ensures.left, held_count c.take.new.self);
      no_more = omega (arith, ap length c.take.ensures.left, no_more c.wait-ended.result.id (holds_in site.run.now.tickets), held_count site.run.now.tickets, held_count c.take.new.self);
      done = λ t id log. absurd (omega (arith, c.wait-ended.ensures.fewer t, ap length c.take.ensures.left, held_count c.take.new.self, ap length c.in_default.ensures.none));
      only = λ t rule e. absurd cc;
      puts = λ rule e. absurd cc;
      kept = λ other unshut. refl;
      out = refl;
      shut = λ unshut. sym (ap (λ (l : Ledger). l.shut) c.want_memory.ensures.ledger) ∙ unshut;
    }

pub hold-requires : goal.hold-requires
hold-requires g c =
    let m = g.W.Disk.meaning in
    let site = c.args.self.now in
    let s = c.requires.sound in
    let world = c.wait-ended.new.world in
    let told = c.wait-ended.ensures.passes.told in
    let shut = site.account.now.is_store_shut in
    record {
      unclosed = told.closed ∙ s.unclosed;
      joined = subst (λ (holds : List Hold). IsJoined m world holds) (sym c.take.ensures.left) c.wait-ended.ensures.joined;
      stored =
          stored_taken m world site.store.now (site.run.now.held ++ site.run.now.tickets) (site.run.now.held ++ c.in-Some.busy ∷ c.take.new.self) shut (c.in-Some.ensures.outs site.store.now site.run.now.held)
          (stored_over m site.world.now world site.store.now (site.run.now.held ++ site.run.now.tickets) shut told.told c.wait-ended.ensures.banks s.stored);
      few = s.few;
      limit = omega (arith, s.limit, ap length c.take.ensures.left, no_more c.wait-ended.result.id (holds_in site.run.now.tickets), held_count site.run.now.tickets, held_count c.take.new.self);
    }

pub returns-in-Done-clause-passes : goal.returns-in-Done-clause-passes
returns-in-Done-clause-passes g c =
    let p = c.hold.ensures.puts in
    record {
      same = record { graph = p.same.graph; store = p.same.store; world = p.same.world; out = p.same.out; err = p.same.err; run = p.same.run; account = p.same.account; options = p.same.options };
      passes = passes_on g.W.Disk.meaning _ _ _ c.wait-ended.ensures.passes p.goes.passes;
    }

pub returns-in-Done-clause-accounts : goal.returns-in-Done-clause-accounts
returns-in-Done-clause-accounts g c = λ start a.
    c.hold.ensures.accounts start (rw c.in-Done.is at (settled start (ledger_of c.args.self.now.account.now) _ _ _ _ [] c.wait-ended.result.outcome c.wait-ended.ensures.cause a))

pub returns-in-Done-clause-takes : goal.returns-in-Done-clause-takes
returns-in-Done-clause-takes g c =
    let m = g.W.Disk.meaning in
    let site = c.args.self.now in
    let ended = c.wait-ended.result in
    let before = (m.around site.world.now).log in
    let p = c.hold.ensures.puts in
    let told = p.goes.passes.told.told in
    let count = ap (λ (all : List Busy). length all) p.tickets in
    record {
      fewer = λ t. omega (arith, c.wait-ended.ensures.fewer (told t), ap length c.take.ensures.left, held_count c.take.new.self, count);
      no_more = omega (arith, ap length c.take.ensures.left, no_more ended.id (holds_in site.run.now.tickets), held_count site.run.now.tickets, held_count c.take.new.self, count);
      done = λ t id log.
          let same : before ++ Finished ended.id ended.outcome ∷ [] ≡ before ++ Finished id Done ∷ [] =
          sym (c.wait-ended.ensures.log (told t)) ∙ (ap (λ (around : Around). around.log) (sym (p.around t)) ∙ log) in
          let last : Finished ended.id ended.outcome ≡ Finished id Done = last_of before _ _ same in
          let own : ended.id ≡ id = cc in
          rule_of c.in-Some.busy.hold.rule id (c.in-Some.ensures.rule ∙ own);
      only = λ t rule e.
          let own : c.in-Some.busy.hold.rule ≡ rule = cc in
          ap (λ (around : Around). around.log) (p.around t)
          ∙ (c.wait-ended.ensures.log (told t)
          ∙ (ap (λ id. before ++ Finished id ended.outcome ∷ []) (sym c.in-Some.ensures.rule ∙ ap (λ (r : RuleId). r.0) own)
          ∙ ap (λ (outcome : Outcome). before ++ Finished rule.0 outcome ∷ []) c.in-Done.is));
      puts = λ rule e. record { busy = c.in-Some.busy; among = c.in-Some.ensures.among; own = cc; puts = c.hold.ensures.record };
      kept = λ other. absurd (other c.in-Some.busy.hold.rule refl);
      out = p.out;
      shut = p.shut;
    }

pub returns-in_default-outcome-clause-passes : goal.returns-in_default-outcome-clause-passes
returns-in_default-outcome-clause-passes g c = record {
  same = record { graph = refl; store = refl; world = refl; out = refl; err = refl; run = refl; account = refl; options = refl };
  passes = c.wait-ended.ensures.passes;
}

pub returns-in_default-outcome-clause-accounts : goal.returns-in_default-outcome-clause-accounts
returns-in_default-outcome-clause-accounts g c = λ start a.
    let done = c.not_done.ensures.reports in
    done.1.accounts _ _ start (settled start (ledger_of c.args.self.now.account.now) _ _ _ _ done.0 c.wait-ended.result.outcome c.wait-ended.ensures.cause a)

pub returns-in_default-outcome-clause-sound : goal.returns-in_default-outcome-clause-sound
returns-in_default-outcome-clause-sound g c =
    let m = g.W.Disk.meaning in
    let site = c.args.self.now in
    let held = site.run.now.held in
    let left = c.take.new.self in
    let busy = c.in-Some.busy in
    let s = c.requires.sound in
    let world = c.wait-ended.new.world in
    let told = c.wait-ended.ensures.passes.told in
    let shut = site.account.now.is_store_shut in
    let gone = c.give_up.ensures in
    let taken = stored_taken m world site.store.now (held ++ site.run.now.tickets) (held ++ busy ∷ left) shut (c.in-Some.ensures.outs site.store.now held)
    (stored_over m site.world.now world site.store.now (held ++ site.run.now.tickets) shut told.told c.wait-ended.ensures.banks s.stored) in
    record {
      unclosed = told.closed ∙ s.unclosed;
      joined = subst (λ (holds : List Hold). IsJoined m world holds) (sym c.take.ensures.left) c.wait-ended.ensures.joined;
      stored =
          subst (λ (after : Bool). IsStored m world c.give_up.new.store (held ++ left) after) (sym c.not_done.ensures.reports.1.shut)
          (stored_beside m world site.store.now c.give_up.new.store busy.ticket (held ++ left) shut gone.live gone.banks gone.map gone.outs
          (room_beside m world site.store.now held busy left shut taken)
          (stored_left m world site.store.now held busy left shut taken));
      few = s.few;
      limit = omega (arith, s.limit, ap length c.take.ensures.left, no_more c.wait-ended.result.id (holds_in site.run.now.tickets), held_count site.run.now.tickets, held_count left);
    }

pub returns-in_default-outcome-clause-takes : goal.returns-in_default-outcome-clause-takes
returns-in_default-outcome-clause-takes g c =
    let m = g.W.Disk.meaning in
    let site = c.args.self.now in
    let held = site.run.now.held in
    let left = c.take.new.self in
    let busy = c.in-Some.busy in
    let ended = c.wait-ended.result in
    let before = (m.around site.world.now).log in
    record {
      fewer = λ t. omega (arith, c.wait-ended.ensures.fewer t, ap length c.take.ensures.left, held_count left);
      no_more = omega (arith, ap length c.take.ensures.left, no_more ended.id (holds_in site.run.now.tickets), held_count site.run.now.tickets, held_count left);
      done = λ t id log.
          let same : before ++ Finished ended.id ended.outcome ∷ [] ≡ before ++ Finished id Done ∷ [] = sym (c.wait-ended.ensures.log t) ∙ log in
          let last : Finished ended.id ended.outcome ≡ Finished id Done = last_of before _ _ same in
          let done : ended.outcome ≡ Done = cc in
          absurd (c.in_default-outcome.not-Done done);
      only = λ t rule e. absurd cc;
      puts = λ rule e. absurd cc;
      kept = λ other unshut.
          let outs = c.requires.sound.stored.outs (sym c.not_done.ensures.reports.1.shut ∙ unshut) in
          (given_up (book_of site) c.give_up.new.store busy left c.give_up.ensures.map c.give_up.ensures.outs (c.in-Some.ensures.outs site.store.now held outs)).records;
      out = refl;
      shut = λ unshut. sym c.not_done.ensures.reports.1.shut ∙ unshut;
    }

pub returns-in_default-clause-along : goal.returns-in_default-clause-along
returns-in_default-clause-along g c = λ t sure o outset may.
    absurd (omega (arith, c.wait-ended.ensures.fewer t, ap length c.take.ensures.left, held_count c.take.new.self, ap length c.in_default.ensures.none))

pub returns-in-Done-clause-along : goal.returns-in-Done-clause-along
returns-in-Done-clause-along g c = λ t sure o outset may.
    let m = g.W.Disk.meaning in
    let site = c.args.self.now in
    let ended = c.wait-ended.result in
    let world = c.wait-ended.new.world in
    let busy = c.in-Some.busy in
    let hold = c.hold.ensures in
    let new = c.hold.new.self in
    let passes = hold.puts.goes.passes.told in
    let told = passes.told t in
    let first = c.wait-ended.ensures.passes.told.told told in
    let ends = c.wait-ended.ensures.ends told in
    taken_on m o outset site new busy ended _ may
    (record {
      known = record { graph = hold.known.graph; plan = hold.known.plan; inputs = hold.known.inputs };
      ends = put_ends m _ new hold.stands;
      held = hold.held;
      among = c.in-Some.ensures.among;
      is_told = told_done busy.hold.rule ended c.in-Some.ensures.rule c.in-Done.is;
      goes = refl;
      no_scan = refl;
      failed = λ e. true_false (sym (was_done ended.outcome c.in-Done.is) ∙ e);
      keeps = λ e goes. true_false (sym (was_done ended.outcome c.in-Done.is) ∙ e);
      counts = λ e are.
          unrisen_as o.wanted.keep o.counts (m.counts world) (m.counts new.world.now) (put_counts m _ new hold.stands e)
          (unrisen_done o.wanted.keep o.counts (m.counts site.world.now) (m.counts world) ended.outcome c.in-Done.is c.wait-ended.ensures.cause are);
      unshut = put_unshut m _ new hold.stands;
      records = λ unshut path out.
          let outs = c.requires.sound.stored.outs (hold.puts.shut unshut) in
          let ticket = (out_in site.store.now (site.run.now.held ++ site.run.now.tickets) busy outs
          (Contains-append_right site.run.now.held site.run.now.tickets busy c.in-Some.ensures.among)).ticket in
          put_others site.store.now busy (records_of site) (records_of new) path ticket (hold.record unshut) out;
      id = c.in-Some.ensures.rule;
      open_before = hold.puts.shut;
      puts = λ e. hold.record;
      kept = λ e. true_false (sym (was_done ended.outcome c.in-Done.is) ∙ e);
      running = λ one h. c.take.ensures.fewer one (subst (λ (all : List Busy). Contains all one) hold.puts.tickets h);
      tickets = λ unshut one rec h is. hold.tickets.each rec one.ticket is;
    })
    (c.requires.sound.joined.runs first) c.requires.sound.joined.apart (m.sure world) (passes.sure t sure)
    (subst (λ (a : Around). Ends (m.sure world) ended (m.around site.world.now) a) (sym (hold.puts.around t)) ends)

pub returns-in_default-outcome-clause-along : goal.returns-in_default-outcome-clause-along
returns-in_default-outcome-clause-along g c = λ t sure o outset may.
    let m = g.W.Disk.meaning in
    let site = c.args.self.now in
    let ended = c.wait-ended.result in
    let world = c.wait-ended.new.world in
    let busy = c.in-Some.busy in
    let done = c.not_done.ensures in
    taken_on m o outset site _ busy ended _ may
    (record {
      known = record { graph = refl; plan = refl; inputs = refl };
      ends = done.ends;
      held = λ one h. Contains-append_left site.run.now.held (busy ∷ []) one h;
      among = c.in-Some.ensures.among;
      is_told = told_failed busy.hold.rule ended c.in-Some.ensures.rule c.in_default-outcome.not-Done;
      goes = refl;
      no_scan = refl;
      failed = λ e. done.faulted;
      keeps = λ e goes. (done.goes goes).0;
      counts = λ e are.
          unrisen_failed o.wanted.keep o.counts (m.counts site.world.now) (m.counts world) ended.outcome (sym may.asked.keep ∙ (done.goes e).0) (done.goes e).1
          c.wait-ended.ensures.cause are;
      unshut = λ e. done.reports.1.shut;
      records = λ unshut path out.
          ap (λ (map : Map). map path) ((returns-in_default-outcome-clause-takes g c).kept (λ rule e. absurd cc) unshut);
      id = c.in-Some.ensures.rule;
      open_before = λ unshut. sym done.reports.1.shut ∙ unshut;
      puts = λ e. absurd (c.in_default-outcome.not-Done (done_is ended.outcome e));
      kept = λ e. (returns-in_default-outcome-clause-takes g c).kept (λ rule e. absurd cc);
      running = λ one h. c.take.ensures.fewer one h;
      tickets = λ unshut one rec h is.
          let outs = c.in-Some.ensures.outs site.store.now site.run.now.held (c.requires.sound.stored.outs (sym done.reports.1.shut ∙ unshut)) in
          (given_up (book_of site) c.give_up.new.store busy c.take.new.self c.give_up.ensures.map c.give_up.ensures.outs outs).tickets one rec h is;
    })
    (c.requires.sound.joined.runs (c.wait-ended.ensures.passes.told.told t)) c.requires.sound.joined.apart (m.sure world) sure (c.wait-ended.ensures.ends t)

pub returns-in_default-clause-safe : goal.returns-in_default-clause-safe
returns-in_default-clause-safe g c = λ k safe.
    let m = g.W.Disk.meaning in
    let site = c.args.self.now in
    let one = c.wait-ended.ensures.safe k safe.world in
    record {
      moments = one.moments;
      now = record {
        world = one.now;
        tickets = are_ended m k c.wait-ended.result site.world.now c.wait-ended.new.world site.store.now site.store.now site.run.now.held
            site.run.now.tickets c.take.new.self site.account.now c.want_memory.new.self c.wait-ended.ensures.passes.told c.wait-ended.ensures.ends
            (same_tickets site.store.now) c.take.ensures.fewer (λ unshut. sym (ap (λ (l : Ledger). l.shut) c.want_memory.ensures.ledger) ∙ unshut) safe.tickets;
      };
    }

pub returns-in_default-outcome-clause-safe : goal.returns-in_default-outcome-clause-safe
returns-in_default-outcome-clause-safe g c = λ k safe.
    let m = g.W.Disk.meaning in
    let site = c.args.self.now in
    let one = c.wait-ended.ensures.safe k safe.world in
    record {
      moments = one.moments;
      now = record {
        world = one.now;
        tickets = are_ended m k c.wait-ended.result site.world.now c.wait-ended.new.world site.store.now c.give_up.new.store site.run.now.held
            site.run.now.tickets c.take.new.self site.account.now c.not_done.new.account c.wait-ended.ensures.passes.told c.wait-ended.ensures.ends
            c.give_up.ensures.tickets c.take.ensures.fewer (λ unshut. sym c.not_done.ensures.reports.1.shut ∙ unshut) safe.tickets;
      };
    }

pub returns-in-Done-clause-safe : goal.returns-in-Done-clause-safe
returns-in-Done-clause-safe g c = λ k safe.
    let m = g.W.Disk.meaning in
    let site = c.args.self.now in
    let store = site.store.now in
    let held = site.run.now.held in
    let left = c.take.new.self in
    let busy = c.in-Some.busy in
    let world = c.wait-ended.new.world in
    let one = c.wait-ended.ensures.safe k safe.world in
    let two = c.hold.ensures.safe k one.now
    (are_done m k c.wait-ended.result site.world.now world store held site.run.now.tickets left busy site.account.now c.wait-ended.ensures.passes.told
    c.wait-ended.ensures.ends c.take.ensures.fewer c.in-Some.ensures.among c.in-Done.is (sym c.in-Some.ensures.rule) safe.world
    (λ t. c.wait-ended.ensures.joined.runs t ∙ sym c.take.ensures.left)
    (λ unshut. (outs_back store held (busy ∷ left) (c.in-Some.ensures.outs store held (c.requires.sound.stored.outs unshut))).1) safe.tickets) in
    record {
      moments = (safe_on m k site.world.now world c.hold.new.self.world.now c.hold.ensures.puts.goes.passes.told one
          (λ now. record { moments = two.moments; now = two.now.world })).moments;
      now = two.now;
    }

pub returns-in_default-clause-quiet : goal.returns-in_default-clause-quiet
returns-in_default-clause-quiet g c =
    quiet_ended g.W.Disk.meaning c.args.self.now _ c.wait-ended.result refl refl (λ e. true_false (sym c.want_memory.ensures.ends.ended ∙ e))
    c.wait-ended.ensures.ends

pub returns-in_default-outcome-clause-quiet : goal.returns-in_default-outcome-clause-quiet
returns-in_default-outcome-clause-quiet g c =
    quiet_ended g.W.Disk.meaning c.args.self.now _ c.wait-ended.result refl refl
    (λ e. goes_before c.args.self.now.account.now c.not_done.new.account c.not_done.ensures.ends e) c.wait-ended.ensures.ends

pub returns-in-Done-clause-quiet : goal.returns-in-Done-clause-quiet
returns-in-Done-clause-quiet g c =
    let m = g.W.Disk.meaning in
    let p = c.hold.ensures.puts in
    quiet_ended m c.args.self.now c.hold.new.self c.wait-ended.result p.out p.same.options (λ e. put_ended m _ c.hold.new.self c.hold.ensures.stands e)
    (λ t. ends_same m c.wait-ended.result c.args.self.now.world.now c.wait-ended.new.world c.hold.new.self.world.now (p.around t)
    (c.wait-ended.ensures.ends (p.goes.passes.told.told t)))

pub returns-in_default-clause-texts : goal.returns-in_default-clause-texts
returns-in_default-clause-texts g c = λ start has.
    same_told g.E.Sink.meaning _ c.args.self.now.account.now c.want_memory.new.self c.want_memory.ensures.same start has

pub returns-in_default-outcome-clause-noted : goal.returns-in_default-outcome-clause-noted
returns-in_default-outcome-clause-noted g c = λ rule n. c.not_done.ensures.noted c.args.self.now.graph.now rule n

pub returns-in_default-clause-counts : goal.returns-in_default-clause-counts
returns-in_default-clause-counts g c =
    let is = c.wait-ended.ensures in
    let ended = c.wait-ended.result in
    counts_ended g.W.Disk.meaning _ _ _ _ ended.id ended.outcome c.want_memory.ensures.same.memory is.passes.later is.cause
    (λ e. c.want_memory.ensures.memory) is.log

pub returns-in-Done-clause-counts : goal.returns-in-Done-clause-counts
returns-in-Done-clause-counts g c =
    let m = g.W.Disk.meaning in
    let site = c.args.self.now in
    let is = c.wait-ended.ensures in
    let ended = c.wait-ended.result in
    let world = c.wait-ended.new.world in
    let new = c.hold.new.self in
    let puts = c.hold.ensures.puts in
    counts_on m site.world.now site.account.now world site.account.now new.world.now new.account.now puts.goes.passes.told.told
    (counts_ended m site.world.now site.account.now world site.account.now ended.id ended.outcome (λ ample. ample) is.passes.later is.cause
    (λ e. not_wanted ended.outcome c.in-Done.is e) is.log)
    (counts_none m world site.account.now new.world.now new.account.now c.hold.ensures.want puts.goes.passes.later
    (λ t. ap (λ (around : Around). around.log) (puts.around t)))

pub returns-in_default-outcome-clause-counts : goal.returns-in_default-outcome-clause-counts
returns-in_default-outcome-clause-counts g c =
    let is = c.wait-ended.ensures in
    let ended = c.wait-ended.result in
    counts_ended g.W.Disk.meaning _ _ _ _ ended.id ended.outcome c.not_done.ensures.want is.passes.later is.cause c.not_done.ensures.wants is.log

pub returns-in_default-clause-faulted : goal.returns-in_default-clause-faulted
returns-in_default-clause-faulted g c = λ t o has.
    let site = c.args.self.now in
    let ended = c.wait-ended.result in
    let want = c.want_memory.ensures in
    since_entry o site.graph.now (g.W.Disk.meaning.around site.world.now).log _ site.account.now c.want_memory.new.self (Finished ended.id ended.outcome)
    (c.wait-ended.ensures.log t)
    (λ entries are. faulted_lost o site.graph.now entries site.account.now c.want_memory.new.self want.same.memory
    (λ e. true_false (sym want.ends.ended ∙ e)) are ended.id ended.outcome want.memory want.same.faults) has

pub returns-in-Done-clause-faulted : goal.returns-in-Done-clause-faulted
returns-in-Done-clause-faulted g c = λ t o has.
    let site = c.args.self.now in
    let ended = c.wait-ended.result in
    let told = c.hold.ensures.puts.goes.passes.told.told t in
    c.hold.ensures.faulted t o
    (since_entry o site.graph.now (g.W.Disk.meaning.around site.world.now).log _ site.account.now site.account.now (Finished ended.id ended.outcome)
    (c.wait-ended.ensures.log told)
    (λ entries are. faulted_done o site.graph.now entries site.account.now site.account.now (λ ample. ample) (λ e. e) are ended.id ended.outcome c.in-Done.is refl)
    has)

pub returns-in_default-outcome-clause-faulted : goal.returns-in_default-outcome-clause-faulted
returns-in_default-outcome-clause-faulted g c = λ t o has.
    let site = c.args.self.now in
    let ended = c.wait-ended.result in
    let new = c.not_done.new.account in
    let is = c.not_done.ensures in
    since_entry o site.graph.now (g.W.Disk.meaning.around site.world.now).log _ site.account.now new (Finished ended.id ended.outcome) (c.wait-ended.ensures.log t)
    (λ entries are. faulted_ended o site.graph.now entries site.account.now new is.want (λ e. goes_before site.account.now new is.ends e) are ended.id ended.outcome
    (λ e. (is.goes e).1)
    (subst (λ (id : ℕ). AddsOutcome site.graph.now id ended.outcome site.account.now new) c.in-Some.ensures.rule is.lists)) has
