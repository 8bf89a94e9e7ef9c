use Rattle.build_run.proofs.Allowing.{found_allows}
use Rattle.build_run.proofs.Begun.{starts_behind}
use Rattle.build_run.proofs.Stopping.{site_rests}
use Rattle.build_run.proofs.Turning.{site_saw}
use Rattle.std.proofs.Common.{◌∙◌, refl, sym}
use Rattle.std.specs.Prelude.{string_bytes}
use Rattle.sign_store.specs.Stores.{map_of}
use Rattle.build_files.specs.Dueness.{AreIdle}
use Rattle.build_run.specs.Whys.{IsWhyText}
use Rattle.build_run.proofs.Explaining.{idle_on, tells_reason, why_before}
use Rattle.build_model.proofs.Lists.{true_false}
use Rattle.world_api.proofs.Looking.{looks_joined}
use Rattle.build_files.proofs.Looking.{cause_on}
use Rattle.build_files.proofs.Truths.{asked}
use Rattle.turn_means.specs.Standing.{begun_at}
use Rattle.build_run.specs.Along.{is_faulted, standing_of}
use Rattle.build_run.specs.Ledgers.{ledger_of}
use Rattle.build_run.proofs.Causing.{exit_same, look_end, same_counts}
use Rattle.build_run.proofs.Choosing.{along_looked, found_now, fresh_on, goes_before, marks_here, told_before, weighed_now}
use Rattle.build_run.proofs.Sites.{looked_at, sound_still}
use Rattle.build_run.proofs.Starting.{end_of_turn, ended_looked}
use Rattle.build_run.specs.Books.{book_of}
use Rattle.build_run.proofs.Booking.{shut_on}
use Rattle.build_run.proofs.Explaining.{why_after}
use Rattle.build_run.proofs.Printing.{end_printed, quiet_looked, quiet_make, quiet_prints}
use Rattle.build_run.proofs.Choosing.{targets_idle}
use Rattle.build_run.proofs.Reporting.{same_told}
use Rattle.build_run.proofs.Endings.{counts_looked, counts_on, counts_still}
use Rattle.build_run.proofs.Faulted.{leads_exit, leads_plainly, plain_exit, plain_look, since_kept, since_log}
use Rattle.build_run.proofs.site.Site.make.Goals as goal

pub returns-in_err-is_stale-clause-ends : goal.returns-in_err-is_stale-clause-ends
returns-in_err-is_stale-clause-ends g c = λ start a.
    let before = ledger_of c.args.self.now.account.now in
    exit_same start before _ c.from_residual.result _ c.from_residual.ensures.1 (look_end start before _ _ _ _ _ c.in_err-is_stale.ensures.cause a)

pub returns-in_err-is_stale-clause-sound : goal.returns-in_err-is_stale-clause-sound
returns-in_err-is_stale-clause-sound g c =
    let stays = looked_at g.W.Disk.meaning _ _ c.is_stale.result c.is_stale.ensures.looks c.is_stale.ensures.cause in
    sound_still g.W.Disk.meaning c.args.self.now _ stays refl refl refl refl refl c.requires.sound

pub returns-in_err-is_stale-clause-kept : goal.returns-in_err-is_stale-clause-kept
returns-in_err-is_stale-clause-kept g c = λ unshut busy path h made. refl

pub returns-then-not-branch-clause-sound : goal.returns-then-not-branch-clause-sound
returns-then-not-branch-clause-sound g c =
    let stays = looked_at g.W.Disk.meaning _ _ c.is_stale.result c.is_stale.ensures.looks c.is_stale.ensures.cause in
    sound_still g.W.Disk.meaning c.args.self.now _ stays refl refl refl refl refl c.requires.sound

pub returns-then-not-branch-clause-kept : goal.returns-then-not-branch-clause-kept
returns-then-not-branch-clause-kept g c = λ unshut busy path h made. refl

pub returns-in_err-why-clause-ends : goal.returns-in_err-why-clause-ends
returns-in_err-why-clause-ends g c = λ start a.
    let before = ledger_of c.args.self.now.account.now in
    let r = c.from_residual-in_err-why in
    exit_same start before _ r.result _ r.ensures.1
    (look_end start before _ _ _ _ _ c.in_err-why.ensures.cause (same_counts start before _ _ _ _ c.in_ok-is_stale.ensures.cause a))

pub returns-in_err-why-clause-sound : goal.returns-in_err-why-clause-sound
returns-in_err-why-clause-sound g c =
    let m = g.W.Disk.meaning in
    let stays = looked_at m _ _ c.why_text.result (looks_joined m _ _ _ c.is_stale.ensures.looks c.why_text.ensures.looks)
    (cause_on _ _ _ c.why_text.result c.in_ok-is_stale.ensures.cause c.why_text.ensures.cause) in
    sound_still m c.args.self.now _ stays refl refl refl refl refl c.requires.sound

pub returns-in_err-why-clause-kept : goal.returns-in_err-why-clause-kept
returns-in_err-why-clause-kept g c = λ unshut busy path h made. refl

pub returns-in_err-why-clause-along : goal.returns-in_err-why-clause-along
returns-in_err-why-clause-along g c = λ tells sure o outset along due.
    let m = g.W.Disk.meaning in
    let site = c.args.self.now in
    let looks = looks_joined m _ _ _ c.is_stale.ensures.looks c.why_text.ensures.looks in
    end_of_turn _ m o _ c.from_residual-in_err-why.result c.from_residual-in_err-why.ensures.1
    (ended_looked m o outset site along c.why_text.new.world site.run.now refl (looks.around tells))

pub returns-in_err-why-clause-safe : goal.returns-in_err-why-clause-safe
returns-in_err-why-clause-safe g c = λ k safe over.
    let m = g.W.Disk.meaning in
    let looks = looks_joined m _ _ _ c.is_stale.ensures.looks c.why_text.ensures.looks in
    site_saw m g.met.W.Disk.only_now c.args.self.now _ looks refl refl refl refl k safe

pub start-requires-clause-sound : goal.start-requires-clause-sound
start-requires-clause-sound g c =
    let m = g.W.Disk.meaning in
    let stays = looked_at m _ _ c.why_text.result (looks_joined m _ _ _ c.is_stale.ensures.looks c.why_text.ensures.looks)
    (cause_on _ _ _ c.why_text.result c.in_ok-is_stale.ensures.cause c.why_text.ensures.cause) in
    sound_still m c.args.self.now _ stays refl refl refl refl refl c.requires.sound

pub returns-clause-reason : goal.returns-clause-reason
returns-clause-reason g c = λ reason keep. c.note_start.ensures.reason (c.start.ensures.reason reason keep)

pub returns-clause-kept : goal.returns-clause-kept
returns-clause-kept g c = λ unshut. c.start.ensures.kept (sym c.note_start.ensures.keeps.shut ∙ unshut)

pub returns-in_err-is_stale-clause-along : goal.returns-in_err-is_stale-clause-along
returns-in_err-is_stale-clause-along g c = λ tells sure o outset along due.
    let m = g.W.Disk.meaning in
    let site = c.args.self.now in
    end_of_turn _ m o _ c.from_residual.result c.from_residual.ensures.1
    (ended_looked m o outset site along c.is_stale.new.world site.run.now refl (c.is_stale.ensures.looks.around tells))

pub returns-then-not-branch-clause-along : goal.returns-then-not-branch-clause-along
returns-then-not-branch-clause-along g c = λ tells sure o outset along due.
    let m = g.W.Disk.meaning in
    let site = c.args.self.now in
    let looks = c.is_stale.ensures.looks in
    let asks = looks.around tells in
    let is = found_now m o outset site along c.args.rule c.args.now due c.is_stale.new.world asks c.requires.sound g.met.W.Disk.reads_as
    (looks.told.told tells) c.in_ok-is_stale.field-0 (c.in_ok-is_stale.ensures.due tells) in
    fresh_on m o outset _
    (along_looked m o outset site _ along asks refl refl refl refl refl c.in_ok-is_stale.ensures.cause
    (λ is. asked (begun_at o) site.graph.now site.run.now.inputs (m.around site.world.now) (m.around c.is_stale.new.world) asks is) refl (λ is. is) (marks_here site.graph.now site.run.now.inputs))
    c.args.rule c.args.now
    (record {
      room = due.room;
      own = due.own;
      model = due.model;
      weighed = weighed_now m o outset site along c.args.rule c.args.now due c.is_stale.new.world asks;
    })
    (sym is ∙ c.if-not-branch.true)

pub returns-in_err-start-clause-along : goal.returns-in_err-start-clause-along
returns-in_err-start-clause-along g c = λ tells sure o outset along due.
    let m = g.W.Disk.meaning in
    let site = c.args.self.now in
    let looks = looks_joined m _ _ _ c.is_stale.ensures.looks c.why_text.ensures.looks in
    let before = c.start.ensures.passes.passes.told.told tells in
    let asks = looks.around before in
    let is = found_now m o outset site along c.args.rule c.args.now due c.why_text.new.world asks c.requires.sound g.met.W.Disk.reads_as
    (looks.told.told before) c.in_ok-is_stale.field-0 (c.in_ok-is_stale.ensures.due (c.why_text.ensures.looks.told.told before)) in
    end_of_turn _ m o _ c.from_residual-in_err-start.result c.from_residual-in_err-start.ensures.1
    (c.in_err-start.ensures.along tells sure o outset
    (along_looked m o outset site _ along asks refl refl refl refl refl (c.in_ok-why.ensures.cause ∙ c.in_ok-is_stale.ensures.cause)
    (λ is. asked (begun_at o) site.graph.now site.run.now.inputs (m.around site.world.now) (m.around c.why_text.new.world) asks is) refl (λ is. is) (marks_here site.graph.now site.run.now.inputs))
    (record {
      room = due.room;
      own = due.own;
      model = due.model;
      weighed = weighed_now m o outset site along c.args.rule c.args.now due c.why_text.new.world asks;
    })
    (sym is ∙ c.if-not-branch.false))

pub returns-clause-along : goal.returns-clause-along
returns-clause-along g c = λ tells sure o outset along due.
    let m = g.W.Disk.meaning in
    let site = c.args.self.now in
    let looks = looks_joined m _ _ _ c.is_stale.ensures.looks c.why_text.ensures.looks in
    let before = c.start.ensures.passes.passes.told.told tells in
    let asks = looks.around before in
    let is = found_now m o outset site along c.args.rule c.args.now due c.why_text.new.world asks c.requires.sound g.met.W.Disk.reads_as
    (looks.told.told before) c.in_ok-is_stale.field-0 (c.in_ok-is_stale.ensures.due (c.why_text.ensures.looks.told.told before)) in
    let goes = c.in_ok-start.ensures.along tells sure o outset
    (along_looked m o outset site _ along asks refl refl refl refl refl (c.in_ok-why.ensures.cause ∙ c.in_ok-is_stale.ensures.cause)
    (λ is. asked (begun_at o) site.graph.now site.run.now.inputs (m.around site.world.now) (m.around c.why_text.new.world) asks is) refl (λ is. is) (marks_here site.graph.now site.run.now.inputs))
    (record {
      room = due.room;
      own = due.own;
      model = due.model;
      weighed = weighed_now m o outset site along c.args.rule c.args.now due c.why_text.new.world asks;
    })
    (sym is ∙ c.if-not-branch.false) in
    let noted = c.note_start.new.self in
    let ends = c.note_start.ensures.ends in
    record {
      told = λ now t stays.
          shut_on o (book_of c.start.new.self) _ now c.note_start.ensures.keeps.shut
          (goes.told now (told_before (standing_of m c.start.new.self) (is_faulted noted) noted.is_ended now _ ends.faulted t) (λ e. stays (ends.ended e)));
      ends = λ e. true_false (sym e);
      goes = refl;
      reported = ends.told goes.reported;
      well = λ e.
          let well = goes.well (goes_before c.start.new.self.account.now noted ends e) in
          record { unrisen = well.unrisen; unshut = c.note_start.ensures.keeps.shut ∙ well.unshut; looked = well.looked };
    }

pub returns-in_err-is_stale-clause-safe : goal.returns-in_err-is_stale-clause-safe
returns-in_err-is_stale-clause-safe g c = λ k safe over.
    site_saw g.W.Disk.meaning g.met.W.Disk.only_now c.args.self.now _ c.is_stale.ensures.looks refl refl refl refl k safe

pub returns-then-not-branch-clause-safe : goal.returns-then-not-branch-clause-safe
returns-then-not-branch-clause-safe g c = λ k safe over.
    site_saw g.W.Disk.meaning g.met.W.Disk.only_now c.args.self.now _ c.is_stale.ensures.looks refl refl refl refl k safe

pub returns-in_err-start-clause-safe : goal.returns-in_err-start-clause-safe
returns-in_err-start-clause-safe g c =
    let m = g.W.Disk.meaning in
    let looks = looks_joined m _ _ _ c.is_stale.ensures.looks c.why_text.ensures.looks in
    starts_behind m c.args.self.now _ c.start.new.self c.args.rule c.args.now looks c.start.ensures.passes.passes.told
    (site_saw m g.met.W.Disk.only_now c.args.self.now _ looks refl refl refl refl) c.start.ensures.safe
    (λ t. found_allows m c.args.self.now c.requires.sound g.met.W.Disk.reads_as (looks.told.told t) c.args.rule c.args.now c.in_ok-is_stale.field-0
    c.if-not-branch.false (c.in_ok-is_stale.ensures.due (c.why_text.ensures.looks.told.told t)))

pub returns-clause-safe : goal.returns-clause-safe
returns-clause-safe g c = λ k safe over.
    let m = g.W.Disk.meaning in
    let looks = looks_joined m _ _ _ c.is_stale.ensures.looks c.why_text.ensures.looks in
    let now = c.start.new.self in
    let one = starts_behind m c.args.self.now _ now c.args.rule c.args.now looks c.start.ensures.passes.passes.told
    (site_saw m g.met.W.Disk.only_now c.args.self.now _ looks refl refl refl refl) c.start.ensures.safe
    (λ t. found_allows m c.args.self.now c.requires.sound g.met.W.Disk.reads_as (looks.told.told t) c.args.rule c.args.now c.in_ok-is_stale.field-0
    c.if-not-branch.false (c.in_ok-is_stale.ensures.due (c.why_text.ensures.looks.told.told t))) k safe over in
    record {
      moments = one.moments;
      now = (site_rests m g.met.W.Disk.only_now now _ refl refl refl refl (λ unshut. sym c.note_start.ensures.keeps.shut ∙ unshut) k one.now).now;
    }

pub returns-clause-shows : goal.returns-clause-shows
returns-clause-shows g c =
    let m = g.W.Disk.meaning in
    let site = c.args.self.now in
    let why = string_bytes c.in_ok-why.why in
    let is : m.tells c.start.new.self.world.now → AreIdle (m.around site.world.now) c.args.now.targets →
    IsWhyText site.graph.now site.options c.args.rule.0 (map_of site.store.now) c.args.now (m.around site.world.now) why =
    λ told idle.
    let before = c.start.ensures.passes.passes.told.told told in
    let asks = c.is_stale.ensures.looks.around (c.why_text.ensures.looks.told.told before) in
    why_before (m.around site.world.now) (m.around c.is_stale.new.world) (map_of site.store.now) c.args.now idle asks site.graph.now site.options
    c.args.rule.0 why
    (c.in_ok-why.ensures.why before
    (idle_on (m.around site.world.now) (m.around c.is_stale.new.world) (map_of site.store.now) c.args.now idle asks)) in
    record {
      why = why;
      prints = c.in_ok-start.ensures.prints;
      is = is;
      tells = λ told idle.
          tells_reason c.least_is_reason.ensures site.graph.now site.options c.args.rule.0 (map_of site.store.now) c.args.now (m.around site.world.now) why
          (is told idle);
    }

pub returns-in_err-is_stale-clause-printing : goal.returns-in_err-is_stale-clause-printing
returns-in_err-is_stale-clause-printing g c =
    let m = g.W.Disk.meaning in
    quiet_make m g.O.Sink.meaning c.args.self.now _ c.args.rule c.args.now c.from_residual.result
    (quiet_looked m c.args.self.now _ refl refl (λ e. e) c.is_stale.ensures.looks.around)

pub returns-then-not-branch-clause-printing : goal.returns-then-not-branch-clause-printing
returns-then-not-branch-clause-printing g c =
    let m = g.W.Disk.meaning in
    quiet_make m g.O.Sink.meaning c.args.self.now _ c.args.rule c.args.now _
    (quiet_looked m c.args.self.now _ refl refl (λ e. e) c.is_stale.ensures.looks.around)

pub returns-in_err-why-clause-printing : goal.returns-in_err-why-clause-printing
returns-in_err-why-clause-printing g c =
    let m = g.W.Disk.meaning in
    let looks = looks_joined m _ _ _ c.is_stale.ensures.looks c.why_text.ensures.looks in
    quiet_make m g.O.Sink.meaning c.args.self.now _ c.args.rule c.args.now c.from_residual-in_err-why.result
    (quiet_looked m c.args.self.now _ refl refl (λ e. e) looks.around)

pub returns-in_err-start-clause-printing : goal.returns-in_err-start-clause-printing
returns-in_err-start-clause-printing g c = record {
  told = c.start.ensures.printing.told;
  prints = λ tells sure shows o outset along due start printed.
      let m = g.W.Disk.meaning in
      let p = g.O.Sink.meaning in
      let site = c.args.self.now in
      let seen = c.is_stale.new.world in
      let looks = looks_joined m _ _ _ c.is_stale.ensures.looks c.why_text.ensures.looks in
      let told = c.start.ensures.passes.passes.told in
      let before = told.told tells in
      let asks = looks.around before in
      let first = c.is_stale.ensures.looks.around (c.why_text.ensures.looks.told.told before) in
      let is = found_now m o outset site along c.args.rule c.args.now due c.why_text.new.world asks c.requires.sound g.met.W.Disk.reads_as
      (looks.told.told before) c.in_ok-is_stale.field-0 (c.in_ok-is_stale.ensures.due (c.why_text.ensures.looks.told.told before)) in
      let idle = idle_on (m.around site.world.now) (m.around seen) (map_of site.store.now) c.args.now
      (targets_idle o outset along.on.jobs (standing_of m site) along.on.past along.on.at.way (along.on.at.knows due.weighed.goes_on) c.args.rule
      due.model c.args.now due.weighed) first in
      let why = why_after (m.around seen) (m.around c.why_text.new.world) (map_of site.store.now) c.args.now idle
      (c.why_text.ensures.looks.around before) site.graph.now site.options c.args.rule.0 (string_bytes c.in_ok-why.why)
      (c.in_ok-why.ensures.why before idle) in
      let on = quiet_prints m p site _ (quiet_looked m site _ refl refl (λ e. e) looks.around) in
      let so = c.in_err-start.ensures.printing.prints tells sure shows o outset
      (along_looked m o outset site _ along asks refl refl refl refl refl (c.in_ok-why.ensures.cause ∙ c.in_ok-is_stale.ensures.cause)
      (λ is. asked (begun_at o) site.graph.now site.run.now.inputs (m.around site.world.now) (m.around c.why_text.new.world) asks is) refl (λ is. is) (marks_here site.graph.now site.run.now.inputs))
      (record {
        room = due.room;
        own = due.own;
        model = due.model;
        weighed = weighed_now m o outset site along c.args.rule c.args.now due c.why_text.new.world asks;
      })
      (sym is ∙ c.if-not-branch.false)
      (record {
        is = why;
        tells = tells_reason c.least_is_reason.ensures site.graph.now site.options c.args.rule.0 (map_of site.store.now) c.args.now
            (m.around c.why_text.new.world) (string_bytes c.in_ok-why.why) why;
      })
      start (on.prints before (told.sure tells sure) (c.start.ensures.printing.told shows) o outset along start printed) in
      end_printed m p _ c.from_residual-in_err-start.result o start _ c.from_residual-in_err-start.ensures.1 so;
}

pub returns-clause-printing : goal.returns-clause-printing
returns-clause-printing g c = record {
  told = c.start.ensures.printing.told;
  prints = λ tells sure shows o outset along due start printed.
      let m = g.W.Disk.meaning in
      let p = g.O.Sink.meaning in
      let site = c.args.self.now in
      let seen = c.is_stale.new.world in
      let looks = looks_joined m _ _ _ c.is_stale.ensures.looks c.why_text.ensures.looks in
      let told = c.start.ensures.passes.passes.told in
      let before = told.told tells in
      let asks = looks.around before in
      let first = c.is_stale.ensures.looks.around (c.why_text.ensures.looks.told.told before) in
      let is = found_now m o outset site along c.args.rule c.args.now due c.why_text.new.world asks c.requires.sound g.met.W.Disk.reads_as
      (looks.told.told before) c.in_ok-is_stale.field-0 (c.in_ok-is_stale.ensures.due (c.why_text.ensures.looks.told.told before)) in
      let idle = idle_on (m.around site.world.now) (m.around seen) (map_of site.store.now) c.args.now
      (targets_idle o outset along.on.jobs (standing_of m site) along.on.past along.on.at.way (along.on.at.knows due.weighed.goes_on) c.args.rule
      due.model c.args.now due.weighed) first in
      let why = why_after (m.around seen) (m.around c.why_text.new.world) (map_of site.store.now) c.args.now idle
      (c.why_text.ensures.looks.around before) site.graph.now site.options c.args.rule.0 (string_bytes c.in_ok-why.why)
      (c.in_ok-why.ensures.why before idle) in
      let on = quiet_prints m p site _ (quiet_looked m site _ refl refl (λ e. e) looks.around) in
      let so = c.in_ok-start.ensures.printing.prints tells sure shows o outset
      (along_looked m o outset site _ along asks refl refl refl refl refl (c.in_ok-why.ensures.cause ∙ c.in_ok-is_stale.ensures.cause)
      (λ is. asked (begun_at o) site.graph.now site.run.now.inputs (m.around site.world.now) (m.around c.why_text.new.world) asks is) refl (λ is. is) (marks_here site.graph.now site.run.now.inputs))
      (record {
        room = due.room;
        own = due.own;
        model = due.model;
        weighed = weighed_now m o outset site along c.args.rule c.args.now due c.why_text.new.world asks;
      })
      (sym is ∙ c.if-not-branch.false)
      (record {
        is = why;
        tells = tells_reason c.least_is_reason.ensures site.graph.now site.options c.args.rule.0 (map_of site.store.now) c.args.now
            (m.around c.why_text.new.world) (string_bytes c.in_ok-why.why) why;
      })
      start (on.prints before (told.sure tells sure) (c.start.ensures.printing.told shows) o outset along start printed) in
      record { has = so.has; none = λ e. so.none (goes_before c.start.new.self.account.now c.note_start.new.self c.note_start.ensures.ends e) };
}

pub returns-clause-texts : goal.returns-clause-texts
returns-clause-texts g c = λ start has.
    same_told g.E.Sink.meaning _ c.start.new.self.account.now c.note_start.new.self c.note_start.ensures.same start (c.start.ensures.texts start has)

pub returns-clause-noted : goal.returns-clause-noted
returns-clause-noted g c = λ rule n. c.note_start.ensures.noted c.start.new.self.graph.now rule (c.start.ensures.noted rule n)

pub returns-in_err-is_stale-clause-counts : goal.returns-in_err-is_stale-clause-counts
returns-in_err-is_stale-clause-counts g c =
    let m = g.W.Disk.meaning in
    let stays = looked_at m _ _ c.is_stale.result c.is_stale.ensures.looks c.is_stale.ensures.cause in
    counts_looked m _ _ _ _ (λ ample. ample) stays.goes.passes.later c.is_stale.ensures.looks

pub returns-then-not-branch-clause-counts : goal.returns-then-not-branch-clause-counts
returns-then-not-branch-clause-counts g c =
    let m = g.W.Disk.meaning in
    let stays = looked_at m _ _ c.is_stale.result c.is_stale.ensures.looks c.is_stale.ensures.cause in
    counts_looked m _ _ _ _ (λ ample. ample) stays.goes.passes.later c.is_stale.ensures.looks

pub returns-in_err-why-clause-counts : goal.returns-in_err-why-clause-counts
returns-in_err-why-clause-counts g c =
    let m = g.W.Disk.meaning in
    let looks = looks_joined m _ _ _ c.is_stale.ensures.looks c.why_text.ensures.looks in
    let stays = looked_at m _ _ c.why_text.result looks (cause_on _ _ _ c.why_text.result c.in_ok-is_stale.ensures.cause c.why_text.ensures.cause) in
    counts_looked m _ _ _ _ (λ ample. ample) stays.goes.passes.later looks

pub returns-in_err-start-clause-counts : goal.returns-in_err-start-clause-counts
returns-in_err-start-clause-counts g c =
    let m = g.W.Disk.meaning in
    let site = c.args.self.now in
    let world = c.why_text.new.world in
    let now = c.start.new.self in
    let looks = looks_joined m _ _ _ c.is_stale.ensures.looks c.why_text.ensures.looks in
    let stays = looked_at m _ _ c.why_text.result looks (cause_on _ _ _ c.why_text.result c.in_ok-is_stale.ensures.cause c.why_text.ensures.cause) in
    counts_on m site.world.now site.account.now world site.account.now now.world.now now.account.now c.start.ensures.passes.passes.told.told
    (counts_looked m site.world.now site.account.now world site.account.now (λ ample. ample) stays.goes.passes.later looks) c.start.ensures.counts

pub returns-clause-counts : goal.returns-clause-counts
returns-clause-counts g c =
    let m = g.W.Disk.meaning in
    let site = c.args.self.now in
    let world = c.why_text.new.world in
    let now = c.start.new.self in
    let looks = looks_joined m _ _ _ c.is_stale.ensures.looks c.why_text.ensures.looks in
    let stays = looked_at m _ _ c.why_text.result looks (cause_on _ _ _ c.why_text.result c.in_ok-is_stale.ensures.cause c.why_text.ensures.cause) in
    counts_on m site.world.now site.account.now now.world.now now.account.now now.world.now c.note_start.new.self (λ t. t)
    (counts_on m site.world.now site.account.now world site.account.now now.world.now now.account.now c.start.ensures.passes.passes.told.told
    (counts_looked m site.world.now site.account.now world site.account.now (λ ample. ample) stays.goes.passes.later looks) c.start.ensures.counts)
    (counts_still m now.world.now now.account.now c.note_start.new.self c.note_start.ensures.same.memory)

pub returns-in_err-is_stale-clause-faulted : goal.returns-in_err-is_stale-clause-faulted
returns-in_err-is_stale-clause-faulted g c = λ tells sure o outset along due has.
    let m = g.W.Disk.meaning in
    let site = c.args.self.now in
    let r = c.from_residual in
    leads_plainly o site.graph.now site.account.now _ r.result (plain_exit r.result _ r.ensures.1 (plain_look _ _ _ c.in_err-is_stale.ensures.cause))
    (since_log o site.graph.now (m.around site.world.now).log _ site.account.now (c.is_stale.ensures.looks.around tells).log has)

pub returns-then-not-branch-clause-faulted : goal.returns-then-not-branch-clause-faulted
returns-then-not-branch-clause-faulted g c = λ tells sure o outset along due has.
    let m = g.W.Disk.meaning in
    let site = c.args.self.now in
    since_log o site.graph.now (m.around site.world.now).log _ site.account.now (c.is_stale.ensures.looks.around tells).log has

pub returns-in_err-why-clause-faulted : goal.returns-in_err-why-clause-faulted
returns-in_err-why-clause-faulted g c = λ tells sure o outset along due has.
    let m = g.W.Disk.meaning in
    let site = c.args.self.now in
    let r = c.from_residual-in_err-why in
    let looks = looks_joined m _ _ _ c.is_stale.ensures.looks c.why_text.ensures.looks in
    leads_plainly o site.graph.now site.account.now _ r.result (plain_exit r.result _ r.ensures.1 (plain_look _ _ _ c.in_err-why.ensures.cause))
    (since_log o site.graph.now (m.around site.world.now).log _ site.account.now (looks.around tells).log has)

pub returns-in_err-start-clause-faulted : goal.returns-in_err-start-clause-faulted
returns-in_err-start-clause-faulted g c = λ tells sure o outset along due has.
    let m = g.W.Disk.meaning in
    let site = c.args.self.now in
    let r = c.from_residual-in_err-start in
    let looks = looks_joined m _ _ _ c.is_stale.ensures.looks c.why_text.ensures.looks in
    let before = c.start.ensures.passes.passes.told.told tells in
    let asks = looks.around before in
    let is = found_now m o outset site along c.args.rule c.args.now due c.why_text.new.world asks c.requires.sound g.met.W.Disk.reads_as
    (looks.told.told before) c.in_ok-is_stale.field-0 (c.in_ok-is_stale.ensures.due (c.why_text.ensures.looks.told.told before)) in
    leads_exit o c.start.new.self.graph.now c.start.new.self.account.now _ r.result _ r.ensures.1
    (c.in_err-start.ensures.faulted tells sure o outset
    (along_looked m o outset site _ along asks refl refl refl refl refl (c.in_ok-why.ensures.cause ∙ c.in_ok-is_stale.ensures.cause)
    (λ is. asked (begun_at o) site.graph.now site.run.now.inputs (m.around site.world.now) (m.around c.why_text.new.world) asks is) refl (λ is. is) (marks_here site.graph.now site.run.now.inputs))
    (record {
      room = due.room;
      own = due.own;
      model = due.model;
      weighed = weighed_now m o outset site along c.args.rule c.args.now due c.why_text.new.world asks;
    })
    (sym is ∙ c.if-not-branch.false)
    (since_log o site.graph.now (m.around site.world.now).log _ site.account.now asks.log has))

pub returns-clause-faulted : goal.returns-clause-faulted
returns-clause-faulted g c = λ tells sure o outset along due has.
    let m = g.W.Disk.meaning in
    let site = c.args.self.now in
    let now = c.start.new.self in
    let looks = looks_joined m _ _ _ c.is_stale.ensures.looks c.why_text.ensures.looks in
    let before = c.start.ensures.passes.passes.told.told tells in
    let asks = looks.around before in
    let is = found_now m o outset site along c.args.rule c.args.now due c.why_text.new.world asks c.requires.sound g.met.W.Disk.reads_as
    (looks.told.told before) c.in_ok-is_stale.field-0 (c.in_ok-is_stale.ensures.due (c.why_text.ensures.looks.told.told before)) in
    let noted = c.note_start.new.self in
    since_kept o now.graph.now (m.around now.world.now).log now.account.now noted c.note_start.ensures.same.memory
    (λ e. goes_before now.account.now noted c.note_start.ensures.ends e)
    (c.in_ok-start.ensures.faulted tells sure o outset
    (along_looked m o outset site _ along asks refl refl refl refl refl (c.in_ok-why.ensures.cause ∙ c.in_ok-is_stale.ensures.cause)
    (λ is. asked (begun_at o) site.graph.now site.run.now.inputs (m.around site.world.now) (m.around c.why_text.new.world) asks is) refl (λ is. is) (marks_here site.graph.now site.run.now.inputs))
    (record {
      room = due.room;
      own = due.own;
      model = due.model;
      weighed = weighed_now m o outset site along c.args.rule c.args.now due c.why_text.new.world asks;
    })
    (sym is ∙ c.if-not-branch.false)
    (since_log o site.graph.now (m.around site.world.now).log _ site.account.now asks.log has))
    c.note_start.ensures.same.faults
