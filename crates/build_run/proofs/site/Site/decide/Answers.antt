use Rattle.build_run.proofs.Deciding.{found_behind}
use Rattle.build_run.proofs.Turning.{site_saw}
use Rattle.std.proofs.Common.{◌∙◌, List, Contains, ap, refl, subst, sym}
use Rattle.std.specs.Prelude.{Ok}
use Rattle.sign_store.specs.Putting.{map_with}
use Rattle.build_run.specs.Holds.{Busy}
use Rattle.build_run.specs.Ledgers.{ledger_of}
use Rattle.build_run.proofs.Causing.{exit_same, inside, inner, look_end, same_counts}
use Rattle.build_run.proofs.Sites.{sound_still}
use Rattle.build_run.proofs.Presenting.{along_present, due_present, lacks_on}
use Rattle.build_run.proofs.Starting.{end_of_turn, ended_looked}
use Rattle.build_run.proofs.Reasons.{last_exit, last_inside}
use Rattle.build_run.proofs.Choosing.{goes_before}
use Rattle.build_run.proofs.Printing.{quiet_looked, quiet_prints, quiet_turn}
use Rattle.build_run.proofs.Endings.{counts_looked, counts_on}
use Rattle.build_run.proofs.Faulted.{leads_plainly, plain_exit, plain_inside, plain_look, since_log, since_missing}
use Rattle.build_run.proofs.Presenting.{lacks_then}
use Rattle.build_run.specs.Faulted.{IsWithout}
use Rattle.build_run.proofs.site.Site.decide.Goals as goal

pub returns-in_ok-missing-in-Lacks-clause-fails : goal.returns-in_ok-missing-in-Lacks-clause-fails
returns-in_ok-missing-in-Lacks-clause-fails g c =
    let f = c.in_ok-missing-in-Lacks.ensures.of in c.fail.ensures.notes c.args.self.now.graph.now f.path f.named f.of

pub returns-in_err-now-clause-ends : goal.returns-in_err-now-clause-ends
returns-in_err-now-clause-ends g c = λ start a.
    let before = ledger_of c.args.self.now.account.now in
    exit_same start before _ c.from_residual.result _ c.from_residual.ensures.1 (look_end start before _ _ _ _ _ c.in_err-now.ensures.cause a)

pub returns-in_err-now-clause-sound : goal.returns-in_err-now-clause-sound
returns-in_err-now-clause-sound g c =
    sound_still g.W.Disk.meaning c.args.self.now _ c.present.ensures.stays refl c.present.ensures.held c.present.ensures.tickets refl refl c.requires.sound

pub returns-in_err-now-clause-kept : goal.returns-in_err-now-clause-kept
returns-in_err-now-clause-kept g c = λ unshut busy path h made. ap (λ (all : List Busy). map_with c.args.self.now.store.now all path) c.present.ensures.held

pub make-requires-clause-sound : goal.make-requires-clause-sound
make-requires-clause-sound g c =
    sound_still g.W.Disk.meaning c.args.self.now _ c.present.ensures.stays refl c.present.ensures.held c.present.ensures.tickets refl refl c.requires.sound

pub returns-in_err-missing-in-Lacks-clause-ends : goal.returns-in_err-missing-in-Lacks-clause-ends
returns-in_err-missing-in-Lacks-clause-ends g c = λ start a.
    let before = ledger_of c.args.self.now.account.now in
    let r = c.from_residual-in_err-missing-in-Lacks in
    exit_same start before _ r.result _ r.ensures.1 (inside start before _ _ _ _ c.in_err-missing-in-Lacks.ensures.quiet (same_counts start before _ _ _ _ c.in_ok-now.ensures.cause a))

pub returns-in_err-missing-in-Lacks-clause-sound : goal.returns-in_err-missing-in-Lacks-clause-sound
returns-in_err-missing-in-Lacks-clause-sound g c =
    sound_still g.W.Disk.meaning c.args.self.now _ c.present.ensures.stays refl c.present.ensures.held c.present.ensures.tickets refl refl c.requires.sound

pub returns-in_err-missing-in-Lacks-clause-kept : goal.returns-in_err-missing-in-Lacks-clause-kept
returns-in_err-missing-in-Lacks-clause-kept g c = λ unshut busy path h made. ap (λ (all : List Busy). map_with c.args.self.now.store.now all path) c.present.ensures.held

pub returns-in_ok-missing-in-Lacks-clause-ends : goal.returns-in_ok-missing-in-Lacks-clause-ends
returns-in_ok-missing-in-Lacks-clause-ends g c = λ start a.
    let before = ledger_of c.args.self.now.account.now in
    c.fail.ensures.reports.accounts _ _ start (inner start before _ c.in_ok-missing-in-Lacks.missing c.in_ok-missing-in-Lacks.ensures.inner (same_counts start before _ _ _ _ c.in_ok-now.ensures.cause a))

pub returns-in_ok-missing-in-Lacks-clause-sound : goal.returns-in_ok-missing-in-Lacks-clause-sound
returns-in_ok-missing-in-Lacks-clause-sound g c =
    sound_still g.W.Disk.meaning c.args.self.now _ c.present.ensures.stays refl c.present.ensures.held c.present.ensures.tickets refl c.fail.ensures.reports.shut c.requires.sound

pub returns-in_ok-missing-in-Lacks-clause-kept : goal.returns-in_ok-missing-in-Lacks-clause-kept
returns-in_ok-missing-in-Lacks-clause-kept g c = λ unshut busy path h made. ap (λ (all : List Busy). map_with c.args.self.now.store.now all path) c.present.ensures.held

pub returns-in-Record-clause-kept : goal.returns-in-Record-clause-kept
returns-in-Record-clause-kept g c = λ unshut busy path h made.
    c.make.ensures.kept unshut busy path (subst (λ (all : List Busy). Contains all busy) (sym c.present.ensures.held) h) made
    ∙ ap (λ (all : List Busy). map_with c.args.self.now.store.now all path) c.present.ensures.held

pub returns-in_err-now-clause-along : goal.returns-in_err-now-clause-along
returns-in_err-now-clause-along g c = λ tells sure o outset along wanted.
    let m = g.W.Disk.meaning in
    let p = c.present.ensures in
    let r = c.from_residual in
    end_of_turn _ m o _ r.result r.ensures.1
    (ended_looked m o outset c.args.self.now along c.present.new.world c.present.new.run p.rest (p.looks.around tells))

pub returns-in_err-missing-in-Lacks-clause-along : goal.returns-in_err-missing-in-Lacks-clause-along
returns-in_err-missing-in-Lacks-clause-along g c = λ tells sure o outset along wanted.
    let m = g.W.Disk.meaning in
    let p = c.present.ensures in
    let r = c.from_residual-in_err-missing-in-Lacks in
    end_of_turn _ m o _ r.result r.ensures.1
    (ended_looked m o outset c.args.self.now along c.present.new.world c.present.new.run p.rest (p.looks.around tells))

pub returns-in-Record-clause-along : goal.returns-in-Record-clause-along
returns-in-Record-clause-along g c = λ tells sure o outset along wanted.
    let m = g.W.Disk.meaning in
    let site = c.args.self.now in
    let p = c.present.ensures in
    let before = c.make.ensures.passes.passes.told.told tells in
    let asks = p.looks.around before in
    c.make.ensures.along tells sure o outset
    (along_present m o outset site _ along c.args.rule wanted.0 asks refl refl refl refl p.rest before (Ok c.in_ok-now.field-0)
    c.in_ok-now.ensures.presents c.in_ok-now.ensures.cause)
    (due_present m o outset site _ along c.args.rule wanted.0 asks refl refl refl refl p.rest before (Ok c.in_ok-now.field-0)
    c.in_ok-now.ensures.presents c.in_ok-now.ensures.cause c.in-Record.now (cc c.in-Record.is)
    (g.met.W.World.held site.world.now (p.looks.told.told before)) wanted.1)

pub returns-in_ok-missing-in-Lacks-clause-along : goal.returns-in_ok-missing-in-Lacks-clause-along
returns-in_ok-missing-in-Lacks-clause-along g c = λ tells sure o outset along wanted.
    let m = g.W.Disk.meaning in
    let site = c.args.self.now in
    let p = c.present.ensures in
    let f = c.fail.ensures in
    lacks_on m o outset site _ along c.args.rule wanted.0 (p.looks.around tells) refl refl refl p.rest tells (Ok c.in_ok-now.field-0)
    c.in_ok-now.ensures.presents c.in_ok-now.ensures.cause c.in-Lacks.node (cc c.in-Lacks.is) f.ends f.faulted f.goes f.reports.shut

pub returns-in_err-now-clause-safe : goal.returns-in_err-now-clause-safe
returns-in_err-now-clause-safe g c = λ wanted k along safe.
    let p = c.present.ensures in
    site_saw g.W.Disk.meaning g.met.W.Disk.only_now c.args.self.now _ p.looks refl p.held p.tickets refl k safe

pub returns-in_err-missing-in-Lacks-clause-safe : goal.returns-in_err-missing-in-Lacks-clause-safe
returns-in_err-missing-in-Lacks-clause-safe g c = λ wanted k along safe.
    let p = c.present.ensures in
    site_saw g.W.Disk.meaning g.met.W.Disk.only_now c.args.self.now _ p.looks refl p.held p.tickets refl k safe

pub returns-in_ok-missing-in-Lacks-clause-safe : goal.returns-in_ok-missing-in-Lacks-clause-safe
returns-in_ok-missing-in-Lacks-clause-safe g c = λ wanted k along safe.
    let p = c.present.ensures in
    site_saw g.W.Disk.meaning g.met.W.Disk.only_now c.args.self.now _ p.looks refl p.held p.tickets c.fail.ensures.reports.shut k safe

pub returns-in-Record-clause-safe : goal.returns-in-Record-clause-safe
returns-in-Record-clause-safe g c =
    let m = g.W.Disk.meaning in
    let site = c.args.self.now in
    let p = c.present.ensures in
    found_behind m site _ c.make.new.self c.args.rule c.in-Record.now p.looks c.make.ensures.passes.passes.told
    (site_saw m g.met.W.Disk.only_now site _ p.looks refl p.held p.tickets refl) c.make.ensures.safe
    (λ tells o outset along chosen room.
    let asks = p.looks.around tells in (
      along_present m o outset site _ along c.args.rule chosen asks refl refl refl refl p.rest tells (Ok c.in_ok-now.field-0)
          c.in_ok-now.ensures.presents c.in_ok-now.ensures.cause,
      due_present m o outset site _ along c.args.rule chosen asks refl refl refl refl p.rest tells (Ok c.in_ok-now.field-0)
          c.in_ok-now.ensures.presents c.in_ok-now.ensures.cause c.in-Record.now (cc c.in-Record.is)
          (g.met.W.World.held site.world.now (p.looks.told.told tells)) room,
    ))

pub returns-in_err-missing-in-Lacks-clause-last : goal.returns-in_err-missing-in-Lacks-clause-last
returns-in_err-missing-in-Lacks-clause-last g c =
    let r = c.from_residual-in_err-missing-in-Lacks in
    last_exit r.result _ r.ensures.1 (last_inside _ c.in_err-missing-in-Lacks.ensures.quiet)

pub returns-in_err-now-clause-printing : goal.returns-in_err-now-clause-printing
returns-in_err-now-clause-printing g c =
    let m = g.W.Disk.meaning in
    quiet_turn m g.O.Sink.meaning c.args.self.now _ _ c.from_residual.result
    (quiet_looked m c.args.self.now _ refl refl (λ e. e) c.present.ensures.looks.around)

pub returns-in_err-missing-in-Lacks-clause-printing : goal.returns-in_err-missing-in-Lacks-clause-printing
returns-in_err-missing-in-Lacks-clause-printing g c =
    let m = g.W.Disk.meaning in
    quiet_turn m g.O.Sink.meaning c.args.self.now _ _ c.from_residual-in_err-missing-in-Lacks.result
    (quiet_looked m c.args.self.now _ refl refl (λ e. e) c.present.ensures.looks.around)

pub returns-in_ok-missing-in-Lacks-clause-printing : goal.returns-in_ok-missing-in-Lacks-clause-printing
returns-in_ok-missing-in-Lacks-clause-printing g c =
    let m = g.W.Disk.meaning in
    quiet_turn m g.O.Sink.meaning c.args.self.now _ _ _
    (quiet_looked m c.args.self.now _ refl refl (λ e. goes_before c.args.self.now.account.now c.fail.new.self c.fail.ensures.ends e)
    c.present.ensures.looks.around)

pub returns-in-Record-clause-printing : goal.returns-in-Record-clause-printing
returns-in-Record-clause-printing g c = record {
  told = c.make.ensures.printing.told;
  prints = λ tells sure shows o outset along wanted start printed.
      let m = g.W.Disk.meaning in
      let site = c.args.self.now in
      let p = c.present.ensures in
      let told = c.make.ensures.passes.passes.told in
      let before = told.told tells in
      let asks = p.looks.around before in
      let on = quiet_prints m g.O.Sink.meaning site _ (quiet_looked m site _ refl refl (λ e. e) p.looks.around) in
      c.make.ensures.printing.prints tells sure shows o outset
      (along_present m o outset site _ along c.args.rule wanted.0 asks refl refl refl refl p.rest before (Ok c.in_ok-now.field-0)
      c.in_ok-now.ensures.presents c.in_ok-now.ensures.cause)
      (due_present m o outset site _ along c.args.rule wanted.0 asks refl refl refl refl p.rest before (Ok c.in_ok-now.field-0)
      c.in_ok-now.ensures.presents c.in_ok-now.ensures.cause c.in-Record.now (cc c.in-Record.is)
      (g.met.W.World.held site.world.now (p.looks.told.told before)) wanted.1)
      start (on.prints before (told.sure tells sure) (c.make.ensures.printing.told shows) o outset along start printed);
}

pub returns-in_ok-missing-in-Lacks-clause-noted : goal.returns-in_ok-missing-in-Lacks-clause-noted
returns-in_ok-missing-in-Lacks-clause-noted g c = λ rule n. c.fail.ensures.noted c.args.self.now.graph.now rule n

pub returns-in_err-now-clause-counts : goal.returns-in_err-now-clause-counts
returns-in_err-now-clause-counts g c =
    let p = c.present.ensures in
    counts_looked g.W.Disk.meaning _ _ _ _ (λ ample. ample) p.stays.goes.passes.later p.looks

pub returns-in_err-missing-in-Lacks-clause-counts : goal.returns-in_err-missing-in-Lacks-clause-counts
returns-in_err-missing-in-Lacks-clause-counts g c =
    let p = c.present.ensures in
    counts_looked g.W.Disk.meaning _ _ _ _ (λ ample. ample) p.stays.goes.passes.later p.looks

pub returns-in_ok-missing-in-Lacks-clause-counts : goal.returns-in_ok-missing-in-Lacks-clause-counts
returns-in_ok-missing-in-Lacks-clause-counts g c =
    let p = c.present.ensures in
    counts_looked g.W.Disk.meaning _ _ _ _ c.fail.ensures.want p.stays.goes.passes.later p.looks

pub returns-in-Record-clause-counts : goal.returns-in-Record-clause-counts
returns-in-Record-clause-counts g c =
    let m = g.W.Disk.meaning in
    let p = c.present.ensures in
    let site = c.args.self.now in
    let world = c.present.new.world in
    let now = c.make.new.self in
    counts_on m site.world.now site.account.now world site.account.now now.world.now now.account.now c.make.ensures.passes.passes.told.told
    (counts_looked m site.world.now site.account.now world site.account.now (λ ample. ample) p.stays.goes.passes.later p.looks) c.make.ensures.counts

pub returns-in_err-now-clause-faulted : goal.returns-in_err-now-clause-faulted
returns-in_err-now-clause-faulted g c = λ tells sure o outset along wanted has.
    let m = g.W.Disk.meaning in
    let site = c.args.self.now in
    let r = c.from_residual in
    leads_plainly o site.graph.now site.account.now _ r.result (plain_exit r.result _ r.ensures.1 (plain_look _ _ _ c.in_err-now.ensures.cause))
    (since_log o site.graph.now (m.around site.world.now).log _ site.account.now (c.present.ensures.looks.around tells).log has)

pub returns-in_err-missing-in-Lacks-clause-faulted : goal.returns-in_err-missing-in-Lacks-clause-faulted
returns-in_err-missing-in-Lacks-clause-faulted g c = λ tells sure o outset along wanted has.
    let m = g.W.Disk.meaning in
    let site = c.args.self.now in
    let r = c.from_residual-in_err-missing-in-Lacks in
    leads_plainly o site.graph.now site.account.now _ r.result (plain_exit r.result _ r.ensures.1 (plain_inside _ c.in_err-missing-in-Lacks.ensures.quiet))
    (since_log o site.graph.now (m.around site.world.now).log _ site.account.now (c.present.ensures.looks.around tells).log has)

pub returns-in_ok-missing-in-Lacks-clause-faulted : goal.returns-in_ok-missing-in-Lacks-clause-faulted
returns-in_ok-missing-in-Lacks-clause-faulted g c = λ tells sure o outset along wanted has.
    let m = g.W.Disk.meaning in
    let site = c.args.self.now in
    let p = c.present.ensures in
    let f = c.fail.ensures in
    let none = c.in_ok-missing-in-Lacks.ensures.missing in
    let asks = p.looks.around tells in
    let lacks : IsWithout o none.path none.target =
    lacks_then m o outset site along c.args.rule wanted.0 c.present.new.run c.present.new.world tells (Ok c.in_ok-now.field-0)
    c.in_ok-now.ensures.presents c.in-Lacks.node (cc c.in-Lacks.is) none.path none.target none.at none.named in
    let seen = since_log o site.graph.now (m.around site.world.now).log _ site.account.now asks.log has in
    since_missing o site.graph.now _ site.account.now c.fail.new.self f.want (λ e. goes_before site.account.now c.fail.new.self f.ends e) seen
    c.in_ok-missing-in-Lacks.missing none.path none.target none.is lacks f.lists

pub returns-in-Record-clause-faulted : goal.returns-in-Record-clause-faulted
returns-in-Record-clause-faulted g c = λ tells sure o outset along wanted has.
    let m = g.W.Disk.meaning in
    let site = c.args.self.now in
    let p = c.present.ensures in
    let before = c.make.ensures.passes.passes.told.told tells in
    let asks = p.looks.around before in
    c.make.ensures.faulted tells sure o outset
    (along_present m o outset site _ along c.args.rule wanted.0 asks refl refl refl refl p.rest before (Ok c.in_ok-now.field-0)
    c.in_ok-now.ensures.presents c.in_ok-now.ensures.cause)
    (due_present m o outset site _ along c.args.rule wanted.0 asks refl refl refl refl p.rest before (Ok c.in_ok-now.field-0)
    c.in_ok-now.ensures.presents c.in_ok-now.ensures.cause c.in-Record.now (cc c.in-Record.is)
    (g.met.W.World.held site.world.now (p.looks.told.told before)) wanted.1)
    (since_log o site.graph.now (m.around site.world.now).log _ site.account.now asks.log has)
