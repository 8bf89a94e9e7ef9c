use Rattle.std.proofs.Common.{refl, subst, sym}
use Rattle.task_plan.specs.declared.want.Want.{Want}
use Rattle.build_run.specs.Safe.{TurnsSafelyAs}
use Rattle.build_run.proofs.Stopping.{site_rests}
use Rattle.build_run.specs.Output.{TurnsPrinting}
use Rattle.build_run.proofs.Printing.{quiet_around, quiet_turn}
use Rattle.build_run.proofs.Endings.{counts_still}
use Rattle.build_run.specs.Faulted.{TurnsFaulted}
use Rattle.build_run.proofs.site.Site.take_turn.Goals as goal

pub returns-in-Scan-clause-safe : goal.returns-in-Scan-clause-safe
returns-in-Scan-clause-safe g c = λ wanted k along safe. c.scan.ensures.safe k safe

pub returns-in-Decide-clause-safe : goal.returns-in-Decide-clause-safe
returns-in-Decide-clause-safe g c =
    subst (λ (wanted : Want). TurnsSafelyAs g.W.Disk.meaning c.args.self.now c.decide.new.self wanted) (sym c.in-Decide.is)
    c.decide.ensures.safe

pub returns-in-Wait-clause-safe : goal.returns-in-Wait-clause-safe
returns-in-Wait-clause-safe g c = λ wanted k along safe. c.take_ending.ensures.safe k safe

pub returns-in-Rest-clause-safe : goal.returns-in-Rest-clause-safe
returns-in-Rest-clause-safe g c = λ wanted k along safe.
    let site = c.args.self.now in
    site_rests g.W.Disk.meaning g.met.W.Disk.only_now site site refl refl refl refl (λ unshut. unshut) k safe

pub returns-in-Scan-clause-printing : goal.returns-in-Scan-clause-printing
returns-in-Scan-clause-printing g c = quiet_turn g.W.Disk.meaning g.O.Sink.meaning _ _ _ _ c.scan.ensures.quiet

pub returns-in-Decide-clause-printing : goal.returns-in-Decide-clause-printing
returns-in-Decide-clause-printing g c =
    subst (λ (wanted : Want). TurnsPrinting g.W.Disk.meaning g.O.Sink.meaning c.args.self.now c.decide.new.self wanted c.decide.result)
    (sym c.in-Decide.is) c.decide.ensures.printing

pub returns-in-Wait-clause-printing : goal.returns-in-Wait-clause-printing
returns-in-Wait-clause-printing g c = quiet_turn g.W.Disk.meaning g.O.Sink.meaning _ _ _ _ c.take_ending.ensures.quiet

pub returns-in-Rest-clause-printing : goal.returns-in-Rest-clause-printing
returns-in-Rest-clause-printing g c =
    let m = g.W.Disk.meaning in
    quiet_turn m g.O.Sink.meaning _ _ _ _ (quiet_around m c.args.self.now c.args.self.now refl refl (λ e. e) (λ t. refl))

pub returns-in-Rest-clause-counts : goal.returns-in-Rest-clause-counts
returns-in-Rest-clause-counts g c =
    let site = c.args.self.now in
    counts_still g.W.Disk.meaning site.world.now site.account.now site.account.now (λ ample. ample)

pub returns-in-Scan-clause-faulted : goal.returns-in-Scan-clause-faulted
returns-in-Scan-clause-faulted g c =
    subst (λ (wanted : Want). TurnsFaulted g.W.Disk.meaning c.args.self.now c.scan.new.self wanted c.scan.result) (sym c.in-Scan.is) c.scan.ensures.faulted

pub returns-in-Decide-clause-faulted : goal.returns-in-Decide-clause-faulted
returns-in-Decide-clause-faulted g c =
    subst (λ (wanted : Want). TurnsFaulted g.W.Disk.meaning c.args.self.now c.decide.new.self wanted c.decide.result) (sym c.in-Decide.is)
    c.decide.ensures.faulted

pub returns-in-Wait-clause-faulted : goal.returns-in-Wait-clause-faulted
returns-in-Wait-clause-faulted g c = λ tells sure o outset along wanted has. c.take_ending.ensures.faulted tells o has

pub returns-in-Rest-clause-faulted : goal.returns-in-Rest-clause-faulted
returns-in-Rest-clause-faulted g c = λ tells sure o outset along wanted has. has
