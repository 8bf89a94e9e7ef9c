use Rattle.build_run.proofs.Noting.{told_noted}
use Rattle.std.proofs.Common.{◌∙◌, refl, sym}
use Rattle.build_run.specs.Books.{book_of}
use Rattle.build_run.proofs.Stopping.{site_rests}
use Rattle.build_run.proofs.Alongs.{told_to}
use Rattle.build_run.proofs.Booking.{shut_on}
use Rattle.build_run.proofs.Printing.{quiet_around, tells_end, tells_ended}
use Rattle.build_run.proofs.Faulted.{told_faulted}
use Rattle.build_run.proofs.site.Site.tell.Goals as goal

pub returns-clause-noting : goal.returns-clause-noting
returns-clause-noting g c = λ n notes.
    told_noted c.args.self.now.run.now.plan c.args.self.now.graph.now c.args.self.now.account.now notes c.args.done c.tell.new.plan c.halt.new.plan
    c.tell.new.account c.tell.ensures.tells c.tell.ensures.noted n c.halt.ensures.goes

pub returns-clause-along : goal.returns-clause-along
returns-clause-along g c = λ o outset asked leads.
    let t = told_to o outset g.W.Disk.meaning c.args.self.now c.args.done leads c.tell.new.plan c.halt.new.plan c.tell.new.account c.halt.ensures.goes c.tell.ensures.tells in
    record {
      on = shut_on o (book_of c.args.self.now) _ _ c.tell.ensures.reports.shut t.on;
      asked = asked;
      well = λ e. let w = t.well e in record { unrisen = w.unrisen; unshut = c.tell.ensures.reports.shut ∙ w.unshut; looked = w.looked };
      halted = c.halt.ensures.halts;
    }

pub returns-clause-safe : goal.returns-clause-safe
returns-clause-safe g c =
    site_rests g.W.Disk.meaning g.met.W.Disk.only_now c.args.self.now _ refl refl refl refl (λ unshut. sym c.tell.ensures.reports.shut ∙ unshut)

pub returns-clause-quiet : goal.returns-clause-quiet
returns-clause-quiet g c =
    let site = c.args.self.now in
    quiet_around g.W.Disk.meaning site _ refl refl
    (λ e. tells_ended site.graph.now site.run.now.plan c.tell.new.plan c.args.done site.account.now c.tell.new.account c.tell.ensures.tells e)
    (λ t. refl)

pub returns-clause-ends : goal.returns-clause-ends
returns-clause-ends g c =
    let site = c.args.self.now in
    tells_end site.graph.now site.run.now.plan c.tell.new.plan c.args.done site.account.now c.tell.new.account c.tell.ensures.tells

pub returns-clause-faulted : goal.returns-clause-faulted
returns-clause-faulted g c = λ o leads.
    let site = c.args.self.now in
    let tells = c.tell.ensures.tells in
    told_faulted o site.graph.now site.account.now (g.W.Disk.meaning.around site.world.now).log c.args.done c.tell.new.account c.tell.ensures.want
    (λ e. tells_ended site.graph.now site.run.now.plan c.tell.new.plan c.args.done site.account.now c.tell.new.account tells e)
    (tells_end site.graph.now site.run.now.plan c.tell.new.plan c.args.done site.account.now c.tell.new.account tells)
    c.tell.ensures.lists leads
