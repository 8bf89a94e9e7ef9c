use Rattle.std.proofs.Common.{◌≡◌, refl, arith, sym, subst}
use Rattle.py_host.specs.declared.refusal.HostRefusal.TheVariants as refusal
use Rattle.scons_host.specs.Laws.{unprinted_caused}
use Rattle.scons_host.specs.Says.{IsFrom}
use Rattle.scons_host.specs.Saying.{IsOutside}
use Rattle.scons_host.specs.SayingLaws.{keeps_printed}
use Rattle.scons_host.specs.SoFar.{so_far}
use Rattle.scons_host.specs.Untold.{untold_if}
use Rattle.scons_host.proofs.host.ReadingHostHost.print.Goals as goal

pub returns-in-Ok-clause-ok : goal.returns-in-Ok-clause-ok
returns-in-Ok-clause-ok g c =
    (refl, record { world = refl; prints = c.print.ensures.prints; well = c.in-Ok.ensures.kept; text = c.in-Ok.ensures.text; state = refl; kept = refl })

pub returns-in-Ok-clause-keeps : goal.returns-in-Ok-clause-keeps
returns-in-Ok-clause-keeps g c =
    let h = c.args.self.now in
    (refl, keeps_printed g.W.Disk.meaning g.O.Sink.meaning h.world.now h.out.now c.print.new.sink (so_far h.state.now) h.kept.now h.kept.now c.print.ensures.prints (omega arith))

pub returns-in_err-site-in-Err-clause-keeps : goal.returns-in_err-site-in-Err-clause-keeps
returns-in_err-site-in-Err-clause-keeps g c =
    let h = c.args.self.now in
    (refl, keeps_printed g.W.Disk.meaning g.O.Sink.meaning h.world.now h.out.now c.print.new.sink (so_far h.state.now) h.kept.now h.kept.now c.print.ensures.prints (omega arith))

pub returns-in_ok-site-in-Err-clause-keeps : goal.returns-in_ok-site-in-Err-clause-keeps
returns-in_ok-site-in-Err-clause-keeps g c =
    let h = c.args.self.now in
    (refl, keeps_printed g.W.Disk.meaning g.O.Sink.meaning h.world.now h.out.now c.print.new.sink (so_far h.state.now) h.kept.now c.refuse.new.self c.print.ensures.prints c.refuse.ensures.later)

pub returns-in_ok-site-in-Err-clause-refused : goal.returns-in_ok-site-in-Err-clause-refused
returns-in_ok-site-in-Err-clause-refused g c = λ e.
    let h = c.args.self.now in
    let is : c.refuse.result ≡ refusal.Host = cc in (
      refl,
      record {
        world = refl;
        prints = c.print.ensures.prints;
        counted = c.refuse.ensures.counted is;
        cause = unprinted_caused (g.W.Disk.meaning.counts h.world.now) (g.O.Sink.meaning.faults h.out.now) (g.O.Sink.meaning.faults c.print.new.sink) c.refuse.new.self.end (c.refuse.ensures.end is) c.in-Err.ensures.rose;
        end = subst (λ k. IsFrom IsOutside (untold_if k)) (sym (c.refuse.ensures.told is)) tt;
      },
    )
