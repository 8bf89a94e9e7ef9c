use Rattle.std.proofs.Common.{◌≡◌, ◌≢◌, ◌∙◌, Some, None, refl, ap}
use Rattle.py_host.specs.Calls.{tree_of}
use Rattle.py_host.specs.Calls as question
use Rattle.scons_host.specs.Untold.{untold_stop}
use Rattle.py_host.specs.declared.refusal.HostRefusal.TheVariants as refusal
use Rattle.py_host.proofs.Extending.{extends_same}
use Rattle.scons_host.specs.ReadingRules.{told, nowhere, next_step, reading_rules}
use Rattle.scons_host.specs.SayingLaws.{keeps_same, keeps_answered, keeps_refused}
use Rattle.scons_host.specs.Seeing.{seen_of}
use Rattle.scons_host.specs.SoFar.{so_far}
use Rattle.scons_host.specs.Told.{end_of}
use Rattle.scons_host.specs.declared.stop.Stop.TheVariants as stop
use Rattle.scons_host.proofs.Turning.{next_goes, next_stops, kept_ends, says_answer, says_refusal}
use Rattle.scons_host.proofs.host.ReadingHostHost.next_script.Goals as goal

pub returns-in_err-site-clause-keeps : goal.returns-in_err-site-clause-keeps
returns-in_err-site-clause-keeps g c = (refl, keeps_same g.W.Disk.meaning g.O.Sink.meaning (seen_of c.args.self.now))

pub returns-in-Ok-clause-keeps : goal.returns-in-Ok-clause-keeps
returns-in-Ok-clause-keeps g c =
    let h = c.args.self.now in
    (refl, keeps_answered g.W.Disk.meaning g.O.Sink.meaning h.world.now c.next_first.new.world h.out.now (so_far h.state.now) (so_far c.next_first.new.state) h.kept.now c.next_first.ensures.looks)

pub returns-in-Err-clause-keeps : goal.returns-in-Err-clause-keeps
returns-in-Err-clause-keeps g c =
    let h = c.args.self.now in
    (refl, keeps_refused g.W.Disk.meaning g.O.Sink.meaning h.world.now c.next_first.new.world h.out.now (so_far h.state.now) (so_far c.next_first.new.state) h.kept.now c.refuse.new.self c.next_first.ensures.looks c.refuse.ensures.later)

pub returns-in-Ok-clause-ok : goal.returns-in-Ok-clause-ok
returns-in-Ok-clause-ok g c =
    let h = c.args.self.now in
    let so = so_far h.state.now in (
      refl,
      (
        says_answer g.W.Disk.meaning g.O.Sink.meaning reading_rules (question.next_script) h.world.now c.next_first.new.world h.out.now so (so_far c.next_first.new.state) c.args._heap.now c.args._heap.now h.kept.now (tree_of c.in-Ok.script) c.next_first.ensures.looks c.in-Ok.ensures.cause
            (λ f s. ap (told so nowhere None) (next_goes f so (so_far c.next_first.new.state) c.args._heap.now (tree_of c.in-Ok.script) (c.in-Ok.ensures.ok f s))),
        extends_same c.args._heap.now,
      ),
    )

pub returns-in-Err-clause-refused : goal.returns-in-Err-clause-refused
returns-in-Err-clause-refused g c = λ e.
    let h = c.args.self.now in
    let so = so_far h.state.now in
    let is : c.refuse.result ≡ refusal.Host = cc in
    let some : c.in-Err.stop ≢ stop.Memory = λ none. let short = c.refuse.ensures.untold none in cc in (
      refl,
      (
        says_refusal g.W.Disk.meaning g.O.Sink.meaning reading_rules (question.next_script) h.world.now c.next_first.new.world h.out.now so (so_far c.next_first.new.state) c.args._heap.now c.args._heap.now h.kept.now c.refuse.new.self c.in-Err.stop c.next_first.ensures.looks c.in-Err.ensures.cause (c.refuse.ensures.end is) (c.refuse.ensures.counted is)
            (λ f s. kept_ends so nowhere None (next_step f so c.args._heap.now) c.in-Err.stop c.refuse.new.self.end some (λ t. next_stops f so c.args._heap.now (untold_stop c.in-Err.stop) (c.in-Err.ensures.fault f s t)) (c.refuse.ensures.told is ∙ ap (λ site. Some (end_of site c.in-Err.stop)) c.in_ok-site.ensures)),
        extends_same c.args._heap.now,
      ),
    )
