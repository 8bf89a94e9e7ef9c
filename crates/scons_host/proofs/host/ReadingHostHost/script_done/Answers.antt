use Rattle.std.proofs.Common.{◌≡◌, ◌≢◌, ◌∙◌, Some, None, refl, ap}
use Rattle.py_host.specs.Calls.{given_of}
use Rattle.py_host.specs.Calls as question
use Rattle.scons_host.specs.ReadingRules.{place_in}
use Rattle.scons_host.specs.Scripts.{script_done}
use Rattle.scons_host.specs.Sharing.{innermost}
use Rattle.py_host.specs.declared.refusal.HostRefusal.TheVariants as refusal
use Rattle.scons_host.specs.ReadingRules.{told, reading_rules}
use Rattle.scons_host.specs.SayingLaws.{keeps_same, keeps_answered, keeps_refused}
use Rattle.scons_host.specs.Seeing.{seen_of}
use Rattle.scons_host.specs.SoFar.{so_far}
use Rattle.scons_host.specs.Told.{site_at, end_of}
use Rattle.scons_host.specs.declared.stop.Stop.TheVariants as stop
use Rattle.scons_host.proofs.Turning.{kept_ends, says_answer, says_refusal}
use Rattle.scons_host.proofs.host.ReadingHostHost.script_done.Goals as goal

pub returns-in_err-site-clause-keeps : goal.returns-in_err-site-clause-keeps
returns-in_err-site-clause-keeps g c = (refl, keeps_same g.W.Disk.meaning g.O.Sink.meaning (seen_of c.args.self.now))

pub returns-in-Ok-clause-keeps : goal.returns-in-Ok-clause-keeps
returns-in-Ok-clause-keeps g c =
    let h = c.args.self.now in
    (refl, keeps_answered g.W.Disk.meaning g.O.Sink.meaning h.world.now c.script_done.new.world h.out.now (so_far h.state.now) (so_far c.script_done.new.state) h.kept.now c.script_done.ensures.looks)

pub returns-in-Err-clause-keeps : goal.returns-in-Err-clause-keeps
returns-in-Err-clause-keeps g c =
    let h = c.args.self.now in
    (refl, keeps_refused g.W.Disk.meaning g.O.Sink.meaning h.world.now c.script_done.new.world h.out.now (so_far h.state.now) (so_far c.script_done.new.state) h.kept.now c.refuse.new.self c.script_done.ensures.looks c.refuse.ensures.later)

pub returns-in-Ok-clause-ok : goal.returns-in-Ok-clause-ok
returns-in-Ok-clause-ok g c =
    let h = c.args.self.now in
    let so = so_far h.state.now in (
      refl,
      (
        says_answer g.W.Disk.meaning g.O.Sink.meaning reading_rules (question.script_done c.args._names.now) h.world.now c.script_done.new.world h.out.now so (so_far c.script_done.new.state) c.args.heap.now c.script_done.new.heap h.kept.now (given_of c.in-Ok.reply) c.script_done.ensures.looks c.in-Ok.ensures.cause
            (λ f s. ap (told so (place_in (innermost so)) None) (c.in-Ok.ensures.ok f s)),
        c.script_done.ensures.stands,
      ),
    )

pub returns-in-Err-clause-refused : goal.returns-in-Err-clause-refused
returns-in-Err-clause-refused g c = λ e.
    let h = c.args.self.now in
    let so = so_far h.state.now in
    let is : c.refuse.result ≡ refusal.Host = cc in
    let some : c.in-Err.stop ≢ stop.Memory = λ none. let short = c.refuse.ensures.untold none in cc in (
      refl,
      (
        says_refusal g.W.Disk.meaning g.O.Sink.meaning reading_rules (question.script_done c.args._names.now) h.world.now c.script_done.new.world h.out.now so (so_far c.script_done.new.state) c.args.heap.now c.script_done.new.heap h.kept.now c.refuse.new.self c.in-Err.stop c.script_done.ensures.looks c.in-Err.ensures.cause (c.refuse.ensures.end is) (c.refuse.ensures.counted is)
            (λ f s. kept_ends so (place_in (innermost so)) None (script_done f so c.args.heap.now) c.in-Err.stop c.refuse.new.self.end some (c.in-Err.ensures.fault f s) (c.refuse.ensures.told is ∙ ap (λ site. Some (end_of site c.in-Err.stop)) (c.in_ok-site.ensures ∙ ap (λ place. site_at so place None) c.place_of.ensures))),
        c.script_done.ensures.stands,
      ),
    )
