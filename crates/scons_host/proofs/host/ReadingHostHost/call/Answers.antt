use Rattle.std.proofs.Common.{◌≡◌, ◌≢◌, ◌∙◌, Some, refl, ap}
use Rattle.py_host.specs.Calls.{arguments_of, given_of}
use Rattle.py_host.specs.Calls as question
use Rattle.scons_host.specs.Calling.{call}
use Rattle.py_host.specs.declared.refusal.HostRefusal.TheVariants as refusal
use Rattle.scons_host.specs.ReadingRules.{told, reading_rules}
use Rattle.scons_host.specs.SayingLaws.{keeps_same, keeps_answered, keeps_refused}
use Rattle.scons_host.specs.Seeing.{seen_of}
use Rattle.scons_host.specs.SoFar.{so_far}
use Rattle.scons_host.specs.Told.{end_of}
use Rattle.scons_host.specs.declared.stop.Stop.TheVariants as stop
use Rattle.scons_host.proofs.Turning.{kept_ends, says_answer, says_refusal}
use Rattle.scons_host.proofs.host.ReadingHostHost.call.Goals as goal

pub returns-in_err-site-clause-keeps : goal.returns-in_err-site-clause-keeps
returns-in_err-site-clause-keeps g c = (refl, keeps_same g.W.Disk.meaning g.O.Sink.meaning (seen_of c.args.self.now))

pub returns-in-Ok-clause-keeps : goal.returns-in-Ok-clause-keeps
returns-in-Ok-clause-keeps g c =
    let h = c.args.self.now in
    (refl, keeps_answered g.W.Disk.meaning g.O.Sink.meaning h.world.now c.call.new.world h.out.now (so_far h.state.now) (so_far c.call.new.state) h.kept.now c.call.ensures.looks)

pub returns-in-Err-clause-keeps : goal.returns-in-Err-clause-keeps
returns-in-Err-clause-keeps g c =
    let h = c.args.self.now in
    (refl, keeps_refused g.W.Disk.meaning g.O.Sink.meaning h.world.now c.call.new.world h.out.now (so_far h.state.now) (so_far c.call.new.state) h.kept.now c.refuse.new.self c.call.ensures.looks c.refuse.ensures.later)

pub returns-in-Ok-clause-ok : goal.returns-in-Ok-clause-ok
returns-in-Ok-clause-ok g c =
    let h = c.args.self.now in
    let so = so_far h.state.now in (
      refl,
      (
        says_answer g.W.Disk.meaning g.O.Sink.meaning reading_rules (question.called c.args.place c.args.locals.now c.args.globals.now c.args.object.0 (arguments_of c.args.args.now)) h.world.now c.call.new.world h.out.now so (so_far c.call.new.state) c.args.heap.now c.call.new.heap h.kept.now (given_of c.in-Ok.reply) c.call.ensures.looks c.in-Ok.ensures.cause
            (λ f s. ap (told so c.args.place (Some c.args.object)) (c.in-Ok.ensures.ok f s)),
        c.call.ensures.stands,
      ),
    )

pub returns-in-Err-clause-refused : goal.returns-in-Err-clause-refused
returns-in-Err-clause-refused g c = λ e.
    let h = c.args.self.now in
    let so = so_far h.state.now in
    let is : c.refuse.result ≡ refusal.Host = cc in
    let some : c.in-Err.stop ≢ stop.Memory = λ none. let short = c.refuse.ensures.untold none in cc in (
      refl,
      (
        says_refusal g.W.Disk.meaning g.O.Sink.meaning reading_rules (question.called c.args.place c.args.locals.now c.args.globals.now c.args.object.0 (arguments_of c.args.args.now)) h.world.now c.call.new.world h.out.now so (so_far c.call.new.state) c.args.heap.now c.call.new.heap h.kept.now c.refuse.new.self c.in-Err.stop c.call.ensures.looks c.in-Err.ensures.cause (c.refuse.ensures.end is) (c.refuse.ensures.counted is)
            (λ f s. kept_ends so c.args.place (Some c.args.object) (call f so c.args.heap.now c.args.place c.args.locals.now c.args.globals.now c.args.object.0 (arguments_of c.args.args.now)) c.in-Err.stop c.refuse.new.self.end some (c.in-Err.ensures.fault f s) (c.refuse.ensures.told is ∙ ap (λ site. Some (end_of site c.in-Err.stop)) c.in_ok-site.ensures)),
        c.call.ensures.stands,
      ),
    )
