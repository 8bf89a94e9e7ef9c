use Rattle.std.proofs.Common.{◌≡◌, ◌≢◌, ◌∙◌, Some, None, refl, ap}
use Rattle.py_host.specs.Calls as question
use Rattle.scons_host.specs.Asked.{attribute}
use Rattle.scons_host.specs.Refusals.{of_refusal, told_by}
use Rattle.scons_host.proofs.Scripting.{told_goes, refusal_untold}
use Rattle.py_host.specs.declared.refusal.HostRefusal.TheVariants as refusal
use Rattle.world_api.proofs.Looking.{files_same}
use Rattle.scons_host.specs.Looking.{refusal_stops}
use Rattle.scons_host.specs.ReadingRules.{told, reading_rules}
use Rattle.scons_host.specs.SayingLaws.{keeps_same, keeps_answered, keeps_refused}
use Rattle.scons_host.specs.Seeing.{seen_of}
use Rattle.scons_host.specs.SoFar.{so_far}
use Rattle.scons_host.specs.Told.{end_of}
use Rattle.scons_host.specs.declared.stop.Stop.TheVariants as stop
use Rattle.scons_host.proofs.Turning.{kept_ends, says_answer, says_refusal}
use Rattle.scons_host.proofs.host.ReadingHostHost.attribute.Goals as goal

pub returns-in_err-site-clause-keeps : goal.returns-in_err-site-clause-keeps
returns-in_err-site-clause-keeps g c = (refl, keeps_same g.W.Disk.meaning g.O.Sink.meaning (seen_of c.args.self.now))

pub returns-in-Ok-clause-keeps : goal.returns-in-Ok-clause-keeps
returns-in-Ok-clause-keeps g c =
    let h = c.args.self.now in
    (refl, keeps_answered g.W.Disk.meaning g.O.Sink.meaning h.world.now h.world.now h.out.now (so_far h.state.now) (so_far c.attribute.new.state) h.kept.now (files_same g.W.Disk.meaning h.world.now))

pub returns-in-Err-clause-keeps : goal.returns-in-Err-clause-keeps
returns-in-Err-clause-keeps g c =
    let h = c.args.self.now in
    (refl, keeps_refused g.W.Disk.meaning g.O.Sink.meaning h.world.now h.world.now h.out.now (so_far h.state.now) (so_far c.attribute.new.state) h.kept.now c.refuse.new.self (files_same g.W.Disk.meaning h.world.now) c.refuse.ensures.later)

pub returns-in-Ok-clause-ok : goal.returns-in-Ok-clause-ok
returns-in-Ok-clause-ok g c =
    let h = c.args.self.now in
    let so = so_far h.state.now in (
      refl,
      (
        says_answer g.W.Disk.meaning g.O.Sink.meaning reading_rules (question.attribute c.args.place c.args.object.0 c.args.name.now) h.world.now h.world.now h.out.now so (so_far c.attribute.new.state) c.args.heap.now c.attribute.new.heap h.kept.now c.in-Ok.value (files_same g.W.Disk.meaning h.world.now) refl
            (λ f s. ap (told so c.args.place None) (told_goes of_refusal (attribute so c.args.heap.now c.args.object.0 c.args.name.now) (c.in-Ok.value, so_far c.attribute.new.state, c.attribute.new.heap) c.in-Ok.ensures.ok)),
        c.attribute.ensures.stands,
      ),
    )

pub returns-in-Err-clause-refused : goal.returns-in-Err-clause-refused
returns-in-Err-clause-refused g c = λ e.
    let h = c.args.self.now in
    let so = so_far h.state.now in
    let is : c.refuse.result ≡ refusal.Host = cc in
    let some : c.from.result ≢ stop.Memory = λ none. let short = c.refuse.ensures.untold none in cc in (
      refl,
      (
        says_refusal g.W.Disk.meaning g.O.Sink.meaning reading_rules (question.attribute c.args.place c.args.object.0 c.args.name.now) h.world.now h.world.now h.out.now so (so_far c.attribute.new.state) c.args.heap.now c.attribute.new.heap h.kept.now c.refuse.new.self c.from.result (files_same g.W.Disk.meaning h.world.now) (refusal_stops c.in-Err.refusal c.from.result c.from.ensures (g.W.Disk.meaning.counts h.world.now)) (c.refuse.ensures.end is) (c.refuse.ensures.counted is)
            (λ f s. kept_ends so c.args.place None (told_by of_refusal (attribute so c.args.heap.now c.args.object.0 c.args.name.now)) c.from.result c.refuse.new.self.end some (refusal_untold (attribute so c.args.heap.now c.args.object.0 c.args.name.now) c.in-Err.refusal c.from.result c.from.ensures c.in-Err.ensures.fault) (c.refuse.ensures.told is ∙ ap (λ site. Some (end_of site c.from.result)) c.in_ok-site.ensures)),
        c.attribute.ensures.stands,
      ),
    )
