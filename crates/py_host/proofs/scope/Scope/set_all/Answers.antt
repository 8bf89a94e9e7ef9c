use Rattle.std.proofs.Common.{◌≡◌, ◌∙◌, sym, ap, refl, take, Some, None}
use Rattle.std.specs.Prelude.{slice_get}
use Rattle.py_host.specs.Names.{with_name, with_names}
use Rattle.py_host.proofs.Setting.{set_more}
use Rattle.py_heap.proofs.Turns.{taken_none}
use Rattle.py_host.proofs.scope.Scope.set_all.Goals as goal
use Rattle.py_host.proofs.scope.Scope.set_all.Goals.{in-Some+in_ok-of+in_ok-set, in_default}

pub places-preserved : goal.places-preserved
places-preserved c =
    elim c.match-at.branch [
      | in-Some+in_ok-of+in_ok-set w ↦
          let at : Some (w.in-Some.name.now, w.in-Some.value) ≡ slice_get c.args.more.now c.places.place = rw w.in-Some.is at c.at.ensures in
          let name = w.in_ok-of.ensures {u = tt} in
          let new : w.set.new.self ≡ with_name c.places.self w.in-Some.name.now w.in-Some.value =
          (w.in_ok-set.ensures {u = tt}).ok ∙ ap (λ k. with_name c.places.self k w.in-Some.value) name in
          set_more c.args.self.now c.args.more.now c.places.self c.match-at.self c.places.place (w.in-Some.name.now, w.in-Some.value) (sym at) c.places.invariant (w.self-is ∙ new)
      | in_default w ↦
          let at : None ≡ slice_get c.args.more.now c.places.place = rw w.in_default.is at c.at.ensures in
          w.self-is ∙ c.places.invariant ∙ ap (with_names c.args.self.now) (taken_none c.args.more.now (take c.places.place c.args.more.now) c.places.place refl (sym at))
    ]
