use Rattle.std.proofs.Common.{◌≡◌, ◌∙◌, sym, ap, Some, None}
use Rattle.std.specs.Prelude.{slice_get}
use Rattle.std.specs.List.{IsDistinct}
use Rattle.std.specs.Map.{keys_of}
use Rattle.indexmap.specs.IndexMap.{insert_entry}
use Rattle.py_heap.specs.Keys.{key_eq}
use Rattle.py_heap.proofs.Copies.{copied_more}
use Rattle.py_heap.proofs.Turns.{taken_none}
use Rattle.py_heap.proofs.dict.Dict.copy.Goals as goal
use Rattle.py_heap.proofs.dict.Dict.copy.Goals.{in-Some+in_ok-copy+in_ok-add, in_default}

pub places-preserved : goal.places-preserved
places-preserved c =
    elim c.match-at.branch [
      | in-Some+in_ok-copy+in_ok-add w ↦
          let at : Some (w.in-Some.key.now, w.in-Some.entry) ≡ slice_get c.args.self.now c.places.place = rw w.in-Some.is at c.at.ensures in
          let stored : IsDistinct key_eq (keys_of c.self.inside.map.entries) = c.len-place-end.ensures.unique in
          let distinct : IsDistinct key_eq (keys_of c.args.self.now) = rw c.self.view_is at stored in
          let key = w.in_ok-copy.ensures {u = tt} in
          let new : w.add.new.self ≡ insert_entry key_eq c.places.copy w.in-Some.key.now w.in-Some.entry =
          (w.in_ok-add.ensures {u = tt}).ok ∙ ap (λ k. insert_entry key_eq c.places.copy k w.in-Some.entry) key in
          copied_more c.args.self.now c.places.copy c.match-at.copy c.places.place (w.in-Some.key.now, w.in-Some.entry) distinct (sym at) c.places.invariant (w.copy-is ∙ new)
      | in_default w ↦
          let at : None ≡ slice_get c.args.self.now c.places.place = rw w.in_default.is at c.at.ensures in
          w.copy-is ∙ taken_none c.args.self.now c.places.copy c.places.place c.places.invariant (sym at)
    ]
