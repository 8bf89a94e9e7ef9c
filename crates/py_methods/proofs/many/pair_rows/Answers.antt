use Rattle.std.proofs.Common.{◌≡◌, ◌∙◌, ◌++◌, ◌∷◌, [], sym, ap, Some, None}
use Rattle.std.specs.Prelude.{slice_get}
use Rattle.py_heap.specs.Heap.{dict_at}
use Rattle.py_compare.specs.Showing.{entries_of}
use Rattle.py_methods.proofs.Pairs.{rows_more, rows_none}
use Rattle.py_methods.proofs.many.pair_rows.Goals as goal
use Rattle.py_methods.proofs.many.pair_rows.Goals.{in-Some+in_ok-of+in_ok-push, in_default}

pub places-preserved : goal.places-preserved
places-preserved c =
    elim c.match-entry_in.branch [
      | in-Some+in_ok-of+in_ok-push w ↦
          let at : Some w.in-Some.entry ≡ slice_get (entries_of (dict_at c.args.heap.now c.args.dict.0)) c.places.place = rw w.in-Some.is at c.entry_in.ensures in
          let made = w.in_ok-of.ensures {u = tt} in
          let new : w.push.new.self.items ≡ c.places.rows.items ++ (w.in-Some.entry.key ∷ w.in-Some.entry.item ∷ []) ∷ [] =
          (w.in_ok-push.ensures {u = tt}).items ∙ ap (λ r. c.places.rows.items ++ r ∷ []) made in
          rows_more (dict_at c.args.heap.now c.args.dict.0) c.places.rows.items c.match-entry_in.rows.items c.places.place w.in-Some.entry c.places.invariant (sym at) (ap (λ v. v.items) w.rows-is ∙ new)
      | in_default w ↦
          let at : None ≡ slice_get (entries_of (dict_at c.args.heap.now c.args.dict.0)) c.places.place = rw w.in_default.is at c.entry_in.ensures in
          ap (λ v. v.items) w.rows-is ∙ rows_none (dict_at c.args.heap.now c.args.dict.0) c.places.rows.items c.places.place c.places.invariant (sym at)
    ]
