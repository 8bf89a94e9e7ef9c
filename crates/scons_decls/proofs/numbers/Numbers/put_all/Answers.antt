use Rattle.std.proofs.Common.{arith, ◌≡◌, ◌∙◌, ap, sym, Some, string_bytes, true≢false}
use Rattle.std.specs.Prelude.{slice_get}
use Rattle.std.specs.Option.{option_map}
use Rattle.std.proofs.lemmas.Option.{slice_get-map}
use Rattle.scons_decls.specs.Tables.{put, rows_of}
use Rattle.scons_decls.proofs.Rows.{put_row, row_of}
use Rattle.scons_decls.proofs.numbers.Numbers.put_all.Goals as goal
use Rattle.scons_decls.proofs.numbers.Numbers.put_all.Goals.{in-Some+in_ok-from_str+in_ok-put, in_default}

pub places-preserved : goal.places-preserved
places-preserved c =
    elim c.match-get_index.branch [
      | in-Some+in_ok-from_str+in_ok-put w ↦
          let entries = c.other.inside.numbers.entries in
          let name = string_bytes w.in-Some.name.now in
          let number = w.in-Some.number.now in
          let there : slice_get entries c.places.place ≡ Some (w.in-Some.name.now, w.in-Some.number.now) = sym (rw w.in-Some.is at c.get_index.ensures.entry) in
          let row : slice_get (rows_of entries) c.places.place ≡ Some (name, number) = slice_get-map row_of entries c.places.place ∙ ap (option_map row_of) there in
          w.self-is ∙ w.in_ok-put.ensures {u = tt}
          ∙ ap (λ n. put c.places.self n number) ((w.in_ok-from_str.ensures {u = tt}).ok ∙ w.as_str.ensures.value)
          ∙ ap (λ rows. put rows name number) c.places.invariant
          ∙ (rw (← c.other.view_is) (put_row entries c.places.place name number c.len-place-end.ensures.unique row))
      | in_default w ↦ absurd (true≢false (sym (rw w.in_default.is at (c.get_index.ensures.found.1 (omega (arith, c.len-place-end.ensures))))))
    ]
