use Rattle.std.proofs.Common.{arith, ◌≡◌, ◌∙◌, ◌++◌, ◌∷◌, [], map, ap}
use Rattle.py_compare.specs.Iterables.{iterable_items}
use Rattle.py_builtins.specs.Rows.{row_at, rows_from}
use Rattle.py_builtins.proofs.RowTurns.{rows_more}
use Rattle.py_builtins.proofs.zips.rows_of.Goals as goal

pub places-preserved : goal.places-preserved
places-preserved c =
    let columns = map (λ x. iterable_items c.args.heap.now x.first c.args.count x.value) c.args.columns.now in
    let row : c.in_ok-row_of.field-0 ≡ row_at columns c.places.place = c.in_ok-row_of.ensures {u = tt} in
    let new : c.push.new.self.items ≡ c.places.rows.items ++ c.in_ok-row_of.field-0 ∷ [] = (c.in_ok-push.ensures {u = tt}).items in
    rows_more c.places.place c.args.count columns c.in_ok-row_of.field-0 c.places.rows.items c.push.new.self.items (rows_from 0 c.args.count columns) (omega arith) row c.places.invariant new
