use Rattle.std.proofs.Common.{arith, ◌≡◌, ◌++◌, ◌∷◌, [], w64, to_z, of_z}
use Rattle.py_compare.specs.Iterables.{iterable_items}
use Rattle.py_builtins.specs.Numbers.{counted}
use Rattle.py_builtins.specs.Rows.{row_at, rows_from}
use Rattle.py_builtins.proofs.RowTurns.{rows_more}
use Rattle.py_builtins.proofs.rows.numbered_rows.Goals as goal

pub places-preserved : goal.places-preserved
places-preserved c =
    let from = to_z w64 (of_z w64 c.args.from) in
    let columns = counted c.args.count from ∷ iterable_items c.args.heap.now c.args.column.first c.args.count c.args.column.value ∷ [] in
    let row : c.in_ok-numbered_row.field-0 ≡ row_at columns c.places.place = c.in_ok-numbered_row.ensures {u = tt} in
    let new : c.push.new.self.items ≡ c.places.rows.items ++ c.in_ok-numbered_row.field-0 ∷ [] = (c.in_ok-push.ensures {u = tt}).items in
    rows_more c.places.place c.args.count columns c.in_ok-numbered_row.field-0 c.places.rows.items c.push.new.self.items (rows_from 0 c.args.count columns) (omega arith) row c.places.invariant new
