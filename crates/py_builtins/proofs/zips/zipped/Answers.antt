use Rattle.std.proofs.Common.{◌≡◌, ◌∙◌, ◌++◌, length, map, Ok, refl, ap}
use Rattle.py_heap.specs.Given.{next_list}
use Rattle.py_heap.specs.Many.{with_texts, with_tuple_list}
use Rattle.py_compare.specs.Iterables.{iterable_items}
use Rattle.py_builtins.specs.Rows.{rows_from, zip_texts, zip_columns, paid_zip, zipped}
use Rattle.py_builtins.proofs.Zipping.{zip_made}
use Rattle.py_builtins.proofs.zips.zipped.Goals as goal

pub returns-clause-ok : goal.returns-clause-ok
returns-clause-ok c =
    let heap = c.args.heap.now in
    let columns : map (λ x. iterable_items heap x.first c.args.count x.value) c.as_slice.result.now ≡ zip_columns heap (length heap.texts) c.args.count c.args.values.now =
    ap (λ xs. map (λ x. iterable_items heap x.first c.args.count x.value) xs) c.as_slice.ensures.value ∙ c.in_ok-columns.ensures {u = tt} in
    let rows = c.in_ok-rows.ensures {u = tt} ∙ ap (λ xs. rows_from 0 c.args.count xs) columns in
    let made = (c.in_ok-list.ensures {u = tt}).ok in
    zip_made heap c.args.budget.now c.zip_room.new.budget c.args.values.now c.args.count c.in_ok-texts.texts.items c.in_ok-rows.rows.items c.in_ok-list.list c.add_tuple_list_with.new.self (c.in_ok-zip_room.ensures {u = tt}).ok
    (c.in_ok-texts.ensures {u = tt}) rows made.0 made.1
