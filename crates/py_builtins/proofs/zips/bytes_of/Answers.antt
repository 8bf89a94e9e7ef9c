use Rattle.std.proofs.Common.{arith, ◌≡◌, ◌+◌, drop, get_or}
use Rattle.std.proofs.lemmas.List.{drop_more}
use Rattle.py_heap.specs.declared.value.Value.TheVariants as v
use Rattle.py_compare.specs.Iterables.{total_length}
use Rattle.py_builtins.specs.Rows.{zip_texts}
use Rattle.py_builtins.proofs.Zipping.{bytes_more}
use Rattle.py_builtins.proofs.zips.bytes_of.Goals as goal

pub values-preserved : goal.values-preserved
values-preserved c =
    let heap = c.args.heap.now in
    let values = c.args.values.now in
    let i = c.values.value-index in
    let sum : c.in_ok-bytes.bytes ≡ c.values.bytes + c.iterable_bytes-more.result = search (arith, c.checked_add.ensures, c.in_ok-bytes.ensures.ok_part) in
    bytes_more heap c.args.count (drop i values) (drop (i + 1) values) (get_or values i v.Nil) c.values.bytes c.iterable_bytes-more.result c.in_ok-bytes.bytes (total_length (zip_texts heap c.args.count values))
    (drop_more values i v.Nil c.values-test.true) c.values.invariant c.iterable_bytes-more.ensures sum
