use Rattle.std.proofs.Common.{arith, ◌≡◌, ◌∙◌, ◌+ℤ◌, pos, ap, sym, w64, to_z, of_z}
use Rattle.std.proofs.lemmas.Int.{ints}
use Rattle.py_heap.specs.declared.value.Value.TheVariants as v
use Rattle.py_builtins.proofs.RowTurns.{counted_at}
use Rattle.py_builtins.proofs.rows.number_at.Goals as goal

pub returns : goal.returns
returns c =
    let number : to_z w64 (of_z w64 (to_z w64 (of_z w64 c.args.from) +ℤ to_z w64 c.args.place)) ≡ c.args.from +ℤ pos c.args.place = omega (arith, ints) in
    ap v.Int number ∙ sym (counted_at c.args.count c.args.place c.args.from c.requires.inside)
