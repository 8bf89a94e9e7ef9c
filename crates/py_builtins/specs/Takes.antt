-- How many arguments each built-in function takes, as far as this subset has them.
use Rattle.std.specs.Prelude.{ℕ, Bool, true, ◌==◌, ◌||◌, nat_le}
use Rattle.py_heap.specs.declared.value.Builtin.{Builtin}
use Rattle.py_heap.specs.declared.value.Builtin.TheVariants as b

abbrev pub takes : Builtin → ℕ → Bool
takes b.Len n = n == 1
takes b.Range n = n == 1 || n == 2
takes b.Str n = nat_le n 1
takes b.Int n = nat_le n 1
takes b.Bool n = nat_le n 1
takes b.List n = nat_le n 1
takes b.Tuple n = nat_le n 1
takes b.Dict n = nat_le n 1
takes b.Sorted n = n == 1
takes b.Enumerate n = n == 1 || n == 2
takes b.Zip n = true
takes b.Print n = true
