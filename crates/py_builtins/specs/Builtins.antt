-- What each built-in function gives: "Built-in Functions" in the Python library reference, cut down to this subset.
use Rattle.std.specs.Prelude.{pos, false, List, [], Ok, Err}
use Rattle.py_heap.specs.declared.value.Value.{Value}
use Rattle.py_heap.specs.declared.value.Value.TheVariants as v
use Rattle.py_heap.specs.declared.value.Builtin.{Builtin}
use Rattle.py_heap.specs.declared.value.Builtin.TheVariants as b
use Rattle.py_heap.specs.declared.fault.ValueFault.TheVariants as fault
use Rattle.py_heap.specs.Heap.{Objects, truth_of}
use Rattle.py_heap.specs.Units.{Units}
use Rattle.py_compare.specs.Outcomes.{Outcome, number, new_text, new_list, new_tuple, new_dict}
use Rattle.py_compare.specs.Arguments.{with_one, with_optional, with_second}
use Rattle.py_builtins.specs.Numbers.{len_of, range_of, int_of, str_of}
use Rattle.py_builtins.specs.Collections.{list_of, tuple_of, dict_of}
use Rattle.py_builtins.specs.Rows.{enumerate_of, zip_of}
use Rattle.py_builtins.specs.Sorted.{sorted_list_of}

-- `print` isn't one of values alone: whoever runs a script does it, and here it is read as no such function
abbrev pub builtin_of : Objects → Units → Builtin → List Value → Outcome
builtin_of h u b.Len args = with_one args (λ x. len_of h u x)
builtin_of h u b.Range args = with_second args (λ to. range_of h u (v.Int (pos 0)) to) (λ from to. range_of h u from to)
builtin_of h u b.Str args = with_optional args (new_text h u []) (λ x. str_of h u x)
builtin_of h u b.Int args = with_optional args (number h u (Ok (pos 0))) (λ x. number h u (int_of h x))
builtin_of h u b.Bool args = with_optional args (Ok (v.Bool false, h, u)) (λ x. Ok (v.Bool (truth_of h x), h, u))
builtin_of h u b.List args = with_optional args (new_list h u []) (λ x. list_of h u x)
builtin_of h u b.Tuple args = with_optional args (new_tuple h u []) (λ x. tuple_of h u x)
builtin_of h u b.Dict args = with_optional args (new_dict h u []) (λ x. dict_of h u x)
builtin_of h u b.Sorted args = with_one args (λ x. sorted_list_of h u x)
builtin_of h u b.Enumerate args =
    with_second args (λ x. enumerate_of h u x (v.Int (pos 0))) (λ x from. enumerate_of h u x from)
builtin_of h u b.Zip args = zip_of h u args
builtin_of h u b.Print args = Err fault.NoMethod
