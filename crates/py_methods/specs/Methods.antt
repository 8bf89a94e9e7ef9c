-- What each method of a list and of a dict gives. Another one is NoMethod.
use Rattle.std.specs.Prelude.{ℕ, List, Ok, Err}
use Rattle.py_heap.specs.declared.value.Value.{Value}
use Rattle.py_heap.specs.declared.value.Value.TheVariants as v
use Rattle.py_heap.specs.declared.fault.ValueFault.TheVariants as fault
use Rattle.py_heap.specs.Heap.{Objects, dict_at}
use Rattle.py_heap.specs.Units.{Units}
use Rattle.py_methods.specs.declared.name.Name.{Name}
use Rattle.py_methods.specs.declared.name.Name.TheVariants as name
use Rattle.py_compare.specs.Outcomes.{Outcome, plain, changed, new_dict}
use Rattle.py_compare.specs.Arguments.{with_none, with_one, with_two, with_optional, with_second}
use Rattle.py_methods.specs.Lists.{append_of, extend_of, insert_of, pop_of, pop_last_of, remove_of, index_of}
use Rattle.py_methods.specs.Lists.{reverse_of, sort_of}
use Rattle.py_methods.specs.Many.{pair_list, pair_rows}
use Rattle.py_methods.specs.Dicts.{update_of, get_of, setdefault_of, keys_list, values_list}

abbrev pub list_method : Objects → Units → ℕ → Name → List Value → Outcome
list_method h u id name.Append args = with_one args (λ x. changed u (append_of h id x))
list_method h u id name.Extend args = with_one args (λ x. extend_of h u id x)
list_method h u id name.Insert args = with_two args (λ i x. changed u (insert_of h id (v.List (record { 0 = id })) i x))
list_method h u id name.Pop args =
    with_optional args (changed u (pop_last_of h id)) (λ i. changed u (pop_of h id (v.List (record { 0 = id })) i))
list_method h u id name.Remove args = with_one args (λ x. remove_of h u id x)
list_method h u id name.Index args = with_one args (λ x. index_of h u id x)
list_method h u id name.Reverse args = with_none args (changed u (Ok (reverse_of h id)))
list_method h u id name.Sort args = with_none args (sort_of h u id)
list_method h u id other args = Err fault.NoMethod

abbrev pub dict_method : Objects → Units → ℕ → Name → List Value → Outcome
dict_method h u id name.Get args =
    with_second args (λ k. plain h u (get_of h id k v.Nil)) (λ k d. plain h u (get_of h id k d))
dict_method h u id name.Keys args = with_none args (keys_list h u id)
dict_method h u id name.Values args = with_none args (values_list h u id)
dict_method h u id name.Items args = with_none args (pair_list h u (pair_rows (dict_at h id)))
dict_method h u id name.Update args = with_one args (λ x. changed u (update_of h id x))
dict_method h u id name.Copy args = with_none args (new_dict h u (dict_at h id))
dict_method h u id name.Setdefault args =
    with_second args (λ k. changed u (setdefault_of h id k v.Nil)) (λ k d. changed u (setdefault_of h id k d))
dict_method h u id other args = Err fault.NoMethod
