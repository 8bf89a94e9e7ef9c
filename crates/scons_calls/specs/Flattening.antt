-- Lists and tuples that nest, as one flat list: `Flatten` of SCons's Util, with two limits that are own: on the levels, and on
-- how many values are met, lists and tuples among them.
use Rattle.std.specs.Prelude.{ℕ, zero, suc, Bool, ◌||◌, ◌-◌, nat_lt, List, [], ◌∷◌, ◌++◌, Result, Ok, Err, is_some, length, flat_map, if◌then◌else◌}
use Rattle.std.specs.Option.{option_map_or}
use Rattle.std.specs.List.{list_any}
use Rattle.scons_base.specs.declared.limits.TheConstants.{LIST_LIMIT, NESTING_LIMIT}
use Rattle.py_heap.specs.declared.value.Value.{Value}
use Rattle.py_heap.specs.declared.value.Value.TheVariants as v
use Rattle.py_heap.specs.Heap.{Objects, items_of}
use Rattle.scons_calls.specs.declared.fault.CallFault.{CallFault}
use Rattle.scons_calls.specs.declared.fault.CallFault.TheVariants as fault

-- a list or a tuple
abbrev pub is_list : Objects → Value → Bool
is_list h x = is_some (items_of h x)

-- values, each list and tuple replaced by what is in it, so many levels deep
unfoldable pub opened : Objects → ℕ → List Value → List Value
opened h zero values = values
opened h (suc levels) values = flat_map (λ x. option_map_or (opened h levels) (items_of h x) (x ∷ [])) values

-- all values that are met so many levels deep, each list and tuple in front of what is in it
unfoldable pub met : Objects → ℕ → List Value → List Value
met h zero values = values
met h (suc levels) values = flat_map (λ x. x ∷ option_map_or (met h levels) (items_of h x) []) values

-- how many values more may be met, and the items so far
pub record Flat : Type 0 where
  pub room : ℕ
  pub items : List Value

-- further items behind those, with which so many values are met: none of the items may be a list still
abbrev pub behind : Objects → Flat → ℕ → List Value → Result Flat CallFault
behind h flat count items =
    if nat_lt flat.room count || list_any (is_list h) items then Err fault.Arguments
    else Ok (record { room = flat.room - count; items = flat.items ++ items })

-- the items of values, where lists may nest so many levels deep
abbrev pub flat_by : Objects → ℕ → Flat → List Value → Result Flat CallFault
flat_by h levels flat values = behind h flat (length (met h levels values)) (opened h levels values)

-- the items of values, if both limits are kept
abbrev pub flat_items : Objects → List Value → Result (List Value) CallFault
flat_items h values =
    if nat_lt LIST_LIMIT (length (met h NESTING_LIMIT values)) || list_any (is_list h) (opened h NESTING_LIMIT values)
    then Err fault.Arguments
    else Ok (opened h NESTING_LIMIT values)

-- the same, where None by itself stands for no item
abbrev pub flattened : Objects → List Value → Result (List Value) CallFault
flattened h (v.Nil ∷ []) = Ok []
flattened h values = flat_items h values
