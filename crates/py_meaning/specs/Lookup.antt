-- What a name stands for: section 4.2.2 ("Resolution of names") of the Python language reference. Own: a function sees its own
-- script's global names, and the names of the host come behind the built-in ones.
use Rattle.std.specs.Prelude.{ℕ, Bool, true, false, List, [], ◌∷◌, Option, Some, None, if◌then◌else◌, codes}
use Rattle.std.specs.List.{list_any}
use Rattle.std.specs.Str.{bytes_eq}
use Rattle.py_heap.specs.declared.value.Value.{Value}
use Rattle.py_heap.specs.declared.value.Value.TheVariants as v
use Rattle.py_heap.specs.declared.value.Builtin.{Builtin}
use Rattle.py_heap.specs.declared.value.Builtin.TheVariants as builtin
use Rattle.py_host.specs.Names.{Names, value_of, with_name}
use Rattle.py_meaning.specs.States.{State, Frame, globals_at, with_frame, with_global}

abbrev pub builtins : List (List ℕ × Builtin)
builtins =
    (codes "len", builtin.Len) ∷ (codes "range", builtin.Range) ∷ (codes "str", builtin.Str)
    ∷ (codes "int", builtin.Int) ∷ (codes "bool", builtin.Bool) ∷ (codes "list", builtin.List)
    ∷ (codes "tuple", builtin.Tuple) ∷ (codes "dict", builtin.Dict)
    ∷ (codes "sorted", builtin.Sorted) ∷ (codes "enumerate", builtin.Enumerate) ∷ (codes "zip", builtin.Zip)
    ∷ (codes "print", builtin.Print) ∷ []

abbrev builtin_in : List (List ℕ × Builtin) → List ℕ → Option Builtin
builtin_in [] n = None
builtin_in (b ∷ bs) n = if bytes_eq n b.0 then Some b.1 else builtin_in bs n

-- the built-in function of a name
abbrev pub builtin_named : List ℕ → Option Builtin
builtin_named n = builtin_in builtins n

pub data Found : Type 0 where
  a_value : Value → Found
  -- a local name that isn't set
  unset : Found
  -- no name of scripts or of the language
  outside : Found

abbrev or_builtin : Option Value → Option Builtin → Found
or_builtin (Some x) b = a_value x
or_builtin None (Some b) = a_value (v.Builtin b)
or_builtin None None = outside

abbrev pub global_found : Names → List ℕ → Found
global_found globals n = or_builtin (value_of globals n) (builtin_named n)

abbrev or_unset : Option Value → Found
or_unset (Some x) = a_value x
or_unset None = unset

-- whether a name is local in a function
abbrev pub is_local : List (List ℕ) → List ℕ → Bool
is_local names n = list_any (bytes_eq n) names

-- at the level of a script, or in a function
abbrev frame_found : Names → Names → Option (List (List ℕ)) → List ℕ → Found
frame_found globals values None n = global_found globals n
frame_found globals values (Some locals) n =
    if is_local locals n then or_unset (value_of values n) else global_found globals n

abbrev or_next : Option Value → Option Value → Option Value
or_next (Some x) next = Some x
or_next None next = next

-- the names of comprehensions, the innermost ones first
abbrev pub inner_value : List Names → List ℕ → Option Value
inner_value [] n = None
inner_value (names ∷ more) n = or_next (value_of names n) (inner_value more n)

abbrev or_outer : Option Value → Found → Found
or_outer (Some x) found = a_value x
or_outer None found = found

abbrev pub found_in : State → List ℕ → Found
found_in s n =
    or_outer (inner_value s.frame.inner n) (frame_found (globals_at s s.frame.script) s.frame.values s.frame.locals n)

abbrev set_by : State → Option (List (List ℕ)) → List ℕ → Value → State
set_by s None n x = with_global s s.frame.script n x
set_by s (Some locals) n x = with_frame s (record s.frame { values = with_name s.frame.values n x })

-- a name bound by a statement: in the script, or in the function
abbrev pub with_bound : State → List ℕ → Value → State
with_bound s n x = set_by s s.frame.locals n x

abbrev pub set_inner : List Names → List ℕ → Value → List Names
set_inner [] n x = []
set_inner (names ∷ more) n x = with_name names n x ∷ more

-- a name bound by a comprehension: its names are its own
abbrev pub with_inner : State → List ℕ → Value → State
with_inner s n x = with_frame s (record s.frame { inner = set_inner s.frame.inner n x })
