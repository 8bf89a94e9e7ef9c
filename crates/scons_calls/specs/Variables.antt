-- What a value is as that of a construction variable.
use Rattle.std.specs.Prelude.{ℕ, Bool, true, false, List, [], ◌∷◌, Option, Some, None, Result, Ok, Err, codes, slice_get}
use Rattle.std.specs.Str.{bytes_eq}
use Rattle.env_vars.specs.declared.value.EnvValue.{EnvValue}
use Rattle.env_vars.specs.declared.value.EnvValue.TheVariants as value
use Rattle.env_vars.specs.declared.value.Item.{Item}
use Rattle.env_vars.specs.declared.value.Item.TheVariants as item
use Rattle.env_vars.specs.Given.{flag_text}
use Rattle.py_text.specs.Numbers.{decimals}
use Rattle.py_heap.specs.declared.value.Value.{Value}
use Rattle.py_heap.specs.declared.value.Value.TheVariants as v
use Rattle.py_heap.specs.Heap.{Objects, text_at, items_of}
use Rattle.scons_decls.specs.declared.given.Given.{Given}
use Rattle.scons_decls.specs.declared.given.Given.TheVariants as given
use Rattle.scons_calls.specs.declared.fault.CallFault.{CallFault}
use Rattle.scons_calls.specs.declared.fault.CallFault.TheVariants as fault
use Rattle.scons_calls.specs.declared.thing.Thing.{Thing}
use Rattle.scons_calls.specs.declared.thing.Thing.TheVariants as thing
use Rattle.scons_calls.specs.Things.{Things}
use Rattle.scons_calls.specs.Flattening.{flattened}
use Rattle.scons_calls.specs.Kinds.{text_by, place_by, pairs_in}
use Rattle.scons_calls.specs.Results.{and_then, each, each_joined}

abbrev pub item_of : Given → Result Item CallFault
item_of (given.Text text) = Ok (item.Text text)
item_of (given.File path) = Ok (item.Node path)
item_of (given.Dir path) = Ok (item.Node path)
item_of (given.Alias name) = Err fault.Arguments

-- an item of a list: a number, a text, also for True and False, or a node
abbrev pub item_by : Objects → Things → Value → Result Item CallFault
item_by h things (v.Int n) = Ok (item.Int n)
item_by h things (v.Bool flag) = Ok (item.Text (flag_text flag))
item_by h things x = and_then (place_by h things x) item_of

-- a list, flattened
abbrev pub list_by : Objects → Things → Value → Result (List Item) CallFault
list_by h things x = and_then (flattened h (x ∷ [])) (each (item_by h things))

-- under a key: None is told as a pair without a value
abbrev pub entry_by : Objects → Things → List ℕ → Value → Result Item CallFault
entry_by h things name v.Nil = Ok (item.Pair name None)
entry_by h things name x = item_by h things x

abbrev pub pair_by : Objects → Things → Value × Value → Result (List ℕ × Item) CallFault
pair_by h things pair =
    and_then (text_by h pair.0) (λ name. and_then (entry_by h things name pair.1) (λ one. Ok (name, one)))

abbrev pub dict_by : Objects → Things → ℕ → Result (List (List ℕ × Item)) CallFault
dict_by h things id = each (pair_by h things) (pairs_in h id)

-- the value of a macro, if it has one
abbrev pub definition_by : Objects → Value → Result (Option (List ℕ)) CallFault
definition_by h v.Nil = Ok None
definition_by h (v.Int n) = Ok (Some (decimals n))
definition_by h (v.Bool flag) = Ok (Some (flag_text flag))
definition_by h x = and_then (text_by h x) (λ text. Ok (Some text))

-- a macro with its value, or without one
abbrev pub define_by : Objects → Value → Value → Result Item CallFault
define_by h name x = and_then (text_by h name) (λ n. and_then (definition_by h x) (λ text. Ok (item.Pair n text)))

abbrev pub only : Result Item CallFault → Result (List Item) CallFault
only made = and_then made (λ one. Ok (one ∷ []))

-- in a list of macros a list or tuple is a name alone, or a name with its value
abbrev macro_in : Objects → Things → Value → Option (List Value) → Result (List Item) CallFault
macro_in h things x None = only (item_by h things x)
macro_in h things x (Some []) = Ok []
macro_in h things x (Some (name ∷ [])) = only (item_by h things name)
macro_in h things x (Some (name ∷ text ∷ [])) = only (define_by h name text)
macro_in h things x (Some (name ∷ text ∷ more ∷ rest)) = Err fault.Arguments

abbrev pub macro_by : Objects → Things → Value → Result (List Item) CallFault
macro_by h things x = macro_in h things x (items_of h x)

-- a tuple of two is one macro, with its value
abbrev pub tuple_macros : Objects → Things → List Value → Result (List Item) CallFault
tuple_macros h things (name ∷ text ∷ []) = only (define_by h name text)
tuple_macros h things items = each_joined (macro_by h things) items

abbrev macros_in : Objects → Things → Value → Option (List Value) → Result (List Item) CallFault
macros_in h things x None = only (item_by h things x)
macros_in h things (v.Tuple id) (Some items) = tuple_macros h things items
macros_in h things x (Some items) = each_joined (macro_by h things) items

-- the macros of CPPDEFINES: those of a list or tuple, or the value alone
abbrev pub macros_by : Objects → Things → Value → Result (List Item) CallFault
macros_by h things x = macros_in h things x (items_of h x)

abbrev pub is_macros : List ℕ → Bool
is_macros name = bytes_eq name (codes "CPPDEFINES")

abbrev pub list_for : Objects → Things → Bool → Value → Result (List Item) CallFault
list_for h things true x = macros_by h things x
list_for h things false x = list_by h things x

-- the value that a script gives a variable
abbrev pub variable_by : Objects → Things → List ℕ → Value → Result EnvValue CallFault
variable_by h things name v.Nil = Ok value.Nil
variable_by h things name (v.Bool flag) = Ok (value.Bool flag)
variable_by h things name (v.Int n) = Ok (value.Int n)
variable_by h things name (v.Text id) = Ok (value.Text (text_at h id.0))
variable_by h things name (v.Dict id) = and_then (dict_by h things id.0) (λ pairs. Ok (value.Pairs pairs))
variable_by h things name x = and_then (list_for h things (is_macros name) x) (λ items. Ok (value.List items))

-- a builder where none stands
abbrev pub builders_fault : CallFault
builders_fault = fault.LeftOut (codes "BUILDERS")

abbrev builder_at : Option Thing → Result ℕ CallFault
builder_at (Some (thing.Builder number)) = Ok number
builder_at other = Err builders_fault

-- the number of a builder
abbrev pub builder_by : Objects → Things → Value → Result ℕ CallFault
builder_by h things (v.Object id) = builder_at (slice_get things id.0)
builder_by h things x = Err builders_fault

abbrev pub builder_pair : Objects → Things → Value × Value → Result (List ℕ × ℕ) CallFault
builder_pair h things pair =
    and_then (text_by h pair.0) (λ name. and_then (builder_by h things pair.1) (λ number. Ok (name, number)))

-- the builders of a dict, by their names
abbrev pub builders_by : Objects → Things → Value → Result (List (List ℕ × ℕ)) CallFault
builders_by h things (v.Dict id) = each (builder_pair h things) (pairs_in h id.0)
builders_by h things x = Err builders_fault
