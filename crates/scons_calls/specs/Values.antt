-- What the host answers, as values: each with the objects and the heap after, made one after another.
use Rattle.std.specs.Prelude.{ℕ, List, [], ◌∷◌, ◌++◌, Option, Some, None, Result, Ok}
use Rattle.env_vars.specs.declared.value.EnvValue.{EnvValue}
use Rattle.env_vars.specs.declared.value.EnvValue.TheVariants as value
use Rattle.env_vars.specs.declared.value.Item.{Item}
use Rattle.env_vars.specs.declared.value.Item.TheVariants as item
use Rattle.py_heap.specs.declared.value.Value.{Value}
use Rattle.py_heap.specs.declared.value.Value.TheVariants as v
use Rattle.py_heap.specs.declared.fault.ValueFault.{ValueFault}
use Rattle.py_heap.specs.Heap.{Objects, shown_of}
use Rattle.py_heap.specs.Given.{given_text, given_list, given_tuple, given_dict, given_object}
use Rattle.scons_decls.specs.declared.given.Given.{Given}
use Rattle.scons_decls.specs.declared.given.Given.TheVariants as given
use Rattle.scons_calls.specs.declared.thing.Thing.TheVariants as thing
use Rattle.scons_calls.specs.Things.{Things, numbered, numbered_node}
use Rattle.scons_calls.specs.Results.{and_then, along}

-- something made of values, with the objects and the heap after
abbrev pub Made : Type 0 → Type 0
Made X = Result (X × Things × Objects) ValueFault

-- what the heap alone is given
abbrev pub given_alone : {X : Type 0} → Things → Result (X × Objects) ValueFault → Made X
given_alone things made = and_then made (λ m. Ok (m.0, things, m.1))

abbrev pub push_made : {X : Type 0} → List X → Made X → Made (List X)
push_made xs made = and_then made (λ m. Ok (xs ++ m.0 ∷ [], m.1, m.2))

-- each of a list, one after another
abbrev pub each_made : {A X : Type 0} → (Things → Objects → A → Made X) → Things → Objects → List A → Made (List X)
each_made make things h list = along (λ m a. push_made m.0 (make m.1 m.2 a)) ([], things, h) list

abbrev shown_if : Objects → ℕ → List ℕ → Option (List ℕ) → Result (Value × Objects) ValueFault
shown_if h id text (Some shown) = Ok (v.Object (record { 0 = id }), h)
shown_if h id text None = given_object h id text

-- an object, which shows as this text from its first giving out on
abbrev pub shown_in : Objects → ℕ → List ℕ → Result (Value × Objects) ValueFault
shown_in h id text = shown_if h id text (shown_of h id)

abbrev pub shown_value : Objects → List ℕ → ℕ × Things → Made Value
shown_value h text object = given_alone object.1 (shown_in h object.0 text)

-- the value of a node, directory or alias is its one object, which shows as its path or name
abbrev pub given_value : Things → Objects → Given → Made Value
given_value things h (given.File path) = shown_value h path (numbered things (thing.File path))
given_value things h (given.Dir path) = shown_value h path (numbered things (thing.Dir path))
given_value things h (given.Alias name) = shown_value h name (numbered things (thing.Alias name))
given_value things h (given.Text text) = given_alone things (given_text h text)

-- a list of values that are made one after another
abbrev pub listed : Made (List Value) → Made Value
listed made = and_then made (λ m. given_alone m.1 (given_list m.2 m.0))

abbrev pub node_values : Things → Objects → List Given → Made (List Value)
node_values things h nodes = each_made given_value things h nodes

abbrev pub nodes_value : Things → Objects → List Given → Made Value
nodes_value things h nodes = listed (node_values things h nodes)

-- new texts, and a list of them
abbrev pub one_text : List Value × Objects → List ℕ → Result (List Value × Objects) ValueFault
one_text made text = and_then (given_text made.1 text) (λ m. Ok (made.0 ++ m.0 ∷ [], m.1))

abbrev pub text_values : Objects → List (List ℕ) → Result (List Value × Objects) ValueFault
text_values h texts = along one_text ([], h) texts

abbrev pub texts_value : Objects → List (List ℕ) → Result (Value × Objects) ValueFault
texts_value h texts = and_then (text_values h texts) (λ m. given_list m.1 m.0)

abbrev pub node_value : Things → Objects → List ℕ → Made Value
node_value things h path = shown_value h path (numbered_node things path)

-- a tuple of two texts
abbrev pub tuple_of : Objects → List ℕ → List ℕ → Result (Value × Objects) ValueFault
tuple_of h name text =
    and_then (given_text h name) (λ n. and_then (given_text n.1 text) (λ t. given_tuple t.1 (n.0 ∷ t.0 ∷ [])))

-- an item of a list: a name with its value is a tuple
abbrev pub item_value : Things → Objects → Item → Made Value
item_value things h (item.Text text) = given_alone things (given_text h text)
item_value things h (item.Int n) = Ok (v.Int n, things, h)
item_value things h (item.Node path) = node_value things h path
item_value things h (item.Pair name None) = given_alone things (given_text h name)
item_value things h (item.Pair name (Some text)) = given_alone things (tuple_of h name text)

abbrev pub item_values : Things → Objects → List Item → Made (List Value)
item_values things h items = each_made item_value things h items

-- what stands under a name of a dict: a pair there tells the value, or None
abbrev pub entry_value : Things → Objects → Item → Made Value
entry_value things h (item.Pair name (Some text)) = given_alone things (given_text h text)
entry_value things h (item.Pair name None) = Ok (v.Nil, things, h)
entry_value things h (item.Text text) = item_value things h (item.Text text)
entry_value things h (item.Int n) = item_value things h (item.Int n)
entry_value things h (item.Node path) = item_value things h (item.Node path)

abbrev pub pair_value : Things → Objects → List ℕ × Item → Made (Value × Value)
pair_value things h pair =
    and_then (given_text h pair.0) (λ name.
    and_then (entry_value things name.1 pair.1) (λ entry.
    Ok ((name.0, entry.0), entry.1, entry.2)))

abbrev pub pair_values : Things → Objects → List (List ℕ × Item) → Made (List (Value × Value))
pair_values things h pairs = each_made pair_value things h pairs

-- a dict of pairs that are made one after another
abbrev pub keyed : Made (List (Value × Value)) → Made Value
keyed made = and_then made (λ m. given_alone m.1 (given_dict m.2 m.0))

-- a copy of a variable's value
abbrev pub variable_value : Things → Objects → EnvValue → Made Value
variable_value things h value.Nil = Ok (v.Nil, things, h)
variable_value things h (value.Bool flag) = Ok (v.Bool flag, things, h)
variable_value things h (value.Int n) = Ok (v.Int n, things, h)
variable_value things h (value.Text text) = given_alone things (given_text h text)
variable_value things h (value.Words words) = given_alone things (texts_value h words)
variable_value things h (value.List items) = listed (item_values things h items)
variable_value things h (value.Pairs pairs) = keyed (pair_values things h pairs)
