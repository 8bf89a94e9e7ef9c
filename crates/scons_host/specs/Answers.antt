-- What calls are answered that are declared, and what Split and Flatten are, as values: scons(1), "SCons Functions".
use Rattle.std.specs.Prelude.{ℕ, Bool, true, false, List, [], ◌∷◌, Option, Some, None, Ok, codes, length, ◌==◌}
use Rattle.py_text.specs.Splitting.{words_of}
use Rattle.py_heap.specs.declared.value.Value.{Value}
use Rattle.py_heap.specs.declared.value.Value.TheVariants as v
use Rattle.py_heap.specs.Given.{given_list}
use Rattle.py_heap.specs.Heap.{Objects, text_of}
use Rattle.py_host.specs.declared.place.Place.{Place}
use Rattle.scons_decls.specs.declared.answer.Answer.{Answer}
use Rattle.scons_decls.specs.declared.answer.Answer.TheVariants as answer
use Rattle.scons_decls.specs.declared.call.Call.{Call}
use Rattle.scons_decls.specs.declared.call.Call.TheVariants as call
use Rattle.scons_decls.specs.declared.call.SayCall.{SayCall}
use Rattle.scons_decls.specs.declared.call.SayCall.TheVariants as say
use Rattle.scons_decls.specs.declared.given.Given.{Given}
use Rattle.scons_calls.specs.declared.request.Valued.{Valued}
use Rattle.scons_calls.specs.declared.request.Valued.TheVariants as valued
use Rattle.scons_calls.specs.declared.thing.Thing.TheVariants as thing
use Rattle.scons_calls.specs.Flattening.{flat_items}
use Rattle.scons_calls.specs.Results.{and_then}
use Rattle.scons_calls.specs.Values.{given_value, nodes_value, texts_value}
use Rattle.scons_host.specs.Asked.{Step, OnHeap, put_in, within, beside, object_of, declared, variable_step, new_text}
use Rattle.scons_host.specs.Lookups.{get}
use Rattle.scons_host.specs.Refusals.{of_call, of_value, told_by}
use Rattle.scons_host.specs.SoFar.{SoFar}

-- whether one node is answered, and no list
abbrev is_one : SayCall → Bool
is_one (say.Alias names members) = length names == 1
is_one (say.Depends targets nodes) = false
is_one (say.Requires targets nodes) = false
is_one (say.Ignore targets nodes) = false
is_one (say.AlwaysBuild targets) = false

abbrev pub is_single : Call → Bool
is_single (call.File node) = true
is_single (call.Dir node) = true
is_single (call.Says saying) = is_one saying
is_single other = false

-- the list of nodes, or the one node where no list is answered
abbrev nodes_step : SoFar → Objects → Bool → List Given → Step Value
nodes_step s h true (node ∷ []) = put_in s (given_value s.objects h node)
nodes_step s h single nodes = put_in s (nodes_value s.objects h nodes)

-- the value of an answer
abbrev pub answer_value : SoFar → Objects → Bool → Answer → Step Value
answer_value s h single answer.Nothing = Ok (v.Nil, s, h)
answer_value s h single (answer.Variable None) = Ok (v.Nil, s, h)
answer_value s h single (answer.Variable (Some x)) = variable_step s h x
answer_value s h single (answer.Env env) = beside h (Ok (object_of s (thing.Env env)))
answer_value s h single (answer.Targets nodes) = nodes_step s h single nodes
answer_value s h single (answer.Text text) = within s (new_text h text)
answer_value s h single (answer.Builder number) = beside h (Ok (object_of s (thing.Builder number)))

-- a call that is declared, and the value of its answer
abbrev pub declares : SoFar → Objects → Place → ℕ → Call → Step Value
declares s h place env one = and_then (declared s place env one) (λ d. answer_value d.1 h (is_single one) d.0)

abbrev pub new_list : Objects → List Value → OnHeap Value
new_list h items = told_by of_value (given_list h items)

-- a list or tuple as it is, and another value in a list
abbrev pub listed : Objects → Value → OnHeap Value
listed h (v.List id) = Ok (v.List id, h)
listed h (v.Tuple id) = Ok (v.Tuple id, h)
listed h x = new_list h (x ∷ [])

abbrev split_of : Objects → Value → Option (List ℕ) → OnHeap Value
split_of h x (Some text) = told_by of_value (texts_value h (words_of text))
split_of h x None = listed h x

-- `Split(arg)`: the words of a text, or a list
abbrev pub split : Objects → Value → OnHeap Value
split h x = split_of h x (text_of h x)

-- `Flatten(arg)`
abbrev pub flatten : Objects → Value → OnHeap Value
flatten h x = and_then (told_by (of_call (codes "Flatten")) (flat_items h (x ∷ []))) (new_list h)

-- what answers with a value alone
abbrev pub gives : SoFar → Objects → Place → ℕ → Valued → Step Value
gives s h place env (valued.Declare one) = declares s h place env one
gives s h place env (valued.Get name other) = get s h place env name other
gives s h place env (valued.Split x) = within s (split h x)
gives s h place env (valued.Flatten x) = within s (flatten h x)
gives s h place env valued.Nothing = Ok (v.Nil, s, h)
