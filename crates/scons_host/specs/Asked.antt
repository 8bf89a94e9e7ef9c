-- Attributes and items of objects: scons(1), "Construction Environments" and "File and Directory Nodes".
use Rattle.std.specs.Prelude.{ℕ, Bool, List, ◌∷◌, ◌++◌, Option, Some, None, Result, Ok, Err, codes, slice_get, if◌then◌else◌}
use Rattle.std.specs.Option.{ok_or, option_map}
use Rattle.std.specs.Str.{bytes_eq}
use Rattle.scons_base.specs.declared.ids.EnvId.{EnvId}
use Rattle.scons_base.specs.Normal.{is_top, is_root, slash}
use Rattle.scons_base.specs.Parts.{is_absolute, name_of}
use Rattle.env_vars.specs.declared.value.EnvValue.{EnvValue}
use Rattle.py_heap.specs.declared.value.Value.{Value}
use Rattle.py_heap.specs.declared.value.Value.TheVariants as v
use Rattle.py_heap.specs.Given.{given_text}
use Rattle.py_heap.specs.Heap.{Objects, text_of}
use Rattle.py_host.specs.declared.place.Place.{Place}
use Rattle.scons_decls.specs.declared.answer.Answer.{Answer}
use Rattle.scons_decls.specs.declared.answer.Answer.TheVariants as answer
use Rattle.scons_decls.specs.declared.call.Call.{Call}
use Rattle.scons_decls.specs.declared.call.Call.TheVariants as call
use Rattle.scons_decls.specs.declared.fault.NameFault.{NameFault}
use Rattle.scons_decls.specs.declared.fault.NameFault.TheVariants as fault
use Rattle.scons_decls.specs.declared.place.Place.{Place as Site}
use Rattle.scons_decls.specs.Environs.{builder_of}
use Rattle.scons_declare.specs.Names.{declared_by}
use Rattle.scons_calls.specs.declared.thing.Thing.{Thing}
use Rattle.scons_calls.specs.declared.thing.Thing.TheVariants as thing
use Rattle.scons_calls.specs.Identifiers.{is_identifier}
use Rattle.scons_calls.specs.Kinds.{pairs_in}
use Rattle.scons_calls.specs.LeftOut.{is_attribute_left_out}
use Rattle.scons_calls.specs.Names.{name_of_method}
use Rattle.scons_calls.specs.Results.{and_then, along}
use Rattle.scons_calls.specs.Things.{Things, numbered, number_named}
use Rattle.scons_calls.specs.Values.{Made, variable_value}
use Rattle.scons_calls.specs.Variables.{builder_by, variable_by}
use Rattle.scons_host.specs.declared.asked.Subject.{Subject}
use Rattle.scons_host.specs.declared.asked.Subject.TheVariants as subject
use Rattle.scons_host.specs.declared.end.ReadKind.TheVariants as read
use Rattle.scons_host.specs.declared.stop.Refusal.{Refusal}
use Rattle.scons_host.specs.declared.stop.Refusal.TheVariants.{Kind}
use Rattle.scons_host.specs.Refusals.{of_name, of_value, of_call, bad_argument, left_out, no_such_key, told_by, shown_as}
use Rattle.scons_host.specs.SoFar.{SoFar, with_objects, with_declared}

-- what a question of a line comes to: a value, what was read and the heap after it, or the first fault
abbrev pub Step : Type 0 → Type 0
Step X = Result (X × SoFar × Objects) Refusal

-- what comes to a value and a heap
abbrev pub OnHeap : Type 0 → Type 0
OnHeap X = Result (X × Objects) Refusal

-- in what was read so far, which stays
abbrev pub within : {X : Type 0} → SoFar → OnHeap X → Step X
within s made = and_then made (λ m. Ok (m.0, s, m.1))

-- values that were made with their objects
abbrev pub put_in : {X : Type 0} → SoFar → Made X → Step X
put_in s made = and_then (told_by of_value made) (λ m. Ok (m.0, with_objects s m.1, m.2))

-- the same of what leaves the heap as it is
abbrev pub beside : {X : Type 0} → Objects → Result (X × SoFar) Refusal → Step X
beside h made = and_then made (λ m. Ok (m.0, m.1, h))

abbrev pub value_of : ℕ → Value
value_of n = v.Object (record { 0 = n })

-- the object of a thing
abbrev pub object_of : SoFar → Thing → Value × SoFar
object_of s one = (value_of (numbered s.objects one).0, with_objects s (numbered s.objects one).1)

-- what a name stands for that neither scripts nor the language have: the arguments of the command line, or a name of SCons
abbrev pub name_in : SoFar → List ℕ → Option Value
name_in s name =
    if bytes_eq name (codes "ARGUMENTS") then Some s.arguments
    else option_map value_of (number_named s.objects name)

-- what an object is, as far as its attributes and items go
abbrev pub subject_of : Option Thing → Subject
subject_of (Some (thing.Env env)) = subject.Env env
subject_of (Some (thing.Builders env)) = subject.Builders env
subject_of (Some (thing.File path)) = subject.Path path
subject_of (Some (thing.Dir path)) = subject.Path path
subject_of (Some (thing.Builder number)) = subject.Made
subject_of (Some (thing.Alias name)) = subject.Made
subject_of (Some (thing.Name name)) = subject.Called
subject_of (Some (thing.Method env name)) = subject.Called
subject_of (Some (thing.OwnMethod env name)) = subject.Called
subject_of None = subject.Called

abbrev pub subject_at : SoFar → ℕ → Subject
subject_at s object = subject_of (slice_get s.objects object)

-- the method of an environment: a builder that it has by this name comes before the name of SCons that is written so
abbrev method_by : List ℕ → EnvId → Option ℕ → Option ℕ → Option Thing
method_by name env (Some builder) known = Some (thing.OwnMethod env name)
method_by name env None (Some n) = Some (thing.Method env (record { 0 = n }))
method_by name env None None = None

abbrev pub method_of : SoFar → EnvId → List ℕ → Option Thing
method_of s env name = method_by name env (builder_of s.declared.envs env.0 name) (name_of_method name)

-- an attribute that environments haven't: one that SCons's have, and that is left out here, is told as such
abbrev pub no_method : List ℕ → Refusal
no_method name = if is_attribute_left_out name then left_out name else Kind (read.Name (fault.UnknownBuilder name))

abbrev pub method_if : SoFar → List ℕ → Option Thing → Result (Value × SoFar) Refusal
method_if s name (Some one) = Ok (object_of s one)
method_if s name None = Err (no_method name)

abbrev pub method : SoFar → EnvId → List ℕ → Result (Value × SoFar) Refusal
method s env name = method_if s name (method_of s env name)

-- the absolute path of a path, where the top directory has this one
abbrev pub absolute : List ℕ → List ℕ → List ℕ
absolute top path =
    if is_absolute path then path
    else (if is_top path then top
    else (if is_root top then slash ∷ path else top ++ slash ∷ path))

abbrev pub new_text : Objects → List ℕ → OnHeap Value
new_text h text = told_by of_value (given_text h text)

-- what an attribute tells of a node or a directory, where the top directory has this path
abbrev pub path_part : List ℕ → Objects → List ℕ → List ℕ → OnHeap Value
path_part top h path name =
    if bytes_eq name (codes "path") then new_text h path
    else (if bytes_eq name (codes "abspath") then new_text h (absolute top path)
    else (if bytes_eq name (codes "name") then new_text h (name_of path)
    else Err (left_out name)))

abbrev pub attribute_of : SoFar → Objects → List ℕ → Subject → Step Value
attribute_of s h name (subject.Env env) = beside h (method s env name)
attribute_of s h name (subject.Path path) = within s (path_part s.top h path name)
attribute_of s h name (subject.Builders env) = Err (left_out name)
attribute_of s h name subject.Made = Err (left_out name)
attribute_of s h name subject.Called = Err (bad_argument name)

-- `env.Name`, `node.path`
abbrev pub attribute : SoFar → Objects → ℕ → List ℕ → Step Value
attribute s h object name = attribute_of s h name (subject_at s object)

-- the text that stands in the brackets
abbrev pub key_of : Objects → ℕ → Value → Result (List ℕ) Refusal
key_of h object key = ok_or (text_of h key) (bad_argument (shown_as h object))

abbrev pub site_of : Place → Site
site_of place = record { script = place.script; line = place.line }

-- a call that is declared: its answer, and what was read then
unfoldable pub declared_in : SoFar → Place → ℕ → Call → Result (Answer × SoFar) NameFault
declared_in s place env one =
    and_then (declared_by s.declared env (site_of place) one) (λ d. Ok (d.0, with_declared s d.1))

abbrev pub declared : SoFar → Place → ℕ → Call → Result (Answer × SoFar) Refusal
declared s place env one = told_by of_name (declared_in s place env one)

-- a call that answers nothing
abbrev pub made : SoFar → Place → ℕ → Call → Result SoFar Refusal
made s place env one = and_then (declared s place env one) (λ d. Ok d.1)

abbrev pub value_in : Answer → Option EnvValue
value_in (answer.Variable x) = x
value_in answer.Nothing = None
value_in (answer.Env env) = None
value_in (answer.Targets nodes) = None
value_in (answer.Text text) = None
value_in (answer.Builder number) = None

-- the value of a variable, if there is one
abbrev pub variable : SoFar → Place → ℕ → List ℕ → Result (Option EnvValue × SoFar) Refusal
variable s place env name = and_then (declared s place env (call.Get name)) (λ d. Ok (value_in d.0, d.1))

abbrev pub variable_step : SoFar → Objects → EnvValue → Step Value
variable_step s h x = put_in s (variable_value s.objects h x)

abbrev variable_if : List ℕ → Objects → Option EnvValue × SoFar → Step Value
variable_if name h (Some x, s) = variable_step s h x
variable_if name h (None, s) = Err (no_such_key name)

abbrev pub variable_item : SoFar → Objects → Place → ℕ → List ℕ → Step Value
variable_item s h place env name = and_then (variable s place env name) (variable_if name h)

abbrev builder_if : SoFar → List ℕ → Option ℕ → Result (Value × SoFar) Refusal
builder_if s name (Some number) = Ok (object_of s (thing.Builder number))
builder_if s name None = Err (no_such_key name)

abbrev pub builder_item : SoFar → EnvId → List ℕ → Result (Value × SoFar) Refusal
builder_item s env name = builder_if s name (builder_of s.declared.envs env.0 name)

-- the builders of an environment, among its variables
abbrev pub is_builders : List ℕ → Bool
is_builders name = bytes_eq name (codes "BUILDERS")

abbrev pub item_of : SoFar → Objects → Place → ℕ → List ℕ → Subject → Step Value
item_of s h place object name (subject.Env env) =
    if is_builders name then beside h (Ok (object_of s (thing.Builders env)))
    else variable_item s h place env.0 name
item_of s h place object name (subject.Builders env) = beside h (builder_item s env name)
item_of s h place object name (subject.Path path) = Err (bad_argument (shown_as h object))
item_of s h place object name subject.Made = Err (bad_argument (shown_as h object))
item_of s h place object name subject.Called = Err (bad_argument (shown_as h object))

-- `env['X']`, `env['BUILDERS']['N']`
abbrev pub item : SoFar → Objects → Place → ℕ → Value → Step Value
item s h place object key = and_then (key_of h object key) (λ name. item_of s h place object name (subject_at s object))

-- the value that a script gives a variable
abbrev pub variable_given : Objects → Things → List ℕ → Value → Result EnvValue Refusal
variable_given h things name x =
    if is_identifier name then told_by (of_call name) (variable_by h things name x) else Err (bad_argument name)

-- `env['X'] = v`
abbrev pub set_variable : SoFar → Objects → Place → ℕ → List ℕ → Value → Result SoFar Refusal
set_variable s h place env name x =
    and_then (variable_given h s.objects name x) (λ y. made s place env (call.Set name y))

-- the number of a builder that a name is given
abbrev pub builder_given : Objects → Things → Value → Result ℕ Refusal
builder_given h things x = told_by (of_call (codes "BUILDERS")) (builder_by h things x)

-- `env['BUILDERS']['N'] = b`
abbrev pub set_builder : SoFar → Objects → Place → ℕ → List ℕ → Value → Result SoFar Refusal
set_builder s h place env name x =
    and_then (builder_given h s.objects x) (λ number. made s place env (call.SetBuilder name number))

-- `env['BUILDERS'] = {..}` sets each in turn
abbrev pub set_pair : Objects → Place → ℕ → SoFar → Value × Value → Result SoFar Refusal
set_pair h place env s pair =
    and_then (ok_or (text_of h pair.0) (bad_argument (codes "BUILDERS"))) (λ name. set_builder s h place env name pair.1)

abbrev pub set_builders : SoFar → Objects → Place → ℕ → Value → Result SoFar Refusal
set_builders s h place env (v.Dict id) = along (set_pair h place env) s (pairs_in h id.0)
set_builders s h place env x = Err (left_out (codes "BUILDERS"))

abbrev pub set_item_of : SoFar → Objects → Place → ℕ → List ℕ → Value → Subject → Result SoFar Refusal
set_item_of s h place object name x (subject.Env env) =
    if is_builders name then set_builders s h place env.0 x else set_variable s h place env.0 name x
set_item_of s h place object name x (subject.Builders env) = set_builder s h place env.0 name x
set_item_of s h place object name x (subject.Path path) = Err (bad_argument (shown_as h object))
set_item_of s h place object name x subject.Made = Err (bad_argument (shown_as h object))
set_item_of s h place object name x subject.Called = Err (bad_argument (shown_as h object))

abbrev pub set_item : SoFar → Objects → Place → ℕ → Value → Value → Result SoFar Refusal
set_item s h place object key x =
    and_then (key_of h object key) (λ name. set_item_of s h place object name x (subject_at s object))
