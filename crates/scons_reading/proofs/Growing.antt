-- The scripts that were read stay read: an answer leaves them, or puts one behind them.
use Rattle.std.proofs.Common.{◌≡◌, ◌++◌, ◌∷◌, [], subst, ℕ, Bool, true, false, List, Option, Some, None, Result, Ok, Err, IfOk, Contains}
use Rattle.std.specs.Prelude.{if◌then◌else◌, slice_get}
use Rattle.std.specs.Option.{ok_or}
use Rattle.std.proofs.lemmas.List.Elements.{Contains-append_left}
use Rattle.env_vars.specs.declared.value.EnvValue.{EnvValue}
use Rattle.py_heap.specs.declared.value.Value.{Value}
use Rattle.py_heap.specs.declared.value.Value.TheVariants as v
use Rattle.py_heap.specs.Heap.{Objects, text_of}
use Rattle.py_host.specs.declared.place.Place.{Place}
use Rattle.py_heap.specs.declared.ids.HostId.{HostId}
use Rattle.py_host.specs.Calls.{Question, Answer, Given}
use Rattle.py_host.specs.Calls as question
use Rattle.py_host.specs.Names.{Names}
use Rattle.py_tree.specs.Tree.{Tree}
use Rattle.scons_decls.specs.declared.answer.Answer.{Answer as Declared}
use Rattle.scons_decls.specs.declared.answer.Answer.TheVariants as answer
use Rattle.scons_decls.specs.declared.call.Call.{Call}
use Rattle.scons_decls.specs.declared.call.Call.TheVariants as call'
use Rattle.scons_decls.specs.declared.fault.NameFault.{NameFault}
use Rattle.scons_decls.specs.declared.given.Given.{Given as Node}
use Rattle.scons_decls.specs.declared.scripts.ScriptPlace.{ScriptPlace}
use Rattle.scons_decls.specs.Environs.{builder_of}
use Rattle.scons_decls.specs.Scripts as scripts
use Rattle.scons_declare.specs.Names.{declared_by}
use Rattle.scons_calls.specs.declared.request.Request.{Request}
use Rattle.scons_calls.specs.declared.request.Request.TheVariants as request
use Rattle.scons_calls.specs.declared.request.Shared.{Shared}
use Rattle.scons_calls.specs.declared.request.Shared.TheVariants as shared
use Rattle.scons_calls.specs.declared.request.Valued.{Valued}
use Rattle.scons_calls.specs.declared.request.Valued.TheVariants as valued
use Rattle.scons_calls.specs.declared.thing.Thing.{Thing}
use Rattle.scons_calls.specs.declared.thing.Thing.TheVariants as thing
use Rattle.scons_calls.specs.Kinds.{pairs_in}
use Rattle.scons_calls.specs.Results.{and_then, along, each}
use Rattle.scons_calls.specs.Values.{Made, given_value, nodes_value, variable_value}
use Rattle.scons_host.specs.declared.end.HostEnd.{HostEnd}
use Rattle.scons_host.specs.declared.stop.Refusal.{Refusal}
use Rattle.scons_host.specs.declared.stop.Stop.{Stop}
use Rattle.scons_host.specs.Answers.{is_single, answer_value, declares, split, flatten, gives}
use Rattle.scons_host.specs.Asked.{Step, OnHeap, put_in, within, beside, object_of, method_if, method_of, method, path_part, subject_of, subject_at, attribute_of, attribute, key_of, site_of, declared_in, declared, made, value_in, variable, variable_step, variable_item, builder_item, is_builders, item_of, item, variable_given, set_variable, builder_given, set_builder, set_pair, set_builders, set_item_of, set_item}
use Rattle.scons_host.specs.Called.{asks, shares}
use Rattle.scons_host.specs.Calling.{as_value, answered, call}
use Rattle.scons_host.specs.Files.{Files}
use Rattle.scons_host.specs.Globbing.{nodes_among, matched, dirs_of, glob}
use Rattle.scons_host.specs.Lookups.{get}
use Rattle.scons_host.specs.ReadingRules.{told, turn, place_in, nowhere, set_step, next_step}
use Rattle.scons_host.specs.Refusals.{of_name, of_refusal, bad_argument, no_such_key, told_by}
use Rattle.scons_host.specs.Scripts.{Look, or_further, answers, tree_by, begin, noted, begins, found, begins_at, begins_found, standing, next_begins, bytes_at, answer_of, runs, goes_on, go_on, next_file, opened, call_taken, with_answer, ended_in, script_done, left, first_by, first, next_by, next_path, some_tree, next_first}
use Rattle.scons_host.specs.Sharing.{import, return, innermost, with_exports, value_at, one_or_tuple, keep}
use Rattle.scons_host.specs.SoFar.{SoFar, Waiting, with_declared}
use Rattle.scons_host.specs.Turns.{Turn, answers_with}
use Rattle.std.specs.List.{flat_map}

-- what has been read before has been read
abbrev pub Grows : SoFar → SoFar → Type 0
Grows s t = (path : List ℕ) → Contains s.scripts path → Contains t.scripts path

pub stays : (s : SoFar) → Grows s s
stays s path c = c

pub joins : (s t u : SoFar) → Grows s t → Grows t u → Grows s u
joins s t u a b path c = b path (a path c)

-- steps one behind another

then_so : {X Y E : Type 0} (P : X → Type 0) (Q : Y → Type 0) (r : Result X E) (k : X → Result Y E) → IfOk r P → ((x : X) → P x → IfOk (k x) Q) → IfOk (and_then r k) Q
then_so P Q (Ok x) k is on = on x is
then_so P Q (Err e) k is on = tt

then_all : {X Y E : Type 0} (Q : Y → Type 0) (r : Result X E) (k : X → Result Y E) → ((x : X) → IfOk (k x) Q) → IfOk (and_then r k) Q
then_all Q (Ok x) k on = on x
then_all Q (Err e) k on = tt

told_so : {X D E : Type 0} (Q : X → Type 0) (f : D → E) (r : Result X D) → IfOk r Q → IfOk (told_by f r) Q
told_so Q f (Ok x) is = is
told_so Q f (Err e) is = tt

so_on : {X E : Type 0} (P Q : X → Type 0) (r : Result X E) → IfOk r P → ((x : X) → P x → Q x) → IfOk r Q
so_on P Q (Ok x) is on = on x is
so_on P Q (Err e) is on = tt

either_so : {X E : Type 0} (Q : X → Type 0) (b : Bool) (r1 r2 : Result X E) → IfOk r1 Q → IfOk r2 Q → IfOk (if b then r1 else r2) Q
either_so Q true r1 r2 a b = a
either_so Q false r1 r2 a b = b

-- what was read so far, beside a value, and beside a value and a heap
abbrev Pair : {X : Type 0} → SoFar → X × SoFar → Type 0
Pair s m = Grows s m.1

abbrev Triple : {X : Type 0} → SoFar → X × SoFar × Objects → Type 0
Triple s m = Grows s m.1

module _ (s : SoFar) where
  put_grows : {X : Type 0} (one : Made X) → IfOk (put_in s one) (Triple s)
  put_grows (Ok m) = stays s
  put_grows (Err e) = tt

  within_grows : {X : Type 0} (one : OnHeap X) → IfOk (within s one) (Triple s)
  within_grows (Ok m) = stays s
  within_grows (Err e) = tt

  beside_grows : {X : Type 0} (h : Objects) (one : Result (X × SoFar) Refusal) → IfOk one (Pair s) → IfOk (beside h one) (Triple s)
  beside_grows h (Ok m) is = is
  beside_grows h (Err e) is = tt

-- what is put in behind growth
put_behind : {X : Type 0} (s t : SoFar) (one : Made X) → Grows s t → IfOk (put_in t one) (Triple s)
put_behind s t one g = so_on (Triple t) (Triple s) (put_in t one) (put_grows t one) (λ m w. joins s t m.1 g w)

module _ (s : SoFar) (place : Place) (env : ℕ) where
  by_declared : (r : Result (Declared × _) NameFault) → IfOk (and_then r (λ d. let one : Result (Declared × SoFar) NameFault = Ok (d.0, with_declared s d.1) in one)) (Pair s)
  by_declared (Ok d) = stays s
  by_declared (Err e) = tt

  in_declared : (one : Call) → IfOk (declared_in s place env one) (Pair s)
  unfolding declared_in
  in_declared one = by_declared (declared_by s.declared env (site_of place) one)

  declared_grows : (one : Call) → IfOk (declared s place env one) (Pair s)
  declared_grows one = told_so (Pair s) of_name (declared_in s place env one) (in_declared one)

  made_grows : (one : Call) → IfOk (made s place env one) (Grows s)
  made_grows one = by (declared s place env one) (declared_grows one)
    where
      by : (r : Result (Declared × SoFar) Refusal) → IfOk r (Pair s) → IfOk (and_then r (λ d. let one : Result SoFar Refusal = Ok d.1 in one)) (Grows s)
      by (Ok d) is = is
      by (Err e) is = tt

  variable_grows : (name : List ℕ) → IfOk (variable s place env name) (Pair s)
  variable_grows name = by (declared s place env (call'.Get name)) (declared_grows (call'.Get name))
    where
      by : (r : Result (Declared × SoFar) Refusal) → IfOk r (Pair s) → IfOk (and_then r (λ d. let one : Result (Option EnvValue × SoFar) Refusal = Ok (value_in d.0, d.1) in one)) (Pair s)
      by (Ok d) is = is
      by (Err e) is = tt

  -- of a variable that was looked up
  abbrev if_there : List ℕ → Objects → Option EnvValue × SoFar → Step Value
  if_there name h (Some x, t) = variable_step t h x
  if_there name h (None, t) = Err (no_such_key name)

  abbrev or_other : Objects → Value → Option EnvValue × SoFar → Step Value
  or_other h other (Some x, t) = variable_step t h x
  or_other h other (None, t) = Ok (other, t, h)

  there_grows : (name : List ℕ) (h : Objects) (o : Option EnvValue) (t : SoFar) → Grows s t → IfOk (if_there name h (o, t)) (Triple s)
  there_grows name h (Some x) t g = put_behind s t (variable_value t.objects h x) g
  there_grows name h None t g = tt

  other_grows : (h : Objects) (other : Value) (o : Option EnvValue) (t : SoFar) → Grows s t → IfOk (or_other h other (o, t)) (Triple s)
  other_grows h other (Some x) t g = put_behind s t (variable_value t.objects h x) g
  other_grows h other None t g = g

  variable_item_grows : (h : Objects) (name : List ℕ) → IfOk (variable_item s h place env name) (Triple s)
  variable_item_grows h name = then_so (Pair s) (Triple s) (variable s place env name) (if_there name h) (variable_grows name) (λ m g. there_grows name h m.0 m.1 g)

  get_grows : (h : Objects) (name : List ℕ) (other : Value) → IfOk (get s h place env name other) (Triple s)
  get_grows h name other = then_so (Pair s) (Triple s) (variable s place env name) (or_other h other) (variable_grows name) (λ m g. other_grows h other m.0 m.1 g)

  set_variable_grows : (h : Objects) (name : List ℕ) (x : Value) → IfOk (set_variable s h place env name x) (Grows s)
  set_variable_grows h name x = then_all (Grows s) (variable_given h s.objects name x) (λ y. made s place env (call'.Set name y)) (λ y. made_grows (call'.Set name y))

  set_builder_grows : (h : Objects) (name : List ℕ) (x : Value) → IfOk (set_builder s h place env name x) (Grows s)
  set_builder_grows h name x = then_all (Grows s) (builder_given h s.objects x) (λ number. made s place env (call'.SetBuilder name number)) (λ number. made_grows (call'.SetBuilder name number))

  set_pair_grows : (h : Objects) (pair : Value × Value) → IfOk (set_pair h place env s pair) (Grows s)
  set_pair_grows h pair =
      then_all (Grows s) (ok_or (text_of h pair.0) (bad_argument _)) (λ name. set_builder s h place env name pair.1) (λ name. set_builder_grows h name pair.1)

  -- Declared calls.

  targets_grow : (t : SoFar) (h : Objects) (single : Bool) (nodes : List Node) → Grows s t → IfOk (answer_value t h single (answer.Targets nodes)) (Triple s)
  targets_grow t h true (node ∷ []) g = put_behind s t (given_value t.objects h node) g
  targets_grow t h true [] g = put_behind s t (nodes_value t.objects h []) g
  targets_grow t h true (node ∷ other ∷ more) g = put_behind s t (nodes_value t.objects h (node ∷ other ∷ more)) g
  targets_grow t h false nodes g = put_behind s t (nodes_value t.objects h nodes) g

  within_behind : {X : Type 0} (t : SoFar) (one : OnHeap X) → Grows s t → IfOk (within t one) (Triple s)
  within_behind t one g = so_on (Triple t) (Triple s) (within t one) (within_grows t one) (λ m w. joins s t m.1 g w)

  answer_grows : (t : SoFar) (h : Objects) (single : Bool) (a : Declared) → Grows s t → IfOk (answer_value t h single a) (Triple s)
  answer_grows t h single answer.Nothing g = g
  answer_grows t h single (answer.Variable None) g = g
  answer_grows t h single (answer.Variable (Some x)) g = put_behind s t (variable_value t.objects h x) g
  answer_grows t h single (answer.Env env) g = g
  answer_grows t h single (answer.Targets nodes) g = targets_grow t h single nodes g
  answer_grows t h single (answer.Text text) g = within_behind t _ g
  answer_grows t h single (answer.Builder number) g = g

  declares_grows : (h : Objects) (one : Call) → IfOk (declares s h place env one) (Triple s)
  declares_grows h one =
      then_so (Pair s) (Triple s) (declared s place env one) (λ d. answer_value d.1 h (is_single one) d.0) (declared_grows one) (λ d g. answer_grows d.1 h (is_single one) d.0 g)

  gives_grows : (h : Objects) (one : Valued) → IfOk (gives s h place env one) (Triple s)
  gives_grows h (valued.Declare one) = declares_grows h one
  gives_grows h (valued.Get name other) = get_grows h name other
  gives_grows h (valued.Split x) = within_grows s (split h x)
  gives_grows h (valued.Flatten x) = within_grows s (flatten h x)
  gives_grows h valued.Nothing = stays s

-- Attributes and items.

along_grows : {A : Type 0} (f : SoFar → A → Result SoFar Refusal) → ((t : SoFar) (a : A) → IfOk (f t a) (Grows t)) → (s : SoFar) (xs : List A) → IfOk (along f s xs) (Grows s)
along_grows f all s [] = stays s
along_grows f all s (a ∷ more) =
    then_so (Grows s) (Grows s) (f s a) (λ t. along f t more) (all s a) (λ t g. so_on (Grows t) (Grows s) (along f t more) (along_grows f all t more) (λ u w. joins s t u g w))

module _ (s : SoFar) (h : Objects) where
  method_grows : (name : List ℕ) (o : Option Thing) → IfOk (method_if s name o) (Pair s)
  method_grows name (Some one) = stays s
  method_grows name None = tt

  attribute_at : (name : List ℕ) (o : Option Thing) → IfOk (attribute_of s h name (subject_of o)) (Triple s)
  attribute_at name (Some (thing.Env env)) = beside_grows s h (method s env name) (method_grows name (method_of s env name))
  attribute_at name (Some (thing.Builders env)) = tt
  attribute_at name (Some (thing.File path)) = within_grows s (path_part s.top h path name)
  attribute_at name (Some (thing.Dir path)) = within_grows s (path_part s.top h path name)
  attribute_at name (Some (thing.Builder number)) = tt
  attribute_at name (Some (thing.Alias alias)) = tt
  attribute_at name (Some (thing.Name n)) = tt
  attribute_at name (Some (thing.Method env n)) = tt
  attribute_at name (Some (thing.OwnMethod env own)) = tt
  attribute_at name None = tt

  attribute_grows : (object : ℕ) (name : List ℕ) → IfOk (attribute s h object name) (Triple s)
  attribute_grows object name = attribute_at name (slice_get s.objects object)

  abbrev own_builder : List ℕ → Option ℕ → Result (Value × SoFar) Refusal
  own_builder name (Some number) = Ok (object_of s (thing.Builder number))
  own_builder name None = Err (no_such_key name)

  builder_grows : (name : List ℕ) (o : Option ℕ) → IfOk (own_builder name o) (Pair s)
  builder_grows name (Some number) = stays s
  builder_grows name None = tt

  item_at : (place : Place) (object : ℕ) (name : List ℕ) (o : Option Thing) → IfOk (item_of s h place object name (subject_of o)) (Triple s)
  item_at place object name (Some (thing.Env env)) =
      either_so (Triple s) (is_builders name) (beside h (Ok (object_of s (thing.Builders env)))) (variable_item s h place env.0 name) (stays s) (variable_item_grows s place env.0 h name)
  item_at place object name (Some (thing.Builders env)) = beside_grows s h (builder_item s env name) (builder_grows name (builder_of s.declared.envs env.0 name))
  item_at place object name (Some (thing.File path)) = tt
  item_at place object name (Some (thing.Dir path)) = tt
  item_at place object name (Some (thing.Builder number)) = tt
  item_at place object name (Some (thing.Alias alias)) = tt
  item_at place object name (Some (thing.Name n)) = tt
  item_at place object name (Some (thing.Method env n)) = tt
  item_at place object name (Some (thing.OwnMethod env own)) = tt
  item_at place object name None = tt

  item_grows : (place : Place) (object : ℕ) (key : Value) → IfOk (item s h place object key) (Triple s)
  item_grows place object key =
      then_all (Triple s) (key_of h object key) (λ name. item_of s h place object name (subject_at s object)) (λ name. item_at place object name (slice_get s.objects object))

  builders_grow : (place : Place) (env : ℕ) (x : Value) → IfOk (set_builders s h place env x) (Grows s)
  builders_grow place env (v.Dict id) = along_grows (set_pair h place env) (λ t pair. set_pair_grows t place env h pair) s (pairs_in h id.0)
  builders_grow place env x = tt

  set_at : (place : Place) (object : ℕ) (name : List ℕ) (x : Value) (o : Option Thing) → IfOk (set_item_of s h place object name x (subject_of o)) (Grows s)
  set_at place object name x (Some (thing.Env env)) =
      either_so (Grows s) (is_builders name) (set_builders s h place env.0 x) (set_variable s h place env.0 name x) (builders_grow place env.0 x) (set_variable_grows s place env.0 h name x)
  set_at place object name x (Some (thing.Builders env)) = set_builder_grows s place env.0 h name x
  set_at place object name x (Some (thing.File path)) = tt
  set_at place object name x (Some (thing.Dir path)) = tt
  set_at place object name x (Some (thing.Builder number)) = tt
  set_at place object name x (Some (thing.Alias alias)) = tt
  set_at place object name x (Some (thing.Name n)) = tt
  set_at place object name x (Some (thing.Method env n)) = tt
  set_at place object name x (Some (thing.OwnMethod env own)) = tt
  set_at place object name x None = tt

  set_item_grows : (place : Place) (object : ℕ) (key x : Value) → IfOk (set_item s h place object key x) (Grows s)
  set_item_grows place object key x =
      then_all (Grows s) (key_of h object key) (λ name. set_item_of s h place object name x (subject_at s object)) (λ name. set_at place object name x (slice_get s.objects object))

  set_step_grows : (place : Place) (object : ℕ) (key x : Value) → IfOk (set_step s h place object key x) (Triple s)
  set_step_grows place object key x = by (set_item s h place object key x) (set_item_grows place object key x)
    where
      by : (r : Result SoFar Refusal) → IfOk r (Grows s) → IfOk (and_then r (λ t. let one : Step (Unit {0}) = Ok (tt, t, h) in one)) (Triple s)
      by (Ok t) is = is
      by (Err e) is = tt

-- Scripts.

begin_grows : (s : SoFar) (path dir : List ℕ) → IfOk (begin s path dir) (Grows s)
begin_grows s path dir = by (scripts.begun s.declared dir)
  where
    by : (r : Result _ NameFault) → IfOk (and_then (told_by of_name r) (λ d. let one : Result SoFar Refusal = Ok (record s { declared = d; scripts = s.scripts ++ path ∷ [] }) in one)) (Grows s)
    by (Ok d) = λ other c. Contains-append_left s.scripts (path ∷ []) other c
    by (Err e) = tt

noted_grows : (s : SoFar) (path dir : List ℕ) (tree : Tree) → IfOk (noted s path dir tree) (Pair s)
noted_grows s path dir tree = by (begin s path dir) (begin_grows s path dir)
  where
    by : (r : Result SoFar Refusal) → IfOk r (Grows s) → IfOk (and_then (told_by of_refusal r) (λ t. let one : Result (Tree × SoFar) Stop = Ok (tree, t) in one)) (Pair s)
    by (Ok t) is = is
    by (Err e) is = tt

-- a script that begins, whatever its bytes are
begins_grows : (f : Files) (s : SoFar) (path bytes dir : List ℕ) → IfOk (begins f s (record { path = path; bytes = bytes }) dir) (Pair s)
begins_grows f s path bytes dir = then_all (Pair s) (tree_by path (f.form bytes)) (noted s path dir) (λ tree. noted_grows s path dir tree)

first_grows : (f : Files) (s : SoFar) (path : List ℕ) → IfOk (first f s path) (Pair s)
first_grows f s path = then_all (Pair s) (bytes_at f path) (first_by f s path) by
  where
    by : (bytes : Option (List ℕ)) → IfOk (first_by f s path bytes) (Pair s)
    by (Some bytes) = begins_grows f s path bytes _
    by None = tt

-- of some paths the first that stands begins
found_grows : (f : Files) (s : SoFar) (place : ScriptPlace) (paths : List (List ℕ)) → IfOk (and_then (standing f paths) (begins_at f s place)) (Pair s)
found_grows f s place [] = tt
found_grows f s place (path ∷ paths) = by (bytes_at f path) (found_grows f s place paths)
  where
    by : (r : Result (Option (List ℕ)) Stop) → IfOk (and_then (standing f paths) (begins_at f s place)) (Pair s)
        → IfOk (and_then (and_then r (or_further path (standing f paths))) (begins_at f s place)) (Pair s)
    by (Ok (Some bytes)) rest = begins_grows f s path bytes place.dir
    by (Ok None) rest = rest
    by (Err e) rest = tt

next_begins_grows : (f : Files) (s : SoFar) (one : Waiting) (file : Node) → IfOk (next_begins f s one file) (Pair s)
next_begins_grows f s one file = then_so (Pair s) (Pair s) (told_by of_refusal (found s one file)) (begins_found f) (place_grows (scripts.found_script s.declared one.env file one.variant one.duplicate)) (λ at g.
    so_on (Pair at.1) (Pair s) (begins_found f at) (found_grows f at.1 at.0 at.0.candidates) (λ m w. joins s at.1 m.1 g w))
  where
    place_grows : (r : Result (ScriptPlace × _) NameFault)
        → IfOk (told_by of_refusal (and_then (told_by of_name r) (λ at. let one : Result (ScriptPlace × SoFar) Refusal = Ok (at.0, with_declared s at.1) in one))) (Pair s)
    place_grows (Ok at) = stays s
    place_grows (Err e) = tt

goes_on_grows : (f : Files) (s : SoFar) (h : Objects) (o : Option Node) (one : Waiting) → IfOk (goes_on f s h (o, one)) (Triple s)
goes_on_grows f s h (Some file) one = then_so (Pair s) (Triple s) (next_begins f s one file) (runs h one) (next_begins_grows f s one file) (λ m g. g)
goes_on_grows f s h None one = by (answer_of h one)
  where
    by : (r : Result (Value × Objects) Refusal) → IfOk (and_then (told_by of_refusal r) (answers s)) (Triple s)
    by (Ok m) = stays s
    by (Err e) = tt

go_on_grows : (f : Files) (s : SoFar) (h : Objects) (one : Waiting) → IfOk (go_on f s h one) (Triple s)
go_on_grows f s h one = goes_on_grows f s h (next_file one).0 (next_file one).1

ended_grows : (f : Files) (s : SoFar) (h : Objects) (o : Option Waiting) → IfOk (ended_in f h (o, s)) (Triple s)
ended_grows f s h (Some one) = go_on_grows f s h (with_answer one)
ended_grows f s h None = stays s

next_first_grows : (f : Files) (s : SoFar) (o : Option (List ℕ)) → IfOk (next_by f (o, s)) (Pair s)
next_first_grows f s (Some path) = then_so (Pair s) (Pair s) (first f (left s) path) some_tree (first_grows f (left s) path) (λ m g. g)
next_first_grows f s None = stays s

-- Questions.

shares_grows : (s : SoFar) (h : Objects) (locals globals : Names) (one : Shared) → IfOk (shares s h locals globals one) (Triple s)
shares_grows s h locals globals (shared.Export exports) = by (with_exports locals globals s.exports exports)
  where
    by : (r : Result Names Refusal) → IfOk (and_then (and_then r (λ scope. let one : Result SoFar Refusal = Ok (record s { exports = scope }) in one)) (λ t. let one : Step Given = Ok (question.a_value v.Nil, t, h) in one)) (Triple s)
    by (Ok scope) = stays s
    by (Err e) = tt
shares_grows s h locals globals (shared.Import names) = by (import s names)
  where
    by : (r : Result Names Refusal) → IfOk (and_then r (λ scope. let one : Step Given = Ok (question.some_names scope, s, h) in one)) (Triple s)
    by (Ok scope) = stays s
    by (Err e) = tt
shares_grows s h locals globals (shared.Return names) =
    then_so (λ (m : SoFar × Objects). Grows s m.0) (Triple s) (return s h locals globals names) (λ m. let one : Step Given = Ok (question.the_end, m.0, m.1) in one) returned (λ m g. g)
  where
    returned : IfOk (return s h locals globals names) (λ m. Grows s m.0)
    returned =
        then_all (λ (m : SoFar × Objects). Grows s m.0) (each (value_at locals globals) names) (λ values. and_then (one_or_tuple h values) (λ m. let one : Result (SoFar × Objects) Refusal = Ok (keep s m.0, m.1) in one))
        (λ values. then_all (λ (m : SoFar × Objects). Grows s m.0) (one_or_tuple h values) (λ m. let one : Result (SoFar × Objects) Refusal = Ok (keep s m.0, m.1) in one) (λ m. stays s))

value_grows : (s : SoFar) (step : Step Value) → IfOk step (Triple s) → IfOk (as_value step) (Triple s)
value_grows s (Ok m) is = is
value_grows s (Err e) is = tt

glob_grows : (f : Files) (s : SoFar) (h : Objects) (env : ℕ) (pattern : List ℕ) → IfOk (glob f s h env pattern) (Triple s)
glob_grows f s h env pattern =
    then_all (Triple s) (dirs_of s env pattern) (λ dirs. matched s h env pattern (flat_map f.listed dirs)) (λ dirs.
    then_all (Triple s) (told_by of_name (nodes_among s.declared env pattern (flat_map f.listed dirs))) (λ nodes. put_in s (nodes_value s.objects h nodes)) (λ nodes. put_grows s (nodes_value s.objects h nodes)))

answered_grows : (f : Files) (s : SoFar) (h : Objects) (place : Place) (locals globals : Names) (env : ℕ) (one : Request) → IfOk (answered f s h place locals globals env one) (Triple s)
answered_grows f s h place locals globals env (request.Glob pattern) = value_grows s (glob f s h env pattern) (glob_grows f s h env pattern)
answered_grows f s h place locals globals env (request.Scripts files) =
    then_all (Triple s) (told_by of_refusal (opened place locals globals env files)) (go_on f s h) (λ one. go_on_grows f s h one)
answered_grows f s h place locals globals env (request.Shares one) = told_so (Triple s) of_refusal (shares s h locals globals one) (shares_grows s h locals globals one)
answered_grows f s h place locals globals env (request.Gives one) = value_grows s (gives s h place env one) (gives_grows s place env h one)

call_grows : (f : Files) (s : SoFar) (h : Objects) (place : Place) (locals globals : Names) (object : ℕ) (args : _) → IfOk (call f s h place locals globals object args) (Triple s)
call_grows f s h place locals globals object args =
    then_all (Triple s) (told_by of_refusal (asks s h object args)) (λ a. answered f s h place locals globals a.0 a.1) (λ a. answered_grows f s h place locals globals a.0 a.1)

next_step_grows : (f : Files) (s : SoFar) (h : Objects) → IfOk (next_step f s h) (Triple s)
next_step_grows f s h = then_so (Pair s) (Triple s) (next_first f s) (λ m. let one : Look (Option Tree) = Ok (m.0, m.1, h) in one) (next_first_grows f (next_path s).1 (next_path s).0) (λ m g. g)

pub answered_at : {X : Type 0} (s : SoFar) (place : Place) (object : Option HostId) (look : Look X) (x : X) (t : SoFar) (o : Objects)
    → (let turn : Turn SoFar HostEnd X = answers_with x t o in told s place object look ≡ turn) → look ≡ Ok (x, t, o)
answered_at s place object (Ok m) x t o is =
    let value : m.0 ≡ x = cc in
    let state : m.1 ≡ t = cc in
    let heap : m.2 ≡ o = cc in
    λ i. Ok (value i, state i, heap i)
answered_at s place object (Err e) x t o is = absurd cc

told_grows : {X : Type 0} (s : SoFar) (place : Place) (object : Option HostId) (look : Look X) (x : X) (t : SoFar) (o : Objects) → IfOk look (Triple s)
    → (let turn : Turn SoFar HostEnd X = answers_with x t o in told s place object look ≡ turn) → Grows s t
told_grows s place object look x t o grows is = subst (λ r. IfOk r (Triple s)) (answered_at s place object look x t o is) grows

pub turn_grows : (f : Files) (q : Question) (s t : SoFar) (h o : Objects) (x : Answer q) → (let turned : Turn SoFar HostEnd (Answer q) = answers_with x t o in turn f q s h ≡ turned) → Grows s t
turn_grows f (question.called place locals globals object args) s t h o x is = told_grows s place (Some (record { 0 = object })) (call f s h place locals globals object args) x t o (call_grows f s h place locals globals object args) is
turn_grows f (question.attribute place object name) s t h o x is =
    told_grows s place None (told_by of_refusal (attribute s h object name)) x t o (told_so (Triple s) of_refusal (attribute s h object name) (attribute_grows s h object name)) is
turn_grows f (question.item place object key) s t h o x is =
    told_grows s place None (told_by of_refusal (item s h place object key)) x t o (told_so (Triple s) of_refusal (item s h place object key) (item_grows s h place object key)) is
turn_grows f (question.set_item place object key y) s t h o x is =
    told_grows s place None (told_by of_refusal (set_step s h place object key y)) x t o (told_so (Triple s) of_refusal (set_step s h place object key y) (set_step_grows s h place object key y)) is
turn_grows f (question.script_done names) s t h o x is =
    told_grows s (place_in (innermost s)) None (script_done f s h) x t o (ended_grows f (call_taken (left s)).1 h (call_taken (left s)).0) is
turn_grows f question.next_script s t h o x is = told_grows s nowhere None (next_step f s h) x t o (next_step_grows f s h) is
