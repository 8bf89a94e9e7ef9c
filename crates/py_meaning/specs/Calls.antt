-- Calls: section 6.3.4 ("Calls") of the Python language reference. Each call costs one unit, and no more than the limit
-- are open at once (own). First what is called is looked at, then its arguments, then how many calls are open.
use Rattle.std.specs.Prelude.{ℕ, suc, zero, Bool, true, false, ◌&&◌, ◌==◌, List, [], ◌∷◌, ◌++◌, Option, Some, None}
use Rattle.std.specs.Prelude.{Result, Ok, Err, length, slice_get, if◌then◌else◌, codes}
use Rattle.py_tree.specs.Tree.{Tree}
use Rattle.py_heap.specs.declared.value.Value.{Value}
use Rattle.py_heap.specs.declared.value.Value.TheVariants as v
use Rattle.py_heap.specs.declared.value.Builtin.{Builtin}
use Rattle.py_heap.specs.declared.value.Builtin.TheVariants as builtin
use Rattle.py_heap.specs.declared.fault.ValueFault.{ValueFault}
use Rattle.py_heap.specs.Heap.{Objects}
use Rattle.py_heap.specs.Units.{Units, charged}
use Rattle.py_compare.specs.Outcomes.{Outcome, then_by}
use Rattle.py_compare.specs.Showing.{Shown, show_of, separator}
use Rattle.py_methods.specs.declared.name.Name.{Name}
use Rattle.py_methods.specs.Calls.{method_of}
use Rattle.py_builtins.specs.Builtins.{builtin_of}
use Rattle.py_host.specs.Names.{Names}
use Rattle.py_host.specs.Calls.{Question, Arguments, Given, a_value, a_script, some_names, the_end}
use Rattle.py_host.specs.Calls as question
use Rattle.py_meaning.specs.declared.fault.EvalKind.TheVariants as kind
use Rattle.py_meaning.specs.declared.fault.Called.{Called}
use Rattle.py_meaning.specs.declared.fault.Called.TheVariants as named
use Rattle.py_meaning.specs.States.{State, Frame, Function, Out, place_at, goes_on, breaks, continues, returns, ends}
use Rattle.py_meaning.specs.States.{with_units, with_frame, with_globals, globals_at, function_frame, script_frame}
use Rattle.py_host.specs.declared.place.Place.{Place}
use Rattle.py_meaning.specs.Jobs.{Job, Callee, perform, reply, inner_script, exec_all}
use Rattle.py_meaning.specs.Jobs as job
use Rattle.py_meaning.specs.Plans.{Plan, comes_to, stops, first, within_call, prints, value, faulty, goes, checked}
use Rattle.py_meaning.specs.Plans.{made, paid, asked_on}
use Rattle.py_meaning.specs.Arguments.{bound}
use Rattle.py_builtins.specs.Takes.{takes}
use Rattle.py_methods.specs.Names.{takes as method_takes}

-- values shown behind a text, with spaces between them
abbrev pub shown_line : ℕ → Objects → List ℕ → Units → List Value → Shown (List ℕ)
shown_line place h text u [] = Ok (text, u)
shown_line place h text u (x ∷ xs) =
    then_by (show_of h u x false) (λ shown. shown_line (suc place) h (text ++ gap place ++ shown.0) shown.1 xs)
  where
    gap : ℕ → List ℕ
    gap zero = []
    gap (suc n) = codes " "

-- what `print` prints: the values with spaces between them, and a line feed
abbrev pub printed : Objects → Units → List Value → Shown (List ℕ)
printed h u xs = then_by (shown_line 0 h [] u xs) (λ shown. Ok (shown.0 ++ 10 ∷ [], shown.1))

-- no named argument, and a number of positional ones that is taken
abbrev pub plain_arguments : Bool → Arguments → Bool
plain_arguments taken given = (length given.named == 0) && taken

abbrev opened : ℕ → Job → State → Plan
opened l j s = within_call j s (place_at l s) comes_to

-- a function ends with what it returns, or None, and the names of the caller stand again
abbrev returned : Frame → Out → Plan
returned caller (returns x s) = value x (with_frame s caller)
returned caller (goes_on s) = value v.Nil (with_frame s caller)
returned caller (breaks s) = value v.Nil (with_frame s caller)
returned caller (continues s) = value v.Nil (with_frame s caller)
returned caller other = comes_to other

abbrev pub entered : ℕ → Function → Option Names → State → Plan
entered l f None s = faulty l (kind.Args (named.Function f.name)) s
entered l f (Some names) s =
    within_call (exec_all f.body) (with_frame s (function_frame s.frame f names)) (place_at l s) (returned s.frame)

abbrev function_called : ℕ → Option Function → Arguments → State → Plan
function_called l None given s = faulty l kind.NotCallable s
function_called l (Some f) given s = entered l f (bound f.parameters given) s

abbrev if_taken : ℕ → Called → Bool → Job → State → Plan
if_taken l x true j s = opened l j s
if_taken l x false j s = faulty l (kind.Args x) s

abbrev pub begun : ℕ → Callee → Arguments → State → Plan
begun l (job.a_value (v.Func id)) given s = function_called l (slice_get s.functions id.0) given s
begun l (job.a_value (v.Builtin b)) given s =
    if_taken l (named.Builtin b) (plain_arguments (takes b (length given.positional)) given)
    (perform l (job.a_value (v.Builtin b)) given) s
begun l (job.a_value (v.Object id)) given s = opened l (perform l (job.a_value (v.Object id)) given) s
begun l (job.a_value other) given s = faulty l kind.NotCallable s
begun l (job.a_method x n) given s =
    if_taken l (named.Method n) (plain_arguments (method_takes n (length given.positional)) given)
    (perform l (job.a_method x n) given) s

abbrev pub plan_call : ℕ → Callee → Arguments → State → Plan
plan_call l callee given s = paid l s (begun l callee given)

abbrev print_done : ℕ → List ℕ × Units → State → Plan
print_done l shown s = prints shown.0 (place_at l s) (value v.Nil (with_units s shown.1))

abbrev builtin_done : ℕ → Builtin → List Value → State → Plan
builtin_done l builtin.Print xs s = checked l s (printed s.objects s.units xs) (λ shown. print_done l shown s)
builtin_done l b xs s = made l s (builtin_of s.objects s.units b xs)

-- the question that the call of an object on a line is: it has the names of the function that calls, and those of its script
abbrev pub call_question : ℕ → ℕ → Arguments → State → Question
call_question l object given s =
    question.called (place_at l s) s.frame.values (globals_at s s.frame.script) object given

-- the question at the end of a script, which has the names that it leaves
abbrev pub end_question : ℕ → State → Question
end_question script s = question.script_done (globals_at s script)

-- a call that is open, of what isn't a function of scripts
abbrev pub plan_perform : ℕ → Callee → Arguments → State → Plan
plan_perform l (job.a_value (v.Builtin b)) given s = builtin_done l b given.positional s
plan_perform l (job.a_value (v.Object id)) given s =
    asked_on l (call_question l id.0 given s) s (λ g s1. goes (reply l g) s1)
plan_perform l (job.a_value other) given s = faulty l kind.NotCallable s
plan_perform l (job.a_method x n) given s = made l s (method_of s.objects s.units x n given.positional)

abbrev pub plan_reply : ℕ → Given → State → Plan
plan_reply l (a_value x) s = value x s
plan_reply l (some_names names) s = value v.Nil (with_globals s s.frame.running names)
plan_reply l the_end s = comes_to (ends s)
plan_reply l (a_script t) s = goes (inner_script l t) s

-- a script with names of its own, numbered behind those that have begun
abbrev pub script_begun : State → State
script_begun s = record s { globals = s.globals ++ [] ∷ []; frame = script_frame (length s.globals) }

-- the first line of the script that would be next
abbrev pub next_place : State → Place
next_place s = record { script = length s.globals; line = 1 }

abbrev charged_script : State → (State → Plan) → Result Units ValueFault → Plan
charged_script s f (Ok u) = f (with_units s u)
charged_script s f (Err e) = stops (next_place s) (kind.Value e)

-- a script that is begun behind another one costs one unit, on its first line
abbrev pub paid_script : State → (State → Plan) → Plan
paid_script s f = charged_script s f (charged s.units 1)

abbrev further : ℕ → Given → State → Plan
further l (a_script t) s = paid_script s (λ s1. goes (inner_script l t) s1)
further l given s = goes (reply l given) s

abbrev script_over : ℕ → State → State → Plan
script_over l before s =
    asked_on l (end_question (length before.globals) s) (with_frame s before.frame) (further l)

-- once the script has ended, what the host says of it is the reply to the call
abbrev pub after_script : (State → Plan) → Out → Plan
after_script f (goes_on s) = f s
after_script f (breaks s) = f s
after_script f (continues s) = f s
after_script f (returns x s) = f s
after_script f (ends s) = f s
after_script f other = comes_to other

abbrev pub plan_inner_script : ℕ → Tree → State → Plan
plan_inner_script l t s = first (exec_all t) (script_begun s) (after_script (script_over l s))
