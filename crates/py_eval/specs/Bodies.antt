-- What calls, bodies and scripts owe: what they answer is what their plans come to.
use Rattle.std.specs.Prelude.{◌≡◌, ℕ, Option, Some, None, Result, Ok, Err}
use Rattle.py_tree.specs.Tree.{script_tree}
use Rattle.py_heap.specs.declared.value.Value.{Value}
use Rattle.py_host.specs.Meaning.{Meaning}
use Rattle.py_meaning.specs.declared.fault.Exit.{Exit}
use Rattle.py_meaning.specs.declared.fault.Exit.TheVariants as exit'
use Rattle.py_meaning.specs.States.{State, Frame, Out, gives, goes_on, breaks, continues, returns, ends, exits}
use Rattle.py_meaning.specs.States.{with_frame}
use Rattle.py_meaning.specs.Jobs.{first_scripts}
use Rattle.py_meaning.specs.Plans.{Plan, comes_to, stops, value, goes}
use Rattle.py_meaning.specs.Evaluates.{Follows, IsOwn}
use Rattle.py_state.specs.Stores.{Store, state_by}
use Rattle.py_state.specs.declared.stop.Stop.{Stop}
use Rattle.py_state.specs.declared.stop.Stop.TheVariants as stop
use Rattle.py_steps.specs.Leads.{LeadsOn, Stops, told}
use Rattle.py_steps.specs.Todos.{settled}
use Rattle.py_steps.specs.declared.statements.Flow.{Flow}
use Rattle.py_steps.specs.declared.statements.Flow.TheVariants as flow
use Rattle.py_eval.specs.declared.scripts.Next.{Next}
use Rattle.py_eval.specs.declared.scripts.Next.TheVariants as next'

-- a stop within a script is what was to be done comes to: a fault, or the end of the script with this state but for the frame;
-- want of memory says nothing
abbrev pub Halts : {H : Type 0} → Meaning H → ℕ → Plan → H → Stop → State → H → Type 0
Halts m c p h (stop.Fault script line k) s h2 = Follows m c p h (told script line k) h2
Halts m c p h stop.End s h2 = (f : Frame) × Follows m c p h (Ok (ends (with_frame s f))) h2
Halts m c p h stop.Memory s h2 = Unit {0}

-- a call gives a value
abbrev pub GivesOrHalts : {H : Type 0} → Meaning H → ℕ → Plan → H → Result Value Stop → State → H → Type 0
GivesOrHalts m c p h (Ok x) s h2 = Follows m c p h (Ok (gives x s)) h2
GivesOrHalts m c p h (Err e) s h2 = Halts m c p h e s h2

-- a call in which the host has no part gives a value
abbrev pub GivesAlone : Plan → Result Value Stop → State → Type 0
GivesAlone p (Ok x) s = p ≡ value x s
GivesAlone p (Err (stop.Fault script line k)) s = IsOwn k × (p ≡ stops (record { script = script; line = line }) k)
GivesAlone p (Err stop.End) s = ⊥
GivesAlone p (Err stop.Memory) s = Unit {0}

-- what is left after a task leads to what was left before
abbrev pub LeadsOrHalts : {H X : Type 0} → Meaning H → ℕ → Plan → H → Result X Stop → (X → Plan) → State → H → Type 0
LeadsOrHalts m c before h (Ok x) after s h2 = LeadsOn m c before h (after x) h2
LeadsOrHalts m c before h (Err e) after s h2 = Halts m c before h e s h2

-- the same of a task that may end the body
abbrev pub FlowsOrHalts : {H : Type 0} → Meaning H → ℕ → Plan → H → Result Flow Stop → Plan → State → H → Type 0
FlowsOrHalts m c before h (Ok flow.GoesOn) after s h2 = LeadsOn m c before h after h2
FlowsOrHalts m c before h (Ok (flow.Returns x)) after s h2 = Follows m c before h (Ok (returns x s)) h2
FlowsOrHalts m c before h (Err e) after s h2 = Halts m c before h e s h2

-- the same of a question to the host, by its answer
abbrev pub LeadsOrStops : {H X : Type 0} → Meaning H → ℕ → Plan → H → Result X Stop → (X → Plan) → H → Type 0
LeadsOrStops m c before h (Ok x) after h2 = LeadsOn m c before h (after x) h2
LeadsOrStops m c before h (Err e) after h2 = Stops m c before h e h2

-- a body ends with what it returns, if it returns
abbrev pub EndsOrHalts : {H : Type 0} → Meaning H → ℕ → Plan → H → Result (Option Value) Stop → State → H → Type 0
EndsOrHalts m c p h (Ok (Some x)) s h2 = Follows m c p h (Ok (returns x s)) h2
EndsOrHalts m c p h (Ok None) s h2 = (o : Out) × Follows m c p h (Ok o) h2 × (settled o ≡ goes_on s)
EndsOrHalts m c p h (Err e) s h2 = Halts m c p h e s h2

-- how the lines of a script come out, by whether the host ended it
abbrev pub IsOver : Exit → Out → State → Type 0
IsOver exit'.Returned o s = o ≡ ends s
IsOver exit'.End (goes_on s1) s = s1 ≡ s
IsOver exit'.End (breaks s1) s = s1 ≡ s
IsOver exit'.End (continues s1) s = s1 ≡ s
IsOver exit'.End (returns x s1) s = s1 ≡ s
IsOver exit'.End other s = ⊥

-- the lines of a script are over, and leave what the machine keeps
abbrev pub IsOverOrStops : {H : Type 0} → Meaning H → ℕ → Plan → H → Result Exit Stop → Store → H → Type 0
IsOverOrStops m c p h (Ok exit) kept h2 =
    (f : Frame) × (o : Out) × Follows m c p h (Ok o) h2 × IsOver exit o (state_by kept f)
IsOverOrStops m c p h (Err e) kept h2 = Stops m c p h e h2

-- how it goes on behind a first script
abbrev pub next_plan : Next → State → Plan
next_plan (next'.Script t) s = goes (first_scripts (script_tree t)) s
next_plan (next'.Exit exit) s = comes_to (exits exit s)

-- a first script is over, and what is left behind it leads to what was left before
abbrev pub LeadsToNext : {H : Type 0} → Meaning H → ℕ → Plan → H → Result Next Stop → Store → H → Type 0
LeadsToNext m c p h (Ok next) kept h2 = (f : Frame) × LeadsOn m c p h (next_plan next (state_by kept f)) h2
LeadsToNext m c p h (Err e) kept h2 = Stops m c p h e h2

-- all scripts have run
abbrev pub ExitsOrStops : {H : Type 0} → Meaning H → ℕ → Plan → H → Result Exit Stop → Store → H → Type 0
ExitsOrStops m c p h (Ok exit) kept h2 = (f : Frame) × Follows m c p h (Ok (exits exit (state_by kept f))) h2
ExitsOrStops m c p h (Err e) kept h2 = Stops m c p h e h2
