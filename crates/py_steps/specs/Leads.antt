-- What a step at a desk owes: what is left after it leads to what was left before.
use Rattle.std.specs.Prelude.{◌≡◌, ℕ, ◌∷◌, Option, Result, Ok, Err}
use Rattle.py_tree.specs.Tree.{Tree}
use Rattle.py_heap.specs.declared.value.Value.{Value}
use Rattle.py_heap.specs.declared.value.Value.TheVariants as v
use Rattle.py_host.specs.Meaning.{Meaning}
use Rattle.py_meaning.specs.declared.fault.EvalKind.{EvalKind}
use Rattle.py_meaning.specs.States.{State, Frame, Out, Fault, goes_on, returns}
use Rattle.py_meaning.specs.Jobs.{Job, exec}
use Rattle.py_meaning.specs.Plans.{Plan, comes_to, stops, first, bind}
use Rattle.py_meaning.specs.Evaluates.{Follows, IsOwn, plan}
use Rattle.py_meaning.specs.Expressions.{plan_operations}
use Rattle.py_meaning.specs.Links.{plan_links}
use Rattle.py_meaning.specs.Statements.{assigned, statement}
use Rattle.py_state.specs.Stores.{state_of}
use Rattle.py_state.specs.declared.machine.Machine.{Machine}
use Rattle.py_state.specs.declared.stop.Stop.{Stop}
use Rattle.py_state.specs.declared.stop.Stop.TheVariants as stop
use Rattle.py_steps.specs.Desks.{tasks_of, values_of, top, below}
use Rattle.py_steps.specs.declared.desk.Desk.{Desk}
use Rattle.py_steps.specs.declared.statements.Flow.{Flow}
use Rattle.py_steps.specs.declared.statements.Flow.TheVariants as flow
use Rattle.py_steps.specs.declared.task.Task.{Task}
use Rattle.py_steps.specs.Todos.{left, gives_on}

-- what is left at a desk, in a state
abbrev pub left_in : Desk → State → Plan
left_in d s = left (tasks_of d) (values_of d) (goes_on s)

-- the same in the state of a machine and a frame
abbrev pub left_at : Desk → Machine → Frame → Plan
left_at d m f = left_in d (state_of m f)

-- the same with a task on top
abbrev pub left_with : Task → Desk → Machine → Frame → Plan
left_with t d m f = left (t ∷ tasks_of d) (values_of d) (goes_on (state_of m f))

-- the same behind a plan, and behind a line or a statement
abbrev pub plan_at : Plan → Desk → Plan
plan_at p d = bind p (left (tasks_of d) (values_of d))

abbrev pub exec_at : Tree → Desk → State → Plan
exec_at t d s = first (exec t) s (left (tasks_of d) (values_of d))

-- the uppermost value goes to a target
abbrev pub assigned_at : ℕ → Tree → Desk → State → Plan
assigned_at l t d s =
    bind (assigned l t (top (values_of d)) s (λ s1. comes_to (goes_on s1))) (left (tasks_of d) (below (values_of d)))

-- how it goes on at a desk with a value in the place of the uppermost one
abbrev pub in_place_at : Desk → Out → Plan
in_place_at d = gives_on (below (values_of d)) (left (tasks_of d))

-- what stands behind the uppermost value, and operators behind it
abbrev pub linked_at : Option ℕ → Tree → Desk → State → Plan
linked_at named ls d s = bind (plan_links (top (values_of d)) named ls s) (in_place_at d)

abbrev pub operated_at : Tree → Desk → State → Plan
operated_at os d s = bind (plan_operations (top (values_of d)) os s) (in_place_at d)

-- a value of which no host is asked
abbrev pub IsNoObject : Value → Type 0
IsNoObject (v.Object id) = ⊥
IsNoObject other = Unit {0}

abbrev pub told : ℕ → ℕ → EvalKind → Result Out Fault
told script line k = Err (record { place = record { script = script; line = line }; kind = k })

-- a stop is what was left comes to; no step ends the script, and want of memory says nothing
abbrev pub Stops : {H : Type 0} → Meaning H → ℕ → Plan → H → Stop → H → Type 0
Stops m c before h (stop.Fault script line k) h2 = Follows m c before h (told script line k) h2
Stops m c before h stop.End h2 = ⊥
Stops m c before h stop.Memory h2 = Unit {0}

-- whatever is left after a step comes to, was left before it
abbrev pub LeadsOn : {H : Type 0} → Meaning H → ℕ → Plan → H → Plan → H → Type 0
LeadsOn {H = H} m c before h after h2 =
    (r : Result Out Fault) (h3 : H) → Follows m c after h2 r h3 → Follows m c before h r h3

abbrev pub Leads : {H X : Type 0} → Meaning H → ℕ → Plan → H → Result X Stop → Plan → H → Type 0
Leads m c before h (Ok u) after h2 = LeadsOn m c before h after h2
Leads m c before h (Err e) after h2 = Stops m c before h e h2

-- what a step that gives a value owes: what goes on with the value in the state after it, was left before it
abbrev pub Gives : {H : Type 0} → Meaning H → ℕ → Plan → H → Result Value Stop → (Value → State → Plan) → State → H →
    Type 0
Gives m c before h (Ok x) f s h2 = LeadsOn m c before h (f x s) h2
Gives m c before h (Err e) f s h2 = Stops m c before h e h2

-- the same of a step that may end the body
abbrev pub Flows : {H : Type 0} → Meaning H → ℕ → Plan → H → Result Flow Stop → Plan → H → State → Type 0
Flows m c before h (Ok flow.GoesOn) after h2 s = LeadsOn m c before h after h2
Flows m c before h (Ok (flow.Returns x)) after h2 s = Follows m c before h (Ok (returns x s)) h2
Flows m c before h (Err e) after h2 s = Stops m c before h e h2

-- a step after which the body goes on
abbrev pub going : Result (Unit {0}) Stop → Result Flow Stop
going (Ok u) = Ok flow.GoesOn
going (Err e) = Err e

-- what was left is what is left now, where jobs are opened to their own plans
pub data Unfolds : Plan → Plan → Type 0 where
  same : {p q : Plan} → p ≡ q → Unfolds p q
  opens : {j : Job} {s : State} {k : Out → Plan} {q : Plan} → Unfolds (bind (plan j s) k) q → Unfolds (first j s k) q
  later : {j : Job} {s : State} {k l : Out → Plan} → ((o : Out) → Unfolds (k o) (l o)) →
      Unfolds (first j s k) (first j s l)

-- a step in which the host has no part
abbrev pub Steps : {X : Type 0} → Plan → Result X Stop → Plan → Type 0
Steps before (Ok u) after = Unfolds before after
Steps before (Err (stop.Fault script line k)) after =
    IsOwn k × Unfolds before (stops (record { script = script; line = line }) k)
Steps before (Err stop.End) after = ⊥
Steps before (Err stop.Memory) after = Unit {0}

-- the same of a step that may end the body
abbrev pub StepsOrReturns : Plan → Result Flow Stop → Plan → State → Type 0
StepsOrReturns before (Ok flow.GoesOn) after s = Unfolds before after
StepsOrReturns before (Ok (flow.Returns x)) after s = Unfolds before (comes_to (returns x s))
StepsOrReturns before (Err e) after s = Steps {X = Flow} before (Err e) after

-- what is left at a desk is a plan, in every state
abbrev pub HasLeft : Desk → (State → Plan) → Type 0
HasLeft d p = (s : State) → Unfolds (p s) (left_in d s)

-- a step at a desk does a task, in every state
abbrev pub DoesTask : {X : Type 0} → Task → Desk → Result X Stop → Desk → Type 0
DoesTask t d result d2 = (s : State) → Steps (left (t ∷ tasks_of d) (values_of d) (goes_on s)) result (left_in d2 s)

-- a step at a desk executes a statement, in every state
abbrev pub Executes : Tree → Desk → Result Flow Stop → Desk → Type 0
Executes t d result d2 = (s : State) → StepsOrReturns (plan_at (statement t s) d) result (left_in d2 s) s
