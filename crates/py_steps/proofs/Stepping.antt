-- What is left after a step leads to what was left before it.
use Rattle.std.proofs.Common.{◌≡◌, ◌≢◌, ◌∙◌, ℕ, List, ◌∷◌, Result, Ok, Err, ap, sym, subst}
use denote.Ref.{Bor}
use Rattle.py_heap.specs.declared.fault.ValueFault.{ValueFault}
use Rattle.py_heap.specs.declared.fault.ValueFault.TheVariants as fault
use Rattle.py_meaning.specs.declared.fault.EvalKind.TheVariants as kind
use Rattle.py_state.specs.Stops.{value_stop}
use Rattle.py_steps.proofs.Going.{onto}
use Rattle.py_host.specs.Meaning.{Meaning}
use Rattle.py_meaning.specs.States.{State, Frame, Out, Fault, place_at, goes_on, returns}
use Rattle.py_meaning.specs.Lookup.{with_bound}
use Rattle.py_meaning.specs.Plans.{Plan, comes_to, stops}
use Rattle.py_meaning.specs.Evaluates.{Follows, done, stopped, then, then_stopped}
use Rattle.py_meaning.proofs.Binding.{unfolds}
use Rattle.py_state.specs.declared.stop.Stop.{Stop}
use Rattle.py_state.specs.declared.stop.Stop.TheVariants as stop
use Rattle.py_steps.specs.Leads.{Unfolds, same, opens, later, Steps, StepsOrReturns, Leads, LeadsOn, Stops, Flows, going, left_at, left_with}
use Rattle.py_heap.specs.declared.value.Value.{Value}
use Rattle.py_state.specs.Stores.{state_of}
use Rattle.py_state.specs.declared.machine.Machine.{Machine}
use Rattle.py_steps.specs.Desks.{stacks_of, tasks_of, values_of, top, below}
use Rattle.py_steps.specs.Todos.{left}
use Rattle.py_steps.specs.declared.desk.Desk.{Desk}
use Rattle.py_steps.specs.declared.task.Task.{Task}
use Rattle.py_steps.specs.declared.task.Task.TheVariants as task
use Rattle.py_steps.proofs.Rests.{arrives, left_returns}
use Rattle.py_steps.specs.declared.statements.Flow.{Flow}
use Rattle.py_steps.specs.declared.statements.Flow.TheVariants as flow

pub goes : {H : Type 0} {m : Meaning H} {c : ℕ} {p q : Plan} {h h2 : H} {r : Result Out Fault} → Unfolds p q → Follows m c q h r h2 → Follows m c p h r h2
goes {m = m} {c = c} {h = h} {h2 = h2} {r = r} (same e) d = subst (λ x. Follows m c x h r h2) (sym e) d
goes (opens {j = j} {s = s} u) d = unfolds j s (goes u d)
goes (later f) (then o h1 a b) = then o h1 a (goes (f o) b)
goes (later f) (then_stopped e a) = then_stopped e a

pub leads : {H X : Type 0} (m : Meaning H) (c : ℕ) (p q : Plan) (h : H) (result : Result X Stop) → Steps p result q → Leads m c p h result q h
leads m c p q h (Ok u) g = λ r h3 d. goes g d
leads m c p q h (Err (stop.Fault script line k)) g = goes g.1 (stopped g.0)
leads m c p q h (Err stop.End) g = absurd g
leads m c p q h (Err stop.Memory) g = tt

-- a fault of an operation stops what was left
pub stops_value : {H : Type 0} {p : Plan} (m : Meaning H) (c : ℕ) (h : H) (l : ℕ) (s : State) (e : ValueFault) → (e ≢ fault.Memory → Unfolds p (stops (place_at l s) (kind.Value e))) → Stops m c p h (value_stop s.frame.script l e) h
stops_value m c h l s fault.Memory u = tt
stops_value m c h l s e u = goes (u (λ p. cc)) (stopped tt)

pub leads_on : {H : Type 0} {m : Meaning H} {c : ℕ} {p q r : Plan} {h : H} → Unfolds p q → r ≡ q → LeadsOn m c p h r h
leads_on u e = λ r h3 d. goes (onto u e) d

-- the same of a step in which the host has no part
pub steps_value : (X : Type 0) (p q : Plan) (l : ℕ) (s : State) (e : ValueFault) → (e ≢ fault.Memory → Unfolds p (stops (place_at l s) (kind.Value e))) → Steps {X = X} p (Err (value_stop s.frame.script l e)) q
steps_value X p q l s fault.Memory u = tt
steps_value X p q l s e u = (tt, u (λ p. cc))

-- a step after which the body goes on, and one that may end it
pub flows_going : {H : Type 0} (m : Meaning H) (c : ℕ) (p q : Plan) (h h2 : H) (s : State) (result : Result (Unit {0}) Stop) → Leads m c p h result q h2 → Flows m c p h (going result) q h2 s
flows_going m c p q h h2 s (Ok u) g = g
flows_going m c p q h h2 s (Err e) g = g

pub flows : {H : Type 0} (m : Meaning H) (c : ℕ) (p q : Plan) (h : H) (s : State) (result : Result Flow Stop) → StepsOrReturns p result q s → Flows m c p h result q h s
flows m c p q h s (Ok flow.GoesOn) g = λ r h3 d. goes g d
flows m c p q h s (Ok (flow.Returns x)) g = goes g done
flows m c p q h s (Err e) g = leads {X = Flow} m c p q h (Err e) g

-- what leads to a plan leads to those that come to the same
pub leads_from : {H X : Type 0} (m : Meaning H) (c : ℕ) (p p' q : Plan) (h h2 : H) (result : Result X Stop) → ((r : Result Out Fault) (h3 : H) → Follows m c p h r h3 → Follows m c p' h r h3) → Leads m c p h result q h2 → Leads m c p' h result q h2
leads_from m c p p' q h h2 (Ok u) f g = λ r h3 d. f r h3 (g r h3 d)
leads_from m c p p' q h h2 (Err (stop.Fault script line k)) f g = f _ h2 g
leads_from m c p p' q h h2 (Err stop.End) f g = absurd g
leads_from m c p p' q h h2 (Err stop.Memory) f g = tt

-- a stop that is handed on
pub leads_no_more : {H X : Type 0} (m : Meaning H) (c : ℕ) (p q : Plan) (h h2 : H) (result : Result X Stop) (y x : Stop) → result ≡ Err y → y ≡ x → Stops m c p h x h2 → Leads m c p h result q h2
leads_no_more {X = X} m c p q h h2 result y x e f g =
    subst (λ (z : Result X Stop). Leads m c p h z q h2) (sym e) (subst (λ (z : Stop). Stops m c p h z h2) (sym f) g)

-- between plans that are the same
pub leads_between : {H : Type 0} (m : Meaning H) (c : ℕ) (p p' q q' : Plan) (h h2 : H) → p' ≡ p → q' ≡ q → LeadsOn m c p h q h2 → LeadsOn m c p' h q' h2
leads_between m c p p' q q' h h2 e f g =
    subst (λ (x : Plan). LeadsOn m c x h q' h2) (sym e) (subst (λ (x : Plan). LeadsOn m c p h x h2) (sym f) g)

pub stops_before : {H : Type 0} (m : Meaning H) (c : ℕ) (p p' : Plan) (h h2 : H) (x : Stop) → p' ≡ p → Stops m c p h x h2 → Stops m c p' h x h2
stops_before m c p p' h h2 x e g = subst (λ (y : Plan). Stops m c y h x h2) (sym e) g

-- the step of a task
pub on_leads : {H : Type 0} (m : Meaning H) (c : ℕ) (t t' : Task) (d d' : Desk) (a a' : Machine) (f f' : Frame) (h h2 : H) (r : Result (Unit {0}) Stop) (x : Result Flow Stop) → t ≡ t' → x ≡ going r → Leads m c (left_with t' d a f) h r (left_at d' a' f') h2 → Flows m c (left_with t d a f) h x (left_at d' a' f') h2 (state_of a' f')
on_leads m c t t' d d' a a' f f' h h2 r x e g u =
    let q = left_at d' a' f' in
    let s = state_of a' f' in
    subst (λ (y : Task). Flows m c (left_with y d a f) h x q h2 s) (sym e)
    (subst (λ (y : Result Flow Stop). Flows m c (left_with t' d a f) h y q h2 s) (sym g) (flows_going m c (left_with t' d a f) q h h2 s r u))

pub on_steps : {H : Type 0} (m : Meaning H) (c : ℕ) (t t' : Task) (d d' : Desk) (a a' : Machine) (f f' : Frame) (h : H) (r : Result (Unit {0}) Stop) (x : Result Flow Stop) → t ≡ t' → x ≡ going r → Steps (left_with t' d a f) r (left_at d' a' f') → Flows m c (left_with t d a f) h x (left_at d' a' f') h (state_of a' f')
on_steps m c t t' d d' a a' f f' h r x e g u = on_leads m c t t' d d' a a' f f' h h r x e g (leads m c (left_with t' d a f) (left_at d' a' f') h r u)

-- statements, which may end the body, and a value that does
pub on_statements : {H : Type 0} (m : Meaning H) (c : ℕ) (t t' : Task) (d d' : Desk) (a a' : Machine) (f : Frame) (h : H) (r : Result Flow Stop) → t ≡ t' → StepsOrReturns (left_with t' d a f) r (left_at d' a' f) (state_of a' f) → Flows m c (left_with t d a f) h r (left_at d' a' f) h (state_of a' f)
on_statements m c t t' d d' a a' f h r e u =
    subst (λ (y : Task). Flows m c (left_with y d a f) h r (left_at d' a' f) h (state_of a' f)) (sym e) (flows m c (left_with t' d a f) (left_at d' a' f) h (state_of a' f) r u)

pub on_return : {H : Type 0} (m : Meaning H) (c : ℕ) (t : Task) (d : Desk) (a : Machine) (f : Frame) (h : H) (x : Value) → t ≡ task.Return → x ≡ top (values_of d) → Follows m c (left_with t d a f) h (Ok (returns x (state_of a f))) h
on_return m c t d a f h x e g =
    let s = state_of a f in
    let out : Value → Result Out Fault = λ y. Ok (returns y s) in
    let over : Follows m c (comes_to (returns (top (values_of d)) s)) h (out (top (values_of d))) h = done in
    subst (λ (y : Task). Follows m c (left_with y d a f) h (out x) h) (sym e)
    (subst (λ (y : Value). Follows m c (left_with task.Return d a f) h (out y) h) (sym g)
    (subst (λ (p : Plan). Follows m c p h (out (top (values_of d))) h) (sym (left_returns (tasks_of d) (below (values_of d)) (top (values_of d)) s)) over))

-- a name that takes the uppermost value
pub bound_at : (d d' : Desk) (n : Bor (List ℕ)) (x : Value) (s s' : State) → x ≡ top (values_of d) → stacks_of d' ≡ record { tasks = tasks_of d; values = below (values_of d) } → s' ≡ with_bound s n.now x → Unfolds (left (task.Bind n ∷ tasks_of d) (values_of d) (goes_on s)) (left (tasks_of d') (values_of d') (goes_on s'))
bound_at d d' n x s s' e a g =
    arrives d' (goes_on s') a (same (ap (λ y. left (tasks_of d) (below (values_of d)) (goes_on y)) (sym (g ∙ ap (with_bound s n.now) e))))
