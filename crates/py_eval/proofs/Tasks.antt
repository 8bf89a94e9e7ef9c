-- The tasks of a body: what is left at the beginning and at the end, and a call among them.
use Rattle.std.proofs.Common.{◌≡◌, ◌∙◌, ℕ, List, [], ◌∷◌, map, Option, Result, Ok, Err, refl, sym, subst, ap}
use denote.Ref.{Bor}
use Rattle.py_tree.specs.Tree.{trees, line_tree}
use Rattle.py_tree.specs.declared.line.Line.{Line}
use Rattle.py_heap.specs.declared.value.Value.{Value}
use Rattle.py_heap.specs.declared.fault.ValueFault.{ValueFault}
use Rattle.py_heap.specs.declared.fault.ValueFault.TheVariants as fault
use Rattle.py_heap.specs.Units.{Units, charged}
use Rattle.py_methods.specs.declared.name.Name.{Name}
use Rattle.py_host.specs.Calls.{Arguments}
use Rattle.py_host.specs.Meaning.{Meaning}
use Rattle.py_meaning.specs.States.{State, Fault, Out, gives, all_give, goes_on, breaks, continues, returns, ends, exits, with_frame, with_units}
use Rattle.py_meaning.specs.Jobs.{Job, call, exec_all}
use Rattle.py_meaning.specs.Plans.{Plan, comes_to, first}
use Rattle.py_meaning.specs.Calls.{begun}
use Rattle.py_meaning.specs.Evaluates.{Follows, plan, done, stopped, then, then_stopped}
use Rattle.py_state.specs.Stops.{value_stop}
use Rattle.py_state.specs.declared.stop.Stop.{Stop}
use Rattle.py_state.specs.declared.stop.Stop.TheVariants as stop
use Rattle.py_steps.specs.Desks.{Stacks, stacks_of, tasks_of, values_of, below, under}
use Rattle.py_steps.specs.Leads.{LeadsOn}
use Rattle.py_steps.specs.Todos.{left, settled, callee, gives_on}
use Rattle.py_steps.specs.declared.desk.Desk.{Desk}
use Rattle.py_steps.specs.declared.task.Task.{Task}
use Rattle.py_steps.specs.declared.task.Task.TheVariants as task
use Rattle.py_eval.specs.Bodies.{Halts, GivesOrHalts}
use Rattle.py_eval.proofs.Halting.{halts_first}

-- the lines of a body are all that is left at the beginning
pub begins : {H : Type 0} (m : Meaning H) (c : ℕ) (d : Desk) (lines : Bor (List Line)) (s : State) (h : H) → stacks_of d ≡ record { tasks = task.Lines lines ∷ []; values = [] } → LeadsOn m c (first (exec_all (trees (map line_tree lines.now))) s (left [] [])) h (left (tasks_of d) (values_of d) (goes_on s)) h
begins m c d lines s h e = λ r h3 x. subst (λ (st : Stacks). Follows m c (left st.tasks st.values (goes_on s)) h r h3) e x

-- the uppermost task, and what is left below it
pub task_taken : (d d1 : Desk) (t : Task) (s : State) → (tasks_of d ≡ t ∷ tasks_of d1) × (values_of d1 ≡ values_of d) → left (tasks_of d) (values_of d) (goes_on s) ≡ left (t ∷ tasks_of d1) (values_of d1) (goes_on s)
task_taken d d1 t s e = ap (λ ts. left ts (values_of d) (goes_on s)) e.0 ∙ ap (λ vs. left (t ∷ tasks_of d1) vs (goes_on s)) (sym e.1)

-- a body that comes to its end, and how its lines came out
pub body_over : {H : Type 0} (m : Meaning H) (c : ℕ) (j : Job) (s : State) (o : Out) (h h2 : H) → Follows m c (first j s (left [] [])) h (Ok o) h2 → (o1 : Out) × Follows m c (plan j s) h (Ok o1) h2 × (settled o1 ≡ o)
body_over m c j s o h h2 (then o1 h1 a done) = (o1, a, refl)

body_stops : {H : Type 0} (m : Meaning H) (c : ℕ) (j : Job) (s : State) (e : Fault) (h h2 : H) → Follows m c (first j s (left [] [])) h (Err e) h2 → Follows m c (plan j s) h (Err e) h2
body_stops m c j s e h h2 (then_stopped e1 a) = a
body_stops m c j s e h h2 (then o h1 a b) = elim b [ ]

settled_returns : (o : Out) (x : Value) (s : State) → settled o ≡ returns x s → o ≡ returns x s
settled_returns (gives y s1) x s e = absurd (cc)
settled_returns (all_give ys s1) x s e = absurd (cc)
settled_returns (goes_on s1) x s e = absurd (cc)
settled_returns (breaks s1) x s e = absurd (cc)
settled_returns (continues s1) x s e = absurd (cc)
settled_returns (returns y s1) x s e = e
settled_returns (ends s1) x s e = absurd (cc)
settled_returns (exits y s1) x s e = absurd (cc)

settled_ends : (o : Out) (s : State) → settled o ≡ ends s → o ≡ ends s
settled_ends (gives y s1) s e = absurd (cc)
settled_ends (all_give ys s1) s e = absurd (cc)
settled_ends (goes_on s1) s e = absurd (cc)
settled_ends (breaks s1) s e = absurd (cc)
settled_ends (continues s1) s e = absurd (cc)
settled_ends (returns y s1) s e = absurd (cc)
settled_ends (ends s1) s e = e
settled_ends (exits y s1) s e = absurd (cc)

pub body_returns : {H : Type 0} (m : Meaning H) (c : ℕ) (j : Job) (s s1 : State) (x : Value) (h h2 : H) → Follows m c (first j s (left [] [])) h (Ok (returns x s1)) h2 → Follows m c (plan j s) h (Ok (returns x s1)) h2
body_returns m c j s s1 x h h2 d =
    let w = body_over m c j s (returns x s1) h h2 d in
    subst (λ o. Follows m c (plan j s) h (Ok o) h2) (settled_returns w.0 x s1 w.2) w.1

pub body_halts : {H : Type 0} (m : Meaning H) (c : ℕ) (j : Job) (s s1 : State) (x : Stop) (h h2 : H) → Halts m c (first j s (left [] [])) h x s1 h2 → Halts m c (plan j s) h x s1 h2
body_halts m c j s s1 (stop.Fault script line k) h h2 d = body_stops m c j s _ h h2 d
body_halts m c j s s1 stop.End h h2 d =
    let w = body_over m c j s (ends (with_frame s1 d.0)) h h2 d.1 in
    (d.0, subst (λ o. Follows m c (plan j s) h (Ok o) h2) (settled_ends w.0 (with_frame s1 d.0) w.2) w.1)
body_halts m c j s s1 stop.Memory h h2 d = tt

-- a call that is paid for, whose value goes on top; one that halts; one that is not paid for
pub call_gives : {H : Type 0} (m : Meaning H) (c l : ℕ) (x : Value) (n : Option Name) (given : Arguments) (s s2 : State) (u : Units) (v : Value) (vs : List Value) (ts : List Task) (h h2 : H) → charged s.units 1 ≡ Ok u → Follows m c (begun l (callee x n) given (with_units s u)) h (Ok (gives v s2)) h2 → LeadsOn m c (first (call l (callee x n) given) s (gives_on vs (left ts))) h (left ts (v ∷ vs) (goes_on s2)) h2
unfolding plan
call_gives m c l x n given s s2 u v vs ts h h2 e d = λ r h3 y. then (gives v s2) h2 (rw e d) y

gives_ends : (vs : List Value) (ts : List Task) (s : State) → gives_on vs (left ts) (ends s) ≡ comes_to (ends s)
gives_ends vs ts s = refl

pub call_halts : {H : Type 0} (m : Meaning H) (c l : ℕ) (x : Value) (n : Option Name) (given : Arguments) (s s2 : State) (u : Units) (vs : List Value) (ts : List Task) (e : Stop) (h h2 : H) → charged s.units 1 ≡ Ok u → Halts m c (begun l (callee x n) given (with_units s u)) h e s2 h2 → Halts m c (first (call l (callee x n) given) s (gives_on vs (left ts))) h e s2 h2
unfolding plan
call_halts m c l x n given s s2 u vs ts e h h2 p d = halts_first m c (call l (callee x n) given) s s2 (gives_on vs (left ts)) h h2 e (gives_ends vs ts) (rw p d)

unpaid_halts : {H : Type 0} (m : Meaning H) (c l : ℕ) (x : Value) (n : Option Name) (given : Arguments) (s s2 : State) (k : Out → Plan) (e : ValueFault) (h : H) → charged s.units 1 ≡ Err e → Halts m c (first (call l (callee x n) given) s k) h (value_stop s.frame.script l e) s2 h
unfolding plan
unpaid_halts m c l x n given s s2 k fault.Memory h p = tt
unpaid_halts m c l x n given s s2 k e h p = then_stopped _ (rw p (stopped tt))

pub call_unpaid : {H : Type 0} (m : Meaning H) (c l : ℕ) (x : Value) (n : Option Name) (given : Arguments) (s s2 : State) (k : Out → Plan) (y : Stop) (h : H) → (e : ValueFault) × (charged s.units 1 ≡ Err e) × (y ≡ value_stop s.frame.script l e) → Halts m c (first (call l (callee x n) given) s k) h y s2 h
call_unpaid m c l x n given s s2 k y h w =
    subst (λ z. Halts m c (first (call l (callee x n) given) s k) h z s2 h) (sym w.2) (unpaid_halts m c l x n given s s2 k w.0 h w.1)

-- what is called, its arguments and the state as they stand elsewhere
pub call_as : {H : Type 0} (m : Meaning H) (c l : ℕ) (x y : Value) (n : Option Name) (given given1 : Arguments) (s s1 s2 : State) (r : Result Value Stop) (h h2 : H) → x ≡ y → given ≡ given1 → s ≡ s1 → GivesOrHalts m c (begun l (callee x n) given s) h r s2 h2 → GivesOrHalts m c (begun l (callee y n) given1 s1) h r s2 h2
call_as m c l x y n given given1 s s1 s2 r h h2 e f g d =
    subst (λ z. GivesOrHalts m c (begun l (callee z n) given1 s1) h r s2 h2) e
    (subst (λ z. GivesOrHalts m c (begun l (callee x n) z s1) h r s2 h2) f
    (subst (λ z. GivesOrHalts m c (begun l (callee x n) given z) h r s2 h2) g d))

-- a value in the place of what is called and its arguments
pub call_in_place : (d0 d1 d2 d3 : Desk) (base : ℕ) (x : Value) (s : State) → stacks_of d1 ≡ record (stacks_of d0) { values = under base (values_of d0) } → stacks_of d2 ≡ record (stacks_of d1) { values = below (values_of d1) } → stacks_of d3 ≡ record (stacks_of d2) { values = x ∷ values_of d2 } → left (tasks_of d3) (values_of d3) (goes_on s) ≡ left (tasks_of d0) (x ∷ below (under base (values_of d0))) (goes_on s)
call_in_place d0 d1 d2 d3 base x s e f g =
    ap (λ (st : Stacks). left st.tasks st.values (goes_on s)) g ∙ ap (λ (st : Stacks). left st.tasks (x ∷ st.values) (goes_on s)) f ∙ ap (λ (st : Stacks). left st.tasks (x ∷ below st.values) (goes_on s)) e

-- no task is left
pub body_ended : {H : Type 0} (m : Meaning H) (c : ℕ) (d : Desk) (s : State) (h : H) → tasks_of d ≡ [] → Follows m c (left (tasks_of d) (values_of d) (goes_on s)) h (Ok (goes_on s)) h
body_ended m c d s h e = subst (λ ts. Follows m c (left ts (values_of d) (goes_on s)) h (Ok (goes_on s)) h) (sym e) done
