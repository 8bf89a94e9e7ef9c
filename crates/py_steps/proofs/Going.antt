-- How what is left goes on behind a job that is opened.
use Rattle.std.proofs.Common.{Bool, ◌≡◌, ◌∙◌, ℕ, List, ◌∷◌, Ok, Err, ap, sym, refl, subst}
use Rattle.py_tree.specs.Tree.{Tree}
use Rattle.py_heap.specs.declared.value.Value.{Value}
use Rattle.py_heap.specs.declared.fault.ValueFault.{ValueFault}
use Rattle.py_heap.specs.Heap.{Objects}
use Rattle.py_heap.specs.Units.{Units}
use Rattle.py_compare.specs.Outcomes.{Outcome}
use Rattle.py_meaning.specs.declared.fault.EvalKind.TheVariants as kind
use Rattle.py_meaning.specs.States.{State, Out, gives, all_give, goes_on, breaks, continues, returns, ends, exits, after_operation, place_at}
use Rattle.py_meaning.specs.Plans.{Plan, comes_to, bind, on_value, on_values, after, after_all, made, stops}
use Rattle.py_steps.specs.Desks.{stacks_of, tasks_of, values_of, below}
use Rattle.py_steps.specs.declared.desk.Desk.{Desk}
use Rattle.py_steps.specs.declared.task.Task.{Task}
use Rattle.py_steps.specs.Todos.{Rest, left, gives_on, made_on, past}
use Rattle.py_steps.specs.Leads.{Unfolds, same, later}

-- a task on top of a desk, and two
pub pushed : (d0 d1 : Desk) (t : Task) (s : State) → stacks_of d1 ≡ record (stacks_of d0) { tasks = t ∷ tasks_of d0 } → left (tasks_of d1) (values_of d1) (goes_on s) ≡ left (t ∷ tasks_of d0) (values_of d0) (goes_on s)
pushed d0 d1 t s e = ap (λ st. left st.tasks st.values (goes_on s)) e

pub pushed_two : (d0 d1 d2 : Desk) (t u : Task) (s : State) → stacks_of d1 ≡ record (stacks_of d0) { tasks = t ∷ tasks_of d0 } → stacks_of d2 ≡ record (stacks_of d1) { tasks = u ∷ tasks_of d1 } → left (tasks_of d2) (values_of d2) (goes_on s) ≡ left (u ∷ t ∷ tasks_of d0) (values_of d0) (goes_on s)
pushed_two d0 d1 d2 t u s e f = pushed d1 d2 u s f ∙ ap (λ st. left (u ∷ st.tasks) st.values (goes_on s)) e

pub pushed_three : (d0 d1 d2 d3 : Desk) (t u w : Task) (s : State) → stacks_of d1 ≡ record (stacks_of d0) { tasks = t ∷ tasks_of d0 } → stacks_of d2 ≡ record (stacks_of d1) { tasks = u ∷ tasks_of d1 } → stacks_of d3 ≡ record (stacks_of d2) { tasks = w ∷ tasks_of d2 } → left (tasks_of d3) (values_of d3) (goes_on s) ≡ left (w ∷ u ∷ t ∷ tasks_of d0) (values_of d0) (goes_on s)
pushed_three d0 d1 d2 d3 t u w s e f g = pushed_two d1 d2 d3 u w s f g ∙ ap (λ st. left (w ∷ u ∷ st.tasks) st.values (goes_on s)) e

-- a value on top
pub given : (d0 d1 : Desk) (x : Value) (s : State) → stacks_of d1 ≡ record (stacks_of d0) { values = x ∷ values_of d0 } → left (tasks_of d1) (values_of d1) (goes_on s) ≡ left (tasks_of d0) (x ∷ values_of d0) (goes_on s)
given d0 d1 x s e = ap (λ st. left st.tasks st.values (goes_on s)) e

-- what is left now, by the stacks of the desk
pub onto : {p q r : Plan} → Unfolds p q → r ≡ q → Unfolds p r
onto {p = p} u e = subst (λ x. Unfolds p x) (sym e) u

-- the value of an operation
pub made_bound : (l : ℕ) (s : State) (r : Outcome) (vs : List Value) (k : Rest) → bind (made l s r) (gives_on vs k) ≡ made_on l s r vs k
unfolding bind
made_bound l s (Ok m) vs k = refl
made_bound l s (Err e) vs k = refl

pub value_unfolds : (f g : Value → State → Plan) (k : Out → Plan) → ((s : State) → k (ends s) ≡ comes_to (ends s)) → ((x : Value) (s : State) → Unfolds (bind (f x s) k) (g x s)) → (o : Out) → Unfolds (bind (on_value f o) k) (on_value g o)
unfolding bind
value_unfolds f g k e h (gives x s) = h x s
value_unfolds f g k e h (all_give xs s) = same (e s)
value_unfolds f g k e h (goes_on s) = same (e s)
value_unfolds f g k e h (breaks s) = same (e s)
value_unfolds f g k e h (continues s) = same (e s)
value_unfolds f g k e h (returns x s) = same (e s)
value_unfolds f g k e h (ends s) = same (e s)
value_unfolds f g k e h (exits x s) = same (e s)

pub values_unfold : (f g : List Value → State → Plan) (k : Out → Plan) → ((s : State) → k (ends s) ≡ comes_to (ends s)) → ((xs : List Value) (s : State) → Unfolds (bind (f xs s) k) (g xs s)) → (o : Out) → Unfolds (bind (on_values f o) k) (on_values g o)
unfolding bind
values_unfold f g k e h (gives x s) = same (e s)
values_unfold f g k e h (all_give xs s) = h xs s
values_unfold f g k e h (goes_on s) = same (e s)
values_unfold f g k e h (breaks s) = same (e s)
values_unfold f g k e h (continues s) = same (e s)
values_unfold f g k e h (returns x s) = same (e s)
values_unfold f g k e h (ends s) = same (e s)
values_unfold f g k e h (exits x s) = same (e s)

-- an expression, and several ones, and on
pub after_unfolds : (t : Tree) (s : State) (f g : Value → State → Plan) (k : Out → Plan) → ((s : State) → k (ends s) ≡ comes_to (ends s)) → ((x : Value) (s : State) → Unfolds (bind (f x s) k) (g x s)) → Unfolds (bind (after t s f) k) (after t s g)
unfolding bind
after_unfolds t s f g k e h = later (value_unfolds f g k e h)

pub after_all_unfolds : (ts : Tree) (s : State) (f g : List Value → State → Plan) (k : Out → Plan) → ((s : State) → k (ends s) ≡ comes_to (ends s)) → ((xs : List Value) (s : State) → Unfolds (bind (f xs s) k) (g xs s)) → Unfolds (bind (after_all ts s f) k) (after_all ts s g)
unfolding bind
after_all_unfolds ts s f g k e h = later (values_unfold f g k e h)

-- an operation whose value goes on top, and one that is at fault
pub made_comes : (l : ℕ) (s : State) (r : Outcome) (m : Value × Objects × Units) (vs : List Value) (k : Rest) (q : Plan) → r ≡ Ok m → q ≡ k (m.0 ∷ vs) (goes_on (after_operation s m)) → Unfolds (made_on l s r vs k) q
made_comes l s r m vs k q e p = same (ap (λ o. made_on l s o vs k) e ∙ sym p)

pub made_stops : (l : ℕ) (s : State) (r : Outcome) (e : ValueFault) (vs : List Value) (k : Rest) → r ≡ Err e → Unfolds (made_on l s r vs k) (stops (place_at l s) (kind.Value e))
made_stops l s r e vs k f = same (ap (λ o. made_on l s o vs k) f)

-- a value in the place of one that was taken, and of two
pub in_place : (d0 d1 d2 : Desk) (x : Value) (s : State) → stacks_of d1 ≡ record (stacks_of d0) { values = below (values_of d0) } → stacks_of d2 ≡ record (stacks_of d1) { values = x ∷ values_of d1 } → left (tasks_of d2) (values_of d2) (goes_on s) ≡ left (tasks_of d0) (x ∷ below (values_of d0)) (goes_on s)
in_place d0 d1 d2 x s e f = given d1 d2 x s f ∙ ap (λ st. left st.tasks (x ∷ st.values) (goes_on s)) e

pub in_place_of_two : (d0 d1 d2 d3 : Desk) (x : Value) (s : State) → stacks_of d1 ≡ record (stacks_of d0) { values = below (values_of d0) } → stacks_of d2 ≡ record (stacks_of d1) { values = below (values_of d1) } → stacks_of d3 ≡ record (stacks_of d2) { values = x ∷ values_of d2 } → left (tasks_of d3) (values_of d3) (goes_on s) ≡ left (tasks_of d0) (x ∷ below (below (values_of d0))) (goes_on s)
in_place_of_two d0 d1 d2 d3 x s e f g = in_place d1 d2 d3 x s f g ∙ ap (λ st. left st.tasks (x ∷ below st.values) (goes_on s)) e

-- and of a base below two ends that may be there
pub in_place_of_slice : (d0 d1 d2 d3 d4 : Desk) (from to : Bool) (x : Value) (s : State) → stacks_of d1 ≡ record (stacks_of d0) { values = past to (values_of d0) } → stacks_of d2 ≡ record (stacks_of d1) { values = past from (values_of d1) } → stacks_of d3 ≡ record (stacks_of d2) { values = below (values_of d2) } → stacks_of d4 ≡ record (stacks_of d3) { values = x ∷ values_of d3 } → left (tasks_of d4) (values_of d4) (goes_on s) ≡ left (tasks_of d0) (x ∷ below (past from (past to (values_of d0)))) (goes_on s)
in_place_of_slice d0 d1 d2 d3 d4 from to x s e f g h = in_place d2 d3 d4 x s g h ∙ ap (λ st. left st.tasks (x ∷ below st.values) (goes_on s)) f ∙ ap (λ st. left st.tasks (x ∷ below (past from st.values)) (goes_on s)) e
