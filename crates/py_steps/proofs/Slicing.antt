-- A slice of a value whose ends are there.
use Rattle.std.proofs.Common.{◌≡◌, ◌≢◌, ◌∙◌, ℕ, Bool, List, ◌∷◌, Option, Ok, Err, sym, subst, ap}
use Rattle.py_heap.specs.declared.value.Value.{Value}
use Rattle.py_heap.specs.declared.fault.ValueFault.{ValueFault}
use Rattle.py_heap.specs.declared.fault.ValueFault.TheVariants as fault
use Rattle.py_heap.specs.Heap.{Objects}
use Rattle.py_heap.specs.Units.{Units}
use Rattle.py_compare.specs.Outcomes.{Outcome}
use Rattle.py_operators.specs.Indexing.{sliced}
use Rattle.py_meaning.specs.States.{State, goes_on, after_operation}
use Rattle.py_meaning.specs.Plans.{Plan}
use Rattle.py_state.specs.Stops.{value_stop}
use Rattle.py_state.specs.declared.stop.Stop.{Stop}
use Rattle.py_steps.specs.Desks.{Stacks, stacks_of, tasks_of, values_of, top, below}
use Rattle.py_steps.specs.Leads.{Unfolds, Steps}
use Rattle.py_steps.specs.Todos.{left, end_at, past}
use Rattle.py_steps.specs.declared.desk.Desk.{Desk}
use Rattle.py_steps.specs.declared.task.Task.TheVariants as task
use Rattle.py_steps.proofs.Going.{made_comes, made_stops, in_place_of_slice}
use Rattle.py_steps.proofs.Stepping.{steps_value}

-- what is sliced, and between which ends
abbrev slice_at : Bool → Bool → List Value → State → Outcome
slice_at from to vs s = sliced s.objects s.units (top (past from (past to vs))) (end_at from (past to vs)) (end_at to vs)

operands : (s : State) (d d1 d2 : Desk) (from to : Bool) (base : Value) (lower upper : Option Value) (r : Outcome) → upper ≡ end_at to (values_of d) → stacks_of d1 ≡ record { tasks = tasks_of d; values = past to (values_of d) } → lower ≡ end_at from (values_of d1) → stacks_of d2 ≡ record { tasks = tasks_of d1; values = past from (values_of d1) } → base ≡ top (values_of d2) → sliced s.objects s.units base lower upper ≡ r → slice_at from to (values_of d) s ≡ r
operands s d d1 d2 from to base lower upper r p a q b t e =
    let vs = values_of d in
    let first : values_of d1 ≡ past to vs = ap (λ (k : Stacks). k.values) a in
    let second : values_of d2 ≡ past from (past to vs) = ap (λ (k : Stacks). k.values) b ∙ ap (past from) first in
    ap (λ (x : Value). sliced s.objects s.units x (end_at from (past to vs)) (end_at to vs)) (sym (t ∙ ap top second))
    ∙ ap (λ (x : Option Value). sliced s.objects s.units base x (end_at to vs)) (sym (q ∙ ap (end_at from) first))
    ∙ ap (λ (x : Option Value). sliced s.objects s.units base lower x) (sym p) ∙ e

pub slice_goes : (l : ℕ) (s : State) (d d1 d2 d3 d4 : Desk) (from to : Bool) (base : Value) (lower upper : Option Value) (x : Value) (o : Objects) (u : Units) → upper ≡ end_at to (values_of d) → stacks_of d1 ≡ record { tasks = tasks_of d; values = past to (values_of d) } → lower ≡ end_at from (values_of d1) → stacks_of d2 ≡ record { tasks = tasks_of d1; values = past from (values_of d1) } → base ≡ top (values_of d2) → stacks_of d3 ≡ record { tasks = tasks_of d2; values = below (values_of d2) } → sliced s.objects s.units base lower upper ≡ Ok (x, o, u) → stacks_of d4 ≡ record { tasks = tasks_of d3; values = x ∷ values_of d3 } →
    Unfolds (left (task.Slice l from to ∷ tasks_of d) (values_of d) (goes_on s)) (left (tasks_of d4) (values_of d4) (goes_on (after_operation s (x, o, u))))
slice_goes l s d d1 d2 d3 d4 from to base lower upper x o u p a q b t w e g =
    made_comes l s (slice_at from to (values_of d) s) (x, o, u) (below (past from (past to (values_of d)))) (left (tasks_of d)) (left (tasks_of d4) (values_of d4) (goes_on (after_operation s (x, o, u))))
    (operands s d d1 d2 from to base lower upper (Ok (x, o, u)) p a q b t e)
    (in_place_of_slice d d1 d2 d3 d4 from to x (after_operation s (x, o, u)) a b w g)

pub slice_stops : (X : Type 0) (l : ℕ) (s : State) (d d1 d2 : Desk) (from to : Bool) (base : Value) (lower upper : Option Value) (e : ValueFault) (stop : Stop) (q' : Plan) → upper ≡ end_at to (values_of d) → stacks_of d1 ≡ record { tasks = tasks_of d; values = past to (values_of d) } → lower ≡ end_at from (values_of d1) → stacks_of d2 ≡ record { tasks = tasks_of d1; values = past from (values_of d1) } → base ≡ top (values_of d2) → (e ≢ fault.Memory → sliced s.objects s.units base lower upper ≡ Err e) → stop ≡ value_stop s.frame.script l e →
    Steps {X = X} (left (task.Slice l from to ∷ tasks_of d) (values_of d) (goes_on s)) (Err stop) q'
slice_stops X l s d d1 d2 from to base lower upper e stop q' p a q b t f w =
    subst (λ (y : Stop). Steps {X = X} (left (task.Slice l from to ∷ tasks_of d) (values_of d) (goes_on s)) (Err y) q') (sym w)
    (steps_value X (left (task.Slice l from to ∷ tasks_of d) (values_of d) (goes_on s)) q' l s e
    (λ m. made_stops l s (slice_at from to (values_of d) s) e (below (past from (past to (values_of d)))) (left (tasks_of d)) (operands s d d1 d2 from to base lower upper (Err e) p a q b t (f m))))
