-- The operator of an augmented assignment.
use Rattle.std.proofs.Common.{◌≡◌, ◌≢◌, ◌∙◌, ℕ, ◌∷◌, Ok, Err, refl, sym, subst, ap}
use Rattle.py_tree.specs.declared.expr.Operator.{Operator}
use Rattle.py_heap.specs.declared.value.Value.{Value}
use Rattle.py_heap.specs.declared.fault.ValueFault.{ValueFault}
use Rattle.py_heap.specs.declared.fault.ValueFault.TheVariants as fault
use Rattle.py_heap.specs.Heap.{Objects}
use Rattle.py_heap.specs.Units.{Units}
use Rattle.py_compare.specs.Outcomes.{Outcome}
use Rattle.py_meaning.specs.States.{State, goes_on, after_operation}
use Rattle.py_meaning.specs.Plans.{Plan, checked}
use Rattle.py_meaning.specs.Statements.{augmented_of}
use Rattle.py_state.specs.Stops.{value_stop}
use Rattle.py_state.specs.declared.stop.Stop.{Stop}
use Rattle.py_steps.specs.Desks.{Stacks, stacks_of, tasks_of, values_of, top, below}
use Rattle.py_steps.specs.Leads.{Unfolds, same, Steps}
use Rattle.py_steps.specs.Todos.{left}
use Rattle.py_steps.specs.declared.desk.Desk.{Desk}
use Rattle.py_steps.specs.declared.task.Task.TheVariants as task
use Rattle.py_steps.proofs.Faults.{checked_faults}
use Rattle.py_steps.proofs.Rests.{arrives}

operands : (op : Operator) (s : State) (d d1 : Desk) (x y : Value) (r : Outcome) → y ≡ top (values_of d) → stacks_of d1 ≡ record { tasks = tasks_of d; values = below (values_of d) } → x ≡ top (values_of d1) → augmented_of op s.objects s.units x y ≡ r → augmented_of op s.objects s.units (top (below (values_of d))) (top (values_of d)) ≡ r
operands op s d d1 x y r e a f g =
    ap (λ z. augmented_of op s.objects s.units z (top (values_of d))) (sym (f ∙ ap (λ (k : Stacks). top k.values) a)) ∙ ap (λ z. augmented_of op s.objects s.units x z) (sym e) ∙ g

pub combine_stops : (X : Type 0) (l : ℕ) (op : Operator) (s : State) (d d1 : Desk) (x y : Value) (e : ValueFault) (stop : Stop) (q : Plan) → y ≡ top (values_of d) → stacks_of d1 ≡ record { tasks = tasks_of d; values = below (values_of d) } → x ≡ top (values_of d1) → (e ≢ fault.Memory → augmented_of op s.objects s.units x y ≡ Err e) → stop ≡ value_stop s.frame.script l e → Steps {X = X} (left (task.Augment l op ∷ tasks_of d) (values_of d) (goes_on s)) (Err stop) q
combine_stops X l op s d d1 x y e stop q p a f g i =
    subst (λ z. Steps {X = X} (left (task.Augment l op ∷ tasks_of d) (values_of d) (goes_on s)) (Err z) q) (sym i)
    (checked_faults X l s (augmented_of op s.objects s.units (top (below (values_of d))) (top (values_of d))) (λ m. left (tasks_of d) (m.0 ∷ below (below (values_of d))) (goes_on (after_operation s m))) e q
    (λ m. operands op s d d1 x y (Err e) p a f (g m)))

pub combine_goes : (l : ℕ) (op : Operator) (s : State) (d d1 d2 d3 : Desk) (x y z : Value) (h : Objects) (u : Units) → y ≡ top (values_of d) → stacks_of d1 ≡ record { tasks = tasks_of d; values = below (values_of d) } → x ≡ top (values_of d1) → stacks_of d2 ≡ record { tasks = tasks_of d1; values = below (values_of d1) } → augmented_of op s.objects s.units x y ≡ Ok (z, h, u) → stacks_of d3 ≡ record { tasks = tasks_of d2; values = z ∷ values_of d2 } →
    Unfolds (left (task.Augment l op ∷ tasks_of d) (values_of d) (goes_on s)) (left (tasks_of d3) (values_of d3) (goes_on (after_operation s (z, h, u))))
combine_goes l op s d d1 d2 d3 x y z h u p a f b g c =
    let q = left (tasks_of d) (z ∷ below (below (values_of d))) (goes_on (after_operation s (z, h, u))) in
    let two : stacks_of d2 ≡ record { tasks = tasks_of d; values = below (below (values_of d)) } = b ∙ ap (λ (k : Stacks). record { tasks = k.tasks; values = below k.values }) a in
    let three : stacks_of d3 ≡ record { tasks = tasks_of d; values = z ∷ below (below (values_of d)) } = c ∙ ap (λ (k : Stacks). record { tasks = k.tasks; values = z ∷ k.values }) two in
    arrives d3 (goes_on (after_operation s (z, h, u))) three
    (subst (λ (r : Outcome). Unfolds (checked l s r (λ m. left (tasks_of d) (m.0 ∷ below (below (values_of d))) (goes_on (after_operation s m)))) q) (sym (operands op s d d1 x y (Ok (z, h, u)) p a f g)) (same refl))
