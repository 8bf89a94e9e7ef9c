-- The turns of a `while`.
use Rattle.std.proofs.Common.{◌≡◌, ◌∙◌, ℕ, Bool, true, false, List, ◌∷◌, Ok, Err, map, refl, sym, subst, ap}
use Rattle.py_tree.specs.Tree.{Tree, trees, expr_tree, line_tree, while'}
use Rattle.py_heap.specs.declared.value.Value.{Value}
use Rattle.py_heap.specs.Heap.{truth_of}
use Rattle.py_heap.specs.Units.{charged}
use Rattle.py_meaning.specs.States.{State, Frame, Out, gives, all_give, goes_on, breaks, continues, returns, ends, exits, with_units}
use Rattle.py_meaning.specs.Jobs.{exec, exec_all, rounds}
use Rattle.py_meaning.specs.Plans.{Plan, first, goes, bind, paid}
use Rattle.py_meaning.specs.Evaluates.{plan}
use Rattle.py_meaning.specs.Statements.{statement, after_turn, round}
use Rattle.py_state.specs.Stores.{store_of, state_of}
use Rattle.py_state.specs.declared.machine.Machine.{Machine}
use Rattle.py_state.specs.declared.stop.Stop.{Stop}
use Rattle.py_steps.specs.Desks.{Stacks, stacks_of, tasks_of, values_of, top, below}
use Rattle.py_steps.specs.Leads.{Unfolds, same, opens, later, Steps, left_with, left_at}
use Rattle.py_steps.specs.Todos.{left, by_round}
use Rattle.py_steps.specs.declared.desk.Desk.{Desk}
use Rattle.py_steps.specs.declared.task.Round.{Round}
use Rattle.py_steps.specs.declared.task.Task.{Task}
use Rattle.py_steps.specs.declared.task.Task.TheVariants as task
use Rattle.py_steps.proofs.Faults.{paid_goes, unpaid, NoUnit, after_pay}
use Rattle.py_steps.proofs.Going.{value_unfolds}
use Rattle.py_steps.proofs.Rests.{left_ends, arrives}
use Rattle.py_steps.proofs.Turns.{one_for, two_on}

abbrev test_of : Round → Tree
test_of r = expr_tree r.test.now

abbrev block_of : Round → Tree
block_of r = trees (map line_tree r.block.now)

-- what is left behind a turn: the next ones
behind_round : (r : Round) (ts : List Task) (vs : List Value) (o : Out) → bind (after_turn (λ s. goes (rounds r.line (test_of r) (block_of r)) s) o) (left ts vs) ≡ left (task.Rounds r ∷ ts) vs o
unfolding bind
behind_round r ts vs (gives x s) = refl
behind_round r ts vs (all_give xs s) = refl
behind_round r ts vs (goes_on s) = refl
behind_round r ts vs (breaks s) = refl
behind_round r ts vs (continues s) = refl
behind_round r ts vs (returns x s) = refl
behind_round r ts vs (ends s) = refl
behind_round r ts vs (exits e s) = refl

-- the test comes first
test_opens : (r : Round) (ts : List Task) (vs : List Value) (s : State) → Unfolds (left (task.Rounds r ∷ ts) vs (goes_on s)) (left (task.Evaluate r.test ∷ task.Round r ∷ ts) vs (goes_on s))
unfolding plan bind
test_opens r ts vs s =
    opens (later (value_unfolds (λ x s1. round r.line (test_of r) (block_of r) (truth_of s1.objects x) s1) (λ x s1. by_round r vs (left ts) (truth_of s1.objects x) s1) (left ts vs) (left_ends ts vs) (λ x s1. same refl)))

pub test_comes : (r : Round) (d d' : Desk) → stacks_of d' ≡ record { tasks = task.Evaluate r.test ∷ task.Round r ∷ tasks_of d; values = values_of d } → (s : State) →
    Unfolds (left (task.Rounds r ∷ tasks_of d) (values_of d) (goes_on s)) (left (tasks_of d') (values_of d') (goes_on s))
test_comes r d d' g s = arrives d' (goes_on s) g (test_opens r (tasks_of d) (values_of d) s)

-- a turn, by its test
abbrev turn_left : Round → List Task → List Value → State → Bool → Plan
turn_left r ts vs s b = bind (round r.line (test_of r) (block_of r) b s) (left ts vs)

by_test : (r : Round) (x : Value) (d : Desk) (s : State) (t b : Bool) → x ≡ top (values_of d) → t ≡ truth_of s.objects x → t ≡ b → truth_of s.objects (top (values_of d)) ≡ b
by_test r x d s t b e f g = ap (truth_of s.objects) (sym e) ∙ sym f ∙ g

-- the test is false
pub round_over : (r : Round) (x : Value) (d d1 : Desk) (s : State) (t : Bool) → x ≡ top (values_of d) → t ≡ truth_of s.objects x → t ≡ false → stacks_of d1 ≡ record { tasks = tasks_of d; values = below (values_of d) } →
    Unfolds (left (task.Round r ∷ tasks_of d) (values_of d) (goes_on s)) (left (tasks_of d1) (values_of d1) (goes_on s))
unfolding bind
round_over r x d d1 s t e f g p =
    let vs = below (values_of d) in
    arrives d1 (goes_on s) p
    (subst (λ (b : Bool). Unfolds (turn_left r (tasks_of d) vs s b) (left (tasks_of d) vs (goes_on s))) (sym (by_test r x d s t false e f g)) (same refl))

-- there is no unit for a turn
pub round_unpaid : (X : Type 0) (r : Round) (x : Value) (d : Desk) (s : State) (t : Bool) (y : Stop) (q : Plan) → x ≡ top (values_of d) → t ≡ truth_of s.objects x → t ≡ true → NoUnit s.units s.frame.script r.line y →
    Steps {X = X} (left (task.Round r ∷ tasks_of d) (values_of d) (goes_on s)) (Err y) q
round_unpaid X r x d s t y q e f g w =
    let vs = below (values_of d) in
    subst (λ (b : Bool). Steps {X = X} (turn_left r (tasks_of d) vs s b) (Err y) q) (sym (by_test r x d s t true e f g))
    (unpaid X r.line s (λ s1. first (exec_all (block_of r)) s1 (after_turn (λ s2. goes (rounds r.line (test_of r) (block_of r)) s2))) (left (tasks_of d) vs) y q w)

-- a turn
round_goes : (r : Round) (ts : List Task) (vs : List Value) (s : State) → Unfolds (bind (first (exec_all (block_of r)) s (after_turn (λ s2. goes (rounds r.line (test_of r) (block_of r)) s2))) (left ts vs)) (left (task.Lines r.block ∷ task.Rounds r ∷ ts) vs (goes_on s))
unfolding bind
round_goes r ts vs s = later (λ o. same (behind_round r ts vs o))

pub round_runs : (r : Round) (x : Value) (d d1 d2 d3 : Desk) (m m' : Machine) (f : Frame) (t : Bool) → x ≡ top (values_of d) → t ≡ truth_of m.heap x → t ≡ true → charged m.budget 1 ≡ Ok m'.budget → store_of m' ≡ record (store_of m) { units = m'.budget } →
    stacks_of d1 ≡ record { tasks = tasks_of d; values = below (values_of d) } → stacks_of d2 ≡ record { tasks = task.Rounds r ∷ tasks_of d1; values = values_of d1 } → stacks_of d3 ≡ record { tasks = task.Lines r.block ∷ tasks_of d2; values = values_of d2 } →
    Unfolds (left_with (task.Round r) d m f) (left_at d3 m' f)
round_runs r x d d1 d2 d3 m m' f t e h g c a p q v =
    let s = state_of m f in
    let vs = below (values_of d) in
    let now = left (task.Lines r.block ∷ task.Rounds r ∷ tasks_of d) vs in
    let with_loop : Stacks → Stacks = λ k. record { tasks = task.Lines r.block ∷ task.Rounds r ∷ k.tasks; values = k.values } in
    let place = two_on d1 d2 d3 (task.Rounds r) (task.Lines r.block) q v ∙ ap with_loop p in
    arrives d3 (goes_on (state_of m' f)) place
    (subst (λ (y : State). Unfolds (left (task.Round r ∷ tasks_of d) (values_of d) (goes_on s)) (now (goes_on y))) (sym (after_pay m m' f a))
    (subst (λ (b : Bool). Unfolds (turn_left r (tasks_of d) vs s b) (now (goes_on (with_units s m'.budget)))) (sym (by_test r x d s t true e h g))
    (paid_goes r.line s (λ s1. first (exec_all (block_of r)) s1 (after_turn (λ s2. goes (rounds r.line (test_of r) (block_of r)) s2))) (left (tasks_of d) vs) m'.budget (now (goes_on (with_units s m'.budget))) c
    (round_goes r (tasks_of d) vs (with_units s m'.budget)))))

-- the line of a `while`
pub while_pays : (l : ℕ) (t ls : Tree) (s : State) → plan (exec (while' l t ls)) s ≡ paid l s (statement (while' l t ls))
unfolding plan
while_pays l t ls s = refl

pub while_opens : (r : Round) (ts : List Task) (vs : List Value) (s : State) → Unfolds (bind (statement (while' r.line (test_of r) (block_of r)) s) (left ts vs)) (left (task.Rounds r ∷ ts) vs (goes_on s))
unfolding bind
while_opens r ts vs s = same refl
