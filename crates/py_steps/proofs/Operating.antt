-- Operators behind their left operand.
use Rattle.std.proofs.Common.{◌≡◌, ◌≢◌, ◌∙◌, ◌⊎◌, inl, inr, ℕ, Bool, true, false, List, [], ◌∷◌, map, length, refl, sym, subst, ap, suc-ne-zero}
use Rattle.std.proofs.lemmas.Bool.{false≢true}
use denote.Ref.{Bor}
use Rattle.py_tree.specs.Tree.{Tree, cons, operation, trees, expr_tree, operation_tree}
use Rattle.py_tree.specs.declared.expr.Expr.{Expr}
use Rattle.py_tree.specs.declared.expr.Operation.{Operation}
use Rattle.py_tree.specs.declared.expr.Operator.{Operator}
use Rattle.py_tree.specs.declared.expr.Operator.TheVariants as operator'
use Rattle.py_tree.proofs.Views.{operation_tree-Operation}
use Rattle.py_heap.specs.declared.value.Value.{Value}
use Rattle.py_heap.specs.Heap.{truth_of}
use Rattle.py_operators.specs.Binary.{binary_of}
use Rattle.py_operators.specs.declared.op.Op.{Op}
use Rattle.py_meaning.specs.States.{State, goes_on, after_operation}
use Rattle.py_meaning.specs.Jobs.{operations}
use Rattle.py_meaning.specs.Plans.{Plan, first, goes, after, checked, bind}
use Rattle.py_meaning.specs.Evaluates.{plan}
use Rattle.py_meaning.specs.Expressions.{plan_operations}
use Rattle.py_meaning.specs.Statements.{operator_op}
use Rattle.py_steps.specs.Desks.{Stacks, stacks_of, tasks_of, values_of, top, below}
use Rattle.py_steps.specs.Leads.{Unfolds, same, opens, in_place_at, operated_at}
use Rattle.py_steps.specs.Todos.{left, is_decided}
use Rattle.py_steps.specs.declared.desk.Desk.{Desk}
use Rattle.py_steps.specs.declared.task.Task.TheVariants as task
use Rattle.py_steps.proofs.Behind.{after_is, checked_is}
use Rattle.py_steps.proofs.Rests.{arrives}

abbrev operations_left : List Operation → Desk → State → Plan
operations_left os d s = first (operations (top (values_of d)) (trees (map operation_tree os))) s (in_place_at d)

-- no operator is left
pub operations_end : (os : List Operation) (d d' : Desk) (s : State) → length os ≡ 0 → stacks_of d' ≡ record { tasks = tasks_of d; values = top (values_of d) ∷ below (values_of d) } → Unfolds (operations_left os d s) (left (tasks_of d') (values_of d') (goes_on s))
unfolding plan bind
operations_end [] d d' s e a = arrives d' (goes_on s) a (opens (same refl))
operations_end (o ∷ os) d d' s e a = absurd (suc-ne-zero _ e)

-- the first one, and the others
pub operations_first : (os rest : List Operation) (o : Operation) (d : Desk) (s : State) (q : Plan) → os ≡ o ∷ rest → Unfolds (operated_at (cons (operation_tree o) (trees (map operation_tree rest))) d s) q → Unfolds (operations_left os d s) q
unfolding plan
operations_first os rest o d s q e u =
    subst (λ (y : List Operation). Unfolds (operations_left y d s) q) (sym e) (opens u)

-- `or` and `and` that give their left operand, those that don't, and other operators
decided_plan : (op : Operator) (l : ℕ) (x : Value) (t more : Tree) (s : State) → is_decided op (truth_of s.objects x) ≡ true → plan_operations x (cons (operation l op t) more) s ≡ goes (operations x more) s
decided_plan operator'.Or l x t more s h = rw h refl
decided_plan operator'.And l x t more s h = rw h refl
decided_plan op l x t more s h = absurd (false≢true h)

undecided_plan : (op : Operator) (l : ℕ) (x : Value) (t more : Tree) (s : State) → (op ≡ operator'.Or) ⊎ (op ≡ operator'.And) → is_decided op (truth_of s.objects x) ≡ false → plan_operations x (cons (operation l op t) more) s ≡ after t s (λ y s1. goes (operations y more) s1)
undecided_plan operator'.Or l x t more s w h = rw h refl
undecided_plan operator'.And l x t more s w h = rw h refl
undecided_plan op l x t more s (inl w) h = absurd (cc)
undecided_plan op l x t more s (inr w) h = absurd (cc)

operator_plan : (op : Operator) (l : ℕ) (x : Value) (t more : Tree) (s : State) → op ≢ operator'.Or → op ≢ operator'.And → plan_operations x (cons (operation l op t) more) s ≡ after t s (λ y s1. checked l s1 (binary_of (operator_op op) s1.objects s1.units x y) (λ m. goes (operations m.0 more) (after_operation s1 m)))
operator_plan operator'.Or l x t more s h g = absurd (h refl)
operator_plan operator'.And l x t more s h g = absurd (g refl)
operator_plan op l x t more s h g = refl

-- by the parts of an operation
by_parts : (o : Operation) (more : Tree) (d : Desk) (s : State) (p q : Plan) → plan_operations (top (values_of d)) (cons (operation o.line o.operator (expr_tree o.operand)) more) s ≡ p → Unfolds (bind p (in_place_at d)) q → Unfolds (operated_at (cons (operation_tree o) more) d s) q
by_parts o more d s p q e u =
    subst (λ (t : Tree). Unfolds (operated_at (cons t more) d s) q) (sym (operation_tree-Operation o.line o.operator o.operand))
    (subst (λ (y : Plan). Unfolds (bind y (in_place_at d)) q) (sym e) u)

pub decided_goes : (os : List Operation) (o : Operation) (rest : Bor (List Operation)) (x : Value) (b : Bool) (d d' : Desk) (s : State) → os ≡ o ∷ rest.now → x ≡ top (values_of d) → b ≡ is_decided o.operator (truth_of s.objects x) → b ≡ true → stacks_of d' ≡ record { tasks = task.Operations rest ∷ tasks_of d; values = values_of d } →
    Unfolds (operations_left os d s) (left (tasks_of d') (values_of d') (goes_on s))
unfolding bind
decided_goes os o rest x b d d' s e p f g a =
    let more = trees (map operation_tree rest.now) in
    arrives d' (goes_on s) a
    (operations_first os rest.now o d s (left (task.Operations rest ∷ tasks_of d) (values_of d) (goes_on s)) e
    (by_parts o more d s (goes (operations (top (values_of d)) more) s) (left (task.Operations rest ∷ tasks_of d) (values_of d) (goes_on s))
    (decided_plan o.operator o.line (top (values_of d)) (expr_tree o.operand) more s (ap (λ (y : Value). is_decided o.operator (truth_of s.objects y)) (sym p) ∙ sym f ∙ g))
    (same refl)))

pub undecided_goes : (os : List Operation) (o : Operation) (rest : Bor (List Operation)) (x : Value) (b : Bool) (d d' : Desk) (s : State) → os ≡ o ∷ rest.now → x ≡ top (values_of d) → b ≡ is_decided o.operator (truth_of s.objects x) → b ≡ false →
    ((s : State) → is_decided o.operator (truth_of s.objects (top (values_of d))) ≡ false → Unfolds (operated_at (cons (operation_tree o) (trees (map operation_tree rest.now))) d s) (left (tasks_of d') (values_of d') (goes_on s))) →
    Unfolds (operations_left os d s) (left (tasks_of d') (values_of d') (goes_on s))
undecided_goes os o rest x b d d' s e p f g u =
    operations_first os rest.now o d s (left (tasks_of d') (values_of d') (goes_on s)) e
    (u s (ap (λ (y : Value). is_decided o.operator (truth_of s.objects y)) (sym p) ∙ sym f ∙ g))

-- the right operand in the place of the left one
pub in_place_goes : (o : Operation) (e : Bor Expr) (rest : Bor (List Operation)) (d d1 d2 d3 : Desk) (s : State) → (o.operator ≡ operator'.Or) ⊎ (o.operator ≡ operator'.And) → e.now ≡ o.operand → is_decided o.operator (truth_of s.objects (top (values_of d))) ≡ false → stacks_of d1 ≡ record { tasks = task.Operations rest ∷ tasks_of d; values = values_of d } → stacks_of d2 ≡ record { tasks = tasks_of d1; values = below (values_of d1) } → stacks_of d3 ≡ record { tasks = task.Evaluate e ∷ tasks_of d2; values = values_of d2 } →
    Unfolds (operated_at (cons (operation_tree o) (trees (map operation_tree rest.now))) d s) (left (tasks_of d3) (values_of d3) (goes_on s))
unfolding bind
in_place_goes o e rest d d1 d2 d3 s w p h a b c =
    let more = trees (map operation_tree rest.now) in
    let q = left (task.Evaluate e ∷ task.Operations rest ∷ tasks_of d) (below (values_of d)) (goes_on s) in
    let next : Value → State → Plan = λ y s1. goes (operations y more) s1 in
    let two : stacks_of d2 ≡ record { tasks = task.Operations rest ∷ tasks_of d; values = below (values_of d) } = b ∙ ap (λ (k : Stacks). record { tasks = k.tasks; values = below k.values }) a in
    arrives d3 (goes_on s) (c ∙ ap (λ (k : Stacks). record { tasks = task.Evaluate e ∷ k.tasks; values = k.values }) two)
    (by_parts o more d s (after (expr_tree o.operand) s next) q (undecided_plan o.operator o.line (top (values_of d)) (expr_tree o.operand) more s w h)
    (subst (λ (x : Expr). Unfolds (bind (after (expr_tree x) s next) (in_place_at d)) q) p
    (same (after_is (expr_tree e.now) s next (λ y s1. first (operations y more) s1 (in_place_at d)) (in_place_at d) (λ s1. refl) (λ y s1. refl)))))

-- the right operand on top of the left one, and the operator
pub on_top_goes : (o : Operation) (op : Op) (e : Bor Expr) (rest : Bor (List Operation)) (d d1 d2 : Desk) (s : State) → o.operator ≢ operator'.Or → o.operator ≢ operator'.And → op ≡ operator_op o.operator → e.now ≡ o.operand → stacks_of d1 ≡ record { tasks = task.Operations rest ∷ tasks_of d; values = values_of d } → stacks_of d2 ≡ record { tasks = task.Evaluate e ∷ task.Binary o.line op ∷ tasks_of d1; values = values_of d1 } →
    Unfolds (operated_at (cons (operation_tree o) (trees (map operation_tree rest.now))) d s) (left (tasks_of d2) (values_of d2) (goes_on s))
unfolding bind
on_top_goes o op e rest d d1 d2 s h g f p a b =
    let l = o.line in
    let vs = values_of d in
    let more = trees (map operation_tree rest.now) in
    let q = left (task.Evaluate e ∷ task.Binary l op ∷ task.Operations rest ∷ tasks_of d) vs (goes_on s) in
    let next : Op → Value → State → Plan = λ k y s1. checked l s1 (binary_of k s1.objects s1.units (top vs) y) (λ m. goes (operations m.0 more) (after_operation s1 m)) in
    let there : Value → State → Plan = λ y s1. checked l s1 (binary_of op s1.objects s1.units (top vs) y) (λ m. first (operations m.0 more) (after_operation s1 m) (in_place_at d)) in
    arrives d2 (goes_on s) (b ∙ ap (λ (k : Stacks). record { tasks = task.Evaluate e ∷ task.Binary l op ∷ k.tasks; values = k.values }) a)
    (by_parts o more d s (after (expr_tree o.operand) s (next (operator_op o.operator))) q (operator_plan o.operator l (top vs) (expr_tree o.operand) more s h g)
    (subst (λ (x : Expr). Unfolds (bind (after (expr_tree x) s (next (operator_op o.operator))) (in_place_at d)) q) p
    (subst (λ (k : Op). Unfolds (bind (after (expr_tree e.now) s (next k)) (in_place_at d)) q) f
    (same (after_is (expr_tree e.now) s (next op) there (in_place_at d) (λ s1. refl)
    (λ y s1. checked_is l s1 (binary_of op s1.objects s1.units (top vs) y) (λ m. goes (operations m.0 more) (after_operation s1 m)) (λ m. first (operations m.0 more) (after_operation s1 m) (in_place_at d)) (in_place_at d) (λ m. refl)))))))
