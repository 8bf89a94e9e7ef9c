-- Conditional expressions: the test, then one of the two.
use Rattle.std.proofs.Common.{◌≡◌, ◌∙◌, ℕ, Bool, true, false, List, ◌∷◌, refl, sym, subst, ap}
use denote.Ref.{Bor}
use Rattle.py_tree.specs.Tree.{Tree, expr_tree, choice}
use Rattle.py_tree.specs.declared.expr.Expr.{Expr}
use Rattle.py_heap.specs.declared.value.Value.{Value}
use Rattle.py_heap.specs.Heap.{truth_of}
use Rattle.py_meaning.specs.States.{State, Out, goes_on}
use Rattle.py_meaning.specs.Jobs.{eval}
use Rattle.py_meaning.specs.Plans.{first, bind, after}
use Rattle.py_meaning.specs.Evaluates.{plan}
use Rattle.py_meaning.specs.Expressions.{picked}
use Rattle.py_steps.specs.Desks.{stacks_of, tasks_of, values_of, top, below}
use Rattle.py_steps.specs.Leads.{Unfolds, same, opens}
use Rattle.py_steps.specs.Todos.{Rest, left, gives_on, one_of}
use Rattle.py_steps.specs.declared.desk.Desk.{Desk}
use Rattle.py_steps.specs.declared.task.Task.{Task}
use Rattle.py_steps.specs.declared.task.Task.TheVariants as task
use Rattle.py_steps.proofs.Beginnings.{before}
use Rattle.py_steps.proofs.Going.{after_unfolds}
use Rattle.py_steps.proofs.Rests.{arrives}
use Rattle.py_steps.proofs.Turns.{one_for}

picked_on : (b : Bool) (t u : Tree) (vs : List Value) (k : Rest) (s : State) → Unfolds (bind (picked b t u s) (gives_on vs k)) (first (eval (one_of b t u)) s (gives_on vs k))
unfolding bind
picked_on true t u vs k s = same refl
picked_on false t u vs k s = same refl

pub choice_begins : (l : ℕ) (t c u : Tree) (ts : List Task) (vs : List Value) (s : State) → Unfolds (before (choice l t c u) ts vs s) (after c s (λ x s1. first (eval (one_of (truth_of s1.objects x) t u)) s1 (gives_on vs (left ts))))
unfolding plan bind
choice_begins l t c u ts vs s =
    opens (after_unfolds c s (λ x s1. picked (truth_of s1.objects x) t u s1) (λ x s1. first (eval (one_of (truth_of s1.objects x) t u)) s1 (gives_on vs (left ts))) (gives_on vs (left ts)) (λ s1. refl)
    (λ x s1. picked_on (truth_of s1.objects x) t u vs (left ts) s1))

-- the test is there: what it picks comes next
picks : (a b e : Bor Expr) (x : Value) (d d1 d2 : Desk) (s : State) (t r : Bool) → x ≡ top (values_of d) → t ≡ truth_of s.objects x → t ≡ r → expr_tree e.now ≡ one_of r (expr_tree a.now) (expr_tree b.now) → stacks_of d1 ≡ record { tasks = tasks_of d; values = below (values_of d) } → stacks_of d2 ≡ record { tasks = task.Evaluate e ∷ tasks_of d1; values = values_of d1 } →
    Unfolds (left (task.Pick a b ∷ tasks_of d) (values_of d) (goes_on s)) (left (tasks_of d2) (values_of d2) (goes_on s))
picks a b e x d d1 d2 s t r i f g w p q =
    let vs = below (values_of d) in
    arrives d2 (goes_on s) (one_for d d1 d2 (task.Evaluate e) p q)
    (same (ap (λ (u : Bool). before (one_of u (expr_tree a.now) (expr_tree b.now)) (tasks_of d) vs s) (ap (truth_of s.objects) (sym i) ∙ sym f ∙ g) ∙ ap (λ (u : Tree). before u (tasks_of d) vs s) (sym w)))

pub picks_first : (a b : Bor Expr) (x : Value) (d d1 d2 : Desk) (s : State) (t : Bool) → x ≡ top (values_of d) → t ≡ truth_of s.objects x → t ≡ true → stacks_of d1 ≡ record { tasks = tasks_of d; values = below (values_of d) } → stacks_of d2 ≡ record { tasks = task.Evaluate a ∷ tasks_of d1; values = values_of d1 } →
    Unfolds (left (task.Pick a b ∷ tasks_of d) (values_of d) (goes_on s)) (left (tasks_of d2) (values_of d2) (goes_on s))
picks_first a b x d d1 d2 s t i f g p q = picks a b a x d d1 d2 s t true i f g refl p q

pub picks_other : (a b : Bor Expr) (x : Value) (d d1 d2 : Desk) (s : State) (t : Bool) → x ≡ top (values_of d) → t ≡ truth_of s.objects x → t ≡ false → stacks_of d1 ≡ record { tasks = tasks_of d; values = below (values_of d) } → stacks_of d2 ≡ record { tasks = task.Evaluate b ∷ tasks_of d1; values = values_of d1 } →
    Unfolds (left (task.Pick a b ∷ tasks_of d) (values_of d) (goes_on s)) (left (tasks_of d2) (values_of d2) (goes_on s))
picks_other a b x d d1 d2 s t i f g p q = picks a b b x d d1 d2 s t false i f g refl p q
