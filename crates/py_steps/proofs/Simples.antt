-- Statements: what each form of one comes to.
use Rattle.std.proofs.Common.{◌≡◌, ◌⊎◌, inl, inr, ℕ, List, [], ◌∷◌, Result, Ok, Err, map, length, refl, sym, subst, ap, suc-ne-zero}
use denote.Ref.{Bor}
use Rattle.py_tree.specs.Tree.{Tree, absent, assign, expression, pass, imports, break, continue, return, trees, simple_tree, expr_tree, argument_step, expr_step, link_step, operation_step, pair_step, piece_step}
use Rattle.py_tree.specs.declared.expr.Expr.{Expr, roll-Expr, out-Expr, roll-out-Expr, fold-roll-Expr}
use Rattle.py_tree.specs.declared.expr.Link.{Link}
use Rattle.py_tree.specs.declared.expr.Argument.{Argument}
use Rattle.py_tree.specs.declared.expr.Operation.{Operation}
use Rattle.py_tree.specs.declared.expr.Pair.{Pair}
use Rattle.py_tree.specs.declared.expr.Piece.{Piece}
use Rattle.py_tree.specs.declared.expr.Argument.TheOpen as open'
use Rattle.py_tree.specs.declared.line.Simple.{Simple}
use Rattle.py_tree.specs.declared.line.Simple.TheVariants as simple'
use Rattle.py_heap.specs.declared.value.Value.{Value}
use Rattle.py_heap.specs.declared.value.Value.TheVariants as v
use Rattle.py_heap.specs.Units.{charged}
use Rattle.py_meaning.specs.Lines.{first_line}
use Rattle.py_meaning.specs.States.{State, Frame, Out, goes_on, breaks, continues, returns}
use Rattle.py_meaning.specs.Jobs.{exec, exec_all, eval, eval_or_nil}
use Rattle.py_meaning.specs.Plans.{Plan, comes_to, first, goes, on_value, paid, bind}
use Rattle.py_meaning.specs.Evaluates.{plan}
use Rattle.py_meaning.specs.Statements.{statement, assigned, plan_or_nil}
use Rattle.py_state.specs.Stores.{state_of, store_of}
use Rattle.py_state.specs.declared.machine.Machine.{Machine}
use Rattle.py_state.specs.declared.stop.Stop.{Stop}
use Rattle.py_steps.specs.Desks.{Stacks, stacks_of, tasks_of, values_of, in_loop, past_loop}
use Rattle.py_steps.specs.Leads.{Unfolds, same, opens, later, StepsOrReturns, plan_at, left_at}
use Rattle.py_steps.specs.Todos.{left}
use Rattle.py_steps.specs.declared.desk.Desk.{Desk}
use Rattle.py_steps.specs.declared.statements.Flow.{Flow}
use Rattle.py_steps.specs.declared.task.Task.{Task}
use Rattle.py_steps.specs.declared.task.Task.TheVariants as task
use Rattle.py_steps.proofs.Behind.{after_is, value_is}
use Rattle.py_steps.proofs.Faults.{NoUnit, unpaid, paid_goes, flows_by, stops_too, after_pay}
use Rattle.py_steps.proofs.Rests.{arrives, left_ends, left_returns, statements_first}

-- each is paid for
pub simple_pays : (t : Simple) (s : State) → plan (exec (simple_tree t)) s ≡ paid (first_line (simple_tree t)) s (statement (simple_tree t))
unfolding plan
simple_pays (simple'.Assign l t e) s = refl
simple_pays (simple'.Augment l k t e) s = refl
simple_pays (simple'.Expression e) s = refl
simple_pays (simple'.Pass l) s = refl
simple_pays (simple'.Break l) s = refl
simple_pays (simple'.Continue l) s = refl
simple_pays (simple'.Return l e) s = refl
simple_pays (simple'.ImportScons l) s = refl

abbrev statements_left : List Simple → Desk → State → Plan
statements_left ss d s = first (exec_all (trees (map simple_tree ss))) s (left (tasks_of d) (values_of d))

pub statements_end : (ss : List Simple) (d : Desk) (s : State) → length ss ≡ 0 → Unfolds (statements_left ss d s) (left (tasks_of d) (values_of d) (goes_on s))
unfolding plan bind
statements_end [] d s e = opens (same refl)
statements_end (x ∷ xs) d s e = absurd (suc-ne-zero _ e)

-- the first one is paid for, and run with the others behind it
pub statement_first : (ss : List Simple) (t : Simple) (rest : Bor (List Simple)) (d d1 : Desk) (s : State) (q : Plan) → ss ≡ t ∷ rest.now → stacks_of d1 ≡ record { tasks = task.Statements rest ∷ tasks_of d; values = values_of d } → Unfolds (bind (paid (first_line (simple_tree t)) s (statement (simple_tree t))) (left (tasks_of d1) (values_of d1))) q → Unfolds (statements_left ss d s) q
statement_first ss t rest d d1 s q e a u =
    statements_first (simple_tree t) (trees (map simple_tree ss)) s q rest (tasks_of d) (values_of d) (ap (λ (x : List Simple). trees (map simple_tree x)) e)
    (subst (λ (k : Stacks). Unfolds (first (exec (simple_tree t)) s (left k.tasks k.values)) q) a
    (opens (subst (λ (p : Plan). Unfolds (bind p (left (tasks_of d1) (values_of d1))) q) (sym (simple_pays t s)) u)))

pub statement_unpaid : (ss : List Simple) (t : Simple) (rest : Bor (List Simple)) (d d1 : Desk) (m : Machine) (f : Frame) (x : Stop) (q : Plan) (s : State) → ss ≡ t ∷ rest.now → stacks_of d1 ≡ record { tasks = task.Statements rest ∷ tasks_of d; values = values_of d } → NoUnit m.budget f.script (first_line (simple_tree t)) x → StepsOrReturns (statements_left ss d (state_of m f)) (Err x) q s
statement_unpaid ss t rest d d1 m f x q s e a w =
    let p = bind (paid (first_line (simple_tree t)) (state_of m f) (statement (simple_tree t))) (left (tasks_of d1) (values_of d1)) in
    flows_by p (statements_left ss d (state_of m f)) q s (Err x) (λ q' u. statement_first ss t rest d d1 (state_of m f) q' e a u)
    (stops_too Flow p q q s x (unpaid Flow (first_line (simple_tree t)) (state_of m f) (statement (simple_tree t)) (left (tasks_of d1) (values_of d1)) x q w))

pub statement_runs : (ss : List Simple) (t : Simple) (rest : Bor (List Simple)) (d d1 d2 : Desk) (m m1 : Machine) (f : Frame) (r : Result Flow Stop) → ss ≡ t ∷ rest.now → stacks_of d1 ≡ record { tasks = task.Statements rest ∷ tasks_of d; values = values_of d } → charged m.budget 1 ≡ Ok m1.budget → store_of m1 ≡ record (store_of m) { units = m1.budget } →
    ((s : State) → StepsOrReturns (plan_at (statement (simple_tree t) s) d1) r (left (tasks_of d2) (values_of d2) (goes_on s)) s) → StepsOrReturns (statements_left ss d (state_of m f)) r (left_at d2 m1 f) (state_of m1 f)
statement_runs ss t rest d d1 d2 m m1 f r e a c p g =
    let s1 = state_of m1 f in
    let q = left_at d2 m1 f in
    flows_by (plan_at (statement (simple_tree t) s1) d1) (statements_left ss d (state_of m f)) q s1 r
    (λ q' u. statement_first ss t rest d d1 (state_of m f) q' e a
    (paid_goes (first_line (simple_tree t)) (state_of m f) (statement (simple_tree t)) (left (tasks_of d1) (values_of d1)) m1.budget q' c
    (subst (λ (s : State). Unfolds (bind (statement (simple_tree t) s) (left (tasks_of d1) (values_of d1))) q') (after_pay m m1 f p) u)))
    (g s1)

-- a statement, by its form
pub statement_as : (t form : Simple) (d : Desk) (s : State) (r : Result Flow Stop) (q : Plan) → t ≡ form → StepsOrReturns (plan_at (statement (simple_tree form) s) d) r q s → StepsOrReturns (plan_at (statement (simple_tree t) s) d) r q s
statement_as t form d s r q e g = subst (λ (x : Simple). StepsOrReturns (plan_at (statement (simple_tree x) s) d) r q s) (sym e) g

pub statement_unfolds : (t form : Simple) (d : Desk) (s : State) (q : Plan) → t ≡ form → Unfolds (plan_at (statement (simple_tree form) s) d) q → Unfolds (plan_at (statement (simple_tree t) s) d) q
statement_unfolds t form d s q e g = subst (λ (x : Simple). Unfolds (plan_at (statement (simple_tree x) s) d) q) (sym e) g

-- those that do nothing
pub pass_goes : (l : ℕ) (d : Desk) (s : State) → Unfolds (plan_at (statement (pass l) s) d) (left (tasks_of d) (values_of d) (goes_on s))
unfolding bind
pass_goes l d s = same refl

pub imports_goes : (l : ℕ) (d : Desk) (s : State) → Unfolds (plan_at (statement (imports l) s) d) (left (tasks_of d) (values_of d) (goes_on s))
unfolding bind
imports_goes l d s = same refl

-- `break` and `continue` pass over the tasks within the innermost loop
left_breaks : (ts : List Task) (vs : List Value) (s : State) → left ts vs (breaks s) ≡ left (past_loop ts) vs (goes_on s)
left_breaks [] vs s = refl
left_breaks (task.Turns t walk ∷ ts) vs s = refl
left_breaks (task.Rounds r ∷ ts) vs s = refl
left_breaks (t ∷ ts) vs s = left_breaks ts vs s

left_continues : (ts : List Task) (vs : List Value) (s : State) → left ts vs (continues s) ≡ left (in_loop ts) vs (goes_on s)
left_continues [] vs s = refl
left_continues (task.Turns t walk ∷ ts) vs s = refl
left_continues (task.Rounds r ∷ ts) vs s = refl
left_continues (t ∷ ts) vs s = left_continues ts vs s

pub break_goes : (l : ℕ) (d d' : Desk) (s : State) → stacks_of d' ≡ record { tasks = past_loop (tasks_of d); values = values_of d } → Unfolds (plan_at (statement (break l) s) d) (left (tasks_of d') (values_of d') (goes_on s))
unfolding bind
break_goes l d d' s e = arrives d' (goes_on s) e (same (left_breaks (tasks_of d) (values_of d) s))

pub continue_goes : (l : ℕ) (d d' : Desk) (s : State) → stacks_of d' ≡ record { tasks = in_loop (tasks_of d); values = values_of d } → Unfolds (plan_at (statement (continue l) s) d) (left (tasks_of d') (values_of d') (goes_on s))
unfolding bind
continue_goes l d d' s e = arrives d' (goes_on s) e (same (left_continues (tasks_of d) (values_of d) s))

-- an assignment, and an expression
pub assign_goes : (l : ℕ) (t e : Bor Expr) (d d' : Desk) (s : State) → stacks_of d' ≡ record { tasks = task.Evaluate e ∷ task.Assign l t ∷ tasks_of d; values = values_of d } → Unfolds (plan_at (statement (assign l (expr_tree t.now) (expr_tree e.now)) s) d) (left (tasks_of d') (values_of d') (goes_on s))
assign_goes l t e d d' s a =
    let k = left (tasks_of d) (values_of d) in
    let done : State → Plan = λ s1. comes_to (goes_on s1) in
    arrives d' (goes_on s) a (same (after_is (expr_tree e.now) s (λ x s1. assigned l (expr_tree t.now) x s1 done) (λ x s1. bind (assigned l (expr_tree t.now) x s1 done) k) k (left_ends (tasks_of d) (values_of d)) (λ x s1. refl)))

pub expression_goes : (e : Bor Expr) (d d' : Desk) (s : State) → stacks_of d' ≡ record { tasks = task.Evaluate e ∷ task.Forget ∷ tasks_of d; values = values_of d } → Unfolds (plan_at (statement (expression (expr_tree e.now)) s) d) (left (tasks_of d') (values_of d') (goes_on s))
unfolding bind
expression_goes e d d' s a =
    let k = left (tasks_of d) (values_of d) in
    arrives d' (goes_on s) a (same (after_is (expr_tree e.now) s (λ x s1. comes_to (goes_on s1)) (λ x s1. k (goes_on s1)) k (left_ends (tasks_of d) (values_of d)) (λ x s1. refl)))

-- `return`
nil_of_at : (o : open'.Expr-F Argument Expr Link Piece Operation Pair) (s : State) → plan_or_nil (expr_tree (roll-Expr o)) s ≡ goes (eval (expr_tree (roll-Expr o))) s
unfolding expr_tree
nil_of_at (open'.Name l n) s = subst (λ (t : Tree). plan_or_nil t s ≡ goes (eval t) s) (sym (fold-roll-Expr Tree Tree Tree Tree Tree Tree argument_step expr_step link_step piece_step operation_step pair_step (open'.Name l n))) refl
nil_of_at o s = subst (λ (t : Tree). plan_or_nil t s ≡ goes (eval t) s) (sym (fold-roll-Expr Tree Tree Tree Tree Tree Tree argument_step expr_step link_step piece_step operation_step pair_step o)) refl

nil_of : (e : Expr) (s : State) → plan_or_nil (expr_tree e) s ≡ goes (eval (expr_tree e)) s
nil_of e s =
    let P : Expr → Type 0 = λ x. plan_or_nil (expr_tree x) s ≡ goes (eval (expr_tree x)) s in
    subst P (roll-out-Expr e) (nil_of_at (out-Expr e) s)

abbrev gives_back : Value → State → Plan
gives_back x s = comes_to (returns x s)

pub return_nil : (l : ℕ) (t : Tree) (d : Desk) (s : State) → t ≡ absent → Unfolds (plan_at (statement (return l t) s) d) (comes_to (returns v.Nil s))
unfolding plan bind
return_nil l t d s e =
    subst (λ (x : Tree). Unfolds (plan_at (statement (return l x) s) d) (comes_to (returns v.Nil s))) (sym e) (opens (same (left_returns (tasks_of d) (values_of d) v.Nil s)))

returned : (t : Tree) (ts : List Task) (vs : List Value) (s : State) → plan_or_nil t s ≡ goes (eval t) s → Unfolds (bind (first (eval_or_nil t) s (on_value gives_back)) (left ts vs)) (first (eval t) s (on_value (λ x s1. left ts vs (returns x s1))))
unfolding plan bind
returned t ts vs s e =
    let k = left ts vs in
    let f : Out → Plan = λ o. bind (on_value gives_back o) k in
    opens (subst (λ (p : Plan). Unfolds (bind p f) (first (eval t) s (on_value (λ x s1. left ts vs (returns x s1))))) (sym e)
    (later (λ o. same (value_is gives_back (λ x s1. left ts vs (returns x s1)) k (left_ends ts vs) (λ x s1. refl) o))))

pub return_goes : (l : ℕ) (t : Tree) (e : Bor Expr) (d d' : Desk) (s : State) → t ≡ expr_tree e.now → stacks_of d' ≡ record { tasks = task.Evaluate e ∷ task.Return ∷ tasks_of d; values = values_of d } → Unfolds (plan_at (statement (return l t) s) d) (left (tasks_of d') (values_of d') (goes_on s))
return_goes l t e d d' s p a =
    arrives d' (goes_on s) a
    (subst (λ (x : Tree). Unfolds (plan_at (statement (return l x) s) d) (first (eval (expr_tree e.now)) s (on_value (λ x s1. left (tasks_of d) (values_of d) (returns x s1))))) (sym p)
    (returned (expr_tree e.now) (tasks_of d) (values_of d) s (nil_of e.now s)))

pub pass_or_imports : (t : Simple) (d : Desk) (s : State) → ((x : ℕ) × (t ≡ simple'.Pass x)) ⊎ ((x : ℕ) × (t ≡ simple'.ImportScons x)) → Unfolds (plan_at (statement (simple_tree t) s) d) (left (tasks_of d) (values_of d) (goes_on s))
pass_or_imports t d s (inl w) = statement_unfolds t (simple'.Pass w.0) d s (left (tasks_of d) (values_of d) (goes_on s)) w.1 (pass_goes w.0 d s)
pass_or_imports t d s (inr w) = statement_unfolds t (simple'.ImportScons w.0) d s (left (tasks_of d) (values_of d) (goes_on s)) w.1 (imports_goes w.0 d s)
