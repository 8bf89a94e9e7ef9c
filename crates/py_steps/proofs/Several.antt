-- Several expressions, one after another.
use Rattle.std.proofs.Common.{arith, ◌≡◌, ◌∙◌, ℕ, List, [], ◌∷◌, ◌++◌, Some, None, ap, sym, refl, subst, reverse, map, length}
use mathlib.Core.Path.{fun_ext}
use Rattle.std.proofs.lemmas.List.{append_assoc}
use Rattle.std.proofs.lemmas.Grind.{reverse_onto}
use Rattle.py_tree.specs.Tree.{Tree, nil, cons, pair, named, parameter, trees, expr_tree, pair_tree, argument_tree, parameter_tree, optional_tree, argument_step, expr_step, link_step, operation_step, pair_step, piece_step}
use Rattle.py_heap.specs.declared.value.Value.{Value}
use Rattle.py_meaning.specs.States.{State, Out, gives, all_give, goes_on, breaks, continues, returns, ends, exits}
use Rattle.py_meaning.specs.Jobs.{eval_all}
use Rattle.py_meaning.specs.Plans.{Plan, comes_to, first, bind, on_values, after, after_all}
use Rattle.py_meaning.specs.Evaluates.{plan}
use Rattle.py_meaning.specs.Expressions.{flat_pairs}
use denote.Ref.{Bor}
use Rattle.py_tree.specs.declared.expr.Expr.{Expr, roll-Expr, out-Expr, roll-out-Expr, fold-roll-Expr}
use Rattle.py_tree.specs.declared.expr.Link.{Link}
use Rattle.py_tree.specs.declared.expr.Operation.{Operation}
use Rattle.py_tree.specs.declared.expr.Argument.TheOpen as open'
use Rattle.py_tree.specs.declared.line.Parameter.{Parameter}
use Rattle.py_meaning.specs.Arguments.{defaults_of}
use Rattle.py_tree.specs.declared.expr.Pair.{Pair}
use Rattle.py_tree.specs.declared.expr.Piece.{Piece}
use Rattle.py_tree.specs.declared.expr.Argument.{Argument}
use Rattle.py_tree.specs.declared.expr.Argument.TheVariants as argument'
use Rattle.py_tree.proofs.Views.{pair_tree-Pair, argument_tree-Positional, argument_tree-Named}
use Rattle.py_steps.specs.declared.desk.Desk.{Desk}
use Rattle.py_steps.specs.declared.task.Task.TheVariants as task
use Rattle.py_steps.specs.Desks.{stacks_of, tasks_of, values_of}
use Rattle.py_steps.specs.Todos.{Rest, left, all_on}
use Rattle.py_steps.specs.Leads.{Unfolds, same, opens, later}
use Rattle.py_steps.proofs.Going.{after_unfolds, value_unfolds, onto}

reversed_onto : (x : Value) (xs vs : List Value) → reverse (x ∷ xs) ++ vs ≡ reverse xs ++ (x ∷ vs)
reversed_onto x xs vs = ap (λ ys. ys ++ vs) (reverse_onto xs x []) ∙ append_assoc (reverse xs) (x ∷ []) vs

-- one value before the others
rest_at : (x : Value) (vs : List Value) (k : Rest) (o : Out) → bind (on_values (λ xs s. comes_to (all_give (x ∷ xs) s)) o) (all_on vs k) ≡ all_on (x ∷ vs) k o
unfolding bind
rest_at x vs k (gives y s) = refl
rest_at x vs k (all_give xs s) = ap (λ ys. k ys (goes_on s)) (reversed_onto x xs vs)
rest_at x vs k (goes_on s) = refl
rest_at x vs k (breaks s) = refl
rest_at x vs k (continues s) = refl
rest_at x vs k (returns y s) = refl
rest_at x vs k (ends s) = refl
rest_at x vs k (exits y s) = refl

pub rest_on : (x : Value) (vs : List Value) (k : Rest) (us : Tree) (s : State) → bind (after_all us s (λ xs s1. comes_to (all_give (x ∷ xs) s1))) (all_on vs k) ≡ first (eval_all us) s (all_on (x ∷ vs) k)
unfolding bind
rest_on x vs k us s = ap (λ (on : Out → Plan). first (eval_all us) s on) (fun_ext (rest_at x vs k))

pub all_begins : (t us : Tree) (vs : List Value) (k : Rest) (s : State) → Unfolds (first (eval_all (cons t us)) s (all_on vs k)) (after t s (λ x s1. first (eval_all us) s1 (all_on (x ∷ vs) k)))
unfolding plan
all_begins t us vs k s =
    opens (after_unfolds t s (λ x s1. after_all us s1 (λ xs s2. comes_to (all_give (x ∷ xs) s2))) (λ x s1. first (eval_all us) s1 (all_on (x ∷ vs) k)) (all_on vs k) (λ s1. refl) (λ x s1. same (rest_on x vs k us s1)))

pub all_end : (vs : List Value) (k : Rest) (s : State) → Unfolds (first (eval_all nil) s (all_on vs k)) (k vs (goes_on s))
unfolding plan bind
all_end vs k s = opens (same refl)

-- the key and the item of a pair
pub pair_begins : (l : ℕ) (t u ps : Tree) (vs : List Value) (k : Rest) (s : State) → Unfolds (first (eval_all (flat_pairs (cons (pair l t u) ps))) s (all_on vs k)) (after t s (λ x s1. after u s1 (λ y s2. first (eval_all (flat_pairs ps)) s2 (all_on (y ∷ x ∷ vs) k))))
unfolding plan
pair_begins l t u ps vs k s =
    opens (after_unfolds t s (λ x s1. after_all (cons u (flat_pairs ps)) s1 (λ xs s2. comes_to (all_give (x ∷ xs) s2))) (λ x s1. after u s1 (λ y s2. first (eval_all (flat_pairs ps)) s2 (all_on (y ∷ x ∷ vs) k))) (all_on vs k) (λ s1. refl)
    (λ x s1. subst (λ p. Unfolds p (after u s1 (λ y s2. first (eval_all (flat_pairs ps)) s2 (all_on (y ∷ x ∷ vs) k)))) (sym (rest_on x vs k (cons u (flat_pairs ps)) s1)) (all_begins u (flat_pairs ps) (x ∷ vs) k s1)))

-- on a desk
pub all_comes : (xs : List Expr) (e : Bor Expr) (rest : Bor (List Expr)) (d0 d1 : Desk) (s : State) → xs ≡ e.now ∷ rest.now → stacks_of d1 ≡ record (stacks_of d0) { tasks = task.Evaluate e ∷ task.EvaluateAll rest ∷ tasks_of d0 } → Unfolds (first (eval_all (trees (map expr_tree xs))) s (all_on (values_of d0) (left (tasks_of d0)))) (left (tasks_of d1) (values_of d1) (goes_on s))
all_comes xs e rest d0 d1 s i st =
    let more = trees (map expr_tree rest.now) in
    onto (subst (λ ys. Unfolds (first (eval_all (trees (map expr_tree ys))) s (all_on (values_of d0) (left (tasks_of d0)))) (left (task.Evaluate e ∷ task.EvaluateAll rest ∷ tasks_of d0) (values_of d0) (goes_on s))) (sym i) (all_begins (expr_tree e.now) more (values_of d0) (left (tasks_of d0)) s))
    (ap (λ k. left k.tasks k.values (goes_on s)) st)

pub all_over : (xs : List Expr) (d : Desk) (s : State) → length xs ≡ 0 → Unfolds (first (eval_all (trees (map expr_tree xs))) s (all_on (values_of d) (left (tasks_of d)))) (left (tasks_of d) (values_of d) (goes_on s))
all_over [] d s e = all_end (values_of d) (left (tasks_of d)) s
all_over (x ∷ xs) d s e = absurd (omega arith)

pair_parts : (p : Pair) → pair_tree p ≡ pair p.line (expr_tree p.key) (expr_tree p.value)
pair_parts p = pair_tree-Pair p.line p.key p.value

pub pairs_come : (xs : List Pair) (p : Bor Pair) (rest : Bor (List Pair)) (e u : Bor Expr) (d0 d1 d2 : Desk) (s : State) → xs ≡ p.now ∷ rest.now → e.now ≡ p.now.key → u.now ≡ p.now.value → stacks_of d1 ≡ record (stacks_of d0) { tasks = task.Pairs rest ∷ tasks_of d0 } → stacks_of d2 ≡ record (stacks_of d1) { tasks = task.Evaluate e ∷ task.Evaluate u ∷ tasks_of d1 } → Unfolds (first (eval_all (flat_pairs (trees (map pair_tree xs)))) s (all_on (values_of d0) (left (tasks_of d0)))) (left (tasks_of d2) (values_of d2) (goes_on s))
pairs_come xs p rest e u d0 d1 d2 s i key item a b =
    let more = trees (map pair_tree rest.now) in
    let form : trees (map pair_tree xs) ≡ cons (pair p.now.line (expr_tree e.now) (expr_tree u.now)) more =
    ap (λ ys. trees (map pair_tree ys)) i ∙ ap (λ t. cons t more) (pair_parts p.now) ∙ ap (λ x. cons (pair p.now.line (expr_tree x) (expr_tree p.now.value)) more) (sym key) ∙ ap (λ x. cons (pair p.now.line (expr_tree e.now) (expr_tree x)) more) (sym item) in
    onto (subst (λ t. Unfolds (first (eval_all (flat_pairs t)) s (all_on (values_of d0) (left (tasks_of d0)))) (left (task.Evaluate e ∷ task.Evaluate u ∷ task.Pairs rest ∷ tasks_of d0) (values_of d0) (goes_on s))) (sym form)
    (pair_begins p.now.line (expr_tree e.now) (expr_tree u.now) more (values_of d0) (left (tasks_of d0)) s))
    (ap (λ k. left k.tasks k.values (goes_on s)) b ∙ ap (λ k. left (task.Evaluate e ∷ task.Evaluate u ∷ k.tasks) k.values (goes_on s)) a)

pub pairs_over : (xs : List Pair) (d : Desk) (s : State) → length xs ≡ 0 → Unfolds (first (eval_all (flat_pairs (trees (map pair_tree xs)))) s (all_on (values_of d) (left (tasks_of d)))) (left (tasks_of d) (values_of d) (goes_on s))
pairs_over [] d s e = all_end (values_of d) (left (tasks_of d)) s
pairs_over (x ∷ xs) d s e = absurd (omega arith)

-- a named argument is its value
named_begins : (l : ℕ) (n : List ℕ) (t us : Tree) (vs : List Value) (k : Rest) (s : State) → Unfolds (first (eval_all (cons (named l n t) us)) s (all_on vs k)) (after t s (λ x s1. first (eval_all us) s1 (all_on (x ∷ vs) k)))
unfolding plan bind
named_begins l n t us vs k s =
    opens (opens (later (value_unfolds (λ x s1. after_all us s1 (λ xs s2. comes_to (all_give (x ∷ xs) s2))) (λ x s1. first (eval_all us) s1 (all_on (x ∷ vs) k)) (all_on vs k) (λ s1. refl) (λ x s1. same (rest_on x vs k us s1)))))

pub positional_comes : (xs : List Argument) (a : Argument) (x : Expr) (e : Bor Expr) (rest : Bor (List Argument)) (d0 d1 : Desk) (s : State) → xs ≡ a ∷ rest.now → a ≡ argument'.Positional x → e.now ≡ x → stacks_of d1 ≡ record (stacks_of d0) { tasks = task.Evaluate e ∷ task.Arguments rest ∷ tasks_of d0 } → Unfolds (first (eval_all (trees (map argument_tree xs))) s (all_on (values_of d0) (left (tasks_of d0)))) (left (tasks_of d1) (values_of d1) (goes_on s))
positional_comes xs a x e rest d0 d1 s i is v st =
    let more = trees (map argument_tree rest.now) in
    let form : trees (map argument_tree xs) ≡ cons (expr_tree e.now) more =
    ap (λ ys. trees (map argument_tree ys)) i ∙ ap (λ t. cons t more) (ap argument_tree is ∙ argument_tree-Positional x ∙ ap expr_tree (sym v)) in
    onto (subst (λ t. Unfolds (first (eval_all t) s (all_on (values_of d0) (left (tasks_of d0)))) (left (task.Evaluate e ∷ task.Arguments rest ∷ tasks_of d0) (values_of d0) (goes_on s))) (sym form) (all_begins (expr_tree e.now) more (values_of d0) (left (tasks_of d0)) s))
    (ap (λ k. left k.tasks k.values (goes_on s)) st)

pub named_comes : (xs : List Argument) (a : Argument) (l : ℕ) (n : List ℕ) (x : Expr) (e : Bor Expr) (rest : Bor (List Argument)) (d0 d1 : Desk) (s : State) → xs ≡ a ∷ rest.now → a ≡ argument'.Named l n x → e.now ≡ x → stacks_of d1 ≡ record (stacks_of d0) { tasks = task.Evaluate e ∷ task.Arguments rest ∷ tasks_of d0 } → Unfolds (first (eval_all (trees (map argument_tree xs))) s (all_on (values_of d0) (left (tasks_of d0)))) (left (tasks_of d1) (values_of d1) (goes_on s))
named_comes xs a l n x e rest d0 d1 s i is v st =
    let more = trees (map argument_tree rest.now) in
    let form : trees (map argument_tree xs) ≡ cons (named l n (expr_tree e.now)) more =
    ap (λ ys. trees (map argument_tree ys)) i ∙ ap (λ t. cons t more) (ap argument_tree is ∙ argument_tree-Named l n x ∙ ap (λ y. named l n (expr_tree y)) (sym v)) in
    onto (subst (λ t. Unfolds (first (eval_all t) s (all_on (values_of d0) (left (tasks_of d0)))) (left (task.Evaluate e ∷ task.Arguments rest ∷ tasks_of d0) (values_of d0) (goes_on s))) (sym form) (named_begins l n (expr_tree e.now) more (values_of d0) (left (tasks_of d0)) s))
    (ap (λ k. left k.tasks k.values (goes_on s)) st)

pub arguments_over : (xs : List Argument) (d : Desk) (s : State) → length xs ≡ 0 → Unfolds (first (eval_all (trees (map argument_tree xs))) s (all_on (values_of d) (left (tasks_of d)))) (left (tasks_of d) (values_of d) (goes_on s))
arguments_over [] d s e = all_end (values_of d) (left (tasks_of d)) s
arguments_over (x ∷ xs) d s e = absurd (omega arith)

default_at : (o : open'.Expr-F Argument Expr Link Piece Operation Pair) (l : ℕ) (n : List ℕ) (ps : Tree) → defaults_of (cons (parameter l n (expr_tree (roll-Expr o))) ps) ≡ cons (expr_tree (roll-Expr o)) (defaults_of ps)
unfolding expr_tree
default_at (open'.Name k m) l n ps = rw (fold-roll-Expr Tree Tree Tree Tree Tree Tree argument_step expr_step link_step piece_step operation_step pair_step (open'.Name k m)) refl
default_at o l n ps = rw (fold-roll-Expr Tree Tree Tree Tree Tree Tree argument_step expr_step link_step piece_step operation_step pair_step o) refl

default_there : (e : Expr) (l : ℕ) (n : List ℕ) (ps : Tree) → defaults_of (cons (parameter l n (expr_tree e)) ps) ≡ cons (expr_tree e) (defaults_of ps)
default_there e l n ps =
    let P : Expr → Type 0 = λ x. defaults_of (cons (parameter l n (expr_tree x)) ps) ≡ cons (expr_tree x) (defaults_of ps) in
    subst P (roll-out-Expr e) (default_at (out-Expr e) l n ps)

pub default_comes : (xs : List Parameter) (p : Parameter) (x : Expr) (e : Bor Expr) (rest : Bor (List Parameter)) (d0 d1 : Desk) (s : State) → xs ≡ p ∷ rest.now → p.default ≡ Some x → e.now ≡ x → stacks_of d1 ≡ record (stacks_of d0) { tasks = task.Evaluate e ∷ task.Defaults rest ∷ tasks_of d0 } → Unfolds (first (eval_all (defaults_of (trees (map parameter_tree xs)))) s (all_on (values_of d0) (left (tasks_of d0)))) (left (tasks_of d1) (values_of d1) (goes_on s))
default_comes xs p x e rest d0 d1 s i def here st =
    let more = trees (map parameter_tree rest.now) in
    let form : defaults_of (trees (map parameter_tree xs)) ≡ cons (expr_tree e.now) (defaults_of more) =
    ap (λ ys. defaults_of (trees (map parameter_tree ys))) i ∙ ap (λ o. defaults_of (cons (parameter p.line p.name (optional_tree o)) more)) def ∙ default_there x p.line p.name more ∙ ap (λ y. cons (expr_tree y) (defaults_of more)) (sym here) in
    onto (subst (λ t. Unfolds (first (eval_all t) s (all_on (values_of d0) (left (tasks_of d0)))) (left (task.Evaluate e ∷ task.Defaults rest ∷ tasks_of d0) (values_of d0) (goes_on s))) (sym form) (all_begins (expr_tree e.now) (defaults_of more) (values_of d0) (left (tasks_of d0)) s))
    (ap (λ k. left k.tasks k.values (goes_on s)) st)

pub no_default : (xs : List Parameter) (p : Parameter) (rest : Bor (List Parameter)) (d0 d1 : Desk) (s : State) → xs ≡ p ∷ rest.now → p.default ≡ None → stacks_of d1 ≡ record (stacks_of d0) { tasks = task.Defaults rest ∷ tasks_of d0 } → Unfolds (first (eval_all (defaults_of (trees (map parameter_tree xs)))) s (all_on (values_of d0) (left (tasks_of d0)))) (left (tasks_of d1) (values_of d1) (goes_on s))
no_default xs p rest d0 d1 s i def st =
    let more = trees (map parameter_tree rest.now) in
    let form : defaults_of (trees (map parameter_tree xs)) ≡ defaults_of more =
    ap (λ ys. defaults_of (trees (map parameter_tree ys))) i ∙ ap (λ o. defaults_of (cons (parameter p.line p.name (optional_tree o)) more)) def in
    onto (same (ap (λ t. first (eval_all t) s (all_on (values_of d0) (left (tasks_of d0)))) form)) (ap (λ k. left k.tasks k.values (goes_on s)) st)

pub defaults_over : (xs : List Parameter) (d : Desk) (s : State) → length xs ≡ 0 → Unfolds (first (eval_all (defaults_of (trees (map parameter_tree xs)))) s (all_on (values_of d) (left (tasks_of d)))) (left (tasks_of d) (values_of d) (goes_on s))
defaults_over [] d s e = all_end (values_of d) (left (tasks_of d)) s
defaults_over (x ∷ xs) d s e = absurd (omega arith)
