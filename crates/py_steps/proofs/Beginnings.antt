-- What the first step of an expression leaves.
use Rattle.std.specs.Prelude.{not as turned}
use Rattle.std.proofs.Common.{◌≡◌, ◌∙◌, arith, ℕ, ◌-◌, List, [], ◌∷◌, ◌++◌, Bool, Option, None, Result, Ok, Err, ℤ, pos, ap, sym, refl, subst, length, reverse}
use Rattle.std.proofs.lemmas.List.{take_at, drop_at, length-append, reverse-reverse}
use Rattle.py_tree.specs.Tree.{Tree, expr_tree, argument_step, expr_step, link_step, operation_step, pair_step, piece_step, integer, text, constant, group, tuple, list, dict, comprehension, post, negative, not, chain, compare}
use Rattle.py_tree.specs.declared.expr.Constant.{Constant}
use Rattle.py_tree.specs.declared.expr.Comparison.{Comparison}
use Rattle.py_heap.specs.declared.value.Value.{Value}
use Rattle.py_heap.specs.declared.value.Value.TheVariants as v
use Rattle.py_compare.specs.Outcomes.{Outcome, new_list, new_tuple}
use Rattle.py_operators.specs.Arithmetic.{negative_of}
use Rattle.py_operators.specs.Binary.{binary_of}
use Rattle.py_operators.specs.declared.op.Op.{Op}
use Rattle.py_heap.specs.Heap.{Objects, truth_of}
use Rattle.py_heap.specs.declared.fault.ValueFault.{ValueFault}
use Rattle.py_meaning.specs.States.{State, goes_on, place_at, with_objects}
use Rattle.py_meaning.specs.Jobs.{eval, eval_all, operations, links, collect}
use Rattle.py_meaning.specs.Loops.{Walk, walk_of}
use Rattle.py_meaning.specs.Plans.{Plan, stops, first, bind, on_value, after, after_all, checked, made, value, goes}
use Rattle.py_meaning.specs.Evaluates.{plan}
use Rattle.py_meaning.specs.Expressions.{constant_value, comparison_op, displayed, flat_pairs, named_line, inside, outside_again}
use denote.Ref.{Bor}
use Rattle.py_tree.specs.declared.expr.Expr.{Expr, roll-Expr, out-Expr, roll-out-Expr, fold-roll-Expr}
use Rattle.py_tree.specs.declared.expr.Expr.TheVariants as expr'
use Rattle.py_tree.specs.declared.expr.Link.{Link}
use Rattle.py_tree.specs.declared.expr.Argument.{Argument}
use Rattle.py_tree.specs.declared.expr.Operation.{Operation}
use Rattle.py_tree.specs.declared.expr.Pair.{Pair}
use Rattle.py_tree.specs.declared.expr.Piece.{Piece}
use Rattle.py_tree.specs.declared.expr.Argument.TheOpen as open'
use Rattle.py_compare.specs.Numbers.{fitting}
use Rattle.py_heap.specs.Given.{given_text}
use Rattle.py_meaning.specs.declared.fault.EvalKind.TheVariants as kind
use Rattle.py_steps.specs.declared.desk.Desk.{Desk}
use Rattle.py_steps.specs.Desks.{stacks_of, tasks_of, values_of, above, under}
use Rattle.py_steps.specs.declared.task.Task.{Task}
use Rattle.py_steps.specs.declared.task.Task.TheVariants as task
use Rattle.py_steps.specs.Todos.{Rest, left, gives_on, all_on, made_on}
use Rattle.py_steps.specs.Leads.{Unfolds, same, opens, later}
use Rattle.py_steps.proofs.Going.{after_unfolds, after_all_unfolds, made_bound, value_unfolds}

-- an expression on top of tasks
abbrev pub before : Tree → List Task → List Value → State → Plan
before t ts vs s = first (eval t) s (gives_on vs (left ts))

pub constant_begins : (l : ℕ) (k : Constant) (ts : List Task) (vs : List Value) (s : State) → Unfolds (before (constant l k) ts vs s) (left ts (constant_value k ∷ vs) (goes_on s))
unfolding plan bind
constant_begins l k ts vs s = opens (same refl)

pub group_begins : (l : ℕ) (t : Tree) (ts : List Task) (vs : List Value) (s : State) → Unfolds (before (group l t) ts vs s) (before t ts vs s)
unfolding plan bind
group_begins l t ts vs s = opens (same refl)

pub negative_begins : (l : ℕ) (t : Tree) (ts : List Task) (vs : List Value) (s : State) → Unfolds (before (negative l t) ts vs s) (before t (task.Negate l ∷ ts) vs s)
unfolding plan bind
negative_begins l t ts vs s =
    opens (after_unfolds t s (λ x s1. made l s1 (negative_of s1.objects s1.units x)) (λ x s1. left (task.Negate l ∷ ts) (x ∷ vs) (goes_on s1)) (gives_on vs (left ts)) (λ s1. refl)
    (λ x s1. same (made_bound l s1 (negative_of s1.objects s1.units x) vs (left ts))))

pub not_begins : (l : ℕ) (t : Tree) (ts : List Task) (vs : List Value) (s : State) → Unfolds (before (not l t) ts vs s) (before t (task.Not ∷ ts) vs s)
unfolding plan bind
not_begins l t ts vs s =
    opens (after_unfolds t s (λ x s1. value (v.Bool (turned (truth_of s1.objects x))) s1) (λ x s1. left (task.Not ∷ ts) (x ∷ vs) (goes_on s1)) (gives_on vs (left ts)) (λ s1. refl) (λ x s1. same refl))

pub chain_begins : (t os : Tree) (ts : List Task) (vs : List Value) (s : State) → Unfolds (before (chain t os) ts vs s) (after t s (λ x s1. first (operations x os) s1 (gives_on vs (left ts))))
unfolding plan bind
chain_begins t os ts vs s =
    opens (after_unfolds t s (λ x s1. goes (operations x os) s1) (λ x s1. first (operations x os) s1 (gives_on vs (left ts))) (gives_on vs (left ts)) (λ s1. refl) (λ x s1. same refl))

pub post_begins : (a ls : Tree) (named : Option ℕ) (ts : List Task) (vs : List Value) (s : State) → named ≡ named_line a → Unfolds (before (post a ls) ts vs s) (after a s (λ x s1. first (links x named ls) s1 (gives_on vs (left ts))))
unfolding plan bind
post_begins a ls named ts vs s e =
    rw e (opens (after_unfolds a s (λ x s1. goes (links x (named_line a) ls) s1) (λ x s1. first (links x (named_line a) ls) s1 (gives_on vs (left ts))) (gives_on vs (left ts)) (λ s1. refl) (λ x s1. same refl)))

pub compare_begins : (l : ℕ) (k : Comparison) (o : Op) (t u : Tree) (ts : List Task) (vs : List Value) (s : State) → o ≡ comparison_op k → Unfolds (before (compare l k t u) ts vs s) (after t s (λ x s1. after u s1 (λ y s2. made_on l s2 (binary_of o s2.objects s2.units x y) vs (left ts))))
unfolding plan bind
compare_begins l k o t u ts vs s e =
    rw e (opens (after_unfolds t s (λ x s1. after u s1 (λ y s2. made l s2 (binary_of (comparison_op k) s2.objects s2.units x y))) (λ x s1. after u s1 (λ y s2. made_on l s2 (binary_of (comparison_op k) s2.objects s2.units x y) vs (left ts))) (gives_on vs (left ts)) (λ s1. refl)
    (λ x s1. after_unfolds u s1 (λ y s2. made l s2 (binary_of (comparison_op k) s2.objects s2.units x y)) (λ y s2. made_on l s2 (binary_of (comparison_op k) s2.objects s2.units x y) vs (left ts)) (gives_on vs (left ts)) (λ s2. refl)
    (λ y s2. same (made_bound l s2 (binary_of (comparison_op k) s2.objects s2.units x y) vs (left ts))))))

-- the values that were given above a height, and those under it
pub above_all : (xs vs : List Value) → above (length vs) (reverse xs ++ vs) ≡ xs
above_all xs vs =
    let n : length (reverse xs) ≡ length (reverse xs ++ vs) - length vs = omega (arith, length-append (reverse xs) vs) in
    ap reverse (take_at (reverse xs) vs (length (reverse xs ++ vs) - length vs) n) ∙ reverse-reverse xs

pub under_all : (xs vs : List Value) → under (length vs) (reverse xs ++ vs) ≡ vs
under_all xs vs =
    let n : length (reverse xs) ≡ length (reverse xs ++ vs) - length vs = omega (arith, length-append (reverse xs) vs) in
    drop_at (reverse xs) vs (length (reverse xs ++ vs) - length vs) n

-- several values, and what is made of them
pub display_begins : (l : ℕ) (us : Tree) (r : State → List Value → Outcome) (vs : List Value) (k : Rest) (s : State) → Unfolds (bind (after_all us s (λ xs s1. made l s1 (r s1 xs))) (gives_on vs k)) (after_all us s (λ xs s1. made_on l s1 (r s1 (above (length vs) (reverse xs ++ vs))) (under (length vs) (reverse xs ++ vs)) k))
display_begins l us r vs k s =
    after_all_unfolds us s (λ xs s1. made l s1 (r s1 xs)) (λ xs s1. made_on l s1 (r s1 (above (length vs) (reverse xs ++ vs))) (under (length vs) (reverse xs ++ vs)) k) (gives_on vs k) (λ s1. refl)
    (λ xs s1. same (made_bound l s1 (r s1 xs) vs k ∙ sym (ap (λ ys. made_on l s1 (r s1 ys) (under (length vs) (reverse xs ++ vs)) k) (above_all xs vs) ∙ ap (λ ws. made_on l s1 (r s1 xs) ws k) (under_all xs vs))))

pub tuple_begins : (l : ℕ) (us : Tree) (b : Bool) (ts : List Task) (vs : List Value) (s : State) → Unfolds (before (tuple l us b) ts vs s) (first (eval_all us) s (all_on vs (left (task.Tuple l (length vs) ∷ ts))))
unfolding plan bind
tuple_begins l us b ts vs s = opens (display_begins l us (λ s1 xs. new_tuple s1.objects s1.units xs) vs (left ts) s)

pub list_begins : (l : ℕ) (us : Tree) (ts : List Task) (vs : List Value) (s : State) → Unfolds (before (list l us) ts vs s) (first (eval_all us) s (all_on vs (left (task.List l (length vs) ∷ ts))))
unfolding plan bind
list_begins l us ts vs s = opens (display_begins l us (λ s1 xs. new_list s1.objects s1.units xs) vs (left ts) s)

pub dict_begins : (l : ℕ) (ps : Tree) (ts : List Task) (vs : List Value) (s : State) → Unfolds (before (dict l ps) ts vs s) (first (eval_all (flat_pairs ps)) s (all_on vs (left (task.Dict l (length vs) ∷ ts))))
unfolding plan bind
dict_begins l ps ts vs s = opens (display_begins l (flat_pairs ps) (λ s1 xs. displayed s1.objects s1.units xs) vs (left ts) s)

-- a comprehension whose source is there
abbrev pub walked : ℕ → Tree → Tree → Tree → List Value → Rest → State → Result Walk ValueFault → Plan
walked l t ns tests vs k s r = checked l s r (λ walk. first (collect l walk [] t ns tests) (inside s) (on_value (λ y s2. k (y ∷ vs) (goes_on (outside_again s2)))))

walked_unfolds : (l : ℕ) (t ns tests : Tree) (vs : List Value) (k : Rest) (s : State) (r : Result Walk ValueFault) → Unfolds (bind (checked l s r (λ walk. first (collect l walk [] t ns tests) (inside s) (on_value (λ y s2. value y (outside_again s2))))) (gives_on vs k)) (walked l t ns tests vs k s r)
unfolding bind
walked_unfolds l t ns tests vs k s (Ok walk) = later (value_unfolds (λ y s2. value y (outside_again s2)) (λ y s2. k (y ∷ vs) (goes_on (outside_again s2))) (gives_on vs k) (λ s2. refl) (λ y s2. same refl))
walked_unfolds l t ns tests vs k s (Err e) = same refl

pub comprehension_begins : (l : ℕ) (t ns source tests : Tree) (ts : List Task) (vs : List Value) (s : State) → Unfolds (before (comprehension l t ns source tests) ts vs s) (after source s (λ x s1. walked l t ns tests vs (left ts) s1 (walk_of s1.objects x)))
unfolding plan bind
comprehension_begins l t ns source tests ts vs s =
    opens (after_unfolds source s (λ x s1. checked l s1 (walk_of s1.objects x) (λ walk. first (collect l walk [] t ns tests) (inside s1) (on_value (λ y s2. value y (outside_again s2))))) (λ x s1. walked l t ns tests vs (left ts) s1 (walk_of s1.objects x)) (gives_on vs (left ts)) (λ s1. refl)
    (λ x s1. walked_unfolds l t ns tests vs (left ts) s1 (walk_of s1.objects x)))

pub integer_begins : (l n : ℕ) (i : ℤ) (ts : List Task) (vs : List Value) (s : State) → fitting (pos n) ≡ Ok i → Unfolds (before (integer l n) ts vs s) (left ts (v.Int i ∷ vs) (goes_on s))
unfolding plan bind
integer_begins l n i ts vs s e = opens (rw e (same refl))

pub integer_stops : (l n : ℕ) (e : ValueFault) (ts : List Task) (vs : List Value) (s : State) → fitting (pos n) ≡ Err e → Unfolds (before (integer l n) ts vs s) (stops (place_at l s) (kind.Value e))
unfolding plan bind
integer_stops l n e ts vs s f = opens (rw f (same refl))

pub text_begins : (l : ℕ) (t : List ℕ) (x : Value) (h : Objects) (ts : List Task) (vs : List Value) (s : State) → given_text s.objects t ≡ Ok (x, h) → Unfolds (before (text l t) ts vs s) (left ts (x ∷ vs) (goes_on (with_objects s h)))
unfolding plan bind
text_begins l t x h ts vs s e = opens (rw e (same refl))

pub text_stops : (l : ℕ) (t : List ℕ) (e : ValueFault) (ts : List Task) (vs : List Value) (s : State) → given_text s.objects t ≡ Err e → Unfolds (before (text l t) ts vs s) (stops (place_at l s) (kind.Value e))
unfolding plan bind
text_stops l t e ts vs s f = opens (rw f (same refl))

-- by the tree of an expression
pub as_tree : {e t : Tree} {q : Plan} (ts : List Task) (vs : List Value) (s : State) → e ≡ t → Unfolds (before t ts vs s) q → Unfolds (before e ts vs s) q
as_tree {q = q} ts vs s e u = subst (λ x. Unfolds (before x ts vs s) q) (sym e) u

-- an expression and a task below it, on a desk
pub evaluated : (d0 d1 : Desk) (e : Bor Expr) (x : Expr) (t : Task) (s : State) → stacks_of d1 ≡ record (stacks_of d0) { tasks = task.Evaluate e ∷ t ∷ tasks_of d0 } → e.now ≡ x → left (tasks_of d1) (values_of d1) (goes_on s) ≡ before (expr_tree x) (t ∷ tasks_of d0) (values_of d0) s
evaluated d0 d1 e x t s st i = ap (λ k. left k.tasks k.values (goes_on s)) st ∙ ap (λ y. before (expr_tree y) (t ∷ tasks_of d0) (values_of d0) s) i

-- an atom that is no name has no line of one
abbrev pub NotName : Expr → Type 0
NotName e = (l : ℕ) (n : List ℕ) → e ≡ expr'.Name l n → ⊥

no_line_at : (o : open'.Expr-F Argument Expr Link Piece Operation Pair) → NotName (roll-Expr o) → None ≡ named_line (expr_tree (roll-Expr o))
unfolding expr_tree
no_line_at (open'.Name l n) h = absurd (h l n (expr'.rolls-Name l n))
no_line_at o h = ap named_line (sym (fold-roll-Expr Tree Tree Tree Tree Tree Tree argument_step expr_step link_step piece_step operation_step pair_step o))

pub no_line : (e : Expr) → NotName e → None ≡ named_line (expr_tree e)
no_line e = let P : Expr → Type 0 = λ x. NotName x → None ≡ named_line (expr_tree x) in subst P (roll-out-Expr e) (no_line_at (out-Expr e))
