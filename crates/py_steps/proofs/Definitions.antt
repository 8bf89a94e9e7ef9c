-- A `def`: its parameters, and the function that it makes.
use Rattle.std.proofs.Common.{◌≡◌, ◌∙◌, ℕ, true, List, [], ◌∷◌, ◌++◌, Option, Some, None, is_some, map, length, refl, sym, subst, ap}
use Rattle.std.proofs.lemmas.List.{length-map}
use Rattle.py_tree.specs.Tree.{Tree, cons, parameter, trees, line_tree, optional_tree, parameter_tree, expr_tree, argument_step, expr_step, link_step, operation_step, pair_step, piece_step}
use Rattle.py_tree.specs.declared.expr.Expr.{Expr, roll-Expr, out-Expr, roll-out-Expr, fold-roll-Expr}
use Rattle.py_tree.specs.declared.expr.Link.{Link}
use Rattle.py_tree.specs.declared.expr.Argument.{Argument}
use Rattle.py_tree.specs.declared.expr.Operation.{Operation}
use Rattle.py_tree.specs.declared.expr.Pair.{Pair}
use Rattle.py_tree.specs.declared.expr.Piece.{Piece}
use Rattle.py_tree.specs.declared.expr.Argument.TheOpen as open'
use Rattle.py_tree.specs.declared.line.Parameter as code
use Rattle.py_heap.specs.declared.value.Value.{Value}
use Rattle.py_heap.specs.declared.value.Value.TheVariants as v
use Rattle.py_meaning.specs.Arguments.{parameters_by}
use Rattle.py_meaning.specs.LocalNames.{local_names}
use Rattle.py_meaning.specs.Lookup.{with_bound}
use Rattle.py_meaning.specs.Statements.{defined}
use Rattle.py_meaning.specs.States.{State, Frame, Function, Parameter, goes_on}
use Rattle.py_state.specs.Stores.{Store, store_of, state_of, state_by, function_of}
use Rattle.py_state.specs.declared.machine.Machine.{Machine}
use Rattle.py_steps.specs.Desks.{stacks_of, tasks_of, values_of, above, under}
use Rattle.py_steps.specs.Leads.{Unfolds, same}
use Rattle.py_steps.specs.Todos.{left, parameters_in}
use Rattle.py_steps.specs.declared.desk.Desk.{Desk}
use Rattle.py_steps.specs.declared.task.Definition.{Definition}
use Rattle.py_steps.specs.declared.task.Task.TheVariants as task
use Rattle.py_steps.proofs.Rests.{arrives}

-- a parameter with this default, before others
abbrev pub before_others : List ℕ → Option Value → Tree → List Value → List Parameter
before_others n x ps xs = record { name = n; default = x } ∷ parameters_by ps xs

-- a default that stands there takes the next value
value_taken_at : (o : open'.Expr-F Argument Expr Link Piece Operation Pair) (l : ℕ) (n : List ℕ) (ps : Tree) (x : Value) (xs : List Value) → parameters_by (cons (parameter l n (expr_tree (roll-Expr o))) ps) (x ∷ xs) ≡ before_others n (Some x) ps xs
unfolding expr_tree
value_taken_at (open'.Name k m) l n ps x xs = rw (fold-roll-Expr Tree Tree Tree Tree Tree Tree argument_step expr_step link_step piece_step operation_step pair_step (open'.Name k m)) refl
value_taken_at o l n ps x xs = rw (fold-roll-Expr Tree Tree Tree Tree Tree Tree argument_step expr_step link_step piece_step operation_step pair_step o) refl

value_taken : (e : Expr) (l : ℕ) (n : List ℕ) (ps : Tree) (x : Value) (xs : List Value) → parameters_by (cons (parameter l n (expr_tree e)) ps) (x ∷ xs) ≡ before_others n (Some x) ps xs
value_taken e l n ps x xs =
    let P : Expr → Type 0 = λ y. parameters_by (cons (parameter l n (expr_tree y)) ps) (x ∷ xs) ≡ before_others n (Some x) ps xs in
    subst P (roll-out-Expr e) (value_taken_at (out-Expr e) l n ps x xs)

default_by : (d : Option Expr) (l : ℕ) (n : List ℕ) (ps : Tree) (vs : List Value) (x : Value) (xs : List Value) → is_some d ≡ true → vs ≡ x ∷ xs → parameters_by (cons (parameter l n (optional_tree d)) ps) vs ≡ before_others n (Some x) ps xs
default_by None l n ps vs x xs i e = absurd (cc)
default_by (Some d) l n ps vs x xs i e = ap (parameters_by (cons (parameter l n (expr_tree d)) ps)) e ∙ value_taken d l n ps x xs

pub takes_default : (p : code.Parameter) (ps : Tree) (vs : List Value) (x : Value) (xs : List Value) → is_some p.default ≡ true → vs ≡ x ∷ xs → parameters_by (cons (parameter_tree p) ps) vs ≡ before_others p.name (Some x) ps xs
takes_default p ps vs x xs i e = default_by p.default p.line p.name ps vs x xs i e

-- the state once a function is made and its name bound
pub made_function : (m m1 : Machine) (f : Frame) (n : List ℕ) (ps body : Tree) (xs : List Value) (made : Function) (x : Value) → made ≡ record { name = n; script = f.script; parameters = parameters_by ps xs; locals = local_names ps body; body = body } → x ≡ v.Func (record { 0 = length (store_of m).functions }) → store_of m1 ≡ record (store_of m) { functions = (store_of m).functions ++ made ∷ [] } → with_bound (state_of m1 f) n x ≡ defined n ps body xs (state_of m f)
made_function m m1 f n ps body xs made x e g h =
    ap (λ (y : Value). with_bound (state_of m1 f) n y) g
    ∙ ap (λ (k : Store). with_bound (state_by k f) n (v.Func (record { 0 = length (store_of m).functions }))) h
    ∙ ap (λ (k : Function). with_bound (state_by (record (store_of m) { functions = (store_of m).functions ++ k ∷ [] }) f) n (v.Func (record { 0 = length (store_of m).functions }))) e

pub defines : (t : Definition) (base : ℕ) (d d' : Desk) (s s' : State) (xs : List Value) → xs ≡ above base (values_of d) → stacks_of d' ≡ record { tasks = tasks_of d; values = under base (values_of d) } → s' ≡ defined t.name.now (parameters_in t) (trees (map line_tree t.block.now.value.items)) xs s → Unfolds (left (task.Define t base ∷ tasks_of d) (values_of d) (goes_on s)) (left (tasks_of d') (values_of d') (goes_on s'))
defines t base d d' s s' xs e a g =
    let body = trees (map line_tree t.block.now.value.items) in
    arrives d' (goes_on s') a
    (same (ap (λ (x : State). left (tasks_of d) (under base (values_of d)) (goes_on x)) (sym (g ∙ ap (λ (ys : List Value). defined t.name.now (parameters_in t) body ys s) e))))

abbrev function_by : List ℕ → ℕ → List Parameter → List (List ℕ) → Tree → Function
function_by n a ps ls t = record { name = n; script = a; parameters = ps; locals = ls; body = t }

pub function_is : (n m : List ℕ) (a b : ℕ) (ps qs : List Parameter) (ls ns : List (List ℕ)) (t u : Tree) → n ≡ m → a ≡ b → ps ≡ qs → ls ≡ ns → t ≡ u → function_by n a ps ls t ≡ function_by m b qs ns u
function_is n m a b ps qs ls ns t u d e f g h = ap (λ x. function_by x a ps ls t) d ∙ ap (λ x. function_by m x ps ls t) e ∙ ap (λ x. function_by m b x ls t) f ∙ ap (λ x. function_by m b qs x t) g ∙ ap (λ x. function_by m b qs ns x) h

pub defines_at : (t : Definition) (base : ℕ) (d d' : Desk) (m m1 m2 : Machine) (f f2 : Frame) (xs : List Value) (made : Function) (x : Value) → xs ≡ above base (values_of d) → stacks_of d' ≡ record { tasks = tasks_of d; values = under base (values_of d) } → made ≡ function_by t.name.now f.script (parameters_by (parameters_in t) xs) (local_names (parameters_in t) (trees (map line_tree t.block.now.value.items))) (trees (map line_tree t.block.now.value.items)) → x ≡ v.Func (record { 0 = length m.functions.items }) → store_of m1 ≡ record (store_of m) { functions = (store_of m).functions ++ made ∷ [] } → state_of m2 f2 ≡ with_bound (state_of m1 f) t.name.now x → Unfolds (left (task.Define t base ∷ tasks_of d) (values_of d) (goes_on (state_of m f))) (left (tasks_of d') (values_of d') (goes_on (state_of m2 f2)))
defines_at t base d d' m m1 m2 f f2 xs made x a b c e g h =
    let body = trees (map line_tree t.block.now.value.items) in
    let place : x ≡ v.Func (record { 0 = length (store_of m).functions }) = e ∙ ap (λ (n : ℕ). v.Func (record { 0 = n })) (sym (length-map m.functions.items (λ r. function_of r.value))) in
    defines t base d d' (state_of m f) (state_of m2 f2) xs a b (h ∙ made_function m m1 f t.name.now (parameters_in t) body xs made x c place g)
