-- Lines: what each form of one comes to.
use Rattle.std.proofs.Common.{◌≡◌, ◌∙◌, ℕ, List, [], ◌∷◌, ◌++◌, Result, Ok, Err, map, length, reverse, refl, sym, subst, ap, suc-ne-zero}
use denote.Ref.{Bor}
use Rattle.py_tree.specs.Tree.{Tree, simple, branching, for', while', def, trees, words, line_tree, branch_tree, simple_tree, expr_tree, parameter_tree}
use Rattle.py_tree.specs.declared.expr.Expr.{Expr}
use Rattle.py_tree.specs.declared.line.Line.{Line}
use Rattle.py_tree.specs.declared.line.Branch.{Branch}
use Rattle.py_tree.specs.declared.line.Simple.{Simple}
use Rattle.py_tree.specs.declared.line.Parameter.{Parameter}
use Rattle.py_tree.specs.declared.line.Line.TheVariants as line'
use Rattle.std.specs.declared.vec.Vec.{Vec}
use Rattle.std.specs.declared.rc.Rc.{Rc}
use Rattle.std.specs.declared.alloc.Global.{Global}
use Rattle.py_tree.proofs.Views.{branch_tree-Branch, line_tree-Simple, line_tree-If, line_tree-For, line_tree-While, line_tree-Def}
use Rattle.py_heap.specs.declared.value.Value.{Value}
use Rattle.py_heap.specs.Units.{charged}
use Rattle.py_meaning.specs.Arguments.{defaults_of}
use Rattle.py_meaning.specs.Lines.{first_line}
use Rattle.py_meaning.specs.Loops.{walk_of}
use Rattle.py_meaning.specs.States.{State, Frame, goes_on, with_units}
use Rattle.py_meaning.specs.Jobs.{exec, exec_all, turns, eval_all}
use Rattle.py_meaning.specs.Plans.{Plan, comes_to, first, goes, on_values, checked, paid, bind}
use Rattle.py_meaning.specs.Evaluates.{plan}
use Rattle.py_meaning.specs.Statements.{statement, defined}
use Rattle.py_state.specs.Stores.{state_of, store_of}
use Rattle.py_state.specs.declared.machine.Machine.{Machine}
use Rattle.py_state.specs.declared.stop.Stop.{Stop}
use Rattle.py_steps.specs.Desks.{Stacks, stacks_of, tasks_of, values_of, above, under}
use Rattle.py_steps.specs.Leads.{Unfolds, same, opens, Steps, exec_at, left_at}
use Rattle.py_steps.specs.Todos.{left, parameters_in}
use Rattle.py_steps.specs.declared.desk.Desk.{Desk}
use Rattle.py_steps.specs.declared.task.Definition.{Definition}
use Rattle.py_steps.specs.declared.task.Loop.{Loop}
use Rattle.py_steps.specs.declared.task.Task.{Task}
use Rattle.py_steps.specs.declared.task.Task.TheVariants as task
use Rattle.py_steps.proofs.Behind.{first_is, values_are, after_is, checked_is}
use Rattle.py_steps.proofs.Faults.{NoUnit, unpaid, paid_goes, steps_by, after_pay}
use Rattle.py_steps.proofs.Beginnings.{above_all, under_all}
use Rattle.py_steps.proofs.Rests.{arrives, left_ends, lines_first}

-- there is no unit for a line or a statement
pub exec_unpaid : (X : Type 0) (t : Tree) (l : ℕ) (d : Desk) (m : Machine) (f : Frame) (g : State → Plan) (x : Stop) (q : Plan) → plan (exec t) (state_of m f) ≡ paid l (state_of m f) g → NoUnit m.budget f.script l x → Steps {X = X} (exec_at t d (state_of m f)) (Err x) q
exec_unpaid X t l d m f g x q e w =
    let s = state_of m f in
    let k = left (tasks_of d) (values_of d) in
    steps_by {X = X} (bind (plan (exec t) s) k) (exec_at t d s) q (Err x) (λ q' u. opens u)
    (subst (λ p. Steps {X = X} (bind p k) (Err x) q) (sym e) (unpaid X l s g k x q w))

-- there is one
pub exec_paid : (t : Tree) (l : ℕ) (d d' : Desk) (m m' : Machine) (f : Frame) (g : State → Plan) (k : Stacks) → plan (exec t) (state_of m f) ≡ paid l (state_of m f) g → charged m.budget 1 ≡ Ok m'.budget → store_of m' ≡ record (store_of m) { units = m'.budget } → stacks_of d' ≡ k → ((s : State) → Unfolds (bind (g s) (left (tasks_of d) (values_of d))) (left k.tasks k.values (goes_on s))) → Unfolds (exec_at t d (state_of m f)) (left_at d' m' f)
exec_paid t l d d' m m' f g k e c p a u =
    let s = state_of m f in
    let rest = left (tasks_of d) (values_of d) in
    arrives d' (goes_on (state_of m' f)) a
    (subst (λ (x : State). Unfolds (exec_at t d s) (left k.tasks k.values (goes_on x))) (sym (after_pay m m' f p))
    (opens (subst (λ (x : Plan). Unfolds (bind x rest) (left k.tasks k.values (goes_on (with_units s m'.budget)))) (sym e) (paid_goes l s g rest m'.budget (left k.tasks k.values (goes_on (with_units s m'.budget))) c (u (with_units s m'.budget))))))

-- `if`
pub if_pays : (bs ls : Tree) (l : ℕ) (s : State) → first_line (branching bs ls) ≡ l → plan (exec (branching bs ls)) s ≡ paid l s (statement (branching bs ls))
unfolding plan
if_pays bs ls l s e = ap (λ x. paid x s (statement (branching bs ls))) e

pub if_opens : (bs : Bor (List Branch)) (ls : Bor (List Line)) (ts : List Task) (vs : List Value) (s : State) → Unfolds (bind (statement (branching (trees (map branch_tree bs.now)) (trees (map line_tree ls.now))) s) (left ts vs)) (left (task.Branches bs ls ∷ ts) vs (goes_on s))
unfolding bind
if_opens bs ls ts vs s = same refl

pub no_branch_line : (bs : List Branch) (ls : Tree) → length bs ≡ 0 → first_line (branching (trees (map branch_tree bs)) ls) ≡ 0
no_branch_line [] ls e = refl
no_branch_line (b ∷ bs) ls e = absurd (suc-ne-zero _ e)

pub branch_line : (bs more : List Branch) (b : Branch) (ls : Tree) → bs ≡ b ∷ more → first_line (branching (trees (map branch_tree bs)) ls) ≡ b.line
branch_line bs more b ls e = ap (λ (x : List Branch). first_line (branching (trees (map branch_tree x)) ls)) e ∙ ap first_line (branch_tree-Branch b.line b.test b.block)

-- `for`
pub for_pays : (l : ℕ) (ns e ls : Tree) (s : State) → plan (exec (for' l ns e ls)) s ≡ paid l s (statement (for' l ns e ls))
unfolding plan
for_pays l ns e ls s = refl

pub for_opens : (t : Loop) (e : Bor Expr) (ts : List Task) (vs : List Value) (s : State) → Unfolds (bind (statement (for' t.line (words t.names.now) (expr_tree e.now) (trees (map line_tree t.block.now))) s) (left ts vs)) (left (task.Evaluate e ∷ task.Begin t ∷ ts) vs (goes_on s))
unfolding bind
for_opens t e ts vs s =
    let ns = words t.names.now in
    let ls = trees (map line_tree t.block.now) in
    same (after_is (expr_tree e.now) s (λ x s1. checked t.line s1 (walk_of s1.objects x) (λ walk. goes (turns t.line walk ns ls) s1)) (λ x s1. checked t.line s1 (walk_of s1.objects x) (λ walk. first (turns t.line walk ns ls) s1 (left ts vs))) (left ts vs) (left_ends ts vs)
    (λ x s1. checked_is t.line s1 (walk_of s1.objects x) (λ walk. goes (turns t.line walk ns ls) s1) (λ walk. first (turns t.line walk ns ls) s1 (left ts vs)) (left ts vs) (λ walk. refl)))

-- `def`
pub def_pays : (l : ℕ) (n : List ℕ) (ps ls : Tree) (s : State) → plan (exec (def l n ps ls)) s ≡ paid l s (statement (def l n ps ls))
unfolding plan
def_pays l n ps ls s = refl

pub def_opens : (d : Definition) (l : ℕ) (ps : Bor (List Parameter)) (base : ℕ) (ts : List Task) (vs : List Value) (s : State) → ps.now ≡ d.parameters.now → base ≡ length vs → Unfolds (bind (statement (def l d.name.now (parameters_in d) (trees (map line_tree d.block.now.value.items))) s) (left ts vs)) (left (task.Defaults ps ∷ task.Define d base ∷ ts) vs (goes_on s))
unfolding bind
def_opens d l ps base ts vs s p e =
    let ls = trees (map line_tree d.block.now.value.items) in
    let k = left ts vs in
    let made : List Value → State → Plan = λ xs s1. left ts (under base (reverse xs ++ vs)) (goes_on (defined d.name.now (parameters_in d) ls (above base (reverse xs ++ vs)) s1)) in
    subst (λ (x : List Parameter). Unfolds (bind (statement (def l d.name.now (parameters_in d) ls) s) k) (first (eval_all (defaults_of (trees (map parameter_tree x)))) s (on_values made))) (sym p)
    (same (first_is (eval_all (defaults_of (parameters_in d))) s (on_values (λ xs s1. comes_to (goes_on (defined d.name.now (parameters_in d) ls xs s1)))) (on_values made) k
    (values_are (λ xs s1. comes_to (goes_on (defined d.name.now (parameters_in d) ls xs s1))) made k (left_ends ts vs)
    (λ xs s1. subst (λ (n : ℕ). k (goes_on (defined d.name.now (parameters_in d) ls xs s1)) ≡ left ts (under n (reverse xs ++ vs)) (goes_on (defined d.name.now (parameters_in d) ls (above n (reverse xs ++ vs)) s1))) (sym e)
    (ap (λ (ys : List Value). left ts ys (goes_on (defined d.name.now (parameters_in d) ls xs s1))) (sym (under_all xs vs))
    ∙ ap (λ (ys : List Value). left ts (under (length vs) (reverse xs ++ vs)) (goes_on (defined d.name.now (parameters_in d) ls ys s1))) (sym (above_all xs vs)))))))

-- statements with `;` between them
pub simple_opens : (ss : Bor (List Simple)) (d d' : Desk) (s : State) → stacks_of d' ≡ record { tasks = task.Statements ss ∷ tasks_of d; values = values_of d } → Unfolds (exec_at (simple (trees (map simple_tree ss.now))) d s) (left (tasks_of d') (values_of d') (goes_on s))
unfolding plan bind
simple_opens ss d d' s e = arrives d' (goes_on s) e (opens (same refl))

-- a line, by its form
pub line_as : {X : Type 0} (line form : Line) (t : Tree) (d : Desk) (s : State) (r : Result X Stop) (q : Plan) → line ≡ form → line_tree form ≡ t → Steps (exec_at t d s) r q → Steps (exec_at (line_tree line) d s) r q
line_as line form t d s r q e f g = subst (λ (x : Tree). Steps (exec_at x d s) r q) (sym (ap line_tree e ∙ f)) g

pub line_unfolds : (line form : Line) (t : Tree) (d : Desk) (s : State) (q : Plan) → line ≡ form → line_tree form ≡ t → Unfolds (exec_at t d s) q → Unfolds (exec_at (line_tree line) d s) q
line_unfolds line form t d s q e f g = subst (λ (x : Tree). Unfolds (exec_at x d s) q) (sym (ap line_tree e ∙ f)) g

-- some lines
pub lines_end : (ls : List Line) (ts : List Task) (vs : List Value) (s : State) → length ls ≡ 0 → Unfolds (first (exec_all (trees (map line_tree ls))) s (left ts vs)) (left ts vs (goes_on s))
unfolding plan bind
lines_end [] ts vs s e = opens (same refl)
lines_end (l ∷ ls) ts vs s e = absurd (suc-ne-zero _ e)

pub lines_lead : {X : Type 0} (ls : List Line) (l : Line) (rest : Bor (List Line)) (d d1 : Desk) (s : State) (r : Result X Stop) (q : Plan) → ls ≡ l ∷ rest.now → stacks_of d1 ≡ record { tasks = task.Lines rest ∷ tasks_of d; values = values_of d } → Steps (exec_at (line_tree l) d1 s) r q → Steps (first (exec_all (trees (map line_tree ls))) s (left (tasks_of d) (values_of d))) r q
lines_lead {X = X} ls l rest d d1 s r q e a g =
    steps_by (first (exec (line_tree l)) s (left (task.Lines rest ∷ tasks_of d) (values_of d))) (first (exec_all (trees (map line_tree ls))) s (left (tasks_of d) (values_of d))) q r
    (λ q' u. lines_first (line_tree l) (trees (map line_tree ls)) s q' rest (tasks_of d) (values_of d) (ap (λ (x : List Line). trees (map line_tree x)) e) u)
    (subst (λ (k : Stacks). Steps (first (exec (line_tree l)) s (left k.tasks k.values)) r q) a g)

pub simple_tree_of : (ss : Vec Simple Global) (xs : List Simple) → xs ≡ ss.items → line_tree (line'.Simple ss) ≡ simple (trees (map simple_tree xs))
simple_tree_of ss xs e = line_tree-Simple ss ∙ ap (λ (y : List Simple). simple (trees (map simple_tree y))) (sym e)

pub if_tree : (bs : Vec Branch Global) (ls : Vec Line Global) (xs : List Branch) (ys : List Line) → xs ≡ bs.items → ys ≡ ls.items → line_tree (line'.If bs ls) ≡ branching (trees (map branch_tree xs)) (trees (map line_tree ys))
if_tree bs ls xs ys e f =
    line_tree-If bs ls ∙ ap (λ (x : List Branch). branching (trees (map branch_tree x)) (trees (map line_tree ls.items))) (sym e)
    ∙ ap (λ (y : List Line). branching (trees (map branch_tree xs)) (trees (map line_tree y))) (sym f)

pub for_tree : (l : ℕ) (ns : Vec (List ℕ) Global) (e : Expr) (ls : Vec Line Global) (xs : List (List ℕ)) (ys : List Line) → xs ≡ ns.items → ys ≡ ls.items → line_tree (line'.For l ns e ls) ≡ for' l (words xs) (expr_tree e) (trees (map line_tree ys))
for_tree l ns e ls xs ys p f =
    line_tree-For l ns e ls ∙ ap (λ (x : List (List ℕ)). for' l (words x) (expr_tree e) (trees (map line_tree ls.items))) (sym p)
    ∙ ap (λ (y : List Line). for' l (words xs) (expr_tree e) (trees (map line_tree y))) (sym f)

pub while_tree : (l : ℕ) (t : Expr) (ls : Vec Line Global) (ys : List Line) → ys ≡ ls.items → line_tree (line'.While l t ls) ≡ while' l (expr_tree t) (trees (map line_tree ys))
while_tree l t ls ys e = line_tree-While l t ls ∙ ap (λ (y : List Line). while' l (expr_tree t) (trees (map line_tree y))) (sym e)

pub def_tree : (l : ℕ) (n : List ℕ) (ps : Vec Parameter Global) (ls : Rc (Vec Line Global) Global) (xs : List Parameter) → xs ≡ ps.items → line_tree (line'.Def l n ps ls) ≡ def l n (trees (map parameter_tree xs)) (trees (map line_tree ls.value.items))
def_tree l n ps ls xs e = line_tree-Def l n ps ls ∙ ap (λ (x : List Parameter). def l n (trees (map parameter_tree x)) (trees (map line_tree ls.value.items))) (sym e)
