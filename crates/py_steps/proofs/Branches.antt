-- The branches of an `if`.
use Rattle.std.proofs.Common.{◌≡◌, ◌∙◌, ℕ, Bool, true, false, List, [], ◌∷◌, map, length, refl, sym, subst, ap, suc-ne-zero}
use denote.Ref.{Bor}
use Rattle.py_tree.specs.Tree.{Tree, cons, branch, trees, line_tree, branch_tree, expr_tree}
use Rattle.py_tree.specs.declared.expr.Expr.{Expr}
use Rattle.py_tree.specs.declared.line.Line.{Line}
use Rattle.py_tree.specs.declared.line.Branch.{Branch}
use Rattle.py_tree.proofs.Views.{branch_tree-Branch}
use Rattle.py_heap.specs.declared.value.Value.{Value}
use Rattle.py_heap.specs.Heap.{truth_of}
use Rattle.py_meaning.specs.States.{State, goes_on}
use Rattle.py_meaning.specs.Jobs.{branches, exec_all}
use Rattle.py_meaning.specs.Plans.{first, bind}
use Rattle.py_meaning.specs.Evaluates.{plan}
use Rattle.py_meaning.specs.Statements.{chosen}
use Rattle.py_steps.specs.Leads.{Unfolds, same, opens, later}
use Rattle.py_steps.specs.Desks.{stacks_of, tasks_of, values_of, top, below}
use Rattle.py_steps.specs.Todos.{left, by_branch}
use Rattle.py_steps.specs.declared.desk.Desk.{Desk}
use Rattle.py_steps.specs.declared.task.Task.{Task}
use Rattle.py_steps.specs.declared.task.Task.TheVariants as task
use Rattle.py_steps.proofs.Going.{value_unfolds}
use Rattle.py_steps.proofs.Rests.{left_ends, arrives}
use Rattle.py_steps.proofs.Turns.{one_for}

choice : (block bs ls : Tree) (ts : List Task) (vs : List Value) (s : State) (b : Bool) → Unfolds (bind (chosen b block bs ls s) (left ts vs)) (by_branch block bs ls vs (left ts) b s)
unfolding bind
choice block bs ls ts vs s true = same refl
choice block bs ls ts vs s false = same refl

branch_opens : {t : Tree} (l : ℕ) (b : Bor Branch) (rest : Bor (List Branch)) (ls : Bor (List Line)) (test : Bor Expr) (ts : List Task) (vs : List Value) (s : State) → t ≡ branch l (expr_tree test.now) (trees (map line_tree b.now.block.items)) →
    Unfolds (first (branches (cons t (trees (map branch_tree rest.now))) (trees (map line_tree ls.now))) s (left ts vs)) (left (task.Evaluate test ∷ task.Choose b rest ls ∷ ts) vs (goes_on s))
unfolding plan bind
branch_opens {t = t} l b rest ls test ts vs s e =
    let block = trees (map line_tree b.now.block.items) in
    let more = trees (map branch_tree rest.now) in
    let otherwise = trees (map line_tree ls.now) in
    subst (λ x. Unfolds (first (branches (cons x more) otherwise) s (left ts vs)) (left (task.Evaluate test ∷ task.Choose b rest ls ∷ ts) vs (goes_on s))) (sym e)
    (opens (later (value_unfolds (λ x s1. chosen (truth_of s1.objects x) block more otherwise s1) (λ x s1. by_branch block more otherwise vs (left ts) (truth_of s1.objects x) s1) (left ts vs) (left_ends ts vs)
    (λ x s1. choice block more otherwise ts vs s1 (truth_of s1.objects x)))))

-- a branch is left, whose test comes first
pub branch_comes : (bs : List Branch) (b : Bor Branch) (rest : Bor (List Branch)) (ls : Bor (List Line)) (test : Bor Expr) (d d' : Desk) → bs ≡ b.now ∷ rest.now → test.now ≡ b.now.test → stacks_of d' ≡ record { tasks = task.Evaluate test ∷ task.Choose b rest ls ∷ tasks_of d; values = values_of d } → (s : State) →
    Unfolds (first (branches (trees (map branch_tree bs)) (trees (map line_tree ls.now))) s (left (tasks_of d) (values_of d))) (left (tasks_of d') (values_of d') (goes_on s))
branch_comes bs b rest ls test d d' e f g s =
    let block = trees (map line_tree b.now.block.items) in
    arrives d' (goes_on s) g
    (subst (λ x. Unfolds (first (branches (trees (map branch_tree x)) (trees (map line_tree ls.now))) s (left (tasks_of d) (values_of d))) (left (task.Evaluate test ∷ task.Choose b rest ls ∷ tasks_of d) (values_of d) (goes_on s))) (sym e)
    (branch_opens b.now.line b rest ls test (tasks_of d) (values_of d) s (branch_tree-Branch b.now.line b.now.test b.now.block ∙ ap (λ x. branch b.now.line (expr_tree x) block) (sym f))))

-- no branch is left
pub none_comes : (bs : List Branch) (ls : Bor (List Line)) (d d' : Desk) → length bs ≡ 0 → stacks_of d' ≡ record { tasks = task.Lines ls ∷ tasks_of d; values = values_of d } → (s : State) →
    Unfolds (first (branches (trees (map branch_tree bs)) (trees (map line_tree ls.now))) s (left (tasks_of d) (values_of d))) (left (tasks_of d') (values_of d') (goes_on s))
unfolding plan bind
none_comes [] ls d d' e g s = arrives d' (goes_on s) g (opens (same refl))
none_comes (b ∷ bs) ls d d' e g s = absurd (suc-ne-zero _ e)

-- the test is true, or not
pub block_comes : (b : Bor Branch) (bs : Bor (List Branch)) (ls block : Bor (List Line)) (x : Value) (d d1 d2 : Desk) (s : State) (t : Bool) → x ≡ top (values_of d) → t ≡ truth_of s.objects x → t ≡ true → block.now ≡ b.now.block.items → stacks_of d1 ≡ record { tasks = tasks_of d; values = below (values_of d) } → stacks_of d2 ≡ record { tasks = task.Lines block ∷ tasks_of d1; values = values_of d1 } →
    Unfolds (left (task.Choose b bs ls ∷ tasks_of d) (values_of d) (goes_on s)) (left (tasks_of d2) (values_of d2) (goes_on s))
block_comes b bs ls block x d d1 d2 s t e f g w p q =
    arrives d2 (goes_on s) (one_for d d1 d2 (task.Lines block) p q)
    (subst (λ (u : Bool). Unfolds (by_branch (trees (map line_tree b.now.block.items)) (trees (map branch_tree bs.now)) (trees (map line_tree ls.now)) (below (values_of d)) (left (tasks_of d)) u s) (left (task.Lines block ∷ tasks_of d) (below (values_of d)) (goes_on s))) (sym (ap (truth_of s.objects) (sym e) ∙ sym f ∙ g))
    (subst (λ (k : List Line). Unfolds (first (exec_all (trees (map line_tree k))) s (left (tasks_of d) (below (values_of d)))) (left (task.Lines block ∷ tasks_of d) (below (values_of d)) (goes_on s))) w (same refl)))

pub others_come : (b : Bor Branch) (bs : Bor (List Branch)) (ls : Bor (List Line)) (x : Value) (d d1 d2 : Desk) (s : State) (t : Bool) → x ≡ top (values_of d) → t ≡ truth_of s.objects x → t ≡ false → stacks_of d1 ≡ record { tasks = tasks_of d; values = below (values_of d) } → stacks_of d2 ≡ record { tasks = task.Branches bs ls ∷ tasks_of d1; values = values_of d1 } →
    Unfolds (left (task.Choose b bs ls ∷ tasks_of d) (values_of d) (goes_on s)) (left (tasks_of d2) (values_of d2) (goes_on s))
others_come b bs ls x d d1 d2 s t e f g p q =
    arrives d2 (goes_on s) (one_for d d1 d2 (task.Branches bs ls) p q)
    (subst (λ (u : Bool). Unfolds (by_branch (trees (map line_tree b.now.block.items)) (trees (map branch_tree bs.now)) (trees (map line_tree ls.now)) (below (values_of d)) (left (tasks_of d)) u s) (left (task.Branches bs ls ∷ tasks_of d) (below (values_of d)) (goes_on s))) (sym (ap (truth_of s.objects) (sym e) ∙ sym f ∙ g))
    (same refl))
