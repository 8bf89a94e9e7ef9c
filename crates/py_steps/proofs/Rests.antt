-- How what is left takes what was done before it.
use Rattle.std.proofs.Common.{◌≡◌, List, [], ◌∷◌, map, refl, sym, subst}
use mathlib.Core.Path.{fun_ext}
use denote.Ref.{Bor}
use Rattle.py_tree.specs.Tree.{Tree, cons, trees, line_tree, simple_tree}
use Rattle.py_tree.specs.declared.line.Line.{Line}
use Rattle.py_tree.specs.declared.line.Simple.{Simple}
use Rattle.py_heap.specs.declared.value.Value.{Value}
use Rattle.py_meaning.specs.States.{State, Out, gives, all_give, goes_on, breaks, continues, returns, ends, exits}
use Rattle.py_meaning.specs.Jobs.{exec, exec_all}
use Rattle.py_meaning.specs.Plans.{Plan, comes_to, first, goes, on_end, bind}
use Rattle.py_meaning.specs.Evaluates.{plan}
use Rattle.py_steps.specs.Leads.{Unfolds, opens}
use Rattle.py_steps.specs.Desks.{Stacks, stacks_of, tasks_of, values_of}
use Rattle.py_steps.specs.Todos.{left}
use Rattle.py_steps.specs.declared.desk.Desk.{Desk}
use Rattle.py_steps.specs.declared.task.Task.{Task}
use Rattle.py_steps.specs.declared.task.Task.TheVariants as task

-- the end of the script is the end of the whole
pub left_ends : (ts : List Task) (vs : List Value) (s : State) → left ts vs (ends s) ≡ comes_to (ends s)
left_ends [] vs s = refl
left_ends (t ∷ ts) vs s = left_ends ts vs s

pub left_returns : (ts : List Task) (vs : List Value) (x : Value) (s : State) → left ts vs (returns x s) ≡ comes_to (returns x s)
left_returns [] vs x s = refl
left_returns (t ∷ ts) vs x s = left_returns ts vs x s

-- the lines behind one
behind_line : (rest : Bor (List Line)) (ts : List Task) (vs : List Value) (o : Out) → bind (on_end (λ s. goes (exec_all (trees (map line_tree rest.now))) s) o) (left ts vs) ≡ left (task.Lines rest ∷ ts) vs o
unfolding bind
behind_line rest ts vs (gives x s) = refl
behind_line rest ts vs (all_give xs s) = refl
behind_line rest ts vs (goes_on s) = refl
behind_line rest ts vs (breaks s) = refl
behind_line rest ts vs (continues s) = refl
behind_line rest ts vs (returns x s) = refl
behind_line rest ts vs (ends s) = refl
behind_line rest ts vs (exits e s) = refl

pub lines_open : {t ls : Tree} {s : State} {q : Plan} (rest : Bor (List Line)) (ts : List Task) (vs : List Value) → ls ≡ cons t (trees (map line_tree rest.now)) → Unfolds (bind (plan (exec t) s) (left (task.Lines rest ∷ ts) vs)) q → Unfolds (first (exec_all ls) s (left ts vs)) q
unfolding plan bind
lines_open {t = t} {s = s} {q = q} rest ts vs e u =
    subst (λ x. Unfolds (first (exec_all x) s (left ts vs)) q) (sym e)
    (opens (subst (λ k. Unfolds (first (exec t) s k) q) (sym (fun_ext (behind_line rest ts vs))) (opens u)))

-- the statements behind one
behind_statement : (rest : Bor (List Simple)) (ts : List Task) (vs : List Value) (o : Out) → bind (on_end (λ s. goes (exec_all (trees (map simple_tree rest.now))) s) o) (left ts vs) ≡ left (task.Statements rest ∷ ts) vs o
unfolding bind
behind_statement rest ts vs (gives x s) = refl
behind_statement rest ts vs (all_give xs s) = refl
behind_statement rest ts vs (goes_on s) = refl
behind_statement rest ts vs (breaks s) = refl
behind_statement rest ts vs (continues s) = refl
behind_statement rest ts vs (returns x s) = refl
behind_statement rest ts vs (ends s) = refl
behind_statement rest ts vs (exits e s) = refl

pub statements_open : {t ls : Tree} {s : State} {q : Plan} (rest : Bor (List Simple)) (ts : List Task) (vs : List Value) → ls ≡ cons t (trees (map simple_tree rest.now)) → Unfolds (bind (plan (exec t) s) (left (task.Statements rest ∷ ts) vs)) q → Unfolds (first (exec_all ls) s (left ts vs)) q
unfolding plan bind
statements_open {t = t} {s = s} {q = q} rest ts vs e u =
    subst (λ x. Unfolds (first (exec_all x) s (left ts vs)) q) (sym e)
    (opens (subst (λ k. Unfolds (first (exec t) s k) q) (sym (fun_ext (behind_statement rest ts vs))) (opens u)))

-- what is left at a desk, by its stacks
pub arrives : (d : Desk) {k : Stacks} {p : Plan} (o : Out) → stacks_of d ≡ k → Unfolds p (left k.tasks k.values o) → Unfolds p (left (tasks_of d) (values_of d) o)
arrives d {p = p} o e u = subst (λ (x : Stacks). Unfolds p (left x.tasks x.values o)) (sym e) u

-- the first of some lines or statements, and the others behind it
pub lines_first : (t ls : Tree) (s : State) (q : Plan) (rest : Bor (List Line)) (ts : List Task) (vs : List Value) → ls ≡ cons t (trees (map line_tree rest.now)) → Unfolds (first (exec t) s (left (task.Lines rest ∷ ts) vs)) q → Unfolds (first (exec_all ls) s (left ts vs)) q
unfolding plan bind
lines_first t ls s q rest ts vs e u =
    subst (λ x. Unfolds (first (exec_all x) s (left ts vs)) q) (sym e)
    (opens (subst (λ k. Unfolds (first (exec t) s k) q) (sym (fun_ext (behind_line rest ts vs))) u))

pub statements_first : (t ls : Tree) (s : State) (q : Plan) (rest : Bor (List Simple)) (ts : List Task) (vs : List Value) → ls ≡ cons t (trees (map simple_tree rest.now)) → Unfolds (first (exec t) s (left (task.Statements rest ∷ ts) vs)) q → Unfolds (first (exec_all ls) s (left ts vs)) q
unfolding plan bind
statements_first t ls s q rest ts vs e u =
    subst (λ x. Unfolds (first (exec_all x) s (left ts vs)) q) (sym e)
    (opens (subst (λ k. Unfolds (first (exec t) s k) q) (sym (fun_ext (behind_statement rest ts vs))) u))
