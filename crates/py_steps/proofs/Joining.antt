-- Texts behind one another: the fields one after another, and what is made of them.
use Rattle.std.proofs.Common.{arith, ◌≡◌, ◌≢◌, ◌∙◌, ℕ, List, [], ◌∷◌, ◌++◌, Ok, Err, ap, sym, refl, subst, map, length}
use denote.Ref.{Bor}
use Rattle.py_tree.specs.Tree.{Tree, nil, cons, field, joined, text, trees, expr_tree, piece_tree}
use Rattle.py_tree.specs.declared.expr.Expr.{Expr}
use Rattle.py_tree.specs.declared.expr.Piece.{Piece}
use Rattle.py_tree.specs.declared.expr.Piece.TheVariants as piece'
use Rattle.py_tree.proofs.Views.{piece_tree-Part, piece_tree-Field}
use Rattle.py_heap.specs.declared.value.Value.{Value}
use Rattle.py_heap.specs.declared.fault.ValueFault.{ValueFault}
use Rattle.py_heap.specs.declared.fault.ValueFault.TheVariants as fault
use Rattle.py_heap.specs.Heap.{Objects}
use Rattle.py_heap.specs.Units.{Units}
use Rattle.py_compare.specs.Outcomes.{Outcome}
use Rattle.py_meaning.specs.States.{State, Out, all_give, goes_on, after_operation}
use Rattle.py_meaning.specs.Jobs.{eval_all}
use Rattle.py_meaning.specs.Plans.{Plan, comes_to, first, bind, on_value, after, after_all, made}
use Rattle.py_meaning.specs.Evaluates.{plan}
use Rattle.py_meaning.specs.Joined.{shown_field, fields_of, joined_text}
use Rattle.py_state.specs.Stops.{value_stop}
use Rattle.py_state.specs.Stores.{state_of}
use Rattle.py_state.specs.declared.machine.Machine.{Machine}
use Rattle.py_meaning.specs.States.{Frame}
use Rattle.py_state.specs.declared.stop.Stop.{Stop}
use Rattle.py_steps.specs.Desks.{Stacks, stacks_of, tasks_of, values_of, above, under}
use Rattle.py_steps.specs.Leads.{Unfolds, same, opens, later, Steps, left_with}
use Rattle.py_steps.specs.Todos.{Rest, left, all_on, made_on}
use Rattle.py_steps.specs.declared.desk.Desk.{Desk}
use Rattle.py_steps.specs.declared.task.Task.{Task}
use Rattle.py_steps.specs.declared.task.Task.TheVariants as task
use Rattle.py_steps.proofs.Beginnings.{before, display_begins}
use Rattle.py_steps.proofs.Going.{given, made_comes, made_stops, onto, value_unfolds}
use Rattle.py_steps.proofs.Several.{rest_on, all_end}
use Rattle.py_steps.proofs.Stepping.{steps_value}

pub joined_begins : (l : ℕ) (ps : Bor (List Piece)) (ts : List Task) (vs : List Value) (s : State) → Unfolds (before (joined l (trees (map piece_tree ps.now))) ts vs s) (first (eval_all (fields_of (trees (map piece_tree ps.now)))) s (all_on vs (left (task.Join l ps (length vs) ∷ ts))))
unfolding plan bind
joined_begins l ps ts vs s =
    opens (display_begins l (fields_of (trees (map piece_tree ps.now))) (λ s1 xs. joined_text s1.objects s1.units (trees (map piece_tree ps.now)) xs) vs (left ts) s)

-- a field gives its value, which is shown before the others come
shown_on : (l : ℕ) (us : Tree) (vs : List Value) (k k' : Rest) (s : State) (r : Outcome) → ((ws : List Value) (s2 : State) → first (eval_all us) s2 (all_on ws k) ≡ k' ws (goes_on s2)) →
    Unfolds (bind (made l s r) (λ o. bind (on_value (λ x s1. after_all us s1 (λ xs s2. comes_to (all_give (x ∷ xs) s2))) o) (all_on vs k))) (made_on l s r vs k')
unfolding bind
shown_on l us vs k k' s (Ok m) h = same (rest_on m.0 vs k us (after_operation s m) ∙ h (m.0 ∷ vs) (after_operation s m))
shown_on l us vs k k' s (Err e) h = same refl

pub show_begins : (l : ℕ) (t us : Tree) (vs : List Value) (k k' : Rest) (s : State) → ((ws : List Value) (s2 : State) → first (eval_all us) s2 (all_on ws k) ≡ k' ws (goes_on s2)) →
    Unfolds (first (eval_all (cons (field l t) us)) s (all_on vs k)) (after t s (λ x s1. made_on l s1 (shown_field s1.objects s1.units x) vs k'))
unfolding plan bind
show_begins l t us vs k k' s h =
    opens (opens (later (value_unfolds (λ x s1. made l s1 (shown_field s1.objects s1.units x)) (λ x s1. made_on l s1 (shown_field s1.objects s1.units x) vs k')
    (λ o. bind (on_value (λ x s1. after_all us s1 (λ xs s2. comes_to (all_give (x ∷ xs) s2))) o) (all_on vs k)) (λ s1. refl)
    (λ x s1. shown_on l us vs k k' s1 (shown_field s1.objects s1.units x) h))))

-- on a desk
pub field_comes : (xs : List Piece) (p : Piece) (l : ℕ) (x : Expr) (e : Bor Expr) (rest : Bor (List Piece)) (d0 d1 d2 : Desk) (s : State) → xs ≡ p ∷ rest.now → p ≡ piece'.Field l x → e.now ≡ x → stacks_of d1 ≡ record (stacks_of d0) { tasks = task.Fields rest ∷ tasks_of d0 } → stacks_of d2 ≡ record (stacks_of d1) { tasks = task.Evaluate e ∷ task.Show l ∷ tasks_of d1 } →
    Unfolds (first (eval_all (fields_of (trees (map piece_tree xs)))) s (all_on (values_of d0) (left (tasks_of d0)))) (left (tasks_of d2) (values_of d2) (goes_on s))
field_comes xs p l x e rest d0 d1 d2 s i is v a b =
    let more = trees (map piece_tree rest.now) in
    let form : fields_of (trees (map piece_tree xs)) ≡ cons (field l (expr_tree e.now)) (fields_of more) =
    ap (λ ys. fields_of (trees (map piece_tree ys))) i ∙ ap (λ t. fields_of (cons t more)) (ap piece_tree is ∙ piece_tree-Field l x ∙ ap (λ y. field l (expr_tree y)) (sym v)) in
    onto (subst (λ t. Unfolds (first (eval_all t) s (all_on (values_of d0) (left (tasks_of d0)))) (left (task.Evaluate e ∷ task.Show l ∷ task.Fields rest ∷ tasks_of d0) (values_of d0) (goes_on s))) (sym form)
    (show_begins l (expr_tree e.now) (fields_of more) (values_of d0) (left (tasks_of d0)) (left (task.Fields rest ∷ tasks_of d0)) s (λ ws s2. refl)))
    (ap (λ k. left k.tasks k.values (goes_on s)) b ∙ ap (λ k. left (task.Evaluate e ∷ task.Show l ∷ k.tasks) k.values (goes_on s)) a)

pub part_passed : (xs : List Piece) (p : Piece) (l : ℕ) (t : List ℕ) (rest : Bor (List Piece)) (d0 d1 : Desk) (s : State) → xs ≡ p ∷ rest.now → p ≡ piece'.Part l t → stacks_of d1 ≡ record (stacks_of d0) { tasks = task.Fields rest ∷ tasks_of d0 } →
    Unfolds (first (eval_all (fields_of (trees (map piece_tree xs)))) s (all_on (values_of d0) (left (tasks_of d0)))) (left (tasks_of d1) (values_of d1) (goes_on s))
part_passed xs p l t rest d0 d1 s i is st =
    let more = trees (map piece_tree rest.now) in
    let form : fields_of (trees (map piece_tree xs)) ≡ fields_of more =
    ap (λ ys. fields_of (trees (map piece_tree ys))) i ∙ ap (λ u. fields_of (cons u more)) (ap piece_tree is ∙ piece_tree-Part l t) in
    onto (same (ap (λ u. first (eval_all u) s (all_on (values_of d0) (left (tasks_of d0)))) form)) (ap (λ k. left k.tasks k.values (goes_on s)) st)

pub fields_over : (xs : List Piece) (d : Desk) (s : State) → length xs ≡ 0 → Unfolds (first (eval_all (fields_of (trees (map piece_tree xs)))) s (all_on (values_of d) (left (tasks_of d)))) (left (tasks_of d) (values_of d) (goes_on s))
fields_over [] d s e = all_end (values_of d) (left (tasks_of d)) s
fields_over (x ∷ xs) d s e = absurd (omega arith)

-- the whole
pub join_goes : (l base : ℕ) (ps : Bor (List Piece)) (d d1 d2 : Desk) (m : Machine) (f : Frame) (xs ys : List Value) (x : Value) (h : Objects) (u : Units) → xs ≡ above base (values_of d) → stacks_of d1 ≡ record { tasks = tasks_of d; values = under base (values_of d) } → ys ≡ xs → joined_text m.heap m.budget (trees (map piece_tree ps.now)) ys ≡ Ok (x, h, u) → stacks_of d2 ≡ record { tasks = tasks_of d1; values = x ∷ values_of d1 } →
    Unfolds (left_with (task.Join l ps base) d m f) (left (tasks_of d2) (values_of d2) (goes_on (after_operation (state_of m f) (x, h, u))))
join_goes l base ps d d1 d2 m f xs ys x h u e a i g b =
    let s = state_of m f in
    let q = left (tasks_of d2) (values_of d2) (goes_on (after_operation s (x, h, u))) in
    made_comes l s (joined_text m.heap m.budget (trees (map piece_tree ps.now)) (above base (values_of d))) (x, h, u) (under base (values_of d)) (left (tasks_of d)) q
    (ap (joined_text m.heap m.budget (trees (map piece_tree ps.now))) (sym (i ∙ e)) ∙ g)
    (given d1 d2 x (after_operation s (x, h, u)) b ∙ ap (λ (st : Stacks). left st.tasks (x ∷ st.values) (goes_on (after_operation s (x, h, u)))) a)

pub join_stops : (X : Type 0) (l base : ℕ) (ps : Bor (List Piece)) (d : Desk) (m : Machine) (f : Frame) (xs ys : List Value) (e : ValueFault) (stop : Stop) (q : Plan) → xs ≡ above base (values_of d) → ys ≡ xs → (e ≢ fault.Memory → joined_text m.heap m.budget (trees (map piece_tree ps.now)) ys ≡ Err e) → stop ≡ value_stop f.script l e →
    Steps {X = X} (left_with (task.Join l ps base) d m f) (Err stop) q
join_stops X l base ps d m f xs ys e stop q a i g b =
    let s = state_of m f in
    subst (λ z. Steps {X = X} (left_with (task.Join l ps base) d m f) (Err z) q) (sym b)
    (steps_value X _ q l s e (λ w. made_stops l s (joined_text m.heap m.budget (trees (map piece_tree ps.now)) (above base (values_of d))) e (under base (values_of d)) (left (tasks_of d))
    (ap (joined_text m.heap m.budget (trees (map piece_tree ps.now))) (sym (i ∙ a)) ∙ g w)))
