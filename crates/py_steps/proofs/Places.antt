-- An index at the end of what stands behind an atom, and what goes there.
use Rattle.std.proofs.Common.{◌≡◌, ◌∙◌, ℕ, List, [], ◌∷◌, ◌++◌, Option, Some, None, map, length, refl, sym, subst, ap, suc-ne-zero}
use denote.Ref.{Bor}
use Rattle.std.specs.declared.boxed.Box.{Box}
use Rattle.std.specs.declared.alloc.Global.{Global}
use Rattle.std.specs.declared.vec.Vec.{Vec}
use Rattle.py_tree.specs.Tree.{Tree, nil, cons, name, post, index, trees, expr_tree, link_tree, argument_step, expr_step, link_step, operation_step, pair_step, piece_step}
use Rattle.py_tree.specs.declared.expr.Expr.{Expr, roll-Expr, out-Expr, roll-out-Expr, fold-roll-Expr}
use Rattle.py_tree.specs.declared.expr.Expr.TheVariants as expr'
use Rattle.py_tree.specs.declared.expr.Link.{Link, roll-Link, out-Link, roll-out-Link, fold-roll-Link}
use Rattle.py_tree.specs.declared.expr.Link.TheVariants as link'
use Rattle.py_tree.specs.declared.expr.Argument.{Argument}
use Rattle.py_tree.specs.declared.expr.Operation.{Operation}
use Rattle.py_tree.specs.declared.expr.Operator.{Operator}
use Rattle.py_tree.specs.declared.expr.Pair.{Pair}
use Rattle.py_tree.specs.declared.expr.Piece.{Piece}
use Rattle.py_tree.specs.declared.expr.Argument.TheOpen as open'
use Rattle.py_tree.proofs.Views.{expr_tree-Name, expr_tree-Post, link_tree-Index}
use Rattle.py_heap.specs.declared.value.Value.{Value}
use Rattle.py_meaning.specs.States.{State, goes_on, after_operation}
use Rattle.py_meaning.specs.Expressions.{named_line}
use Rattle.py_meaning.specs.Plans.{Plan, comes_to, bind, after, checked}
use Rattle.py_meaning.specs.Links.{after_item}
use Rattle.py_meaning.specs.Lookup.{with_bound}
use Rattle.py_meaning.specs.Statements.{last_index, behind, augmented, augmented_of, combined, after_place, after_item_set}
use Rattle.py_state.proofs.Forms.{NotName}
use Rattle.py_steps.specs.Desks.{Stacks, stacks_of, tasks_of, values_of}
use Rattle.py_steps.specs.Leads.{Unfolds, same, plan_at}
use Rattle.py_steps.specs.Todos.{left}
use Rattle.py_steps.specs.declared.desk.Desk.{Desk}
use Rattle.py_steps.specs.declared.task.Task.TheVariants as task
use Rattle.py_steps.proofs.Behind.{after_is, checked_is, item_is, item_set_is, place_is}
use Rattle.py_steps.proofs.Rests.{arrives, left_ends}

last_more : (t u more : Tree) → last_index (cons t (cons u more)) ≡ behind t (last_index (cons u more))
last_more (index l t) u more = refl
last_more t u more = refl

grown : (t : Tree) (fs : List Link) (x : Link) → last_index (cons t (trees (map link_tree (fs ++ x ∷ [])))) ≡ behind t (last_index (trees (map link_tree (fs ++ x ∷ []))))
grown t [] x = last_more t (link_tree x) nil
grown t (g ∷ gs) x = last_more t (link_tree g) (trees (map link_tree (gs ++ x ∷ [])))

pub index_last : (fs : List Link) (l : ℕ) (t : Box Expr Global) → last_index (trees (map link_tree (fs ++ link'.Index l t ∷ []))) ≡ Some (trees (map link_tree fs), l, expr_tree t.value)
index_last [] l t = ap (λ y. last_index (cons y nil)) (link_tree-Index l t)
index_last (f ∷ fs) l t = grown (link_tree f) fs (link'.Index l t) ∙ ap (behind (link_tree f)) (index_last fs l t)

abbrev pub NotIndex : Link → Type 0
NotIndex x = (l : ℕ) (t : Box Expr Global) → x ≡ link'.Index l t → ⊥

no_index_at : (o : open'.Link-F Argument Expr Link Piece Operation Pair) → NotIndex (roll-Link o) → last_index (cons (link_tree (roll-Link o)) nil) ≡ None
unfolding expr_tree link_tree
no_index_at (open'.Index l t) h = absurd (h l t (link'.rolls-Index l t))
no_index_at o h = ap (λ y. last_index (cons y nil)) (fold-roll-Link Tree Tree Tree Tree Tree Tree argument_step expr_step link_step piece_step operation_step pair_step o)

no_index : (x : Link) → NotIndex x → last_index (cons (link_tree x) nil) ≡ None
no_index x =
    let P : Link → Type 0 = λ y. NotIndex y → last_index (cons (link_tree y) nil) ≡ None in
    subst P (roll-out-Link x) (no_index_at (out-Link x))

pub other_last : (fs : List Link) (x : Link) → NotIndex x → last_index (trees (map link_tree (fs ++ x ∷ []))) ≡ None
other_last [] x h = no_index x h
other_last (f ∷ fs) x h = grown (link_tree f) fs x ∙ ap (behind (link_tree f)) (other_last fs x h)

pub none_last : (ls : List Link) → length ls ≡ 0 → last_index (trees (map link_tree ls)) ≡ None
none_last [] e = refl
none_last (l ∷ ls) e = absurd (suc-ne-zero _ e)

-- an augmented assignment to a name
pub augment_name_goes : (l : ℕ) (op : Operator) (t e : Bor Expr) (ln : ℕ) (n : Bor (List ℕ)) (d d' : Desk) (s : State) → t.now ≡ expr'.Name ln n.now → stacks_of d' ≡ record { tasks = task.Evaluate t ∷ task.Evaluate e ∷ task.Augment l op ∷ task.Bind n ∷ tasks_of d; values = values_of d } →
    Unfolds (plan_at (augmented l op (expr_tree t.now) (expr_tree e.now) s) d) (left (tasks_of d') (values_of d') (goes_on s))
unfolding bind
augment_name_goes l op t e ln n d d' s p a =
    let ts = tasks_of d in
    let vs = values_of d in
    let k = left ts vs in
    let value = expr_tree e.now in
    let made : Value → State → Value → State → Plan = λ x s1 y s2. checked l s2 (augmented_of op s2.objects s2.units x y) (λ m. k (goes_on (with_bound (after_operation s2 m) n.now m.0))) in
    let form : expr_tree t.now ≡ name ln n.now = ap expr_tree p ∙ expr_tree-Name ln n.now in
    arrives d' (goes_on s) a
    (subst (λ (x : Tree). Unfolds (plan_at (augmented l op x value s) d) (after x s (λ y s1. after value s1 (made y s1)))) (sym form)
    (same (after_is (name ln n.now) s (λ x s1. combined l op x value s1 (λ y s2. comes_to (goes_on (with_bound s2 n.now y)))) (λ x s1. after value s1 (made x s1)) k (left_ends ts vs)
    (λ x s1. after_is value s1 (λ y s2. checked l s2 (augmented_of op s2.objects s2.units x y) (λ m. comes_to (goes_on (with_bound (after_operation s2 m) n.now m.0)))) (made x s1) k (left_ends ts vs)
    (λ y s2. checked_is l s2 (augmented_of op s2.objects s2.units x y) (λ m. comes_to (goes_on (with_bound (after_operation s2 m) n.now m.0))) (λ m. k (goes_on (with_bound (after_operation s2 m) n.now m.0))) k (λ m. refl))))))

-- and to nothing
pub augment_none : (l : ℕ) (op : Operator) (a ls e : Tree) (d : Desk) (s : State) → last_index ls ≡ None → Unfolds (plan_at (augmented l op (post a ls) e s) d) (left (tasks_of d) (values_of d) (goes_on s))
unfolding bind
augment_none l op a ls e d s q =
    same (ap (λ (o : Option (Tree × ℕ × Tree)). bind (after_place a o s (λ li base i s1. after_item li base i s1 (λ x s2. combined l op x e s2 (λ y s3. after_item_set li base i y s3 (λ s4. comes_to (goes_on s4)))))) (left (tasks_of d) (values_of d))) q)

-- and to an item
pub augment_item_goes : (l : ℕ) (op : Operator) (a e i : Bor Expr) (front : Bor (List Link)) (ls : Tree) (li : ℕ) (d d' : Desk) (s : State) → last_index ls ≡ Some (trees (map link_tree front.now), li, expr_tree i.now) → stacks_of d' ≡ record { tasks = task.Evaluate a ∷ task.Links front (named_line (expr_tree a.now)) ∷ task.Evaluate i ∷ task.Load li ∷ task.Evaluate e ∷ task.Augment l op ∷ task.StoreAbove li ∷ tasks_of d; values = values_of d } →
    Unfolds (plan_at (augmented l op (post (expr_tree a.now) ls) (expr_tree e.now) s) d) (left (tasks_of d') (values_of d') (goes_on s))
unfolding bind
augment_item_goes l op a e i front ls li d d' s q w =
    let ts = tasks_of d in
    let vs = values_of d in
    let k = left ts vs in
    let value = expr_tree e.now in
    let stored : Value → Value → Value → State → Plan = λ base key y s5. after_item_set li base key y s5 (λ s6. k (goes_on s6)) in
    let made : Value → Value → Value → Value → State → Plan = λ base key x y s4. checked l s4 (augmented_of op s4.objects s4.units x y) (λ m. stored base key m.0 (after_operation s4 m)) in
    let loaded : Value → Value → Value → State → Plan = λ base key x s3. after value s3 (made base key x) in
    let done : State → Plan = λ s6. comes_to (goes_on s6) in
    let place : Tree × ℕ × Tree = (trees (map link_tree front.now), li, expr_tree i.now) in
    arrives d' (goes_on s) w
    (same (place_is (expr_tree a.now) (last_index ls) place s (λ lj base key s1. after_item lj base key s1 (λ x s2. combined l op x value s2 (λ y s3. after_item_set lj base key y s3 done))) (λ base key s1. after_item li base key s1 (loaded base key)) k (left_ends ts vs) q
    (λ base key s1. item_is li base key s1 (λ x s2. combined l op x value s2 (λ y s3. after_item_set li base key y s3 done)) (loaded base key) k
    (λ x s2. after_is value s2 (λ y s3. checked l s3 (augmented_of op s3.objects s3.units x y) (λ m. after_item_set li base key m.0 (after_operation s3 m) done)) (made base key x) k (left_ends ts vs)
    (λ y s3. checked_is l s3 (augmented_of op s3.objects s3.units x y) (λ m. after_item_set li base key m.0 (after_operation s3 m) done) (λ m. stored base key m.0 (after_operation s3 m)) k
    (λ m. item_set_is li base key m.0 (after_operation s3 m) done (λ s6. k (goes_on s6)) k (λ s6. refl)))))))

-- a target of another form takes nothing
abbrev pub NotPost : Expr → Type 0
NotPost e = (a : Box Expr Global) (ls : Vec Link Global) → e ≡ expr'.Post a ls → ⊥

augmented_other_at : (o : open'.Expr-F Argument Expr Link Piece Operation Pair) (l : ℕ) (op : Operator) (e : Tree) (s : State) → NotName (roll-Expr o) → NotPost (roll-Expr o) → augmented l op (expr_tree (roll-Expr o)) e s ≡ comes_to (goes_on s)
unfolding expr_tree
augmented_other_at (open'.Name ln n) l op e s h g = absurd (h ln n (expr'.rolls-Name ln n))
augmented_other_at (open'.Post a ls) l op e s h g = absurd (g a ls (expr'.rolls-Post a ls))
augmented_other_at o l op e s h g = ap (λ t. augmented l op t e s) (fold-roll-Expr Tree Tree Tree Tree Tree Tree argument_step expr_step link_step piece_step operation_step pair_step o)

pub augment_other : (t : Expr) (l : ℕ) (op : Operator) (e : Tree) (d : Desk) (s : State) → NotName t → NotPost t → Unfolds (plan_at (augmented l op (expr_tree t) e s) d) (left (tasks_of d) (values_of d) (goes_on s))
unfolding bind
augment_other t l op e d s h g =
    let P : Expr → Type 0 = λ x. NotName x → NotPost x → augmented l op (expr_tree x) e s ≡ comes_to (goes_on s) in
    same (ap (λ p. bind p (left (tasks_of d) (values_of d))) (subst P (roll-out-Expr t) (augmented_other_at (out-Expr t) l op e s) h g))

pub augment_as : (t form : Expr) (tree : Tree) (l : ℕ) (op : Operator) (e : Tree) (d d' : Desk) (s : State) → t ≡ form → expr_tree form ≡ tree → Unfolds (plan_at (augmented l op tree e s) d) (left (tasks_of d') (values_of d') (goes_on s)) → Unfolds (plan_at (augmented l op (expr_tree t) e s) d) (left (tasks_of d') (values_of d') (goes_on s))
augment_as t form tree l op e d d' s p q u = subst (λ (x : Tree). Unfolds (plan_at (augmented l op x e s) d) (left (tasks_of d') (values_of d') (goes_on s))) (sym (ap expr_tree p ∙ q)) u

pub post_tree : (a : Box Expr Global) (ls : Vec Link Global) (x : Expr) (xs : List Link) → x ≡ a.value → xs ≡ ls.items → expr_tree (expr'.Post a ls) ≡ post (expr_tree x) (trees (map link_tree xs))
post_tree a ls x xs f e = expr_tree-Post a ls ∙ ap (λ (y : List Link). post (expr_tree a.value) (trees (map link_tree y))) (sym e) ∙ ap (λ (y : Expr). post (expr_tree y) (trees (map link_tree xs))) (sym f)

pub index_there : (ls front : List Link) (x : Link) (l : ℕ) (t : Box Expr Global) (e : Expr) → ls ≡ front ++ x ∷ [] → x ≡ link'.Index l t → e ≡ t.value → last_index (trees (map link_tree ls)) ≡ Some (trees (map link_tree front), l, expr_tree e)
index_there ls front x l t e p q r =
    ap (λ (y : List Link). last_index (trees (map link_tree y))) p ∙ ap (λ (y : Link). last_index (trees (map link_tree (front ++ y ∷ [])))) q ∙ index_last front l t
    ∙ ap (λ (y : Expr). Some (trees (map link_tree front), l, expr_tree y)) (sym r)

pub other_there : (ls front : List Link) (x : Link) → ls ≡ front ++ x ∷ [] → NotIndex x → last_index (trees (map link_tree ls)) ≡ None
other_there ls front x p h = ap (λ (y : List Link). last_index (trees (map link_tree y))) p ∙ other_last front x h

pub augment_item_at : (l : ℕ) (op : Operator) (a e i : Bor Expr) (front : Bor (List Link)) (ls : Tree) (li : ℕ) (d d1 d2 : Desk) (s : State) → last_index ls ≡ Some (trees (map link_tree front.now), li, expr_tree i.now) → stacks_of d1 ≡ record { tasks = task.Load li ∷ task.Evaluate e ∷ task.Augment l op ∷ task.StoreAbove li ∷ tasks_of d; values = values_of d } → stacks_of d2 ≡ record { tasks = task.Evaluate a ∷ task.Links front (named_line (expr_tree a.now)) ∷ task.Evaluate i ∷ tasks_of d1; values = values_of d1 } →
    Unfolds (plan_at (augmented l op (post (expr_tree a.now) ls) (expr_tree e.now) s) d) (left (tasks_of d2) (values_of d2) (goes_on s))
augment_item_at l op a e i front ls li d d1 d2 s q v w =
    augment_item_goes l op a e i front ls li d d2 s q
    (subst (λ (k : Stacks). stacks_of d2 ≡ record { tasks = task.Evaluate a ∷ task.Links front (named_line (expr_tree a.now)) ∷ task.Evaluate i ∷ k.tasks; values = k.values }) v w)
