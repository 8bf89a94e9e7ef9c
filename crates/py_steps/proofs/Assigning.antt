-- The uppermost value goes to a target.
use Rattle.std.proofs.Common.{◌≡◌, ◌≢◌, ◌∙◌, ◌<◌, ◌+◌, ℕ, Bool, List, [], ◌∷◌, ◌++◌, Option, Some, None, Result, Ok, Err, map, drop, get_or, length, refl, sym, subst, ap}
use Rattle.std.proofs.lemmas.List.{append_assoc, append-nil}
use denote.Ref.{Bor}
use Rattle.std.specs.declared.boxed.Box.{Box}
use Rattle.std.specs.declared.alloc.Global.{Global}
use Rattle.std.specs.declared.vec.Vec.{Vec}
use Rattle.py_tree.specs.Tree.{Tree, cons, tuple, post, trees, expr_tree, link_tree, argument_step, expr_step, link_step, operation_step, pair_step, piece_step}
use Rattle.py_tree.specs.declared.expr.Expr.{Expr, roll-Expr, out-Expr, roll-out-Expr, fold-roll-Expr}
use Rattle.py_tree.specs.declared.expr.Expr.TheVariants as expr'
use Rattle.py_tree.specs.declared.expr.Link.{Link}
use Rattle.py_tree.specs.declared.expr.Argument.{Argument}
use Rattle.py_tree.specs.declared.expr.Operation.{Operation}
use Rattle.py_tree.specs.declared.expr.Pair.{Pair}
use Rattle.py_tree.specs.declared.expr.Piece.{Piece}
use Rattle.py_tree.specs.declared.expr.Argument.TheOpen as open'
use Rattle.py_tree.proofs.Views.{expr_tree-Name, expr_tree-Tuple}
use Rattle.py_heap.specs.declared.value.Value.{Value}
use Rattle.py_heap.specs.declared.fault.ValueFault.{ValueFault}
use Rattle.py_heap.specs.declared.fault.ValueFault.TheVariants as fault
use Rattle.py_heap.specs.Heap.{Objects}
use Rattle.py_meaning.specs.States.{State, goes_on, with_objects}
use Rattle.py_meaning.specs.Expressions.{named_line}
use Rattle.py_meaning.specs.Loops.{names_of, unpacked}
use Rattle.py_meaning.specs.Lookup.{with_bound}
use Rattle.py_meaning.specs.Plans.{Plan, comes_to, bind, checked}
use Rattle.py_meaning.specs.Statements.{last_index, after_item_set, after_place, assigned, with_all_bound}
use Rattle.py_state.proofs.Forms.{NotName, NotTuple}
use Rattle.py_state.proofs.LocalTurns.{trees_first}
use Rattle.py_state.specs.Stops.{value_stop}
use Rattle.py_state.specs.declared.stop.Stop.{Stop}
use Rattle.py_steps.specs.Desks.{Stacks, stacks_of, tasks_of, values_of, top, below}
use Rattle.py_steps.specs.Leads.{Unfolds, same, Steps, assigned_at}
use Rattle.py_steps.specs.Todos.{left}
use Rattle.py_steps.specs.declared.desk.Desk.{Desk}
use Rattle.py_steps.specs.declared.task.Task.TheVariants as task
use Rattle.py_steps.proofs.Behind.{checked_is, item_set_is, place_is}
use Rattle.py_steps.proofs.Faults.{checked_faults}
use Rattle.py_steps.proofs.Places.{NotPost, post_tree}
use Rattle.py_steps.proofs.Rests.{arrives, left_ends}

-- the names of several targets, up to the first that is none
no_name_at : (o : open'.Expr-F Argument Expr Link Piece Operation Pair) (ts : Tree) → NotName (roll-Expr o) → names_of (cons (expr_tree (roll-Expr o)) ts) ≡ []
unfolding expr_tree
no_name_at (open'.Name l n) ts h = absurd (h l n (expr'.rolls-Name l n))
no_name_at o ts h = ap (λ t. names_of (cons t ts)) (fold-roll-Expr Tree Tree Tree Tree Tree Tree argument_step expr_step link_step piece_step operation_step pair_step o)

no_name : (e : Expr) (ts : Tree) → NotName e → names_of (cons (expr_tree e) ts) ≡ []
no_name e ts =
    let P : Expr → Type 0 = λ x. NotName x → names_of (cons (expr_tree x) ts) ≡ [] in
    subst P (roll-out-Expr e) (no_name_at (out-Expr e) ts)

name_first : (e : Expr) (l : ℕ) (n : List ℕ) (ts : Tree) → e ≡ expr'.Name l n → names_of (cons (expr_tree e) ts) ≡ n ∷ names_of ts
name_first e l n ts is = ap (λ t. names_of (cons t ts)) (ap expr_tree is ∙ expr_tree-Name l n)

-- one name behind others
pub names_turn : (ts : List Expr) (i : ℕ) (t : Expr) (l : ℕ) (n : List ℕ) (names new whole : List (List ℕ)) → i < length ts → t ≡ get_or ts i t → names ++ names_of (trees (map expr_tree (drop i ts))) ≡ whole → t ≡ expr'.Name l n → new ≡ names ++ n ∷ [] → new ++ names_of (trees (map expr_tree (drop (i + 1) ts))) ≡ whole
names_turn ts i t l n names new whole b e w is a =
    let more = trees (map expr_tree (drop (i + 1) ts)) in
    ap (λ ys. ys ++ names_of more) a ∙ append_assoc names (n ∷ []) (names_of more) ∙ ap (λ ys. names ++ ys) (sym (name_first t l n more is)) ∙ ap (λ y. names ++ names_of y) (sym (trees_first expr_tree ts i t b e)) ∙ w

-- and none behind them
pub names_end : (ts : List Expr) (i : ℕ) (t : Expr) (names whole : List (List ℕ)) → i < length ts → t ≡ get_or ts i t → names ++ names_of (trees (map expr_tree (drop i ts))) ≡ whole → NotName t → names ≡ whole
names_end ts i t names whole b e w h =
    let more = trees (map expr_tree (drop (i + 1) ts)) in
    sym (append-nil names) ∙ ap (λ ys. names ++ ys) (sym (no_name t more h)) ∙ ap (λ y. names ++ names_of y) (sym (trees_first expr_tree ts i t b e)) ∙ w

-- the uppermost value is taken
abbrev pub Taken : Desk → Desk → Type 0
Taken d d1 = stacks_of d1 ≡ record { tasks = tasks_of d; values = below (values_of d) }

-- a name takes it
pub name_takes : (l ln : ℕ) (t : Bor Expr) (n : List ℕ) (x : Value) (d d1 : Desk) (s s2 : State) → t.now ≡ expr'.Name ln n → x ≡ top (values_of d) → Taken d d1 → s2 ≡ with_bound s n x → Unfolds (left (task.Assign l t ∷ tasks_of d) (values_of d) (goes_on s)) (left (tasks_of d1) (values_of d1) (goes_on s2))
unfolding bind
name_takes l ln t n x d d1 s s2 is e a w =
    arrives d1 (goes_on s2) a
    (same (ap (λ y. assigned_at l y d s) (ap expr_tree is ∙ expr_tree-Name ln n)
    ∙ ap (λ y. left (tasks_of d) (below (values_of d)) (goes_on y)) (ap (with_bound s n) (sym e) ∙ sym w)))

-- several names take its items
abbrev items_to : ℕ → List (List ℕ) → Value → State → (State → Plan) → Plan
items_to l names x s f = checked l s (unpacked s.objects (length names) x) (λ m. f (with_all_bound (with_objects s m.1) names m.0))

abbrev pub several : ℕ → List Expr → Bool → Tree
several lt ts b = tuple lt (trees (map expr_tree ts)) b

pub items_go : (l lt : ℕ) (ts : List Expr) (b : Bool) (x : Value) (s s1 s2 : State) (f : State → Plan) (names given : List (List ℕ)) (n : ℕ) (h : Objects) (items values : List Value) → names ≡ names_of (trees (map expr_tree ts)) → n ≡ length names → unpacked s.objects n x ≡ Ok (items, h) → s1 ≡ with_objects s h → given ≡ names → values ≡ items → s2 ≡ with_all_bound s1 given values → Unfolds (assigned l (several lt ts b) x s f) (f s2)
items_go l lt ts b x s s1 s2 f names given n h items values e p u a g i w =
    let out : s2 ≡ with_all_bound (with_objects s h) names items = w ∙ ap (λ ys. with_all_bound s1 ys values) g ∙ ap (λ ys. with_all_bound s1 names ys) i ∙ ap (λ y. with_all_bound y names items) a in
    let done : unpacked s.objects (length names) x ≡ Ok (items, h) = ap (λ k. unpacked s.objects k x) (sym p) ∙ u in
    same (ap (λ ns. items_to l ns x s f) (sym e) ∙ ap (λ (r : Result (List Value × Objects) ValueFault). checked l s r (λ m. f (with_all_bound (with_objects s m.1) names m.0))) done ∙ ap f (sym out))

-- there aren't as many items
pub items_stop : (X : Type 0) (l lt : ℕ) (ts : List Expr) (b : Bool) (x : Value) (s : State) (f : State → Plan) (names : List (List ℕ)) (n : ℕ) (e : ValueFault) (stop : Stop) (q : Plan) → names ≡ names_of (trees (map expr_tree ts)) → n ≡ length names → (e ≢ fault.Memory → unpacked s.objects n x ≡ Err e) → stop ≡ value_stop s.frame.script l e → Steps {X = X} (assigned l (several lt ts b) x s f) (Err stop) q
items_stop X l lt ts b x s f names n e stop q is p u g =
    let bound : List Value × Objects → Plan = λ m. f (with_all_bound (with_objects s m.1) (names_of (trees (map expr_tree ts))) m.0) in
    subst (λ z. Steps {X = X} (assigned l (several lt ts b) x s f) (Err z) q) (sym g)
    (checked_faults X l s (unpacked s.objects (length (names_of (trees (map expr_tree ts)))) x) bound e q
    (λ w. ap (λ k. unpacked s.objects k x) (ap (λ (ys : List (List ℕ)). length ys) (sym is) ∙ sym p) ∙ u w))

-- what goes on behind them
items_on : (l lt : ℕ) (ts : List Expr) (b : Bool) (x : Value) (d : Desk) (s : State) → bind (assigned l (several lt ts b) x s (λ s1. comes_to (goes_on s1))) (left (tasks_of d) (below (values_of d))) ≡ assigned l (several lt ts b) x s (λ s1. left (tasks_of d) (below (values_of d)) (goes_on s1))
unfolding bind
items_on l lt ts b x d s =
    let names = names_of (trees (map expr_tree ts)) in
    let k = left (tasks_of d) (below (values_of d)) in
    checked_is l s (unpacked s.objects (length names) x) (λ m. comes_to (goes_on (with_all_bound (with_objects s m.1) names m.0))) (λ m. k (goes_on (with_all_bound (with_objects s m.1) names m.0))) k (λ m. refl)

-- a step, by equal plans
steps_at : {X : Type 0} (p p' q q' : Plan) (r : Result X Stop) → p' ≡ p → q' ≡ q → Steps p r q → Steps p' r q'
steps_at p p' q q' r e f g = subst (λ x. Steps x r q') (sym e) (subst (λ x. Steps p r x) (sym f) g)

pub names_take : {X : Type 0} (l lt : ℕ) (t : Bor Expr) (items : Vec Expr Global) (ts : List Expr) (b : Bool) (x : Value) (d d1 : Desk) (s s2 : State) (r : Result X Stop) → t.now ≡ expr'.Tuple lt items b → ts ≡ items.items → x ≡ top (values_of d) → Taken d d1 → ((f : State → Plan) → Steps (assigned l (several lt ts b) x s f) r (f s2)) → Steps (left (task.Assign l t ∷ tasks_of d) (values_of d) (goes_on s)) r (left (tasks_of d1) (values_of d1) (goes_on s2))
names_take l lt t items ts b x d d1 s s2 r is e p a g =
    let f : State → Plan = λ s1. left (tasks_of d) (below (values_of d)) (goes_on s1) in
    let form : expr_tree t.now ≡ several lt ts b = ap expr_tree is ∙ expr_tree-Tuple lt items b ∙ ap (λ (ys : List Expr). several lt ys b) (sym e) in
    steps_at (assigned l (several lt ts b) x s f) _ (f s2) _ r
    (ap (λ y. assigned_at l y d s) form ∙ items_on l lt ts b (top (values_of d)) d s ∙ ap (λ y. assigned l (several lt ts b) y s f) (sym p))
    (ap (λ (k : Stacks). left k.tasks k.values (goes_on s2)) a)
    (g f)

below_one : (vs : List Value) → drop 1 vs ≡ below vs
below_one [] = refl
below_one (x ∷ vs) = refl

-- there is no index at the end, so nothing does
pub none_takes : (l : ℕ) (a ls : Tree) (d d1 : Desk) (s : State) → last_index ls ≡ None → Taken d d1 → Unfolds (assigned_at l (post a ls) d s) (left (tasks_of d1) (values_of d1) (goes_on s))
unfolding bind
none_takes l a ls d d1 s q w =
    arrives d1 (goes_on s) w
    (same (ap (λ (o : Option (Tree × ℕ × Tree)). bind (after_place a o s (λ li base i s1. after_item_set li base i (top (values_of d)) s1 (λ s2. comes_to (goes_on s2)))) (left (tasks_of d) (below (values_of d)))) q))

-- an item takes it
pub item_takes : (l : ℕ) (a i : Bor Expr) (front : Bor (List Link)) (ls : Tree) (li : ℕ) (d d1 d2 : Desk) (s : State) → last_index ls ≡ Some (trees (map link_tree front.now), li, expr_tree i.now) → stacks_of d1 ≡ record { tasks = task.StoreBelow li ∷ tasks_of d; values = values_of d } → stacks_of d2 ≡ record { tasks = task.Evaluate a ∷ task.Links front (named_line (expr_tree a.now)) ∷ task.Evaluate i ∷ tasks_of d1; values = values_of d1 } →
    Unfolds (assigned_at l (post (expr_tree a.now) ls) d s) (left (tasks_of d2) (values_of d2) (goes_on s))
unfolding bind
item_takes l a i front ls li d d1 d2 s q v w =
    let vs = values_of d in
    let k = left (tasks_of d) (below vs) in
    let done : State → Plan = λ s1. comes_to (goes_on s1) in
    let place : Tree × ℕ × Tree = (trees (map link_tree front.now), li, expr_tree i.now) in
    let stored : Value → Value → State → Plan = λ base key s1. after_item_set li base key (top vs) s1 (λ s2. left (tasks_of d) (drop 1 vs) (goes_on s2)) in
    let all : stacks_of d2 ≡ record { tasks = task.Evaluate a ∷ task.Links front (named_line (expr_tree a.now)) ∷ task.Evaluate i ∷ task.StoreBelow li ∷ tasks_of d; values = vs } = w ∙ ap (λ (st : Stacks). record { tasks = task.Evaluate a ∷ task.Links front (named_line (expr_tree a.now)) ∷ task.Evaluate i ∷ st.tasks; values = st.values }) v in
    arrives d2 (goes_on s) all
    (same (place_is (expr_tree a.now) (last_index ls) place s (λ lj base key s1. after_item_set lj base key (top vs) s1 done) stored k (left_ends (tasks_of d) (below vs)) q
    (λ base key s1. item_set_is li base key (top vs) s1 done (λ s2. left (tasks_of d) (drop 1 vs) (goes_on s2)) k (λ s2. ap (λ (ys : List Value). left (tasks_of d) ys (goes_on s2)) (sym (below_one vs))))))

-- a target of another form takes it for nothing
assigned_other_at : (o : open'.Expr-F Argument Expr Link Piece Operation Pair) (l : ℕ) (x : Value) (s : State) (f : State → Plan) → NotName (roll-Expr o) → NotTuple (roll-Expr o) → NotPost (roll-Expr o) → assigned l (expr_tree (roll-Expr o)) x s f ≡ f s
unfolding expr_tree
assigned_other_at (open'.Name ln n) l x s f h g i = absurd (h ln n (expr'.rolls-Name ln n))
assigned_other_at (open'.Tuple lt ts b) l x s f h g i = absurd (g lt ts b (expr'.rolls-Tuple lt ts b))
assigned_other_at (open'.Post a ls) l x s f h g i = absurd (i a ls (expr'.rolls-Post a ls))
assigned_other_at o l x s f h g i = ap (λ t. assigned l t x s f) (fold-roll-Expr Tree Tree Tree Tree Tree Tree argument_step expr_step link_step piece_step operation_step pair_step o)

assigned_other : (e : Expr) (l : ℕ) (x : Value) (s : State) (f : State → Plan) → NotName e → NotTuple e → NotPost e → assigned l (expr_tree e) x s f ≡ f s
assigned_other e l x s f =
    let P : Expr → Type 0 = λ y. NotName y → NotTuple y → NotPost y → assigned l (expr_tree y) x s f ≡ f s in
    subst P (roll-out-Expr e) (assigned_other_at (out-Expr e) l x s f)

pub other_takes : (l : ℕ) (t : Bor Expr) (d d1 : Desk) (s : State) → NotName t.now → NotTuple t.now → NotPost t.now → Taken d d1 → Unfolds (left (task.Assign l t ∷ tasks_of d) (values_of d) (goes_on s)) (left (tasks_of d1) (values_of d1) (goes_on s))
unfolding bind
other_takes l t d d1 s h g i a =
    arrives d1 (goes_on s) a
    (same (ap (λ p. bind p (left (tasks_of d) (below (values_of d)))) (assigned_other t.now l (top (values_of d)) s (λ s1. comes_to (goes_on s1)) h g i)))

-- what is behind an atom takes it, or nothing does
pub post_takes : (l : ℕ) (t : Bor Expr) (a : Box Expr Global) (ls : Vec Link Global) (x : Expr) (xs : List Link) (d d1 : Desk) (s : State) → t.now ≡ expr'.Post a ls → x ≡ a.value → xs ≡ ls.items → Unfolds (assigned_at l (post (expr_tree x) (trees (map link_tree xs))) d s) (left (tasks_of d1) (values_of d1) (goes_on s)) → Unfolds (left (task.Assign l t ∷ tasks_of d) (values_of d) (goes_on s)) (left (tasks_of d1) (values_of d1) (goes_on s))
post_takes l t a ls x xs d d1 s is e f u =
    subst (λ (y : Tree). Unfolds (assigned_at l y d s) (left (tasks_of d1) (values_of d1) (goes_on s))) (sym (ap expr_tree is ∙ post_tree a ls x xs e f)) u
