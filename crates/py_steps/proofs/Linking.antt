-- What stands behind a value: what each form of it comes to.
use Rattle.std.proofs.Common.{◌≡◌, ◌∙◌, ℕ, Bool, true, false, List, [], ◌∷◌, ◌++◌, Option, Some, None, Result, Err, map, length, reverse, refl, sym, subst, ap, suc-ne-zero, is_some, unwrap_or}
use Rattle.std.proofs.lemmas.Bool.{false≢true}
use mathlib.Core.Path.{fun_ext}
use denote.Ref.{Bor}
use Rattle.std.specs.declared.boxed.Box.{Box}
use Rattle.std.specs.declared.vec.Vec.{Vec}
use Rattle.std.specs.declared.alloc.Global.{Global}
use Rattle.py_tree.specs.Tree.{Tree, nil, cons, attribute, call, index, slice, trees, expr_tree, link_tree, argument_tree, argument_step, expr_step, link_step, operation_step, pair_step, piece_step}
use Rattle.py_tree.specs.declared.expr.Expr.{Expr, roll-Expr, out-Expr, roll-out-Expr, fold-roll-Expr}
use Rattle.py_tree.specs.declared.expr.Link.{Link, roll-Link, out-Link, roll-out-Link, fold-roll-Link}
use Rattle.py_tree.specs.declared.expr.Link.TheVariants as link'
use Rattle.py_tree.specs.declared.expr.Argument.{Argument}
use Rattle.py_tree.specs.declared.expr.Operation.{Operation}
use Rattle.py_tree.specs.declared.expr.Pair.{Pair}
use Rattle.py_tree.specs.declared.expr.Piece.{Piece}
use Rattle.py_tree.specs.declared.expr.Argument.TheOpen as open'
use Rattle.py_tree.proofs.Views.{optional_box, link_tree-Call, link_tree-Slice}
use Rattle.py_heap.specs.declared.ids.HostId.{HostId}
use Rattle.py_heap.specs.declared.value.Value.{Value}
use Rattle.py_heap.specs.declared.value.Value.TheVariants as v
use Rattle.py_heap.specs.declared.fault.ValueFault.TheVariants as fault
use Rattle.py_host.specs.Calls as question
use Rattle.py_host.specs.Meaning.{Meaning}
use Rattle.py_methods.specs.declared.name.Name.{Name}
use Rattle.py_methods.specs.Names.{has_method}
use Rattle.py_operators.specs.Indexing.{sliced}
use Rattle.py_meaning.specs.declared.fault.EvalKind.TheVariants as kind
use Rattle.py_meaning.specs.States.{State, Out, Fault, goes_on, place_at, after_operation}
use Rattle.py_meaning.specs.Jobs.{Callee, links, eval_all}
use Rattle.py_meaning.specs.Jobs as job
use Rattle.py_meaning.specs.Plans.{Plan, first, goes, faulty, on_value, on_values, after, after_optional, checked, asked_on, bind}
use Rattle.py_meaning.specs.Evaluates.{Follows, plan}
use Rattle.py_meaning.specs.Arguments.{arguments_by}
use Rattle.py_meaning.specs.Links.{line_or, after_item, called, plan_links}
use Rattle.py_meaning.specs.Words.{method_named}
use Rattle.py_meaning.proofs.Binding.{unfolds}
use Rattle.py_state.specs.declared.stop.Stop.{Stop}
use Rattle.py_state.specs.declared.stop.Stop.TheVariants as stop
use Rattle.py_steps.specs.Desks.{Stacks, stacks_of, tasks_of, values_of, top, below, above, under}
use Rattle.py_steps.specs.Leads.{Unfolds, same, opens, Steps, IsNoObject, in_place_at, linked_at}
use Rattle.py_steps.specs.Todos.{Rest, left, gives_on, made_on, callee, slice_on, end_tree, with_end}
use Rattle.py_steps.specs.declared.desk.Desk.{Desk}
use Rattle.py_steps.specs.declared.task.Task.{Task}
use Rattle.py_steps.specs.declared.task.Task.TheVariants as task
use Rattle.py_steps.proofs.Behind.{EndsOn, value_is, values_are, first_is, after_is, checked_is, item_is}
use Rattle.py_steps.proofs.Beginnings.{above_all, under_all}
use Rattle.py_steps.proofs.Rests.{arrives}

abbrev pub links_left : Option ℕ → List Link → Desk → State → Plan
links_left named ls d s = first (links (top (values_of d)) named (trees (map link_tree ls))) s (in_place_at d)

-- nothing stands there any more
pub links_end : (named : Option ℕ) (ls : List Link) (d d' : Desk) (s : State) → length ls ≡ 0 → stacks_of d' ≡ record { tasks = tasks_of d; values = top (values_of d) ∷ below (values_of d) } → Unfolds (links_left named ls d s) (left (tasks_of d') (values_of d') (goes_on s))
unfolding plan bind
links_end named [] d d' s e a = arrives d' (goes_on s) a (opens (same refl))
links_end named (x ∷ ls) d d' s e a = absurd (suc-ne-zero _ e)

-- the first thing, by its form
first_tree : (ls rest : List Link) (x form : Link) (t : Tree) → ls ≡ x ∷ rest → x ≡ form → link_tree form ≡ t → trees (map link_tree ls) ≡ cons t (trees (map link_tree rest))
first_tree ls rest x form t e f g =
    let more = trees (map link_tree rest) in
    ap (λ (y : List Link). trees (map link_tree y)) e ∙ ap (λ (y : Link). cons (link_tree y) more) f ∙ ap (λ (y : Tree). cons y more) g

pub links_first : (named : Option ℕ) (ls rest : List Link) (x form : Link) (t : Tree) (d : Desk) (s : State) (q : Plan) → ls ≡ x ∷ rest → x ≡ form → link_tree form ≡ t → Unfolds (linked_at named (cons t (trees (map link_tree rest))) d s) q → Unfolds (links_left named ls d s) q
unfolding plan
links_first named ls rest x form t d s q e f g u =
    subst (λ (y : Tree). Unfolds (first (links (top (values_of d)) named y) s (in_place_at d)) q) (sym (first_tree ls rest x form t e f g)) (opens u)

-- what stands behind the value that is given then
rest_is : (rest : Bor (List Link)) (named : Option ℕ) (ts : List Task) (vs : List Value) (x : Value) (s : State) → bind (goes (links x named (trees (map link_tree rest.now))) s) (gives_on vs (left ts)) ≡ left (task.Links rest named ∷ ts) (x ∷ vs) (goes_on s)
unfolding bind
rest_is rest named ts vs x s = refl

-- arguments and a call
call_is : (l : ℕ) (method : Option Name) (args : Bor (List Argument)) (rest : Bor (List Link)) (ts : List Task) (vs : List Value) (s : State) →
    bind (called l (callee (top vs) method) (trees (map argument_tree args.now)) (trees (map link_tree rest.now)) s) (gives_on (below vs) (left ts)) ≡ left (task.Arguments args ∷ task.Call l method args (length vs) ∷ task.Links rest None ∷ ts) vs (goes_on s)
unfolding bind
call_is l method args rest ts vs s =
    let us = trees (map argument_tree args.now) in
    let more = trees (map link_tree rest.now) in
    let k = gives_on (below vs) (left ts) in
    let next : Value → State → Plan = λ x s2. goes (links x None more) s2 in
    let calls : List Value → List Value → State → Plan = λ ws xs s1. first (job.call l (callee (top ws) method) (arguments_by us xs)) s1 (gives_on (below ws) (left (task.Links rest None ∷ ts))) in
    first_is (eval_all us) s (on_values (λ xs s1. first (job.call l (callee (top vs) method) (arguments_by us xs)) s1 (on_value next))) (on_values (λ xs s1. calls (under (length vs) (reverse xs ++ vs)) (above (length vs) (reverse xs ++ vs)) s1)) k
    (values_are (λ xs s1. first (job.call l (callee (top vs) method) (arguments_by us xs)) s1 (on_value next)) (λ xs s1. calls (under (length vs) (reverse xs ++ vs)) (above (length vs) (reverse xs ++ vs)) s1) k (λ s1. refl)
    (λ xs s1. first_is (job.call l (callee (top vs) method) (arguments_by us xs)) s1 (on_value next) (gives_on (below vs) (left (task.Links rest None ∷ ts))) k
    (value_is next (λ x s2. left (task.Links rest None ∷ ts) (x ∷ below vs) (goes_on s2)) k (λ s2. refl) (λ x s2. rest_is rest None ts (below vs) x s2))
    ∙ ap (λ (ws : List Value). calls ws xs s1) (sym (under_all xs vs)) ∙ ap (λ (ys : List Value). calls (under (length vs) (reverse xs ++ vs)) ys s1) (sym (above_all xs vs))))

pub call_comes : (l : ℕ) (method : Option Name) (args : Bor (List Argument)) (us : Tree) (rest : Bor (List Link)) (d d' : Desk) (s : State) → us ≡ trees (map argument_tree args.now) → stacks_of d' ≡ record { tasks = task.Arguments args ∷ task.Call l method args (length (values_of d)) ∷ task.Links rest None ∷ tasks_of d; values = values_of d } →
    Unfolds (bind (called l (callee (top (values_of d)) method) us (trees (map link_tree rest.now)) s) (in_place_at d)) (left (tasks_of d') (values_of d') (goes_on s))
call_comes l method args us rest d d' s e a =
    arrives d' (goes_on s) a
    (subst (λ (y : Tree). Unfolds (bind (called l (callee (top (values_of d)) method) y (trees (map link_tree rest.now)) s) (in_place_at d)) (left (task.Arguments args ∷ task.Call l method args (length (values_of d)) ∷ task.Links rest None ∷ tasks_of d) (values_of d) (goes_on s))) (sym e)
    (same (call_is l method args rest (tasks_of d) (values_of d) s)))

-- the line of a call
pub line_of_call : (named : Option ℕ) (l : ℕ) → unwrap_or named l ≡ line_or named l
line_of_call None l = refl
line_of_call (Some n) l = refl

pub value_call_comes : (named : Option ℕ) (l line : ℕ) (args : Bor (List Argument)) (us : Vec Argument Global) (rest : Bor (List Link)) (d d' : Desk) (s : State) → line ≡ unwrap_or named l → args.now ≡ us.items → stacks_of d' ≡ record { tasks = task.Arguments args ∷ task.Call line None args (length (values_of d)) ∷ task.Links rest None ∷ tasks_of d; values = values_of d } →
    Unfolds (linked_at named (cons (call l (trees (map argument_tree us.items))) (trees (map link_tree rest.now))) d s) (left (tasks_of d') (values_of d') (goes_on s))
value_call_comes named l line args us rest d d' s p e a =
    let vs = trees (map argument_tree us.items) in
    let more = trees (map link_tree rest.now) in
    subst (λ (n : ℕ). Unfolds (bind (called n (job.a_value (top (values_of d))) vs more s) (in_place_at d)) (left (tasks_of d') (values_of d') (goes_on s))) (p ∙ line_of_call named l)
    (call_comes line None args vs rest d d' s (ap (λ (y : List Argument). trees (map argument_tree y)) (sym e)) a)

-- an index
pub index_comes : (named : Option ℕ) (l : ℕ) (e : Bor Expr) (t : Box Expr Global) (rest : Bor (List Link)) (d d' : Desk) (s : State) → e.now ≡ t.value → stacks_of d' ≡ record { tasks = task.Evaluate e ∷ task.Index l ∷ task.Links rest None ∷ tasks_of d; values = values_of d } →
    Unfolds (linked_at named (cons (index l (expr_tree t.value)) (trees (map link_tree rest.now))) d s) (left (tasks_of d') (values_of d') (goes_on s))
unfolding bind
index_comes named l e t rest d d' s p a =
    let ts = tasks_of d in
    let vs = values_of d in
    let more = trees (map link_tree rest.now) in
    let next : Value → State → Plan = λ y s2. goes (links y None more) s2 in
    let there : Value → State → Plan = λ y s2. left (task.Links rest None ∷ ts) (y ∷ below vs) (goes_on s2) in
    arrives d' (goes_on s) a
    (subst (λ (x : Expr). Unfolds (linked_at named (cons (index l (expr_tree x)) more) d s) (left (task.Evaluate e ∷ task.Index l ∷ task.Links rest None ∷ ts) vs (goes_on s))) p
    (same (after_is (expr_tree e.now) s (λ i s1. after_item l (top vs) i s1 next) (λ i s1. after_item l (top vs) i s1 there) (in_place_at d) (λ s1. refl)
    (λ i s1. item_is l (top vs) i s1 next there (in_place_at d) (λ y s2. rest_is rest None ts (below vs) y s2)))))

-- an end of a slice
optional_at : (o : open'.Expr-F Argument Expr Link Piece Operation Pair) (s : State) (f : Option Value → State → Plan) → after_optional (expr_tree (roll-Expr o)) s f ≡ after (expr_tree (roll-Expr o)) s (λ x s1. f (Some x) s1)
unfolding expr_tree
optional_at (open'.Name l n) s f = subst (λ (t : Tree). after_optional t s f ≡ after t s (λ x s1. f (Some x) s1)) (sym (fold-roll-Expr Tree Tree Tree Tree Tree Tree argument_step expr_step link_step piece_step operation_step pair_step (open'.Name l n))) refl
optional_at o s f = subst (λ (t : Tree). after_optional t s f ≡ after t s (λ x s1. f (Some x) s1)) (sym (fold-roll-Expr Tree Tree Tree Tree Tree Tree argument_step expr_step link_step piece_step operation_step pair_step o)) refl

optional_there : (e : Expr) (s : State) (f : Option Value → State → Plan) → after_optional (expr_tree e) s f ≡ after (expr_tree e) s (λ x s1. f (Some x) s1)
optional_there e s f =
    let P : Expr → Type 0 = λ y. after_optional (expr_tree y) s f ≡ after (expr_tree y) s (λ x s1. f (Some x) s1) in
    subst P (roll-out-Expr e) (optional_at (out-Expr e) s f)

abbrev end_on : Option (Box Expr Global) → List Task → List Value → State → Plan
end_on end ts vs s = after_optional (end_tree end) s (λ x s1. left ts (with_end x vs) (goes_on s1))

pub end_comes : (end : Option (Box Expr Global)) (t : Box Expr Global) (e : Bor Expr) (d d' : Desk) → end ≡ Some t → e.now ≡ t.value → stacks_of d' ≡ record { tasks = task.Evaluate e ∷ tasks_of d; values = values_of d } → (vs : List Value) (s : State) → left (tasks_of d') vs (goes_on s) ≡ end_on end (tasks_of d) vs s
end_comes end t e d d' p q a vs s =
    ap (λ (k : Stacks). left k.tasks vs (goes_on s)) a
    ∙ sym (optional_there e.now s (λ x s1. left (tasks_of d) (with_end x vs) (goes_on s1)))
    ∙ ap (λ (x : Expr). after_optional (expr_tree x) s (λ x s1. left (tasks_of d) (with_end x vs) (goes_on s1))) q
    ∙ ap (λ (o : Option (Box Expr Global)). end_on o (tasks_of d) vs s) (sym p)

pub no_end_comes : (end : Option (Box Expr Global)) (d : Desk) → end ≡ None → (vs : List Value) (s : State) → left (tasks_of d) vs (goes_on s) ≡ end_on end (tasks_of d) vs s
no_end_comes end d p vs s = ap (λ (o : Option (Box Expr Global)). end_on o (tasks_of d) vs s) (sym p)

optional_is : (end : Option (Box Expr Global)) (s : State) (f g : Option Value → State → Plan) (k : Out → Plan) → EndsOn k → ((x : Option Value) (s1 : State) → is_some end ≡ is_some x → bind (f x s1) k ≡ g x s1) → bind (after_optional (end_tree end) s f) k ≡ after_optional (end_tree end) s g
optional_is None s f g k e u = u None s refl
optional_is (Some t) s f g k e u =
    ap (λ (p : Plan). bind p k) (optional_there t.value s f)
    ∙ after_is (expr_tree t.value) s (λ x s1. f (Some x) s1) (λ x s1. g (Some x) s1) k e (λ x s1. u (Some x) s1 refl)
    ∙ sym (optional_there t.value s g)

-- a slice whose ends are the uppermost values, as far as they are there
slice_same : (l : ℕ) (s : State) (a b : Option Value) (vs : List Value) (k : Rest) → slice_on l s (is_some a) (is_some b) (with_end b (with_end a vs)) k ≡ made_on l s (sliced s.objects s.units (top vs) a b) (below vs) k
slice_same l s None None vs k = refl
slice_same l s None (Some y) vs k = refl
slice_same l s (Some x) None vs k = refl
slice_same l s (Some x) (Some y) vs k = refl

slice_done : (l : ℕ) (from to : Bool) (rest : Bor (List Link)) (ts : List Task) (vs : List Value) (a b : Option Value) (s : State) → from ≡ is_some a → to ≡ is_some b →
    bind (checked l s (sliced s.objects s.units (top vs) a b) (λ m. goes (links m.0 None (trees (map link_tree rest.now))) (after_operation s m))) (gives_on (below vs) (left ts)) ≡ left (task.Slice l from to ∷ task.Links rest None ∷ ts) (with_end b (with_end a vs)) (goes_on s)
slice_done l from to rest ts vs a b s p q =
    let k = left (task.Links rest None ∷ ts) in
    checked_is l s (sliced s.objects s.units (top vs) a b) (λ m. goes (links m.0 None (trees (map link_tree rest.now))) (after_operation s m)) (λ m. k (m.0 ∷ below vs) (goes_on (after_operation s m))) (gives_on (below vs) (left ts)) (λ m. rest_is rest None ts (below vs) m.0 (after_operation s m))
    ∙ sym (slice_same l s a b vs k)
    ∙ ap (λ (i : Bool). slice_on l s i (is_some b) (with_end b (with_end a vs)) k) (sym p)
    ∙ ap (λ (i : Bool). slice_on l s from i (with_end b (with_end a vs)) k) (sym q)

slice_is : (l : ℕ) (from to : Bool) (lower upper : Option (Box Expr Global)) (rest : Bor (List Link)) (ts : List Task) (vs : List Value) (s : State) → from ≡ is_some lower → to ≡ is_some upper →
    bind (plan_links (top vs) None (cons (slice l (end_tree lower) (end_tree upper)) (trees (map link_tree rest.now))) s) (gives_on (below vs) (left ts)) ≡ after_optional (end_tree lower) s (λ a s1. end_on upper (task.Slice l from to ∷ task.Links rest None ∷ ts) (with_end a vs) s1)
slice_is l from to lower upper rest ts vs s p q =
    let more = trees (map link_tree rest.now) in
    let k = gives_on (below vs) (left ts) in
    let us = task.Slice l from to ∷ task.Links rest None ∷ ts in
    let next : Option Value → Option Value → State → Plan = λ a b s2. checked l s2 (sliced s2.objects s2.units (top vs) a b) (λ m. goes (links m.0 None more) (after_operation s2 m)) in
    optional_is lower s (λ a s1. after_optional (end_tree upper) s1 (next a)) (λ a s1. end_on upper us (with_end a vs) s1) k (λ s1. refl)
    (λ a s1 e. optional_is upper s1 (next a) (λ b s2. left us (with_end b (with_end a vs)) (goes_on s2)) k (λ s2. refl)
    (λ b s2 f. slice_done l from to rest ts vs a b s2 (p ∙ e) (q ∙ f)))

abbrev EndOn : Option (Box Expr Global) → Desk → Desk → Type 0
EndOn end d d' = (vs : List Value) (s : State) → left (tasks_of d') vs (goes_on s) ≡ end_on end (tasks_of d) vs s

-- the ends are evaluated from left to right
pub slice_comes : (l : ℕ) (from to : Bool) (lower upper : Option (Box Expr Global)) (rest : Bor (List Link)) (d d1 d2 d3 d4 : Desk) (s : State) → from ≡ is_some lower → to ≡ is_some upper → stacks_of d1 ≡ record { tasks = task.Links rest None ∷ tasks_of d; values = values_of d } → stacks_of d2 ≡ record { tasks = task.Slice l from to ∷ tasks_of d1; values = values_of d1 } → EndOn upper d2 d3 → values_of d3 ≡ values_of d2 → EndOn lower d3 d4 → values_of d4 ≡ values_of d3 →
    Unfolds (linked_at None (cons (slice l (end_tree lower) (end_tree upper)) (trees (map link_tree rest.now))) d s) (left (tasks_of d4) (values_of d4) (goes_on s))
slice_comes l from to lower upper rest d d1 d2 d3 d4 s p q a b u e w f =
    let us = task.Slice l from to ∷ task.Links rest None ∷ tasks_of d in
    let two : stacks_of d2 ≡ record { tasks = us; values = values_of d } = b ∙ ap (λ (k : Stacks). record { tasks = task.Slice l from to ∷ k.tasks; values = k.values }) a in
    let same_values : values_of d4 ≡ values_of d = f ∙ e ∙ ap (λ (k : Stacks). k.values) two in
    let now : left (tasks_of d4) (values_of d4) (goes_on s) ≡ after_optional (end_tree lower) s (λ x s1. end_on upper us (with_end x (values_of d)) s1) =
    w (values_of d4) s
    ∙ ap (λ (vs : List Value). end_on lower (tasks_of d3) vs s) same_values
    ∙ ap (λ (h : Option Value → State → Plan). after_optional (end_tree lower) s h) (fun_ext (λ x. fun_ext (λ s1. u (with_end x (values_of d)) s1 ∙ ap (λ (k : Stacks). end_on upper k.tasks (with_end x (values_of d)) s1) two))) in
    same (slice_is l from to lower upper rest (tasks_of d) (values_of d) s p q ∙ sym now)

-- an end by the tree of the link
end_is : (end : Option (Box Expr Global)) → optional_box end ≡ end_tree end
end_is None = refl
end_is (Some t) = refl

pub slice_tree : (l : ℕ) (lower upper : Option (Box Expr Global)) → link_tree (link'.Slice l lower upper) ≡ slice l (end_tree lower) (end_tree upper)
slice_tree l lower upper = link_tree-Slice l lower upper ∙ ap (λ (t : Tree). slice l t (optional_box upper)) (end_is lower) ∙ ap (λ (t : Tree). slice l (end_tree lower) t) (end_is upper)

-- a method that isn't there
abbrev NotCall : Tree → Type 0
NotCall (cons (call l ts) rest) = ⊥
NotCall other = Unit {0}

no_call_plan : (x : Value) (l : ℕ) (n : List ℕ) (more : Tree) (s : State) → IsNoObject x → NotCall more → plan_links x None (cons (attribute l n) more) s ≡ faulty l (kind.Value fault.NoMethod) s
no_call_plan (v.Object id) l n more s i c = absurd i
no_call_plan x l n (cons (call cl ts) rest) s i c = absurd c
no_call_plan x l n more s i c = refl

no_name_plan : (x : Value) (l cl : ℕ) (n : List ℕ) (ts more : Tree) (s : State) → IsNoObject x → method_named n ≡ None → plan_links x None (cons (attribute l n) (cons (call cl ts) more)) s ≡ faulty l (kind.Value fault.NoMethod) s
no_name_plan (v.Object id) l cl n ts more s i e = absurd i
no_name_plan x l cl n ts more s i e = rw e refl

no_method_plan : (x : Value) (name : Name) (l cl : ℕ) (n : List ℕ) (ts more : Tree) (s : State) → IsNoObject x → method_named n ≡ Some name → has_method x name ≡ false → plan_links x None (cons (attribute l n) (cons (call cl ts) more)) s ≡ faulty l (kind.Value fault.NoMethod) s
no_method_plan (v.Object id) name l cl n ts more s i e h = absurd i
no_method_plan (v.Text id) name l cl n ts more s i e h = rw (e, h) refl
no_method_plan (v.List id) name l cl n ts more s i e h = rw (e, h) refl
no_method_plan (v.Dict id) name l cl n ts more s i e h = rw (e, h) refl
no_method_plan x name l cl n ts more s i e h = rw e refl

method_plan : (x : Value) (name : Name) (l cl : ℕ) (n : List ℕ) (ts more : Tree) (s : State) → IsNoObject x → method_named n ≡ Some name → has_method x name ≡ true → plan_links x None (cons (attribute l n) (cons (call cl ts) more)) s ≡ called l (job.a_method x name) ts more s
method_plan (v.Object id) name l cl n ts more s i e h = absurd i
method_plan (v.Text id) name l cl n ts more s i e h = rw (e, h) refl
method_plan (v.List id) name l cl n ts more s i e h = rw (e, h) refl
method_plan (v.Dict id) name l cl n ts more s i e h = rw (e, h) refl
method_plan x name l cl n ts more s i e h = absurd (false≢true h)

no_method_at : (X : Type 0) (l : ℕ) (x : Value) (t : Tree) (k : Out → Plan) (s : State) (y : Stop) (q : Plan) → plan_links x None t s ≡ faulty l (kind.Value fault.NoMethod) s → y ≡ stop.Fault s.frame.script l (kind.Value fault.NoMethod) → Steps {X = X} (bind (plan_links x None t s) k) (Err y) q
unfolding bind
no_method_at X l x t k s y q e f =
    subst (λ (z : Stop). Steps {X = X} (bind (plan_links x None t s) k) (Err z) q) (sym f) (tt, same (ap (λ (p : Plan). bind p k) e))

abbrev pub OtherLink : Link → Type 0
OtherLink x = (l : ℕ) (us : Vec Argument Global) → x ≡ link'.Call l us → ⊥

no_call_at : (o : open'.Link-F Argument Expr Link Piece Operation Pair) (more : Tree) → OtherLink (roll-Link o) → NotCall (cons (link_tree (roll-Link o)) more)
unfolding expr_tree link_tree
no_call_at (open'.Call l us) more h = absurd (h l us (link'.rolls-Call l us))
no_call_at (open'.Attribute l n) more h = subst (λ (t : Tree). NotCall (cons t more)) (sym (fold-roll-Link Tree Tree Tree Tree Tree Tree argument_step expr_step link_step piece_step operation_step pair_step (open'.Attribute l n))) tt
no_call_at (open'.Index l e) more h = subst (λ (t : Tree). NotCall (cons t more)) (sym (fold-roll-Link Tree Tree Tree Tree Tree Tree argument_step expr_step link_step piece_step operation_step pair_step (open'.Index l e))) tt
no_call_at (open'.Slice l e f) more h = subst (λ (t : Tree). NotCall (cons t more)) (sym (fold-roll-Link Tree Tree Tree Tree Tree Tree argument_step expr_step link_step piece_step operation_step pair_step (open'.Slice l e f))) tt

no_call : (x : Link) (more : Tree) → OtherLink x → NotCall (cons (link_tree x) more)
no_call x more =
    let P : Link → Type 0 = λ y. OtherLink y → NotCall (cons (link_tree y) more) in
    subst P (roll-out-Link x) (no_call_at (out-Link x) more)

-- nothing stands behind the method's name, or no call does
pub nothing_called : (X : Type 0) (l : ℕ) (n : List ℕ) (ls : List Link) (d : Desk) (s : State) (y : Stop) (q : Plan) → IsNoObject (top (values_of d)) → length ls ≡ 0 → y ≡ stop.Fault s.frame.script l (kind.Value fault.NoMethod) → Steps {X = X} (linked_at None (cons (attribute l n) (trees (map link_tree ls))) d s) (Err y) q
nothing_called X l n [] d s y q i e f =
    no_method_at X l (top (values_of d)) (cons (attribute l n) nil) (in_place_at d) s y q (no_call_plan (top (values_of d)) l n nil s i tt) f
nothing_called X l n (x ∷ ls) d s y q i e f = absurd (suc-ne-zero _ e)

pub other_called : (X : Type 0) (l : ℕ) (n : List ℕ) (ls rest : List Link) (x : Link) (d : Desk) (s : State) (y : Stop) (q : Plan) → IsNoObject (top (values_of d)) → ls ≡ x ∷ rest → OtherLink x → y ≡ stop.Fault s.frame.script l (kind.Value fault.NoMethod) → Steps {X = X} (linked_at None (cons (attribute l n) (trees (map link_tree ls))) d s) (Err y) q
other_called X l n ls rest x d s y q i e h f =
    let more = trees (map link_tree rest) in
    subst (λ (z : List Link). Steps {X = X} (linked_at None (cons (attribute l n) (trees (map link_tree z))) d s) (Err y) q) (sym e)
    (no_method_at X l (top (values_of d)) (cons (attribute l n) (cons (link_tree x) more)) (in_place_at d) s y q (no_call_plan (top (values_of d)) l n (cons (link_tree x) more) s i (no_call x more h)) f)

-- a call stands there
call_form : (ls rest : List Link) (x : Link) (cl : ℕ) (us : Vec Argument Global) → ls ≡ x ∷ rest → x ≡ link'.Call cl us → trees (map link_tree ls) ≡ cons (call cl (trees (map argument_tree us.items))) (trees (map link_tree rest))
call_form ls rest x cl us e f = first_tree ls rest x (link'.Call cl us) (call cl (trees (map argument_tree us.items))) e f (link_tree-Call cl us)

-- no method has that name
pub no_such_name : (X : Type 0) (l : ℕ) (n word : List ℕ) (o : Option Name) (ls rest : List Link) (x : Link) (cl : ℕ) (us : Vec Argument Global) (d : Desk) (s : State) (y : Stop) (q : Plan) → IsNoObject (top (values_of d)) → ls ≡ x ∷ rest → x ≡ link'.Call cl us → word ≡ n → o ≡ method_named word → o ≡ None → y ≡ stop.Fault s.frame.script l (kind.Value fault.NoMethod) → Steps {X = X} (linked_at None (cons (attribute l n) (trees (map link_tree ls))) d s) (Err y) q
no_such_name X l n word o ls rest x cl us d s y q i e f w p g z =
    let ts = trees (map argument_tree us.items) in
    let more = trees (map link_tree rest) in
    subst (λ (t : Tree). Steps {X = X} (linked_at None (cons (attribute l n) t) d s) (Err y) q) (sym (call_form ls rest x cl us e f))
    (no_method_at X l (top (values_of d)) (cons (attribute l n) (cons (call cl ts) more)) (in_place_at d) s y q (no_name_plan (top (values_of d)) l cl n ts more s i (ap method_named (sym w) ∙ sym p ∙ g)) z)

-- the value hasn't it
pub no_such_method : (X : Type 0) (l : ℕ) (n word : List ℕ) (o : Option Name) (name : Name) (v : Value) (b : Bool) (ls rest : List Link) (x : Link) (cl : ℕ) (us : Vec Argument Global) (d : Desk) (s : State) (y : Stop) (q : Plan) → IsNoObject (top (values_of d)) → ls ≡ x ∷ rest → x ≡ link'.Call cl us → word ≡ n → o ≡ method_named word → o ≡ Some name → v ≡ top (values_of d) → b ≡ has_method v name → b ≡ false → y ≡ stop.Fault s.frame.script l (kind.Value fault.NoMethod) → Steps {X = X} (linked_at None (cons (attribute l n) (trees (map link_tree ls))) d s) (Err y) q
no_such_method X l n word o name v b ls rest x cl us d s y q i e f w p g t h k z =
    let ts = trees (map argument_tree us.items) in
    let more = trees (map link_tree rest) in
    subst (λ (t : Tree). Steps {X = X} (linked_at None (cons (attribute l n) t) d s) (Err y) q) (sym (call_form ls rest x cl us e f))
    (no_method_at X l (top (values_of d)) (cons (attribute l n) (cons (call cl ts) more)) (in_place_at d) s y q
    (no_method_plan (top (values_of d)) name l cl n ts more s i (ap method_named (sym w) ∙ sym p ∙ g) (ap (λ (u : Value). has_method u name) (sym t) ∙ sym h ∙ k)) z)

-- it has it
pub method_comes : (l : ℕ) (n word : List ℕ) (o : Option Name) (name : Name) (v : Value) (b : Bool) (ls : List Link) (x : Link) (cl : ℕ) (us : Vec Argument Global) (args : Bor (List Argument)) (rest : Bor (List Link)) (d d' : Desk) (s : State) → IsNoObject (top (values_of d)) → ls ≡ x ∷ rest.now → x ≡ link'.Call cl us → word ≡ n → o ≡ method_named word → o ≡ Some name → v ≡ top (values_of d) → b ≡ has_method v name → b ≡ true → args.now ≡ us.items → stacks_of d' ≡ record { tasks = task.Arguments args ∷ task.Call l (Some name) args (length (values_of d)) ∷ task.Links rest None ∷ tasks_of d; values = values_of d } →
    Unfolds (linked_at None (cons (attribute l n) (trees (map link_tree ls))) d s) (left (tasks_of d') (values_of d') (goes_on s))
method_comes l n word o name v b ls x cl us args rest d d' s i e f w p g t h k r a =
    let ts = trees (map argument_tree us.items) in
    let more = trees (map link_tree rest.now) in
    let q = left (tasks_of d') (values_of d') (goes_on s) in
    subst (λ (t : Tree). Unfolds (linked_at None (cons (attribute l n) t) d s) q) (sym (call_form ls rest.now x cl us e f))
    (subst (λ (y : Plan). Unfolds (bind y (in_place_at d)) q) (sym (method_plan (top (values_of d)) name l cl n ts more s i (ap method_named (sym w) ∙ sym p ∙ g) (ap (λ (u : Value). has_method u name) (sym t) ∙ sym h ∙ k)))
    (call_comes l (Some name) args ts rest d d' s (ap (λ (y : List Argument). trees (map argument_tree y)) (sym r)) a))

-- an attribute of an object
pub attribute_is : (l : ℕ) (n : List ℕ) (rest : Tree) (x : Value) (id : HostId) (d : Desk) (s : State) → x ≡ top (values_of d) → x ≡ v.Object id → linked_at None (cons (attribute l n) rest) d s ≡ asked_on l (question.attribute (place_at l s) id.0 n) s (λ y s1. first (links y (Some l) rest) s1 (in_place_at d))
unfolding bind
attribute_is l n rest x id d s e f = ap (λ (z : Value). bind (plan_links z None (cons (attribute l n) rest) s) (in_place_at d)) (sym e ∙ f)

pub attribute_stays : (l : ℕ) (x : Value) (rest : Bor (List Link)) (d d1 d2 d3 : Desk) (s : State) → stacks_of d1 ≡ record { tasks = tasks_of d; values = below (values_of d) } → stacks_of d2 ≡ record { tasks = tasks_of d1; values = x ∷ values_of d1 } → stacks_of d3 ≡ record { tasks = task.Links rest (Some l) ∷ tasks_of d2; values = values_of d2 } → left (tasks_of d3) (values_of d3) (goes_on s) ≡ first (links x (Some l) (trees (map link_tree rest.now))) s (in_place_at d)
attribute_stays l x rest d d1 d2 d3 s a b c =
    let two : stacks_of d2 ≡ record { tasks = tasks_of d; values = x ∷ below (values_of d) } = b ∙ ap (λ (k : Stacks). record { tasks = k.tasks; values = x ∷ k.values }) a in
    ap (λ (k : Stacks). left k.tasks k.values (goes_on s)) (c ∙ ap (λ (k : Stacks). record { tasks = task.Links rest (Some l) ∷ k.tasks; values = k.values }) two)

-- a value of which no host is asked
no_object_at : (x : Value) → ((id : HostId) → x ≡ v.Object id → ⊥) → IsNoObject x
no_object_at (v.Object id) h = h id refl
no_object_at x h = tt

pub no_object : (x y : Value) → x ≡ y → ((id : HostId) → x ≡ v.Object id → ⊥) → IsNoObject y
no_object x y e h = subst IsNoObject e (no_object_at x h)

-- what follows from the first thing, by its form, follows from all
pub follows_first : {H : Type 0} (m : Meaning H) (c : ℕ) (named : Option ℕ) (ls rest : List Link) (x form : Link) (t : Tree) (d : Desk) (s : State) (h : H) → ls ≡ x ∷ rest → x ≡ form → link_tree form ≡ t → (r : Result Out Fault) (h3 : H) → Follows m c (linked_at named (cons t (trees (map link_tree rest))) d s) h r h3 → Follows m c (links_left named ls d s) h r h3
unfolding plan
follows_first m c named ls rest x form t d s h e f g r h3 a =
    subst (λ (y : Tree). Follows m c (first (links (top (values_of d)) named y) s (in_place_at d)) h r h3) (sym (first_tree ls rest x form t e f g)) (unfolds (links (top (values_of d)) named (cons t (trees (map link_tree rest)))) s a)
