-- The turns of a comprehension.
use Rattle.std.proofs.Common.{arith, ◌≡◌, ◌≢◌, ◌∙◌, ◌+◌, ◌-◌, ℕ, Bool, true, false, List, [], ◌∷◌, ◌++◌, Option, Some, None, Result, Ok, Err, map, length, min, take, drop, reverse, add-one, refl, sym, subst, ap}
use Rattle.std.proofs.lemmas.List.{nil_from_length, reverse-append, take_min, drop_min}
use denote.Ref.{Bor}
use Rattle.py_tree.specs.Tree.{Tree, cons, trees, expr_tree}
use Rattle.py_tree.specs.declared.expr.Expr.{Expr}
use Rattle.py_heap.specs.declared.value.Value.{Value}
use Rattle.py_heap.specs.declared.fault.ValueFault.{ValueFault}
use Rattle.py_heap.specs.declared.fault.ValueFault.TheVariants as fault
use Rattle.py_heap.specs.Heap.{Objects, truth_of}
use Rattle.py_heap.specs.Units.{Units, charged}
use Rattle.py_host.specs.Names.{Names}
use Rattle.py_compare.specs.Outcomes.{Outcome, new_list}
use Rattle.py_meaning.specs.States.{State, Frame, Function, Out, goes_on, with_objects, with_units, with_frame, after_operation}
use Rattle.py_meaning.specs.Jobs.{collect, tests}
use Rattle.py_meaning.specs.Plans.{Plan, first, goes, on_value, after, bind, checked, made, paid}
use Rattle.py_meaning.specs.Evaluates.{plan}
use Rattle.py_meaning.specs.Expressions.{inside, outside_again, with_inners, kept, collected, tested}
use Rattle.py_meaning.specs.Loops as loops
use Rattle.py_meaning.specs.Loops.{walk_of, next_of, names_of, shared}
use Rattle.py_state.specs.Stops.{value_stop}
use Rattle.py_state.specs.Stores.{Store, store_of, state_of}
use Rattle.py_state.specs.Walks.{plain, told_next}
use Rattle.py_state.specs.declared.machine.Machine.{Machine}
use Rattle.py_state.specs.declared.stop.Stop.{Stop}
use Rattle.py_state.specs.declared.walk.Walk.{Walk}
use Rattle.py_steps.specs.Desks.{stacks_of, tasks_of, values_of, top, below, above, under}
use Rattle.py_steps.specs.Leads.{Unfolds, same, opens, later, Steps, left_with}
use Rattle.py_steps.specs.Todos.{Rest, left, made_on, taken, item_tree, names_tree, tests_tree, list_on, collect_on, by_tests, tests_on, by_test}
use Rattle.py_steps.specs.declared.desk.Desk.{Desk}
use Rattle.py_steps.specs.declared.task.Collecting.{Collecting}
use Rattle.py_steps.specs.declared.task.Comprehension.{Comprehension}
use Rattle.py_steps.specs.declared.task.Task.{Task}
use Rattle.py_steps.specs.declared.task.Task.TheVariants as task
use Rattle.py_steps.proofs.Faults.{checked_stops, checked_faults, checked_goes, paid_goes, unpaid, NoUnit, steps_by, after_pay}
use Rattle.py_steps.proofs.Going.{value_unfolds}
use Rattle.py_steps.proofs.Rests.{arrives}
use Rattle.py_steps.proofs.Turns.{names_of_words, one_for, shared_out}

-- by the value of a test
pub test_holds : (c : Collecting) (ts : Bor (List Expr)) (x : Value) (d d1 d2 : Desk) (s : State) (t : Bool) → x ≡ top (values_of d) → t ≡ truth_of s.objects x → t ≡ true → stacks_of d1 ≡ record { tasks = tasks_of d; values = below (values_of d) } → stacks_of d2 ≡ record { tasks = task.Tests c ts ∷ tasks_of d1; values = values_of d1 } →
    Unfolds (left (task.Tested c ts ∷ tasks_of d) (values_of d) (goes_on s)) (left (tasks_of d2) (values_of d2) (goes_on s))
test_holds c ts x d d1 d2 s t e f g p q =
    arrives d2 (goes_on s) (one_for d d1 d2 (task.Tests c ts) p q)
    (subst (λ (u : Bool). Unfolds (by_test c (trees (map expr_tree ts.now)) (below (values_of d)) (left (tasks_of d)) u s) (left (task.Tests c ts ∷ tasks_of d) (below (values_of d)) (goes_on s))) (sym (ap (truth_of s.objects) (sym e) ∙ sym f ∙ g))
    (same refl))

pub test_fails : (c : Collecting) (ts : Bor (List Expr)) (x : Value) (d d1 d2 : Desk) (s : State) (t : Bool) → x ≡ top (values_of d) → t ≡ truth_of s.objects x → t ≡ false → stacks_of d1 ≡ record { tasks = tasks_of d; values = below (values_of d) } → stacks_of d2 ≡ record { tasks = task.Collect c ∷ tasks_of d1; values = values_of d1 } →
    Unfolds (left (task.Tested c ts ∷ tasks_of d) (values_of d) (goes_on s)) (left (tasks_of d2) (values_of d2) (goes_on s))
test_fails c ts x d d1 d2 s t e f g p q =
    arrives d2 (goes_on s) (one_for d d1 d2 (task.Collect c) p q)
    (subst (λ (u : Bool). Unfolds (by_test c (trees (map expr_tree ts.now)) (below (values_of d)) (left (tasks_of d)) u s) (left (task.Collect c ∷ tasks_of d) (below (values_of d)) (goes_on s))) (sym (ap (truth_of s.objects) (sym e) ∙ sym f ∙ g))
    (same refl))

-- what is left behind the tests
abbrev behind_tests : Collecting → List Value → Rest → Out → Plan
behind_tests c vs k = on_value (λ b s. by_tests c vs k (truth_of s.objects b) s)

abbrev with_item : Collecting → Collecting
with_item c = record c { count = c.count + 1 }

-- no test is left: the item comes next
pub tests_end : (c : Collecting) (ts : Bor (List Expr)) (d d' : Desk) (s : State) → length ts.now ≡ 0 → stacks_of d' ≡ record { tasks = task.Evaluate c.comprehension.item ∷ task.Collect (with_item c) ∷ tasks_of d; values = values_of d } →
    Unfolds (left (task.Tests c ts ∷ tasks_of d) (values_of d) (goes_on s)) (left (tasks_of d') (values_of d') (goes_on s))
unfolding plan bind
tests_end c ts d d' s e g =
    arrives d' (goes_on s) g
    (subst (λ (es : List Expr). Unfolds (tests_on c (trees (map expr_tree es)) (values_of d) s (left (tasks_of d))) (left (task.Evaluate c.comprehension.item ∷ task.Collect (with_item c) ∷ tasks_of d) (values_of d) (goes_on s))) (sym (nil_from_length ts.now e))
    (opens (same refl)))

-- a test comes next
tested_goes : (c : Collecting) (more : Tree) (vs : List Value) (k : Rest) (b : Bool) (s : State) → Unfolds (bind (tested c.comprehension.line more b s) (behind_tests c vs k)) (by_test c more vs k b s)
unfolding bind
tested_goes c more vs k true s = same refl
tested_goes c more vs k false s = same refl

abbrev by_first : Collecting → Tree → Tree → State → Plan
by_first c t more s = after t s (λ x s1. tested c.comprehension.line more (truth_of s1.objects x) s1)

test_opens : (c : Collecting) (t more : Tree) (vs : List Value) (s : State) (k : Rest) (q : Plan) → Unfolds (bind (paid c.comprehension.line s (by_first c t more)) (behind_tests c vs k)) q → Unfolds (tests_on c (cons t more) vs s k) q
unfolding plan
test_opens c t more vs s k q u = opens u

pub test_unpaid : (X : Type 0) (c : Collecting) (ts : Bor (List Expr)) (t : Expr) (rest : List Expr) (d : Desk) (s : State) (x : Stop) (q : Plan) → ts.now ≡ t ∷ rest → NoUnit s.units s.frame.script c.comprehension.line x → Steps {X = X} (left (task.Tests c ts ∷ tasks_of d) (values_of d) (goes_on s)) (Err x) q
test_unpaid X c ts t rest d s x q e w =
    let k = left (tasks_of d) in
    let vs = values_of d in
    let more = trees (map expr_tree rest) in
    let then = by_first c (expr_tree t) more in
    subst (λ (es : List Expr). Steps {X = X} (tests_on c (trees (map expr_tree es)) vs s k) (Err x) q) (sym e)
    (steps_by {X = X} (bind (paid c.comprehension.line s then) (behind_tests c vs k)) (tests_on c (cons (expr_tree t) more) vs s k) q (Err x) (λ q' u. test_opens c (expr_tree t) more vs s k q' u)
    (unpaid X c.comprehension.line s then (behind_tests c vs k) x q w))

test_goes : (c : Collecting) (t : Bor Expr) (rest : Bor (List Expr)) (ts : List Task) (vs : List Value) (s : State) (u : Units) → charged s.units 1 ≡ Ok u → Unfolds (tests_on c (cons (expr_tree t.now) (trees (map expr_tree rest.now))) vs s (left ts)) (left (task.Evaluate t ∷ task.Tested c rest ∷ ts) vs (goes_on (with_units s u)))
unfolding bind
test_goes c t rest ts vs s u p =
    let more = trees (map expr_tree rest.now) in
    let k = left ts in
    let q = left (task.Evaluate t ∷ task.Tested c rest ∷ ts) vs (goes_on (with_units s u)) in
    test_opens c (expr_tree t.now) more vs s k q
    (paid_goes c.comprehension.line s (by_first c (expr_tree t.now) more) (behind_tests c vs k) u q p
    (later (value_unfolds (λ x s1. tested c.comprehension.line more (truth_of s1.objects x) s1) (λ x s1. by_test c more vs k (truth_of s1.objects x) s1) (behind_tests c vs k) (λ s1. refl) (λ x s1. tested_goes c more vs k (truth_of s1.objects x) s1))))

pub test_comes : (c : Collecting) (ts : Bor (List Expr)) (t : Bor Expr) (rest : Bor (List Expr)) (d d' : Desk) (m m1 : Machine) (f : Frame) → ts.now ≡ t.now ∷ rest.now → charged m.budget 1 ≡ Ok m1.budget → store_of m1 ≡ record (store_of m) { units = m1.budget } → stacks_of d' ≡ record { tasks = task.Evaluate t ∷ task.Tested c rest ∷ tasks_of d; values = values_of d } →
    Unfolds (left (task.Tests c ts ∷ tasks_of d) (values_of d) (goes_on (state_of m f))) (left (tasks_of d') (values_of d') (goes_on (state_of m1 f)))
test_comes c ts t rest d d' m m1 f e p a g =
    let s = state_of m f in
    let k = left (tasks_of d) in
    let q : State → Plan = λ s1. left (task.Evaluate t ∷ task.Tested c rest ∷ tasks_of d) (values_of d) (goes_on s1) in
    arrives d' (goes_on (state_of m1 f)) g
    (subst (λ (s1 : State). Unfolds (left (task.Tests c ts ∷ tasks_of d) (values_of d) (goes_on s)) (q s1)) (sym (after_pay m m1 f a))
    (subst (λ (es : List Expr). Unfolds (tests_on c (trees (map expr_tree es)) (values_of d) s k) (q (with_units s m1.budget))) (sym e)
    (test_goes c t rest (tasks_of d) (values_of d) s m1.budget p)))

-- a comprehension begins
pub comprehends : (c : Comprehension) (walk : Walk) (x : Value) (d d1 d2 : Desk) (m : Machine) (f f1 : Frame) → x ≡ top (values_of d) → walk_of m.heap x ≡ Ok (plain walk) → f1 ≡ record f { inner = [] ∷ f.inner } → stacks_of d1 ≡ record { tasks = tasks_of d; values = below (values_of d) } → stacks_of d2 ≡ record { tasks = task.Collect (record { comprehension = c; walk = walk; count = 0 }) ∷ tasks_of d1; values = values_of d1 } →
    Unfolds (left (task.Comprehend c ∷ tasks_of d) (values_of d) (goes_on (state_of m f))) (left (tasks_of d2) (values_of d2) (goes_on (state_of m f1)))
comprehends c walk x d d1 d2 m f f1 e w g a b =
    let s = state_of m f in
    let begun : Collecting = record { comprehension = c; walk = walk; count = 0 } in
    let q : Frame → Plan = λ h. left (task.Collect begun ∷ tasks_of d) (below (values_of d)) (goes_on (state_of m h)) in
    arrives d2 (goes_on (state_of m f1)) (one_for d d1 d2 (task.Collect begun) a b)
    (subst (λ (h : Frame). Unfolds (left (task.Comprehend c ∷ tasks_of d) (values_of d) (goes_on s)) (q h)) (sym g)
    (subst (λ (r : Result loops.Walk ValueFault). Unfolds (checked c.line s r (λ v. first (collect c.line v [] (item_tree c) (names_tree c) (tests_tree c)) (inside s) (on_value (λ y s1. left (tasks_of d) (y ∷ below (values_of d)) (goes_on (outside_again s1)))))) (q (record f { inner = [] ∷ f.inner })))
    (sym (ap (walk_of s.objects) (sym e) ∙ w)) (same refl)))

-- what there is can't be gone over
pub comprehend_stops : (X : Type 0) (c : Comprehension) (x : Value) (d : Desk) (s : State) (e : ValueFault) (stop : Stop) (q : Plan) → x ≡ top (values_of d) → walk_of s.objects x ≡ Err e → stop ≡ value_stop s.frame.script c.line e → Steps {X = X} (left (task.Comprehend c ∷ tasks_of d) (values_of d) (goes_on s)) (Err stop) q
comprehend_stops X c x d s e stop q a b g =
    subst (λ y. Steps {X = X} (left (task.Comprehend c ∷ tasks_of d) (values_of d) (goes_on s)) (Err y) q) (sym g)
    (checked_faults X c.line s (walk_of s.objects (top (values_of d))) (λ v. first (collect c.line v [] (item_tree c) (names_tree c) (tests_tree c)) (inside s) (on_value (λ y s1. left (tasks_of d) (y ∷ below (values_of d)) (goes_on (outside_again s1))))) e q (λ m. ap (walk_of s.objects) (sym a) ∙ b))

-- the names of a comprehension are gone at its end
gone : (o : Objects) (u : Units) (g : List Names) (fs : List Function) (f : Frame) (inner : List Names) → outside_again (record { objects = o; units = u; globals = g; functions = fs; frame = record f { inner = inner } }) ≡ record { objects = o; units = u; globals = g; functions = fs; frame = record f { inner = drop 1 inner } }
gone o u g fs f [] = refl
gone o u g fs f (names ∷ more) = refl

abbrev closed : Frame → Frame
closed f = record f { inner = drop 1 f.inner }

outside : (s : State) → outside_again s ≡ with_frame s (closed s.frame)
outside s = gone s.objects s.units s.globals s.functions s.frame s.frame.inner

abbrev list_by : ℕ → State → Outcome → List Value → Rest → Plan
list_by l s r vs k = checked l s r (λ m. k (m.0 ∷ vs) (goes_on (outside_again (after_operation s m))))

list_outside : (l : ℕ) (s : State) (r : Outcome) (vs : List Value) (k : Rest) → list_by l s r vs k ≡ made_on l (with_frame s (closed s.frame)) r vs k
list_outside l s (Ok m) vs k = ap (λ (s1 : State). k (m.0 ∷ vs) (goes_on s1)) (outside (after_operation s m))
list_outside l s (Err e) vs k = refl

-- the uppermost values, by the height at which they begin
taken_above : (vs : List Value) (n base : ℕ) → base ≡ length vs - n → taken n vs ≡ above base vs
taken_above vs n base e =
    let count : min n (length vs) ≡ length vs - base = omega arith in
    ap reverse (sym (take_min n vs) ∙ ap (λ (i : ℕ). take i vs) count)

dropped_under : (vs : List Value) (n base : ℕ) → base ≡ length vs - n → drop n vs ≡ under base vs
dropped_under vs n base e =
    let count : min n (length vs) ≡ length vs - base = omega arith in
    sym (drop_min n vs) ∙ ap (λ (i : ℕ). drop i vs) count

-- the list of the items is a display in the state outside
pub list_as : (c : Collecting) (base : ℕ) (d : Desk) (m : Machine) (f f1 : Frame) → f1 ≡ record f { inner = drop 1 f.inner } → base ≡ length (values_of d) - c.count → list_on c (values_of d) (state_of m f) (left (tasks_of d)) ≡ left_with (task.List c.comprehension.line base) d m f1
list_as c base d m f f1 e b =
    let l = c.comprehension.line in
    let vs = values_of d in
    let k = left (tasks_of d) in
    let s = state_of m f in
    list_outside l s (new_list s.objects s.units (taken c.count vs)) (drop c.count vs) k
    ∙ ap (λ (xs : List Value). made_on l (with_frame s (closed f)) (new_list s.objects s.units xs) (drop c.count vs) k) (taken_above vs c.count base b)
    ∙ ap (λ (ws : List Value). made_on l (with_frame s (closed f)) (new_list s.objects s.units (above base vs)) ws k) (dropped_under vs c.count base b)
    ∙ ap (λ (h : Frame). left_with (task.List l base) d m h) (sym e)

-- what is left behind a comprehension
abbrev behind_items : Collecting → List Value → Rest → Out → Plan
behind_items c vs k = on_value (λ x s. k (x ∷ drop c.count vs) (goes_on (outside_again s)))

abbrev turned : Collecting → List Value → Option (Value × Objects × loops.Walk) → State → Plan
turned c vs next s = collected c.comprehension.line (taken c.count vs) (item_tree c.comprehension) (names_tree c.comprehension) (tests_tree c.comprehension) next s

-- by the next item
opened : (c : Collecting) (vs : List Value) (s : State) (k : Rest) (next : Option (Value × Objects × loops.Walk)) (q : Plan) → next_of s.objects (plain c.walk) ≡ next → Unfolds (bind (turned c vs next s) (behind_items c vs k)) q → Unfolds (collect_on c vs s k) q
unfolding plan
opened c vs s k next q e u =
    opens (subst (λ (n : Option (Value × Objects × loops.Walk)). Unfolds (bind (turned c vs n s) (behind_items c vs k)) q) (sym e) u)

-- there are no more items
list_made : (l : ℕ) (s : State) (r : Outcome) (c : Collecting) (vs : List Value) (k : Rest) → bind (made l s r) (behind_items c vs k) ≡ list_by l s r (drop c.count vs) k
unfolding bind
list_made l s (Ok m) c vs k = refl
list_made l s (Err e) c vs k = refl

pub no_item : {E X : Type 0} (c : Collecting) (vs : List Value) (s : State) (k : Rest) (h : Objects) (next : Option (Value × Walk)) (r : Result (Option (Value × Walk)) E) (result : Result X Stop) (q : Plan) → next_of s.objects (plain c.walk) ≡ told_next h next → next ≡ None → r ≡ Ok next → (r ≡ Ok None → h ≡ s.objects) → Steps (list_on c vs (with_objects s h) k) result q → Steps (collect_on c vs s k) result q
no_item c vs s k h next r result q e n w u g =
    let heap : h ≡ s.objects = u (w ∙ ap (λ x. Ok x) n) in
    let none : Option (Value × Objects × loops.Walk) = None in
    steps_by (list_on c vs s k) (collect_on c vs s k) q result
    (λ q' v. opened c vs s k none q' (e ∙ ap (told_next h) n) (subst (λ p. Unfolds p q') (sym (list_made c.comprehension.line s (new_list s.objects s.units (taken c.count vs)) c vs k)) v))
    (subst (λ (o : Objects). Steps (list_on c vs (with_objects s o) k) result q) heap g)

abbrev with_rest : Collecting → Walk → Collecting
with_rest c rest = record c { walk = rest }

-- an item more, behind those so far
taken_more : (n : ℕ) (vs : List Value) (x : Value) → taken n vs ++ x ∷ [] ≡ taken (n + 1) (x ∷ vs)
taken_more n vs x = sym (ap (λ (i : ℕ). taken i (x ∷ vs)) (add-one n) ∙ reverse-append (x ∷ []) (take n vs))

dropped_more : (n : ℕ) (vs : List Value) (x : Value) → drop n vs ≡ drop (n + 1) (x ∷ vs)
dropped_more n vs x = sym (ap (λ (i : ℕ). drop i (x ∷ vs)) (add-one n))

item_more : (c : Collecting) (rest : Walk) (vs : List Value) (k : Rest) (x : Value) (s : State) → bind (goes (collect c.comprehension.line (plain rest) (taken c.count vs ++ x ∷ []) (item_tree c.comprehension) (names_tree c.comprehension) (tests_tree c.comprehension)) s) (behind_items c vs k) ≡ collect_on (with_item (with_rest c rest)) (x ∷ vs) s k
unfolding bind
item_more c rest vs k x s =
    let going : List Value → List Value → Plan = λ xs ws. first (collect c.comprehension.line (plain rest) xs (item_tree c.comprehension) (names_tree c.comprehension) (tests_tree c.comprehension)) s (on_value (λ y s1. k (y ∷ ws) (goes_on (outside_again s1)))) in
    ap (λ (xs : List Value). going xs (drop c.count vs)) (taken_more c.count vs x) ∙ ap (λ (ws : List Value). going (taken (c.count + 1) (x ∷ vs)) ws) (dropped_more c.count vs x)

abbrev kept_by : Collecting → Walk → List Value → Bool → State → Plan
kept_by c rest vs b s = kept c.comprehension.line (plain rest) (taken c.count vs) (item_tree c.comprehension) (names_tree c.comprehension) (tests_tree c.comprehension) b s

kept_goes : (c : Collecting) (rest : Walk) (vs : List Value) (k : Rest) (b : Bool) (s : State) → Unfolds (bind (kept_by c rest vs b s) (behind_items c vs k)) (by_tests (with_rest c rest) vs k b s)
unfolding bind
kept_goes c rest vs k true s =
    later (value_unfolds (λ x s1. goes (collect c.comprehension.line (plain rest) (taken c.count vs ++ x ∷ []) (item_tree c.comprehension) (names_tree c.comprehension) (tests_tree c.comprehension)) s1) (λ x s1. collect_on (with_item (with_rest c rest)) (x ∷ vs) s1 k) (behind_items c vs k) (λ s1. refl)
    (λ x s1. same (item_more c rest vs k x s1)))
kept_goes c rest vs k false s = same refl

abbrev tested_turn : Collecting → Walk → List Value → List (List ℕ) → State → List Value × Objects → Plan
tested_turn c rest vs names s m =
    first (tests c.comprehension.line (tests_tree c.comprehension)) (with_inners (with_objects s m.1) names m.0) (on_value (λ b s1. kept_by c rest vs (truth_of s1.objects b) s1))

abbrev paid_turn : Collecting → Walk → List Value → Value → Objects → List (List ℕ) → State → Plan
paid_turn c rest vs item h names s = checked c.comprehension.line s (shared h names item) (tested_turn c rest vs names s)

-- there is an item more
item_opens : (c : Collecting) (rest : Walk) (item : Value) (vs : List Value) (s : State) (k : Rest) (h : Objects) (next : Option (Value × Walk)) (q : Plan) → next_of s.objects (plain c.walk) ≡ told_next h next → next ≡ Some (item, rest) → Unfolds (bind (paid c.comprehension.line s (paid_turn c rest vs item h c.comprehension.names.now)) (behind_items c vs k)) q → Unfolds (collect_on c vs s k) q
item_opens c rest item vs s k h next q e n u =
    let told : Option (Value × Objects × loops.Walk) = told_next h (Some (item, rest)) in
    opened c vs s k told q (e ∙ ap (told_next h) n)
    (subst (λ (names : List (List ℕ)). Unfolds (bind (paid c.comprehension.line s (paid_turn c rest vs item h names)) (behind_items c vs k)) q) (sym (names_of_words c.comprehension.names.now)) u)

pub item_unpaid : (X : Type 0) (c : Collecting) (rest : Walk) (item : Value) (vs : List Value) (s : State) (k : Rest) (h : Objects) (next : Option (Value × Walk)) (x : Stop) (q : Plan) → next_of s.objects (plain c.walk) ≡ told_next h next → next ≡ Some (item, rest) → NoUnit s.units s.frame.script c.comprehension.line x → Steps {X = X} (collect_on c vs s k) (Err x) q
item_unpaid X c rest item vs s k h next x q e n w =
    let l = c.comprehension.line in
    let then = paid_turn c rest vs item h c.comprehension.names.now in
    steps_by {X = X} (bind (paid l s then) (behind_items c vs k)) (collect_on c vs s k) q (Err x) (λ q' u. item_opens c rest item vs s k h next q' e n u)
    (unpaid X l s then (behind_items c vs k) x q w)

-- what an item goes to isn't what it is
item_stops : (X : Type 0) (c : Collecting) (rest : Walk) (item : Value) (vs : List Value) (s : State) (k : Rest) (h : Objects) (next : Option (Value × Walk)) (u : Units) (e : ValueFault) (q : Plan) → next_of s.objects (plain c.walk) ≡ told_next h next → next ≡ Some (item, rest) → charged s.units 1 ≡ Ok u → (e ≢ fault.Memory → shared h c.comprehension.names.now item ≡ Err e) → Steps {X = X} (collect_on c vs s k) (Err (value_stop s.frame.script c.comprehension.line e)) q
item_stops X c rest item vs s k h next u e q a n b g =
    let l = c.comprehension.line in
    let names = c.comprehension.names.now in
    let s1 = with_units s u in
    let then = paid_turn c rest vs item h names in
    steps_by {X = X} (bind (then s1) (behind_items c vs k)) (collect_on c vs s k) q (Err (value_stop s.frame.script l e))
    (λ q' v. item_opens c rest item vs s k h next q' a n (paid_goes l s then (behind_items c vs k) u q' b v))
    (checked_stops X l s1 (shared h names item) (tested_turn c rest vs names s1) (behind_items c vs k) e q g)

pub item_stops_at : (X : Type 0) (c : Collecting) (rest : Walk) (item : Value) (vs : List Value) (m m1 : Machine) (f : Frame) (k : Rest) (h : Objects) (next : Option (Value × Walk)) (e : ValueFault) (stop : Stop) (q : Plan) → next_of m.heap (plain c.walk) ≡ told_next h next → next ≡ Some (item, rest) → charged m.budget 1 ≡ Ok m1.budget → store_of m1 ≡ record (store_of m) { objects = h; units = m1.budget } → (e ≢ fault.Memory → shared m1.heap c.comprehension.names.now item ≡ Err e) → stop ≡ value_stop f.script c.comprehension.line e → Steps {X = X} (collect_on c vs (state_of m f) k) (Err stop) q
item_stops_at X c rest item vs m m1 f k h next e stop q a n p b g i =
    let heap : h ≡ m1.heap = sym (ap (λ (x : Store). x.objects) b) in
    subst (λ y. Steps {X = X} (collect_on c vs (state_of m f) k) (Err y) q) (sym i)
    (item_stops X c rest item vs (state_of m f) k h next m1.budget e q a n p (λ v. ap (λ o. shared o c.comprehension.names.now item) heap ∙ g v))

-- the tests of a further turn
item_goes : (c : Collecting) (rest : Walk) (item : Value) (ts : List Task) (vs : List Value) (s : State) (h h2 : Objects) (next : Option (Value × Walk)) (u : Units) (items : List Value) → next_of s.objects (plain c.walk) ≡ told_next h next → next ≡ Some (item, rest) → charged s.units 1 ≡ Ok u → shared h c.comprehension.names.now item ≡ Ok (items, h2) →
    Unfolds (collect_on c vs s (left ts)) (left (task.Tests (with_rest c rest) c.comprehension.tests ∷ ts) vs (goes_on (with_inners (with_objects (with_units s u) h2) c.comprehension.names.now items)))
unfolding bind
item_goes c rest item ts vs s h h2 next u items a n b g =
    let l = c.comprehension.line in
    let k = left ts in
    let names = c.comprehension.names.now in
    let s1 = with_units s u in
    let q = left (task.Tests (with_rest c rest) c.comprehension.tests ∷ ts) vs (goes_on (with_inners (with_objects s1 h2) names items)) in
    item_opens c rest item vs s k h next q a n
    (paid_goes l s (paid_turn c rest vs item h names) (behind_items c vs k) u q b
    (checked_goes l s1 (shared h names item) (tested_turn c rest vs names s1) (behind_items c vs k) (items, h2) q g
    (later (value_unfolds (λ x s2. kept_by c rest vs (truth_of s2.objects x) s2) (λ x s2. by_tests (with_rest c rest) vs k (truth_of s2.objects x) s2) (behind_items c vs k) (λ s2. refl) (λ x s2. kept_goes c rest vs k (truth_of s2.objects x) s2)))))

pub item_comes : (c : Collecting) (rest : Walk) (item : Value) (d d1 : Desk) (m m1 m2 : Machine) (f f2 : Frame) (h : Objects) (next : Option (Value × Walk)) (items given : List Value) → next_of m.heap (plain c.walk) ≡ told_next h next → next ≡ Some (item, rest) → charged m.budget 1 ≡ Ok m1.budget → store_of m1 ≡ record (store_of m) { objects = h; units = m1.budget } →
    shared m1.heap c.comprehension.names.now item ≡ Ok (items, m2.heap) → store_of m2 ≡ record (store_of m1) { objects = m2.heap } → given ≡ items → ((s : State) → with_frame s f2 ≡ with_inners (with_frame s f) c.comprehension.names.now given) → stacks_of d1 ≡ record { tasks = task.Tests (with_rest c rest) c.comprehension.tests ∷ tasks_of d; values = values_of d } →
    Unfolds (left (task.Collect c ∷ tasks_of d) (values_of d) (goes_on (state_of m f))) (left (tasks_of d1) (values_of d1) (goes_on (state_of m2 f2)))
item_comes c rest item d d1 m m1 m2 f f2 h next items given e n p a g b i w t =
    let names = c.comprehension.names.now in
    let out : state_of m2 f2 ≡ with_inners (with_objects (with_units (state_of m f) m1.budget) m2.heap) names items =
    w (state_of m2 f) ∙ ap (with_inners (state_of m2 f) names) i ∙ ap (λ (s : State). with_inners s names items) (shared_out m m1 m2 f h a b) in
    let heap : h ≡ m1.heap = sym (ap (λ (x : Store). x.objects) a) in
    arrives d1 (goes_on (state_of m2 f2)) t
    (subst (λ (s : State). Unfolds (left (task.Collect c ∷ tasks_of d) (values_of d) (goes_on (state_of m f))) (left (task.Tests (with_rest c rest) c.comprehension.tests ∷ tasks_of d) (values_of d) (goes_on s))) (sym out)
    (item_goes c rest item (tasks_of d) (values_of d) (state_of m f) h m2.heap next m1.budget items e n p (ap (λ o. shared o names item) heap ∙ g)))
