-- The turns of a `for`.
use Rattle.std.proofs.Common.{◌≡◌, ◌≢◌, ◌∙◌, ℕ, List, [], ◌∷◌, Option, Some, None, Result, Ok, Err, map, refl, sym, subst, ap}
use Rattle.py_tree.specs.Tree.{Tree, trees, words, line_tree}
use Rattle.py_heap.specs.declared.value.Value.{Value}
use Rattle.py_heap.specs.declared.fault.ValueFault.{ValueFault}
use Rattle.py_heap.specs.declared.fault.ValueFault.TheVariants as fault
use Rattle.py_heap.specs.Heap.{Objects}
use Rattle.py_heap.specs.Units.{Units, charged}
use Rattle.py_meaning.specs.States.{State, Frame, Out, gives, all_give, goes_on, breaks, continues, returns, ends, exits, with_objects, with_units}
use Rattle.py_meaning.specs.Jobs.{exec_all, turns}
use Rattle.py_meaning.specs.Plans.{Plan, first, goes, bind, checked, paid}
use Rattle.py_meaning.specs.Evaluates.{plan}
use Rattle.py_meaning.specs.Loops as loops
use Rattle.py_meaning.specs.Loops.{walk_of, next_of, names_of, shared}
use Rattle.py_meaning.specs.Statements.{after_turn, turned, with_all_bound}
use Rattle.py_state.specs.Stops.{value_stop}
use Rattle.py_state.specs.Stores.{Store, store_of, state_of, state_by}
use Rattle.py_state.specs.Walks.{plain, told_next}
use Rattle.py_state.specs.declared.machine.Machine.{Machine}
use Rattle.py_state.specs.declared.stop.Stop.{Stop}
use Rattle.py_state.specs.declared.walk.Walk.{Walk}
use Rattle.py_steps.specs.Desks.{Stacks, stacks_of, tasks_of, values_of, top, below}
use Rattle.py_steps.specs.Leads.{Unfolds, same, opens, later, Steps}
use Rattle.py_steps.specs.Todos.{left}
use Rattle.py_steps.specs.declared.desk.Desk.{Desk}
use Rattle.py_steps.specs.declared.task.Loop.{Loop}
use Rattle.py_steps.specs.declared.task.Task.{Task}
use Rattle.py_steps.specs.declared.task.Task.TheVariants as task
use Rattle.py_steps.proofs.Faults.{checked_stops, checked_faults, checked_goes, paid_goes, unpaid, NoUnit, steps_by}
use Rattle.py_steps.proofs.Rests.{arrives}

pub names_of_words : (ns : List (List ℕ)) → names_of (words ns) ≡ ns
names_of_words [] = refl
names_of_words (n ∷ ns) = ap (λ ms. n ∷ ms) (names_of_words ns)

abbrev block_of : Loop → Tree
block_of t = trees (map line_tree t.block.now)

-- what is left behind a turn: the next ones
behind_turn : (t : Loop) (walk : Walk) (ts : List Task) (vs : List Value) (o : Out) → bind (after_turn (λ s. goes (turns t.line (plain walk) (words t.names.now) (block_of t)) s) o) (left ts vs) ≡ left (task.Turns t walk ∷ ts) vs o
unfolding bind
behind_turn t walk ts vs (gives x s) = refl
behind_turn t walk ts vs (all_give xs s) = refl
behind_turn t walk ts vs (goes_on s) = refl
behind_turn t walk ts vs (breaks s) = refl
behind_turn t walk ts vs (continues s) = refl
behind_turn t walk ts vs (returns x s) = refl
behind_turn t walk ts vs (ends s) = refl
behind_turn t walk ts vs (exits e s) = refl

abbrev turns_left : Loop → loops.Walk → List Task → List Value → State → Plan
turns_left t walk ts vs s = first (turns t.line walk (words t.names.now) (block_of t)) s (left ts vs)

-- by the next item
opened : (t : Loop) (walk : loops.Walk) (ts : List Task) (vs : List Value) (s : State) (next : Option (Value × Objects × loops.Walk)) (q : Plan) → next_of s.objects walk ≡ next → Unfolds (bind (turned t.line (words t.names.now) (block_of t) next s) (left ts vs)) q → Unfolds (turns_left t walk ts vs s) q
unfolding plan
opened t walk ts vs s next q e u =
    opens (subst (λ (n : Option (Value × Objects × loops.Walk)). Unfolds (bind (turned t.line (words t.names.now) (block_of t) n s) (left ts vs)) q) (sym e) u)

-- nothing is left to go over
pub no_turn : (t : Loop) (walk : Walk) (ts : List Task) (vs : List Value) (s : State) (h : Objects) (next : Option (Value × Walk)) → next_of s.objects (plain walk) ≡ told_next h next → next ≡ None → Unfolds (turns_left t (plain walk) ts vs s) (left ts vs (goes_on s))
unfolding bind
no_turn t walk ts vs s h next e n = opened t (plain walk) ts vs s None (left ts vs (goes_on s)) (e ∙ ap (told_next h) n) (same refl)

-- there is no unit for a further turn
pub turn_unpaid : (X : Type 0) (t : Loop) (walk rest : Walk) (item : Value) (ts : List Task) (vs : List Value) (s : State) (h : Objects) (next : Option (Value × Walk)) (x : Stop) (q : Plan) → next_of s.objects (plain walk) ≡ told_next h next → next ≡ Some (item, rest) → NoUnit s.units s.frame.script t.line x → Steps {X = X} (turns_left t (plain walk) ts vs s) (Err x) q
turn_unpaid X t walk rest item ts vs s h next x q e n w =
    let told : Option (Value × Objects × loops.Walk) = told_next h (Some (item, rest)) in
    let p = bind (turned t.line (words t.names.now) (block_of t) told s) (left ts vs) in
    steps_by {X = X} p (turns_left t (plain walk) ts vs s) q (Err x) (λ q' u. opened t (plain walk) ts vs s told q' (e ∙ ap (told_next h) n) u)
    (unpaid X t.line s (λ s1. checked t.line s1 (shared h (names_of (words t.names.now)) item) (λ m.
    first (exec_all (block_of t)) (with_all_bound (with_objects s1 m.1) (names_of (words t.names.now)) m.0) (after_turn (λ s2. goes (turns t.line (plain rest) (words t.names.now) (block_of t)) s2)))) (left ts vs) x q w)

-- what an item goes to isn't what it is
pub turn_stops : (X : Type 0) (t : Loop) (walk rest : Walk) (item : Value) (ts : List Task) (vs : List Value) (s : State) (h : Objects) (next : Option (Value × Walk)) (u : Units) (e : ValueFault) (q : Plan) → next_of s.objects (plain walk) ≡ told_next h next → next ≡ Some (item, rest) → charged s.units 1 ≡ Ok u → (e ≢ fault.Memory → shared h t.names.now item ≡ Err e) → Steps {X = X} (turns_left t (plain walk) ts vs s) (Err (value_stop s.frame.script t.line e)) q
turn_stops X t walk rest item ts vs s h next u e q a n b g =
    let told : Option (Value × Objects × loops.Walk) = told_next h (Some (item, rest)) in
    let names = names_of (words t.names.now) in
    let then : State → List Value × Objects → Plan = λ s1 m. first (exec_all (block_of t)) (with_all_bound (with_objects s1 m.1) names m.0) (after_turn (λ s2. goes (turns t.line (plain rest) (words t.names.now) (block_of t)) s2)) in
    let s1 = with_units s u in
    let p = bind (checked t.line s1 (shared h names item) (then s1)) (left ts vs) in
    steps_by {X = X} p (turns_left t (plain walk) ts vs s) q (Err (value_stop s.frame.script t.line e))
    (λ q' v. opened t (plain walk) ts vs s told q' (a ∙ ap (told_next h) n) (paid_goes t.line s (λ s2. checked t.line s2 (shared h names item) (then s2)) (left ts vs) u q' b v))
    (checked_stops X t.line s1 (shared h names item) (then s1) (left ts vs) e q (λ m. ap (λ ns. shared h ns item) (names_of_words t.names.now) ∙ g m))

-- a further turn
pub turn_goes : (t : Loop) (walk rest : Walk) (item : Value) (ts : List Task) (vs : List Value) (s : State) (h h2 : Objects) (next : Option (Value × Walk)) (u : Units) (items : List Value) → next_of s.objects (plain walk) ≡ told_next h next → next ≡ Some (item, rest) → charged s.units 1 ≡ Ok u → shared h t.names.now item ≡ Ok (items, h2) →
    Unfolds (turns_left t (plain walk) ts vs s) (left (task.Lines t.block ∷ task.Turns t rest ∷ ts) vs (goes_on (with_all_bound (with_objects (with_units s u) h2) t.names.now items)))
unfolding bind
turn_goes t walk rest item ts vs s h h2 next u items a n b g =
    let told : Option (Value × Objects × loops.Walk) = told_next h (Some (item, rest)) in
    let then : List (List ℕ) → State → List Value × Objects → Plan = λ ns s1 m. first (exec_all (block_of t)) (with_all_bound (with_objects s1 m.1) ns m.0) (after_turn (λ s2. goes (turns t.line (plain rest) (words t.names.now) (block_of t)) s2)) in
    let q = left (task.Lines t.block ∷ task.Turns t rest ∷ ts) vs (goes_on (with_all_bound (with_objects (with_units s u) h2) t.names.now items)) in
    opened t (plain walk) ts vs s told q (a ∙ ap (told_next h) n)
    (subst (λ (ns : List (List ℕ)). Unfolds (bind (paid t.line s (λ s1. checked t.line s1 (shared h ns item) (then ns s1))) (left ts vs)) q) (sym (names_of_words t.names.now))
    (paid_goes t.line s (λ s1. checked t.line s1 (shared h t.names.now item) (then t.names.now s1)) (left ts vs) u q b
    (checked_goes t.line (with_units s u) (shared h t.names.now item) (then t.names.now (with_units s u)) (left ts vs) (items, h2) q g
    (later (λ o. same (behind_turn t rest ts vs o))))))

-- the state once an item has gone to its names
pub shared_out : (m m1 m2 : Machine) (f : Frame) (h : Objects) → store_of m1 ≡ record (store_of m) { objects = h; units = m1.budget } → store_of m2 ≡ record (store_of m1) { objects = m2.heap } → state_of m2 f ≡ with_objects (with_units (state_of m f) m1.budget) m2.heap
shared_out m m1 m2 f h a b = ap (λ (x : Store). state_by x f) (b ∙ ap (λ (x : Store). record x { objects = m2.heap }) a)

-- two tasks on top of the others
pub two_on : (d d1 d2 : Desk) (t1 t2 : Task) → stacks_of d1 ≡ record { tasks = t1 ∷ tasks_of d; values = values_of d } → stacks_of d2 ≡ record { tasks = t2 ∷ tasks_of d1; values = values_of d1 } → stacks_of d2 ≡ record { tasks = t2 ∷ t1 ∷ tasks_of d; values = values_of d }
two_on d d1 d2 t1 t2 a b = subst (λ (k : Stacks). stacks_of d2 ≡ record { tasks = t2 ∷ k.tasks; values = k.values }) a b

-- a task on top of the others in the place of a value
pub one_for : (d d1 d2 : Desk) (t : Task) → stacks_of d1 ≡ record { tasks = tasks_of d; values = below (values_of d) } → stacks_of d2 ≡ record { tasks = t ∷ tasks_of d1; values = values_of d1 } → stacks_of d2 ≡ record { tasks = t ∷ tasks_of d; values = below (values_of d) }
one_for d d1 d2 t a b = subst (λ (k : Stacks). stacks_of d2 ≡ record { tasks = t ∷ k.tasks; values = k.values }) a b

-- a loop begins
pub begins : (t : Loop) (walk : Walk) (x : Value) (d d1 d2 : Desk) (s : State) → x ≡ top (values_of d) → walk_of s.objects x ≡ Ok (plain walk) → stacks_of d1 ≡ record { tasks = tasks_of d; values = below (values_of d) } → stacks_of d2 ≡ record { tasks = task.Turns t walk ∷ tasks_of d1; values = values_of d1 } → Unfolds (left (task.Begin t ∷ tasks_of d) (values_of d) (goes_on s)) (left (tasks_of d2) (values_of d2) (goes_on s))
begins t walk x d d1 d2 s e w a b =
    arrives d2 (goes_on s) (one_for d d1 d2 (task.Turns t walk) a b)
    (subst (λ (r : Result loops.Walk ValueFault). Unfolds (checked t.line s r (λ w. turns_left t w (tasks_of d) (below (values_of d)) s)) (left (task.Turns t walk ∷ tasks_of d) (below (values_of d)) (goes_on s))) (sym (ap (walk_of s.objects) (sym e) ∙ w)) (same refl))

-- what there is can't be gone over
pub begin_stops : (X : Type 0) (t : Loop) (x : Value) (d : Desk) (s : State) (e : ValueFault) (stop : Stop) (q : Plan) → x ≡ top (values_of d) → walk_of s.objects x ≡ Err e → stop ≡ value_stop s.frame.script t.line e → Steps {X = X} (left (task.Begin t ∷ tasks_of d) (values_of d) (goes_on s)) (Err stop) q
begin_stops X t x d s e stop q a b g =
    subst (λ y. Steps {X = X} (left (task.Begin t ∷ tasks_of d) (values_of d) (goes_on s)) (Err y) q) (sym g)
    (checked_faults X t.line s (walk_of s.objects (top (values_of d))) (λ w. turns_left t w (tasks_of d) (below (values_of d)) s) e q (λ m. ap (walk_of s.objects) (sym a) ∙ b))

-- the heap is as it was
pub no_turn_at : {E : Type 0} (t : Loop) (walk : Walk) (ts : List Task) (vs : List Value) (s : State) (h : Objects) (next : Option (Value × Walk)) (r : Result (Option (Value × Walk)) E) → next_of s.objects (plain walk) ≡ told_next h next → next ≡ None → r ≡ Ok next → (r ≡ Ok None → h ≡ s.objects) → Unfolds (turns_left t (plain walk) ts vs s) (left ts vs (goes_on (with_objects s h)))
no_turn_at t walk ts vs s h next r e n w u =
    subst (λ (o : Objects). Unfolds (turns_left t (plain walk) ts vs s) (left ts vs (goes_on (with_objects s o)))) (sym (u (w ∙ ap (λ x. Ok x) n))) (no_turn t walk ts vs s h next e n)

-- a further turn, at the desk
pub turn_at : (t : Loop) (walk rest : Walk) (item : Value) (d d1 d2 : Desk) (m m1 m2 m3 : Machine) (f f3 : Frame) (h : Objects) (next : Option (Value × Walk)) (items given : List Value) → next_of m.heap (plain walk) ≡ told_next h next → next ≡ Some (item, rest) → charged m.budget 1 ≡ Ok m1.budget → store_of m1 ≡ record (store_of m) { objects = h; units = m1.budget } →
    stacks_of d1 ≡ record { tasks = task.Turns t rest ∷ tasks_of d; values = values_of d } → shared m1.heap t.names.now item ≡ Ok (items, m2.heap) → store_of m2 ≡ record (store_of m1) { objects = m2.heap } → given ≡ items → state_of m3 f3 ≡ with_all_bound (state_of m2 f) t.names.now given → stacks_of d2 ≡ record { tasks = task.Lines t.block ∷ tasks_of d1; values = values_of d1 } →
    Unfolds (turns_left t (plain walk) (tasks_of d) (values_of d) (state_of m f)) (left (tasks_of d2) (values_of d2) (goes_on (state_of m3 f3)))
turn_at t walk rest item d d1 d2 m m1 m2 m3 f f3 h next items given e n p a k g b i w l =
    let names = t.names.now in
    let out : state_of m3 f3 ≡ with_all_bound (with_objects (with_units (state_of m f) m1.budget) m2.heap) names items =
    w ∙ ap (with_all_bound (state_of m2 f) names) i ∙ ap (λ s. with_all_bound s names items) (shared_out m m1 m2 f h a b) in
    let heap : h ≡ m1.heap = sym (ap (λ (x : Store). x.objects) a) in
    arrives d2 (goes_on (state_of m3 f3)) (two_on d d1 d2 (task.Turns t rest) (task.Lines t.block) k l)
    (subst (λ (s : State). Unfolds (turns_left t (plain walk) (tasks_of d) (values_of d) (state_of m f)) (left (task.Lines t.block ∷ task.Turns t rest ∷ tasks_of d) (values_of d) (goes_on s))) (sym out)
    (turn_goes t walk rest item (tasks_of d) (values_of d) (state_of m f) h m2.heap next m1.budget items e n p (ap (λ o. shared o names item) heap ∙ g)))

pub turn_stops_at : (X : Type 0) (t : Loop) (walk rest : Walk) (item : Value) (d : Desk) (m m1 : Machine) (f : Frame) (h : Objects) (next : Option (Value × Walk)) (e : ValueFault) (stop : Stop) (q : Plan) → next_of m.heap (plain walk) ≡ told_next h next → next ≡ Some (item, rest) → charged m.budget 1 ≡ Ok m1.budget → store_of m1 ≡ record (store_of m) { objects = h; units = m1.budget } → (e ≢ fault.Memory → shared m1.heap t.names.now item ≡ Err e) → stop ≡ value_stop f.script t.line e →
    Steps {X = X} (turns_left t (plain walk) (tasks_of d) (values_of d) (state_of m f)) (Err stop) q
turn_stops_at X t walk rest item d m m1 f h next e stop q a n p b g i =
    let heap : h ≡ m1.heap = sym (ap (λ (x : Store). x.objects) b) in
    subst (λ y. Steps {X = X} (turns_left t (plain walk) (tasks_of d) (values_of d) (state_of m f)) (Err y) q) (sym i)
    (turn_stops X t walk rest item (tasks_of d) (values_of d) (state_of m f) h next m1.budget e q a n p (λ v. ap (λ o. shared o t.names.now item) heap ∙ g v))
