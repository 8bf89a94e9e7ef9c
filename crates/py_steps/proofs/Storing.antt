-- An item that is set under a key.
use Rattle.std.proofs.Common.{◌≡◌, ◌≢◌, ◌∙◌, ℕ, List, [], ◌∷◌, drop, Result, Ok, Err, refl, sym, subst, ap}
use Rattle.py_heap.specs.declared.ids.HostId.{HostId}
use Rattle.py_heap.specs.declared.value.Value.{Value}
use Rattle.py_heap.specs.declared.value.Value.TheVariants as v
use Rattle.py_heap.specs.declared.fault.ValueFault.{ValueFault}
use Rattle.py_heap.specs.declared.fault.ValueFault.TheVariants as fault
use Rattle.py_heap.specs.Heap.{Objects}
use Rattle.py_operators.specs.Places.{set_of}
use Rattle.py_host.specs.Calls.{answers, refuses}
use Rattle.py_host.specs.Calls as question
use Rattle.py_host.specs.Meaning.{Meaning}
use Rattle.py_host.specs.declared.place.Place.{Place}
use Rattle.py_host.specs.declared.refusal.HostRefusal.{HostRefusal}
use Rattle.py_host.specs.declared.refusal.HostRefusal.TheVariants as refusal
use Rattle.py_meaning.specs.States.{State, goes_on, place_at, with_objects}
use Rattle.py_meaning.specs.Plans.{Plan, checked}
use Rattle.py_meaning.specs.Evaluates.{asked}
use Rattle.py_meaning.specs.Statements.{after_item_set}
use Rattle.py_state.specs.Stops.{value_stop, refusal_stop}
use Rattle.py_state.specs.declared.stop.Stop.{Stop}
use Rattle.py_steps.specs.Desks.{Stacks, stacks_of, tasks_of, values_of, top, below}
use Rattle.py_steps.specs.Leads.{Unfolds, same, Steps, Leads, LeadsOn, Stops}
use Rattle.py_steps.specs.Todos.{left}
use Rattle.py_steps.specs.declared.desk.Desk.{Desk}
use Rattle.py_steps.specs.declared.task.Task.TheVariants as task
use Rattle.py_steps.proofs.Asking.{NotObject, refusal_stops}
use Rattle.py_steps.proofs.Faults.{checked_faults}

-- what leads on, by equal plans
pub leads_by : {H X : Type 0} (m : Meaning H) (c : ℕ) (p p' q q' : Plan) (h h2 : H) (r : Result X Stop) → p' ≡ p → q' ≡ q → Leads m c p h r q h2 → Leads m c p' h r q' h2
leads_by m c p p' q q' h h2 r e f g = subst (λ x. Leads m c x h r q' h2) (sym e) (subst (λ x. Leads m c p h r x h2) (sym f) g)

-- an item of an object is the host's to set
pub object_sets : {H : Type 0} (m : Meaning H) (c l : ℕ) (id : HostId) (base key x : Value) (s : State) (f : State → Plan) (h h2 : H) (o : Objects) (at : Place) → at ≡ place_at l s → base ≡ v.Object id → m.replies (question.set_item at id.0 key x) h s.objects (answers tt) h2 o → LeadsOn m c (after_item_set l base key x s f) h (f (with_objects s o)) h2
object_sets m c l id base key x s f h h2 o at here e w =
    let set = subst (λ z. m.replies (question.set_item z id.0 key x) h s.objects (answers tt) h2 o) here w in
    subst (λ y. LeadsOn m c (after_item_set l y key x s f) h (f (with_objects s o)) h2) (sym e) (λ r h3 d. asked tt h2 o set d)

pub object_refuses : {H : Type 0} (m : Meaning H) (c l : ℕ) (id : HostId) (base key x : Value) (s : State) (f : State → Plan) (h h2 : H) (o : Objects) (at : Place) (e : HostRefusal) (stop : Stop) → at ≡ place_at l s → base ≡ v.Object id → (e ≡ refusal.Host → m.replies (question.set_item at id.0 key x) h s.objects refuses h2 o) → stop ≡ refusal_stop s.frame.script l e → Stops m c (after_item_set l base key x s f) h stop h2
object_refuses m c l id base key x s f h h2 o at e stop here p w g =
    subst (λ y. Stops m c (after_item_set l y key x s f) h stop h2) (sym p)
    (subst (λ z. Stops m c (after_item_set l (v.Object id) key x s f) h z h2) (sym g) (refusal_stops m c h h2 (question.set_item (place_at l s) id.0 key x) l s (λ u s1. f s1) o e (λ q. subst (λ z. m.replies (question.set_item z id.0 key x) h s.objects refuses h2 o) here (w q))))

-- an item of another value isn't
set_plainly : (l : ℕ) (base key x : Value) (s : State) (f : State → Plan) → NotObject base → after_item_set l base key x s f ≡ checked l s (set_of s.objects base key x) (λ h. f (with_objects s h))
set_plainly l (v.Object id) key x s f h = absurd (h id refl)
set_plainly l base key x s f h = refl

pub plain_sets : (l : ℕ) (base key x : Value) (s : State) (f : State → Plan) (o : Objects) → NotObject base → set_of s.objects base key x ≡ Ok o → Unfolds (after_item_set l base key x s f) (f (with_objects s o))
plain_sets l base key x s f o h e = same (set_plainly l base key x s f h ∙ ap (λ (r : Result Objects ValueFault). checked l s r (λ h. f (with_objects s h))) e)

pub plain_set_stops : (X : Type 0) (l : ℕ) (base key x : Value) (s : State) (f : State → Plan) (e : ValueFault) (stop : Stop) (q : Plan) → NotObject base → (e ≢ fault.Memory → set_of s.objects base key x ≡ Err e) → stop ≡ value_stop s.frame.script l e → Steps {X = X} (after_item_set l base key x s f) (Err stop) q
plain_set_stops X l base key x s f e stop q h w g =
    subst (λ p. Steps {X = X} p (Err stop) q) (sym (set_plainly l base key x s f h))
    (subst (λ z. Steps {X = X} (checked l s (set_of s.objects base key x) (λ o. f (with_objects s o))) (Err z) q) (sym g)
    (checked_faults X l s (set_of s.objects base key x) (λ o. f (with_objects s o)) e q w))

-- the three values that a store takes
below_three : (vs : List Value) → drop 3 vs ≡ below (below (below vs))
below_three [] = refl
below_three (x ∷ []) = refl
below_three (x ∷ y ∷ []) = refl
below_three (x ∷ y ∷ z ∷ vs) = refl

-- where they stand on a desk
pub record ThreeTaken (d d3 : Desk) (x y z : Value) : Type 0 where
  pub first : x ≡ top (values_of d)
  pub second : y ≡ top (below (values_of d))
  pub third : z ≡ top (below (below (values_of d)))
  pub rest : stacks_of d3 ≡ record { tasks = tasks_of d; values = drop 3 (values_of d) }

-- three takes take them
pub three_taken : (d d1 d2 d3 : Desk) (x y z : Value) → x ≡ top (values_of d) → stacks_of d1 ≡ record { tasks = tasks_of d; values = below (values_of d) } → y ≡ top (values_of d1) → stacks_of d2 ≡ record { tasks = tasks_of d1; values = below (values_of d1) } → z ≡ top (values_of d2) → stacks_of d3 ≡ record { tasks = tasks_of d2; values = below (values_of d2) } → ThreeTaken d d3 x y z
three_taken d d1 d2 d3 x y z e a f b g w =
    let two : stacks_of d2 ≡ record { tasks = tasks_of d; values = below (below (values_of d)) } = b ∙ ap (λ (k : Stacks). record { tasks = k.tasks; values = below k.values }) a in
    let three : stacks_of d3 ≡ record { tasks = tasks_of d; values = below (below (below (values_of d))) } = w ∙ ap (λ (k : Stacks). record { tasks = k.tasks; values = below k.values }) two in
    record {
      first = e;
      second = f ∙ ap (λ (k : Stacks). top k.values) a;
      third = g ∙ ap (λ (k : Stacks). top k.values) two;
      rest = three ∙ ap (λ (vs : List Value). record { tasks = tasks_of d; values = vs }) (sym (below_three (values_of d)));
    }

-- what is left once they are taken
stored_on : (d d3 : Desk) (s : State) → stacks_of d3 ≡ record { tasks = tasks_of d; values = drop 3 (values_of d) } → left (tasks_of d3) (values_of d3) (goes_on s) ≡ left (tasks_of d) (drop 3 (values_of d)) (goes_on s)
stored_on d d3 s e = ap (λ (k : Stacks). left k.tasks k.values (goes_on s)) e

-- the value below its place, and above it
pub stores_below : {H X : Type 0} (m : Meaning H) (c l : ℕ) (d d3 : Desk) (key base x : Value) (s s2 : State) (h h2 : H) (r : Result X Stop) → ThreeTaken d d3 key base x → ((f : State → Plan) → Leads m c (after_item_set l base key x s f) h r (f s2) h2) → Leads m c (left (task.StoreBelow l ∷ tasks_of d) (values_of d) (goes_on s)) h r (left (tasks_of d3) (values_of d3) (goes_on s2)) h2
stores_below m c l d d3 key base x s s2 h h2 r t g =
    let f : State → Plan = λ s1. left (tasks_of d) (drop 3 (values_of d)) (goes_on s1) in
    leads_by m c (after_item_set l base key x s f) _ (f s2) _ h h2 r
    (ap (λ k. after_item_set l (top (below (values_of d))) k (top (below (below (values_of d)))) s f) (sym t.first)
    ∙ ap (λ b. after_item_set l b key (top (below (below (values_of d)))) s f) (sym t.second) ∙ ap (λ y. after_item_set l base key y s f) (sym t.third))
    (stored_on d d3 s2 t.rest) (g f)

pub stores_above : {H X : Type 0} (m : Meaning H) (c l : ℕ) (d d3 : Desk) (x key base : Value) (s s2 : State) (h h2 : H) (r : Result X Stop) → ThreeTaken d d3 x key base → ((f : State → Plan) → Leads m c (after_item_set l base key x s f) h r (f s2) h2) → Leads m c (left (task.StoreAbove l ∷ tasks_of d) (values_of d) (goes_on s)) h r (left (tasks_of d3) (values_of d3) (goes_on s2)) h2
stores_above m c l d d3 x key base s s2 h h2 r t g =
    let f : State → Plan = λ s1. left (tasks_of d) (drop 3 (values_of d)) (goes_on s1) in
    leads_by m c (after_item_set l base key x s f) _ (f s2) _ h h2 r
    (ap (λ y. after_item_set l (top (below (below (values_of d)))) (top (below (values_of d))) y s f) (sym t.first)
    ∙ ap (λ k. after_item_set l (top (below (below (values_of d)))) k x s f) (sym t.second) ∙ ap (λ b. after_item_set l b key x s f) (sym t.third))
    (stored_on d d3 s2 t.rest) (g f)
