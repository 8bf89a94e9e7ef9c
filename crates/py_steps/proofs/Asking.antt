-- What an object gives is its host's answer; what another value gives comes of an operation.
use Rattle.std.proofs.Common.{◌≡◌, ◌≢◌, ◌∙◌, ℕ, List, Result, Ok, Err, refl, sym, subst, ap}
use Rattle.py_heap.specs.declared.ids.HostId.{HostId}
use Rattle.py_heap.specs.declared.value.Value.{Value}
use Rattle.py_heap.specs.declared.value.Value.TheVariants as v
use Rattle.py_heap.specs.declared.fault.ValueFault.{ValueFault}
use Rattle.py_heap.specs.declared.fault.ValueFault.TheVariants as fault
use Rattle.py_heap.specs.Heap.{Objects}
use Rattle.py_heap.specs.Units.{Units}
use Rattle.py_host.specs.Calls.{Question, Answer, answers, refuses}
use Rattle.py_host.specs.Calls as question
use Rattle.py_host.specs.Meaning.{Meaning}
use Rattle.py_host.specs.declared.place.Place.{Place}
use Rattle.py_host.specs.declared.refusal.HostRefusal.{HostRefusal}
use Rattle.py_host.specs.declared.refusal.HostRefusal.TheVariants as refusal
use Rattle.py_operators.specs.Indexing.{indexed}
use Rattle.py_meaning.specs.States.{State, place_at, with_objects, after_operation}
use Rattle.py_meaning.specs.Plans.{Plan, checked, asked_on}
use Rattle.py_meaning.specs.Evaluates.{Follows}
use Rattle.py_meaning.specs.Evaluates as follows
use Rattle.py_meaning.specs.Links.{after_item}
use Rattle.py_state.specs.Stops.{value_stop, refusal_stop}
use Rattle.py_state.specs.declared.stop.Stop.{Stop}
use Rattle.py_steps.specs.Leads.{same, LeadsOn, Stops}
use Rattle.py_steps.proofs.Stepping.{stops_value}

-- a refusal of the host stops what was left; want of memory says nothing
pub refusal_stops : {H : Type 0} (m : Meaning H) (c : ℕ) (h h2 : H) (q : Question) (l : ℕ) (s : State) (f : Answer q → State → Plan) (objects : Objects) (e : HostRefusal) → (e ≡ refusal.Host → m.replies q h s.objects refuses h2 objects) → Stops m c (asked_on l q s f) h (refusal_stop s.frame.script l e) h2
refusal_stops m c h h2 q l s f objects refusal.Host a = follows.refused objects (a refl)
refusal_stops m c h h2 q l s f objects refusal.Memory a = tt

-- the item of an object
pub object_gives : {H : Type 0} (m : Meaning H) (c : ℕ) (h h2 : H) (l : ℕ) (base key x : Value) (id : HostId) (s : State) (f : Value → State → Plan) (objects : Objects) (at : Place) → at ≡ place_at l s → base ≡ v.Object id → m.replies (question.item at id.0 key) h s.objects (answers x) h2 objects → LeadsOn m c (after_item l base key s f) h (f x (with_objects s objects)) h2
object_gives m c h h2 l base key x id s f objects at w e a =
    let here = subst (λ p. m.replies (question.item p id.0 key) h s.objects (answers x) h2 objects) w a in
    λ r h3 d. subst (λ (b : Value). Follows m c (after_item l b key s f) h r h3) (sym e) (follows.asked x h2 objects here d)

pub object_refuses : {H : Type 0} (m : Meaning H) (c : ℕ) (h h2 : H) (l : ℕ) (base key : Value) (id : HostId) (s : State) (f : Value → State → Plan) (objects : Objects) (at : Place) (e : HostRefusal) (x : Stop) → at ≡ place_at l s → base ≡ v.Object id → (e ≡ refusal.Host → m.replies (question.item at id.0 key) h s.objects refuses h2 objects) → x ≡ refusal_stop s.frame.script l e → Stops m c (after_item l base key s f) h x h2
object_refuses m c h h2 l base key id s f objects at e x here p a w =
    subst (λ (y : Stop). Stops m c (after_item l base key s f) h y h2) (sym w)
    (subst (λ (b : Value). Stops m c (after_item l b key s f) h (refusal_stop s.frame.script l e) h2) (sym p)
    (refusal_stops m c h h2 (question.item (place_at l s) id.0 key) l s f objects e (λ q. subst (λ z. m.replies (question.item z id.0 key) h s.objects refuses h2 objects) here (a q))))

-- an attribute of one
pub attribute_gives : {H : Type 0} (m : Meaning H) (c : ℕ) (h h2 : H) (l id : ℕ) (n word : List ℕ) (x : Value) (s : State) (f : Value → State → Plan) (objects : Objects) (at : Place) → at ≡ place_at l s → word ≡ n → m.replies (question.attribute at id word) h s.objects (answers x) h2 objects → LeadsOn m c (asked_on l (question.attribute (place_at l s) id n) s f) h (f x (with_objects s objects)) h2
attribute_gives m c h h2 l id n word x s f objects at w e a =
    let here = subst (λ p. m.replies (question.attribute p id word) h s.objects (answers x) h2 objects) w a in
    λ r h3 d. subst (λ (w : List ℕ). Follows m c (asked_on l (question.attribute (place_at l s) id w) s f) h r h3) e (follows.asked x h2 objects here d)

pub attribute_refuses : {H : Type 0} (m : Meaning H) (c : ℕ) (h h2 : H) (l id : ℕ) (n word : List ℕ) (s : State) (f : Value → State → Plan) (objects : Objects) (at : Place) (e : HostRefusal) (x : Stop) → at ≡ place_at l s → word ≡ n → (e ≡ refusal.Host → m.replies (question.attribute at id word) h s.objects refuses h2 objects) → x ≡ refusal_stop s.frame.script l e → Stops m c (asked_on l (question.attribute (place_at l s) id n) s f) h x h2
attribute_refuses m c h h2 l id n word s f objects at e x here p a w =
    subst (λ (y : Stop). Stops m c (asked_on l (question.attribute (place_at l s) id n) s f) h y h2) (sym w)
    (subst (λ (y : List ℕ). Stops m c (asked_on l (question.attribute (place_at l s) id y) s f) h (refusal_stop s.frame.script l e) h2) p
    (refusal_stops m c h h2 (question.attribute (place_at l s) id word) l s f objects e (λ q. subst (λ z. m.replies (question.attribute z id word) h s.objects refuses h2 objects) here (a q))))

abbrev pub NotObject : Value → Type 0
NotObject x = (id : HostId) → x ≡ v.Object id → ⊥

-- the item of another value
item_made : (l : ℕ) (base key : Value) (s : State) (f : Value → State → Plan) → NotObject base → after_item l base key s f ≡ checked l s (indexed s.objects s.units base key) (λ m. f m.0 (after_operation s m))
item_made l (v.Object id) key s f n = absurd (n id refl)
item_made l base key s f n = refl

item_by : (l : ℕ) (base key : Value) (s : State) (f : Value → State → Plan) (r : Result (Value × Objects × Units) ValueFault) → NotObject base → indexed s.objects s.units base key ≡ r → after_item l base key s f ≡ checked l s r (λ m. f m.0 (after_operation s m))
item_by l base key s f r n e = item_made l base key s f n ∙ ap (λ o. checked l s o (λ m. f m.0 (after_operation s m))) e

pub item_gives : {H : Type 0} (m : Meaning H) (c : ℕ) (h : H) (l : ℕ) (base key x : Value) (s : State) (f : Value → State → Plan) (o : Objects) (u : Units) → NotObject base → indexed s.objects s.units base key ≡ Ok (x, o, u) → LeadsOn m c (after_item l base key s f) h (f x (after_operation s (x, o, u))) h
item_gives m c h l base key x s f o u n e =
    λ r h3 d. subst (λ (p : Plan). Follows m c p h r h3) (sym (item_by l base key s f (Ok (x, o, u)) n e)) d

pub item_stops : {H : Type 0} (m : Meaning H) (c : ℕ) (h : H) (l : ℕ) (base key : Value) (s : State) (f : Value → State → Plan) (e : ValueFault) (x : Stop) → NotObject base → (e ≢ fault.Memory → indexed s.objects s.units base key ≡ Err e) → x ≡ value_stop s.frame.script l e → Stops m c (after_item l base key s f) h x h
item_stops m c h l base key s f e x n a w =
    subst (λ (y : Stop). Stops m c (after_item l base key s f) h y h) (sym w)
    (stops_value m c h l s e (λ p. same (item_by l base key s f (Err e) n (a p))))
