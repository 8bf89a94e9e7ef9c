-- A question to the host, and a script that is paid for: how it goes on.
use Rattle.std.proofs.Common.{◌≡◌, ◌∙◌, ℕ, Result, Ok, Err, length, refl, sym, subst, ap}
use Rattle.std.specs.Prelude.{OnOk, IfErr}
use Rattle.py_heap.specs.Heap.{Objects}
use Rattle.py_heap.specs.Units.{Units, charged}
use Rattle.py_heap.specs.declared.fault.ValueFault.{ValueFault}
use Rattle.py_heap.specs.declared.fault.ValueFault.TheVariants as fault
use Rattle.py_host.specs.declared.refusal.HostRefusal.{HostRefusal}
use Rattle.py_host.specs.declared.refusal.HostRefusal.TheVariants as refusal
use Rattle.py_host.specs.Calls.{Question, Answer, answers, refuses}
use Rattle.py_host.specs.Meaning.{Meaning}
use Rattle.py_meaning.specs.States.{State, Frame, with_objects, with_units}
use Rattle.py_host.specs.declared.place.Place.{Place}
use Rattle.py_meaning.specs.Plans.{Plan, asks}
use Rattle.py_meaning.specs.Calls.{paid_script}
use Rattle.py_meaning.specs.Evaluates.{Follows, asked, refused}
use Rattle.py_state.specs.Stops.{refusal_stop, value_stop}
use Rattle.py_state.specs.Stores.{Store, store_of, state_of, state_by}
use Rattle.py_state.specs.declared.machine.Machine.{Machine}
use Rattle.py_state.specs.declared.stop.Stop.{Stop}
use Rattle.py_steps.specs.Leads.{Unfolds, same, Steps, LeadsOn, Stops}

-- the state with another heap
pub with_heap : (m m' : Machine) (f : Frame) → store_of m' ≡ record (store_of m) { objects = m'.heap } → state_of m' f ≡ with_objects (state_of m f) m'.heap
with_heap m m' f e = ap (λ (x : Store). state_by x f) e

-- it goes on with the answer
pub answered : {H : Type 0} (m : Meaning H) (c : ℕ) (q : Question) (s s1 : State) (place : Place) (k : Answer q → State → Plan) (a : Answer q) (h h1 : H) (objects : Objects) → m.replies q h s.objects (answers a) h1 objects → s1 ≡ with_objects s objects → LeadsOn m c (asks q s place k) h (k a s1) h1
answered m c q s s1 place k a h h1 objects x e = λ r h3 d. asked a h1 objects x (subst (λ y. Follows m c (k a y) h1 r h3) e d)

-- a refusal is told at the place of the question
refusal_stops : {H : Type 0} (m : Meaning H) (c : ℕ) (q : Question) (s : State) (place : Place) (k : Answer q → State → Plan) (e : HostRefusal) (h h1 : H) (objects : Objects) → (e ≡ refusal.Host → m.replies q h s.objects refuses h1 objects) → Stops m c (asks q s place k) h (refusal_stop place.script place.line e) h1
refusal_stops m c q s place k refusal.Host h h1 objects x = refused objects (x refl)
refusal_stops m c q s place k refusal.Memory h h1 objects x = tt

pub not_answered : {H : Type 0} (m : Meaning H) (c : ℕ) (q : Question) (s : State) (place : Place) (k : Answer q → State → Plan) (e : HostRefusal) (x : Stop) (h h1 : H) (objects : Objects) → (e ≡ refusal.Host → m.replies q h s.objects refuses h1 objects) → x ≡ refusal_stop place.script place.line e → Stops m c (asks q s place k) h x h1
not_answered m c q s place k e x h h1 objects f p =
    subst (λ y. Stops m c (asks q s place k) h y h1) (sym p) (refusal_stops m c q s place k e h h1 objects f)

-- a unit for a script is there, or it stops on the first line of that script
script_paid : (s s1 : State) (k : State → Plan) (u : Units) → charged s.units 1 ≡ Ok u → s1 ≡ with_units s u → Unfolds (paid_script s k) (k s1)
script_paid s s1 k u e f = same (rw e (ap k (sym f)))

unpaid_stops : (X : Type 0) (s : State) (k : State → Plan) (e : ValueFault) (q : Plan) → charged s.units 1 ≡ Err e → Steps {X = X} (paid_script s k) (Err (value_stop (length s.globals) 1 e)) q
unpaid_stops X s k fault.Memory q p = tt
unpaid_stops X s k e q p = (tt, same (rw p refl))

script_unpaid : (X : Type 0) (s : State) (k : State → Plan) (x : Stop) (n : ℕ) (q : Plan) → (e : ValueFault) × (charged s.units 1 ≡ Err e) × (x ≡ value_stop n 1 e) → n ≡ length s.globals → Steps {X = X} (paid_script s k) (Err x) q
script_unpaid X s k x n q w f =
    subst (λ y. Steps {X = X} (paid_script s k) (Err y) q) (sym (w.2 ∙ ap (λ i. value_stop i 1 w.0) f)) (unpaid_stops X s k w.0 q w.1)

pub script_payment : (s s1 : State) (k : State → Plan) (u : Units) (n : ℕ) (r : Result (Unit {0}) Stop) → OnOk r (charged s.units 1 ≡ Ok u) → IfErr r (λ x. (e : ValueFault) × (charged s.units 1 ≡ Err e) × (x ≡ value_stop n 1 e)) → s1 ≡ with_units s u → n ≡ length s.globals → Steps (paid_script s k) r (k s1)
script_payment s s1 k u n (Ok t) e w f g = script_paid s s1 k u e f
script_payment s s1 k u n (Err x) e w f g = script_unpaid (Unit {0}) s k x n (k s1) w g
