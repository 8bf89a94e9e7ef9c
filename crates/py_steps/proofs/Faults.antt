-- A fault of an operation on values, and a charge, at what is left.
use Rattle.std.proofs.Common.{◌≡◌, ◌≢◌, ◌∙◌, ℕ, Result, Ok, Err, refl, sym, subst, ap}
use Rattle.py_heap.specs.declared.fault.ValueFault.{ValueFault}
use Rattle.py_heap.specs.declared.fault.ValueFault.TheVariants as fault
use Rattle.py_heap.specs.Units.{Units, charged}
use Rattle.py_meaning.specs.States.{State, Out, Frame, returns, with_units}
use Rattle.py_meaning.specs.Plans.{Plan, comes_to, stops, bind, checked, paid, faulty}
use Rattle.py_meaning.specs.declared.fault.EvalKind.TheVariants as kind
use Rattle.py_state.specs.Stops.{value_stop}
use Rattle.py_state.specs.Stores.{Store, store_of, state_of, state_by}
use Rattle.py_state.specs.declared.machine.Machine.{Machine}
use Rattle.py_state.specs.declared.stop.Stop.{Stop}
use Rattle.py_state.specs.declared.stop.Stop.TheVariants as stop
use Rattle.py_steps.specs.Leads.{Unfolds, same, Steps, StepsOrReturns}
use Rattle.py_steps.specs.declared.statements.Flow.{Flow}
use Rattle.py_steps.specs.declared.statements.Flow.TheVariants as flow

-- want of memory says nothing, so no fault has to be the one that was told there
pub fault_stops : (X : Type 0) (l : ℕ) (s : State) (e : ValueFault) (p q : Plan) → (e ≢ fault.Memory → Unfolds p (faulty l (kind.Value e) s)) → Steps {X = X} p (Err (value_stop s.frame.script l e)) q
fault_stops X l s fault.Memory p q u = tt
fault_stops X l s e p q u = (tt, u (λ m. cc))

-- what is checked has this fault
pub checked_stops : (X : Type 0) {Y : Type 0} (l : ℕ) (s : State) (r : Result Y ValueFault) (f : Y → Plan) (k : Out → Plan) (e : ValueFault) (q : Plan) → (e ≢ fault.Memory → r ≡ Err e) → Steps {X = X} (bind (checked l s r f) k) (Err (value_stop s.frame.script l e)) q
unfolding bind
checked_stops X l s r f k e q h = fault_stops X l s e (bind (checked l s r f) k) q (λ m. subst (λ x. Unfolds (bind (checked l s x f) k) (faulty l (kind.Value e) s)) (sym (h m)) (same refl))

pub checked_faults : (X : Type 0) {Y : Type 0} (l : ℕ) (s : State) (r : Result Y ValueFault) (f : Y → Plan) (e : ValueFault) (q : Plan) → (e ≢ fault.Memory → r ≡ Err e) → Steps {X = X} (checked l s r f) (Err (value_stop s.frame.script l e)) q
checked_faults X l s r f e q h = fault_stops X l s e (checked l s r f) q (λ m. subst (λ x. Unfolds (checked l s x f) (faulty l (kind.Value e) s)) (sym (h m)) (same refl))

-- what is checked has this value
pub checked_goes : {Y : Type 0} (l : ℕ) (s : State) (r : Result Y ValueFault) (f : Y → Plan) (k : Out → Plan) (y : Y) (q : Plan) → r ≡ Ok y → Unfolds (bind (f y) k) q → Unfolds (bind (checked l s r f) k) q
checked_goes l s r f k y q e u = subst (λ x. Unfolds (bind (checked l s x f) k) q) (sym e) u

abbrev pub NoUnit : Units → ℕ → ℕ → Stop → Type 0
NoUnit u script l x = (e : ValueFault) × (charged u 1 ≡ Err e) × (x ≡ value_stop script l e)

-- there is no unit left
pub unpaid : (X : Type 0) (l : ℕ) (s : State) (f : State → Plan) (k : Out → Plan) (x : Stop) (q : Plan) → NoUnit s.units s.frame.script l x → Steps {X = X} (bind (paid l s f) k) (Err x) q
unpaid X l s f k x q w =
    subst (λ y. Steps {X = X} (bind (paid l s f) k) (Err y) q) (sym w.2)
    (checked_stops X l s (charged s.units 1) (λ u. f (with_units s u)) k w.0 q (λ m. w.1))

-- there is one
pub paid_goes : (l : ℕ) (s : State) (f : State → Plan) (k : Out → Plan) (u : Units) (q : Plan) → charged s.units 1 ≡ Ok u → Unfolds (bind (f (with_units s u)) k) q → Unfolds (bind (paid l s f) k) q
paid_goes l s f k u q e g = checked_goes l s (charged s.units 1) (λ u. f (with_units s u)) k u q e g

-- a step that leads to what another one led to
pub steps_by : {X : Type 0} (p p' q : Plan) (result : Result X Stop) → ((q' : Plan) → Unfolds p q' → Unfolds p' q') → Steps p result q → Steps p' result q
steps_by p p' q (Ok u) f g = f q g
steps_by p p' q (Err (stop.Fault script line k)) f g = (g.0, f (stops (record { script = script; line = line }) k) g.1)
steps_by p p' q (Err stop.End) f g = absurd g
steps_by p p' q (Err stop.Memory) f g = tt

pub flows_by : (p p' q : Plan) (s : State) (result : Result Flow Stop) → ((q' : Plan) → Unfolds p q' → Unfolds p' q') → StepsOrReturns p result q s → StepsOrReturns p' result q s
flows_by p p' q s (Ok flow.GoesOn) f g = f q g
flows_by p p' q s (Ok (flow.Returns x)) f g = f (comes_to (returns x s)) g
flows_by p p' q s (Err (stop.Fault script line k)) f g = (g.0, f (stops (record { script = script; line = line }) k) g.1)
flows_by p p' q s (Err stop.End) f g = absurd g
flows_by p p' q s (Err stop.Memory) f g = tt

-- a step that stops there stops the body
pub stops_too : (X : Type 0) (p q q' : Plan) (s : State) (x : Stop) → Steps {X = X} p (Err x) q → StepsOrReturns p (Err x) q' s
stops_too X p q q' s (stop.Fault script line k) g = g
stops_too X p q q' s stop.End g = absurd g
stops_too X p q q' s stop.Memory g = tt

-- a stop that is handed on
pub hands_on : (X Y : Type 0) (p q q' : Plan) (r : Result X Stop) (y x : Stop) → r ≡ Err y → y ≡ x → Steps {X = Y} p (Err x) q' → Steps p r q
hands_on X Y p q q' r y (stop.Fault script line k) e f g = subst (λ z. Steps {X = X} p z q) (sym (e ∙ ap (λ z. Err z) f)) g
hands_on X Y p q q' r y stop.End e f g = absurd g
hands_on X Y p q q' r y stop.Memory e f g = subst (λ z. Steps {X = X} p z q) (sym (e ∙ ap (λ z. Err z) f)) tt

-- the state once a unit is paid
pub after_pay : (m m' : Machine) (f : Frame) → store_of m' ≡ record (store_of m) { units = m'.budget } → state_of m' f ≡ with_units (state_of m f) m'.budget
after_pay m m' f e = ap (λ (x : Store). state_by x f) e

pub flows_on : (p q : Plan) (s : State) (r : Result Flow Stop) (y x : Stop) → r ≡ Err y → y ≡ x → StepsOrReturns p (Err x) q s → StepsOrReturns p r q s
flows_on p q s r y x e f g = subst (λ (z : Result Flow Stop). StepsOrReturns p z q s) (sym (e ∙ ap (λ z. Err z) f)) g
