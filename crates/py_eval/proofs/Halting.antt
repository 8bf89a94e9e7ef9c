-- A stop that is handed on, and what was to be done comes to it.
use Rattle.std.proofs.Common.{◌≡◌, ◌∙◌, ℕ, suc, Result, Ok, Err, sym, subst, ap}
use Rattle.py_heap.specs.declared.value.Value.{Value}
use Rattle.py_host.specs.Meaning.{Meaning}
use Rattle.py_meaning.specs.States.{State, Out, gives, ends, with_frame}
use Rattle.py_host.specs.declared.place.Place.{Place}
use Rattle.py_meaning.specs.Jobs.{Job}
use Rattle.py_meaning.specs.Plans.{Plan, comes_to, first, within_call, goes}
use Rattle.py_meaning.specs.Evaluates.{Follows, plan, done, then, then_stopped, called, called_stopped}
use Rattle.py_state.specs.declared.stop.Stop.{Stop}
use Rattle.py_state.specs.declared.stop.Stop.TheVariants as stop
use Rattle.py_steps.specs.Leads.{LeadsOn, Flows, Stops, told}
use Rattle.py_steps.specs.declared.statements.Flow.{Flow}
use Rattle.py_steps.specs.declared.statements.Flow.TheVariants as flow
use Rattle.py_eval.specs.Bodies.{Halts, GivesOrHalts, FlowsOrHalts}

pub handed : {X : Type 0} (P : Result X Stop → Type 0) (r : Result X Stop) (y z : Stop) → r ≡ Err y → y ≡ z → P (Err z) → P r
handed P r y z e f p = subst P (sym (e ∙ ap (λ w. Err w) f)) p

-- what follows from a job's plan follows from the job
pub whole : {H : Type 0} {m : Meaning H} {c : ℕ} {j : Job} {s : State} {h h2 : H} (r : Result Out _) → Follows m c (plan j s) h r h2 → Follows m c (goes j s) h r h2
whole {h2 = h2} (Ok o) d = then o h2 d done
whole (Err e) d = then_stopped e d

-- behind what leads there, and behind a step
pub halts_after : {H : Type 0} (m : Meaning H) (c : ℕ) (p q : Plan) (h h1 h2 : H) (s : State) (x : Stop) → LeadsOn m c p h q h1 → Halts m c q h1 x s h2 → Halts m c p h x s h2
halts_after m c p q h h1 h2 s (stop.Fault script line k) f d = f (told script line k) h2 d
halts_after m c p q h h1 h2 s stop.End f d = (d.0, f (Ok (ends (with_frame s d.0))) h2 d.1)
halts_after m c p q h h1 h2 s stop.Memory f d = tt

pub halts_by : {H : Type 0} (m : Meaning H) (c : ℕ) (p : Plan) (h h2 : H) (s : State) (x : Stop) → Stops m c p h x h2 → Halts m c p h x s h2
halts_by m c p h h2 s (stop.Fault script line k) d = d
halts_by m c p h h2 s stop.End d = absurd d
halts_by m c p h h2 s stop.Memory d = tt

pub flows_by : {H : Type 0} (m : Meaning H) (c : ℕ) (p q : Plan) (h h2 : H) (s : State) (r : Result Flow Stop) → Flows m c p h r q h2 s → FlowsOrHalts m c p h r q s h2
flows_by m c p q h h2 s (Ok flow.GoesOn) d = d
flows_by m c p q h h2 s (Ok (flow.Returns x)) d = d
flows_by m c p q h h2 s (Err x) d = halts_by m c p h h2 s x d

-- within a job, where the end of the script is the end of the whole
pub halts_first : {H : Type 0} (m : Meaning H) (c : ℕ) (j : Job) (s0 s : State) (k : Out → Plan) (h h2 : H) (x : Stop) → ((s1 : State) → k (ends s1) ≡ comes_to (ends s1)) → Halts m c (plan j s0) h x s h2 → Halts m c (first j s0 k) h x s h2
halts_first m c j s0 s k h h2 (stop.Fault script line i) e d = then_stopped _ d
halts_first m c j s0 s k h h2 stop.End e d =
    let s1 : State = with_frame s d.0 in
    (d.0, then (ends s1) h2 d.1 (subst (λ p. Follows m c p h2 (Ok (ends s1)) h2) (sym (e s1)) done))
halts_first m c j s0 s k h h2 stop.Memory e d = tt

-- within a call
pub gives_called : {H : Type 0} (m : Meaning H) (c : ℕ) (j : Job) (s0 s : State) (place : Place) (h h2 : H) (r : Result Value Stop) → GivesOrHalts m c (plan j s0) h r s h2 → GivesOrHalts m (suc c) (within_call j s0 place comes_to) h r s h2
gives_called m c j s0 s place h h2 (Ok x) d = called (gives x s) h2 d done
gives_called m c j s0 s place h h2 (Err (stop.Fault script line i)) d = called_stopped _ d
gives_called m c j s0 s place h h2 (Err stop.End) d = (d.0, called (ends (with_frame s d.0)) h2 d.1 done)
gives_called m c j s0 s place h h2 (Err stop.Memory) d = tt
