-- A plan with something behind it: what the job of a step comes to by its own plan.
use Rattle.std.proofs.Common.{◌≡◌, ℕ, zero, suc, Option, Result, Ok, Err, refl}
use Rattle.py_heap.specs.declared.value.Value.{Value}
use Rattle.py_heap.specs.Heap.{Objects}
use Rattle.py_host.specs.Calls.{Question, Answer, answers, refuses}
use Rattle.py_host.specs.Meaning.{Meaning}
use Rattle.py_meaning.specs.States.{State, Out, Fault, with_objects}
use Rattle.py_host.specs.declared.place.Place.{Place}
use Rattle.py_meaning.specs.Jobs.{Job}
use Rattle.py_meaning.specs.Plans.{Plan, comes_to, stops, first, within_call, asks_name, prints, asks, bind}
use Rattle.py_meaning.specs.Evaluates.{Follows, plan, done, stopped, then, then_stopped, too_deep, called, called_stopped, named, printed, print_refused, asked, refused}

-- what a plan with something behind it comes to: by what the plan comes to, or the plan's fault
pub data Split {H : Type 0} (m : Meaning H) : ℕ → Plan → (Out → Plan) → H → Result Out Fault → H → Type 0 where
  went : {c : ℕ} {p : Plan} {k : Out → Plan} {h h2 : H} {r : Result Out Fault} (o : Out) (h1 : H) → Follows m c p h (Ok o) h1 → Follows m c (k o) h1 r h2 → Split m c p k h r h2
  broke : {c : ℕ} {p : Plan} {k : Out → Plan} {h h2 : H} (e : Fault) → Follows m c p h (Err e) h2 → Split m c p k h (Err e) h2

-- the same of a plan that a step leads to
carried : {H : Type 0} {m : Meaning H} {c : ℕ} {p p' : Plan} {k : Out → Plan} {h h' h2 : H} {r : Result Out Fault} → ((q : Result Out Fault) (h3 : H) → Follows m c p h q h3 → Follows m c p' h' q h3) → Split m c p k h r h2 → Split m c p' k h' r h2
carried f (went o h1 x y) = went o h1 (f (Ok o) h1 x) y
carried {h2 = h2} f (broke e x) = broke e (f (Err e) h2 x)

pub split : {H : Type 0} {m : Meaning H} {c : ℕ} {k : Out → Plan} {h h2 : H} {r : Result Out Fault} (p : Plan) → Follows m c (bind p k) h r h2 → Split m c p k h r h2
unfolding bind
split {h = h} (comes_to o) d = went o h done d
split (stops place e) (stopped i) = broke _ (stopped i)
split (first j s f) (then o h1 a b) = carried (λ q h3 x. then o h1 a x) (split (f o) b)
split (first j s f) (then_stopped e a) = broke e (then_stopped e a)
split (within_call j s place f) too_deep = broke _ too_deep
split (within_call j s place f) (called o h1 a b) = carried (λ q h3 x. called o h1 a x) (split (f o) b)
split (within_call j s place f) (called_stopped e a) = broke e (called_stopped e a)
split (asks_name n f) (named v h1 a b) = carried (λ q h3 x. named v h1 a x) (split (f v) b)
split (prints text place p) (printed h1 a b) = carried (λ q h3 x. printed h1 a x) (split p b)
split (prints text place p) (print_refused a) = broke _ (print_refused a)
split (asks q s place f) (asked a h1 objects x b) = carried (λ q h3 y. asked a h1 objects x y) (split (f a (with_objects s objects)) b)
split (asks q s place f) (refused objects x) = broke _ (refused objects x)

rejoined : {H : Type 0} {m : Meaning H} {c : ℕ} {j : Job} {s : State} {k : Out → Plan} {h h2 : H} {r : Result Out Fault} → Split m c (plan j s) k h r h2 → Follows m c (first j s k) h r h2
rejoined (went o h1 x y) = then o h1 x y
rejoined (broke e x) = then_stopped e x

-- a job comes to what its plan comes to
pub unfolds : {H : Type 0} {m : Meaning H} {c : ℕ} (j : Job) (s : State) {k : Out → Plan} {h h2 : H} {r : Result Out Fault} → Follows m c (bind (plan j s) k) h r h2 → Follows m c (first j s k) h r h2
unfolds j s d = rejoined (split (plan j s) d)
