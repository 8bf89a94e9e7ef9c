-- What `run` answers is what scripts come to.
use Rattle.std.proofs.Common.{◌≡◌, ℕ, [], Result, Ok, Err, sym, subst, ap}
use Rattle.py_tree.specs.Tree.{Tree}
use Rattle.py_heap.specs.Heap.{Objects}
use Rattle.py_heap.specs.Units.{Units}
use Rattle.py_host.specs.Meaning.{Meaning, IsKept, IsDetermined}
use Rattle.py_meaning.specs.declared.fault.EvalKind.{EvalKind}
use Rattle.py_meaning.specs.declared.fault.EvalKind.TheVariants as kind
use Rattle.py_meaning.specs.declared.fault.EvalFault.TheVariants as fault
use Rattle.py_meaning.specs.States.{State, Out, Fault, exits, script_frame}
use Rattle.py_meaning.specs.Jobs.{first_scripts}
use Rattle.py_meaning.specs.Plans.{Plan}
use Rattle.py_meaning.specs.Evaluates.{Follows, Evaluates, plan, start}
use Rattle.scons_base.specs.declared.limits.TheConstants.{CALL_DEPTH_LIMIT}
use Rattle.py_meaning.proofs.Counting.{CountedFault, counted}
use Rattle.py_meaning.proofs.One.{one, by_same}
use Rattle.py_state.specs.Stores.{Store, store_of, state_by}
use Rattle.py_state.specs.declared.machine.Machine.{Machine}
use Rattle.py_state.specs.declared.stop.Stop.{Stop}
use Rattle.py_state.specs.declared.stop.Stop.TheVariants as stop
use Rattle.py_steps.specs.Leads.{Stops, told}
use Rattle.py_eval.specs.Answers.{Leaves, Gives, IsFound, IsOnly, HasCause, IsStop, fault_by}
use Rattle.py_eval.specs.declared.scripts.Ran.{Ran}

-- before anything has run
pub evaluates : {H : Type 0} (m : Meaning H) (t : Tree) (own : Machine) (o : Objects) (u : Units) (h h2 : H) (r : Result Out Fault) → store_of own ≡ record { objects = o; units = u; globals = []; functions = [] } → Follows m CALL_DEPTH_LIMIT (plan (first_scripts t) (state_by (store_of own) (script_frame 0))) h r h2 → Evaluates m t o u h r h2
evaluates m t own o u h h2 r e d =
    let same : state_by (store_of own) (script_frame 0) ≡ start o u = ap (λ (x : Store). state_by x (script_frame 0)) e in
    subst (λ s. Follows m CALL_DEPTH_LIMIT (plan (first_scripts t) s) h r h2) same d

pub exit_only : {H : Type 0} (m : Meaning H) (t : Tree) (o : Objects) (u : Units) (h h2 : H) (ran : Ran) (s : State) → IsKept m → IsDetermined m → Evaluates m t o u h (Ok (exits ran.exit s)) h2 → Leaves ran s → IsOnly m t o u h (Ok ran) h2
exit_only m t o u h h2 ran s i d e left = λ t1 r k k2 t2 a e2.
    by_same m (Ok (exits ran.exit s) ≡ r) (Gives (Ok ran) r) h h2 k k2 (λ w. (s, sym w, left)) (one i d t1 t2 a e e2)

fault_only : {H : Type 0} (m : Meaning H) (t : Tree) (o : Objects) (u : Units) (h h2 : H) (script line : ℕ) (k : EvalKind) → IsKept m → IsDetermined m → Evaluates m t o u h (told script line k) h2 → IsOnly m t o u h (Err (fault.At script line k)) h2
fault_only m t o u h h2 script line kind i d e = λ t1 r k k2 t2 a e2.
    by_same m (told script line kind ≡ r) (Gives (Err (fault.At script line kind)) r) h h2 k k2 (λ w. sym w) (one i d t1 t2 a e e2)

caused : (k : EvalKind) (script line before now : ℕ) → CountedFault k before now → HasCause (fault.At script line k) before now
caused kind.Host script line before now c = c
caused (kind.Name n) script line before now c = tt
caused (kind.Value e) script line before now c = tt
caused (kind.Args x) script line before now c = tt
caused kind.NotCallable script line before now c = tt
caused kind.Depth script line before now c = tt

fault_cause : {H : Type 0} (m : Meaning H) (t : Tree) (o : Objects) (u : Units) (h h2 : H) (script line : ℕ) (k : EvalKind) → IsKept m → Evaluates m t o u h (told script line k) h2 → HasCause (fault.At script line k) (m.refusals h) (m.refusals h2)
fault_cause m t o u h h2 script line k i d = caused k script line (m.refusals h) (m.refusals h2) (counted i d)

-- what stops all scripts is told as the fault that it is
pub is_stop : {H : Type 0} (m : Meaning H) (c : ℕ) (p : Plan) (h h2 : H) (x : Stop) → Stops m c p h x h2 → IsStop x
is_stop m c p h h2 (stop.Fault script line k) d = tt
is_stop m c p h h2 stop.End d = d
is_stop m c p h h2 stop.Memory d = tt

module _ {H : Type 0} (m : Meaning H) (t : Tree) (own : Machine) (o : Objects) (u : Units) (h h2 : H)
    (begun : store_of own ≡ record { objects = o; units = u; globals = []; functions = [] }) where
  abbrev pub Stopped : Stop → Type 0
  Stopped x = Stops m CALL_DEPTH_LIMIT (plan (first_scripts t) (state_by (store_of own) (script_frame 0))) h x h2

  pub stop_found : (x : Stop) → Stopped x → IsFound m t o u h (Err (fault_by x)) h2
  stop_found (stop.Fault script line k) d = evaluates m t own o u h h2 (told script line k) begun d
  stop_found stop.End d = absurd d
  stop_found stop.Memory d = tt

  pub stop_only : IsKept m → IsDetermined m → (x : Stop) → Stopped x → IsOnly m t o u h (Err (fault_by x)) h2
  stop_only i e (stop.Fault script line k) d = fault_only m t o u h h2 script line k i e (evaluates m t own o u h h2 (told script line k) begun d)
  stop_only i e stop.End d = absurd d
  stop_only i e stop.Memory d = tt

  pub stop_cause : IsKept m → (x : Stop) → Stopped x → HasCause (fault_by x) (m.refusals h) (m.refusals h2)
  stop_cause i (stop.Fault script line k) d = fault_cause m t o u h h2 script line k i (evaluates m t own o u h h2 (told script line k) begun d)
  stop_cause i stop.End d = absurd d
  stop_cause i stop.Memory d = tt
