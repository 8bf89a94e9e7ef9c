-- What a name comes to, by what was found.
use Rattle.std.proofs.Common.{◌≡◌, ◌≢◌, ℕ, List, ◌∷◌, Some, None, Result, sym, subst}
use Rattle.py_tree.specs.Tree.{Tree, name}
use Rattle.py_heap.specs.declared.value.Value.{Value}
use Rattle.py_host.specs.Meaning.{Meaning}
use Rattle.py_meaning.specs.declared.fault.EvalKind.{EvalKind}
use Rattle.py_meaning.specs.declared.fault.EvalKind.TheVariants as kind
use Rattle.py_meaning.specs.States.{State, Out, Fault, goes_on}
use Rattle.py_meaning.specs.Jobs.{eval}
use Rattle.py_meaning.specs.Plans.{Plan, bind}
use Rattle.py_meaning.specs.Evaluates.{Follows, plan, stopped}
use Rattle.py_meaning.specs.Evaluates as follows
use Rattle.py_meaning.specs.Lookup.{Found, a_value, unset, outside, found_in}
use Rattle.py_meaning.proofs.Binding.{unfolds}
use Rattle.py_state.specs.declared.stop.Stop.{Stop}
use Rattle.py_state.specs.declared.stop.Stop.TheVariants as stop
use Rattle.py_state.specs.Lookups.{IsNamed, IsUnnamed}
use Rattle.py_steps.specs.declared.task.Task.{Task}
use Rattle.py_steps.specs.Todos.{left}
use Rattle.py_steps.specs.Leads.{Stops, told}
use Rattle.py_steps.proofs.Beginnings.{before}

pub named_leads : {H : Type 0} {m : Meaning H} {c : ℕ} {h h2 h3 : H} {r : Result Out Fault} (f : Found) (l : ℕ) (n : List ℕ) (x : Value) (ts : List Task) (vs : List Value) (s : State) → found_in s n ≡ f → IsNamed m f n h x h2 → Follows m c (left ts (x ∷ vs) (goes_on s)) h2 r h3 → Follows m c (before (name l n) ts vs s) h r h3
unfolding plan bind
named_leads (a_value y) l n x ts vs s e i d = unfolds (eval (name l n)) s (rw e (rw (i.0, i.1) at d))
named_leads unset l n x ts vs s e i d = absurd i
named_leads {h2 = h2} outside l n x ts vs s e i d = unfolds (eval (name l n)) s (rw e (follows.named (Some x) h2 i d))

stops_as : {H : Type 0} {m : Meaning H} {c : ℕ} {p : Plan} {h h2 : H} (e : Stop) (script line : ℕ) (k : EvalKind) → (e ≢ stop.Memory → e ≡ stop.Fault script line k) → Follows m c p h (told script line k) h2 → Stops m c p h e h2
stops_as stop.Memory script line k q d = tt
stops_as stop.End script line k q d = let e : stop.End ≡ stop.Fault script line k = q (λ p. cc) in absurd (cc)
stops_as {m = m} {c = c} {p = p} {h = h} {h2 = h2} (stop.Fault a b j) script line k q d =
    let e : stop.Fault a b j ≡ stop.Fault script line k = q (λ p. cc) in
    let x : a ≡ script = cc in
    let y : b ≡ line = cc in
    let z : j ≡ k = cc in
    rw (x, y, z) d

pub unnamed_stops : {H : Type 0} (m : Meaning H) (c : ℕ) (h h2 : H) (f : Found) (l : ℕ) (n : List ℕ) (ts : List Task) (vs : List Value) (s : State) (e : Stop) → found_in s n ≡ f → IsUnnamed m f s.frame.script l n h h2 e → Stops m c (before (name l n) ts vs s) h e h2
unfolding plan bind
unnamed_stops m c h h2 (a_value y) l n ts vs s e p i = absurd i
unnamed_stops m c h h2 unset l n ts vs s e p i = rw i.1 (stops_as e s.frame.script l (kind.Name n) i.0 (unfolds (eval (name l n)) s (rw p (stopped tt))))
unnamed_stops m c h h2 outside l n ts vs s e p i = stops_as e s.frame.script l (kind.Name n) i.0 (unfolds (eval (name l n)) s (rw p (follows.named None h2 i.1 (stopped tt))))

-- by the tree of the expression, and the desk after it
pub named_leads_as : {H : Type 0} {m : Meaning H} {c : ℕ} {h h2 h3 : H} {r : Result Out Fault} {t : Tree} {q : Plan} (f : Found) (l : ℕ) (n : List ℕ) (x : Value) (ts : List Task) (vs : List Value) (s : State) → t ≡ name l n → found_in s n ≡ f → IsNamed m f n h x h2 → q ≡ left ts (x ∷ vs) (goes_on s) → Follows m c q h2 r h3 → Follows m c (before t ts vs s) h r h3
named_leads_as {m = m} {c = c} {h = h} {h2 = h2} {h3 = h3} {r = r} f l n x ts vs s e p i a d =
    subst (λ y. Follows m c (before y ts vs s) h r h3) (sym e) (named_leads f l n x ts vs s p i (subst (λ y. Follows m c y h2 r h3) a d))

pub unnamed_stops_as : {H : Type 0} {t : Tree} (m : Meaning H) (c : ℕ) (h h2 : H) (f : Found) (l : ℕ) (n : List ℕ) (ts : List Task) (vs : List Value) (s : State) (e : Stop) → t ≡ name l n → found_in s n ≡ f → IsUnnamed m f s.frame.script l n h h2 e → Stops m c (before t ts vs s) h e h2
unnamed_stops_as m c h h2 f l n ts vs s e q p i = subst (λ y. Stops m c (before y ts vs s) h e h2) (sym q) (unnamed_stops m c h h2 f l n ts vs s e p i)
