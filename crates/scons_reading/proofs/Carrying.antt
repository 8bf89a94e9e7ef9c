-- What was at fault outside while scripts ran: it is told by how they ended.
use Rattle.std.proofs.Common.{◌≡◌, ◌≢◌, ◌∙◌, refl, ap, subst, ℕ, Result, Ok, Err}
use Rattle.std.specs.Prelude.{Option}
use Rattle.py_host.specs.Lent.{lent}
use Rattle.py_host.proofs.Lending.{lent_simulates}
use Rattle.py_heap.specs.Heap.{Objects}
use Rattle.py_heap.specs.Units.{Units}
use Rattle.py_tree.specs.Tree.{Tree}
use Rattle.py_meaning.specs.declared.fault.EvalFault.{EvalFault}
use Rattle.py_meaning.specs.declared.fault.EvalFault.TheVariants as fault
use Rattle.py_meaning.specs.declared.fault.EvalKind.{EvalKind}
use Rattle.py_meaning.specs.declared.fault.EvalKind.TheVariants as kind
use Rattle.py_meaning.specs.States.{Out, Fault}
use Rattle.py_meaning.specs.Plans.{Plan}
use Rattle.py_meaning.specs.Evaluates.{Follows, IsOwn, done, stopped, then, then_stopped, too_deep, called, called_stopped, named, printed, print_refused, asked, refused}
use Rattle.py_meaning.proofs.Simulating.{simulated}
use Rattle.py_eval.specs.Answers.{IsFound}
use Rattle.py_eval.specs.declared.scripts.Ran.{Ran}
use Rattle.world_api.specs.Meaning.{Meaning}
use Rattle.world_api.specs.Printed.{SinkMeaning}
use Rattle.scons_host.specs.declared.end.HostEnd.{HostEnd}
use Rattle.scons_host.specs.declared.host.ReadingHost.{ReadingHost}
use Rattle.scons_host.specs.Causes.{Outside, outside, HasKeptCause}
use Rattle.scons_host.specs.Files.{Files}
use Rattle.scons_host.specs.Laws.{counts_same, kept_back}
use Rattle.scons_host.specs.Saying.{Seen, outside_of, Keeps, Serves, Printed, saying}
use Rattle.scons_host.specs.Turns.{Rules}
use Rattle.scons_reading.specs.Running.{HasKindCause, HasRunCause}

module _ {W S T : Type 0} (m : Meaning W) (p : SinkMeaning S) where
  abbrev At : Seen W S T → Outside
  At h = outside_of m p h

  -- with the host's refusal what was kept tells what was at fault; otherwise nothing was
  abbrev CarriedKind : EvalKind → Seen W S T → Seen W S T → Type 0
  CarriedKind kind.Host h h2 = HasKeptCause (At h) (At h2) h2.kept.end
  CarriedKind other h h2 = At h2 ≡ At h

  abbrev Carried : Result Out Fault → Seen W S T → Seen W S T → Type 0
  Carried (Ok o) h h2 = At h2 ≡ At h
  Carried (Err e) h h2 = CarriedKind e.kind h h2

  later_kind : (k : EvalKind) (a b c : Seen W S T) → At b ≡ At a → CarriedKind k b c → CarriedKind k a c
  later_kind kind.Host a b c same g = kept_back (At a) (At b) (At c) c.kept.end same g
  later_kind (kind.Name n) a b c same g = g ∙ same
  later_kind (kind.Value e) a b c same g = g ∙ same
  later_kind (kind.Args x) a b c same g = g ∙ same
  later_kind kind.NotCallable a b c same g = g ∙ same
  later_kind kind.Depth a b c same g = g ∙ same

  later : (r : Result Out Fault) (a b c : Seen W S T) → At b ≡ At a → Carried r b c → Carried r a c
  later (Ok o) a b c same g = g ∙ same
  later (Err e) a b c same g = later_kind e.kind a b c same g

  own : (k : EvalKind) (h : Seen W S T) → IsOwn k → CarriedKind k h h
  own kind.Host h i = absurd i
  own (kind.Name n) h i = refl
  own (kind.Value e) h i = refl
  own (kind.Args x) h i = refl
  own kind.NotCallable h i = refl
  own kind.Depth h i = refl

  served : (h h2 : Seen W S T) → Serves m p h h2 → At h2 ≡ At h
  served h h2 s = counts_same (m.counts h.world) (m.counts h2.world) (p.faults h.out) (p.faults h2.out) s.well (ap p.faults s.out)

  taken : (text : _) (h h2 : Seen W S T) → Printed m p text h h2 → At h2 ≡ At h
  taken text h h2 s = counts_same (m.counts h.world) (m.counts h2.world) (p.faults h.out) (p.faults h2.out) (ap m.counts s.world) s.well

  module _ (rules : Rules Files T HostEnd) where
    carried : {c : ℕ} {plan : Plan} {h h2 : Seen W S T} {r : Result Out Fault} → Follows (saying m p rules) c plan h r h2 → Carried r h h2
    carried done = refl
    carried {h = h} (stopped {k = k} o) = own k h o
    carried {h = h} {h2 = h2} {r = r} (then o h1 a b) = later r h h1 h2 (carried a) (carried b)
    carried (then_stopped e a) = carried a
    carried too_deep = refl
    carried {h = h} {h2 = h2} {r = r} (called o h1 a b) = later r h h1 h2 (carried a) (carried b)
    carried (called_stopped e a) = carried a
    carried {h = h} {h2 = h2} {r = r} (named v h1 a b) = later r h h1 h2 (ap At a.1) (carried b)
    carried {h = h} {h2 = h2} {r = r} (printed {text = text} h1 a b) = later r h h1 h2 (taken text h h1 a) (carried b)
    carried (print_refused a) = a.cause
    carried {h = h} {h2 = h2} {r = r} (asked v h1 objects a b) = later r h h1 h2 (served h h1 a.0.0) (carried b)
    carried (refused objects a) = a.0.0.cause

    kind_caused : (k : EvalKind) (h h2 : Seen W S T) → CarriedKind k h h2 → HasKindCause (At h) (At h2) h2.kept.end k
    kind_caused kind.Host h h2 c = c
    kind_caused (kind.Name n) h h2 c = c
    kind_caused (kind.Value e) h h2 c = c
    kind_caused (kind.Args x) h h2 c = c
    kind_caused kind.NotCallable h h2 c = c
    kind_caused kind.Depth h h2 c = c

    -- what scripts come to over a host that is seen as such a state
    pub run_caused : {H N : Type 0} (see : H → Seen W S T) (held : H → N) (t : Tree) (o : Objects) (u : Units) (h h2 : H) (r : Result Ran EvalFault)
        → IsFound (lent see held (saying m p rules)) t o u h r h2 → Keeps m p (see h) (see h2) → HasRunCause (At (see h)) (At (see h2)) (see h2).kept.end r
    run_caused see held t o u h h2 (Ok ran) found keeps = carried (simulated (lent_simulates see held (saying m p rules)) found.1)
    run_caused see held t o u h h2 (Err (fault.At script line k)) found keeps =
        kind_caused k (see h) (see h2) (carried (simulated (lent_simulates see held (saying m p rules)) found))
    run_caused see held t o u h h2 (Err fault.Memory) found keeps = record { counts = keeps.looks.counts; out = keeps.prints.faults }

-- what was lent to the host is what it held in the end
pub run_given : {W S X : Type 0} (m : Meaning W) (p : SinkMeaning S) (old : Outside) (h : ReadingHost W S) (world : W) (out : S) (kept : Option HostEnd) (r : Result X EvalFault)
    → h.world.now ≡ world → h.out.now ≡ out → h.kept.now.end ≡ kept → HasRunCause old (outside m p h.world.now h.out.now) h.kept.now.end r → HasRunCause old (outside m p world out) kept r
run_given {W = W} {S = S} m p old h world out kept r w o k cause =
    subst (λ (x : W). HasRunCause old (outside m p x out) kept r) w
    (subst (λ (x : S). HasRunCause old (outside m p h.world.now x) kept r) o
    (subst (λ (x : Option HostEnd). HasRunCause old (outside m p h.world.now h.out.now) x r) k cause))

-- with a fault of the scripts' own nothing was at fault
pub own_kind : (old new : Outside) (kept : Option HostEnd) (k : EvalKind) → k ≢ kind.Host → HasKindCause old new kept k → new ≡ old
own_kind old new kept kind.Host not cause = absurd (not cc)
own_kind old new kept (kind.Name n) not cause = cause
own_kind old new kept (kind.Value e) not cause = cause
own_kind old new kept (kind.Args x) not cause = cause
own_kind old new kept kind.NotCallable not cause = cause
own_kind old new kept kind.Depth not cause = cause
