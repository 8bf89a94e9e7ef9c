-- What a host keeps is kept by whatever a plan asks of it. The count of its refusals never falls, and rises where a refusal is what
-- a plan comes to.
use Rattle.std.proofs.Common.{arith, ◌≡◌, ◌≤◌, ◌+◌, ◌-◌, ◌^◌, ℕ, Result, Ok, Err, refl}
use Rattle.py_host.specs.Meaning.{Meaning, IsKept, Counts}
use Rattle.scons_base.specs.Rising.{Rose}
use Rattle.py_host.specs.Calls.{Answered, answers, refuses}
use Rattle.py_meaning.specs.declared.fault.EvalKind.{EvalKind}
use Rattle.py_meaning.specs.declared.fault.EvalKind.TheVariants as kind
use Rattle.py_meaning.specs.States.{Out, Fault}
use Rattle.py_host.specs.declared.place.Place.{Place}
use Rattle.py_meaning.specs.Plans.{Plan}
use Rattle.py_meaning.specs.Evaluates.{Follows, IsOwn, done, stopped, then, then_stopped, too_deep, called, called_stopped, named, printed, print_refused, asked, refused}

abbrev pub CountedFault : EvalKind → ℕ → ℕ → Type 0
CountedFault kind.Host before now = Rose before now
CountedFault other before now = before ≤ now

-- what becomes of the count: it rises with the host's refusal
abbrev pub Counted : Result Out Fault → ℕ → ℕ → Type 0
Counted (Ok o) before now = before ≤ now
Counted (Err e) before now = CountedFault e.kind before now

-- a count that didn't fall before, and what becomes of it then
earlier_rise : (a b c : ℕ) → a ≤ b → Rose b c → Rose a c
earlier_rise a b c l r = record { later = let x = r.later in omega arith; more = let x = r.more in omega arith }

earlier_fault : (k : EvalKind) (a b c : ℕ) → a ≤ b → CountedFault k b c → CountedFault k a c
earlier_fault kind.Host a b c l r = earlier_rise a b c l r
earlier_fault (kind.Name n) a b c l r = omega arith
earlier_fault (kind.Value e) a b c l r = omega arith
earlier_fault (kind.Args x) a b c l r = omega arith
earlier_fault kind.NotCallable a b c l r = omega arith
earlier_fault kind.Depth a b c l r = omega arith

earlier : (r : Result Out Fault) (a b c : ℕ) → a ≤ b → Counted r b c → Counted r a c
earlier (Ok o) a b c l r = omega arith
earlier (Err e) a b c l r = earlier_fault e.kind a b c l r

own : (k : EvalKind) (a : ℕ) → IsOwn k → CountedFault k a a
own kind.Host a i = absurd i
own (kind.Name n) a i = omega arith
own (kind.Value e) a i = omega arith
own (kind.Args x) a i = omega arith
own kind.NotCallable a i = omega arith
own kind.Depth a i = omega arith

pub counted : {H : Type 0} {m : Meaning H} {c : ℕ} {p : Plan} {h h2 : H} {r : Result Out Fault} → IsKept m → Follows m c p h r h2 → Counted r (m.refusals h) (m.refusals h2)
counted {m = m} {h = h} i done = omega arith
counted {m = m} {h = h} i (stopped {k = k} o) = own k (m.refusals h) o
counted {m = m} {h = h} {h2 = h2} {r = r} i (then o h1 a b) = earlier r (m.refusals h) (m.refusals h1) (m.refusals h2) (counted i a) (counted i b)
counted i (then_stopped e a) = counted i a
counted {m = m} {h = h} i too_deep = omega arith
counted {m = m} {h = h} {h2 = h2} {r = r} i (called o h1 a b) = earlier r (m.refusals h) (m.refusals h1) (m.refusals h2) (counted i a) (counted i b)
counted i (called_stopped e a) = counted i a
counted {m = m} {h = h} {h2 = h2} {r = r} i (named {n = n} v h1 a b) = earlier r (m.refusals h) (m.refusals h1) (m.refusals h2) (i.later h h1 (i.names h h1 n v a)) (counted i b)
counted {m = m} {h = h} {h2 = h2} {r = r} i (printed {text = text} h1 a b) = earlier r (m.refusals h) (m.refusals h1) (m.refusals h2) (i.later h h1 (i.prints h h1 text (answers tt) a).0) (counted i b)
counted {h = h} {h2 = h2} i (print_refused {text = text} a) = (i.prints h h2 text refuses a).1
counted {m = m} {h = h} {h2 = h2} {r = r} i (asked {q = q} {s = s} v h1 objects a b) = earlier r (m.refusals h) (m.refusals h1) (m.refusals h2) (i.later h h1 (i.replies q h h1 s.objects objects (answers v) a).0) (counted i b)
counted {h = h} {h2 = h2} i (refused {q = q} {s = s} objects a) = (i.replies q h h2 s.objects objects refuses a).1

pub kept : {H : Type 0} {m : Meaning H} {c : ℕ} {p : Plan} {h h2 : H} {r : Result Out Fault} → IsKept m → Follows m c p h r h2 → m.keeps h h2
kept {h = h} i done = i.same h
kept {h = h} i (stopped o) = i.same h
kept {h = h} {h2 = h2} i (then o h1 a b) = i.joins h h1 h2 (kept i a) (kept i b)
kept i (then_stopped e a) = kept i a
kept {h = h} i too_deep = i.same h
kept {h = h} {h2 = h2} i (called o h1 a b) = i.joins h h1 h2 (kept i a) (kept i b)
kept i (called_stopped e a) = kept i a
kept {h = h} {h2 = h2} i (named {n = n} v h1 a b) = i.joins h h1 h2 (i.names h h1 n v a) (kept i b)
kept {h = h} {h2 = h2} i (printed {text = text} h1 a b) = i.joins h h1 h2 (i.prints h h1 text (answers tt) a).0 (kept i b)
kept {h = h} {h2 = h2} i (print_refused {text = text} a) = (i.prints h h2 text refuses a).0
kept {h = h} {h2 = h2} i (asked {q = q} {s = s} v h1 objects a b) = i.joins h h1 h2 (i.replies q h h1 s.objects objects (answers v) a).0 (kept i b)
kept {h = h} {h2 = h2} i (refused {q = q} {s = s} objects a) = (i.replies q h h2 s.objects objects refuses a).0
