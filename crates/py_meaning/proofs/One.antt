-- A plan comes to one outcome with hosts that are alike, unless a count of the outside rose.
use Rattle.std.proofs.Common.{◌≡◌, ℕ, Result, Ok, Err, refl, sym, subst, inl, inr}
use Rattle.py_host.specs.Calls.{Answer, Answered, answers, refuses}
use Rattle.py_host.specs.Meaning.{Meaning, IsKept, IsDetermined, SameUnlessEscaped}
use Rattle.py_meaning.specs.States.{State, Out, Fault, with_objects}
use Rattle.py_meaning.specs.Plans.{Plan}
use Rattle.py_meaning.specs.Evaluates.{Follows, done, stopped, then, then_stopped, too_deep, called, called_stopped, named, printed, print_refused, asked, refused}
use Rattle.py_meaning.proofs.Counting.{kept}

same_out : {o o' : Out} → (let r : Result Out Fault = Ok o in r ≡ Ok o') → o ≡ o'
same_out e = cc

clash : {o : Out} {f : Fault} → (let r : Result Out Fault = Ok o in r ≡ Err f) → ⊥
clash e = cc

clash' : {o : Out} {f : Fault} → (let r : Result Out Fault = Err f in r ≡ Ok o) → ⊥
clash' e = cc

same_answer : {X : Type 0} {x x' : X} → answers x ≡ answers x' → x ≡ x'
same_answer e = cc

unlike : {X : Type 0} {x : X} → answers x ≡ refuses → ⊥
unlike e = cc

unlike' : {X : Type 0} {x : X} → refuses ≡ answers x → ⊥
unlike' e = cc

-- what is the same behind what was the same, and what escaped on either way
later_same : {H : Type 0} (m : Meaning H) (same : Type 0) (h1 m1 k1 h2 m2 k2 : H) → IsKept m → m.keeps h1 m1 → m.keeps h2 m2 → SameUnlessEscaped m same m1 k1 m2 k2 → SameUnlessEscaped m same h1 k1 h2 k2
later_same m same h1 m1 k1 h2 m2 k2 i a b (inl w) = inl w
later_same m same h1 m1 k1 h2 m2 k2 i a b (inr (inl e)) = inr (inl (i.escaped_back h1 m1 k1 a e))
later_same m same h1 m1 k1 h2 m2 k2 i a b (inr (inr e)) = inr (inr (i.escaped_back h2 m2 k2 b e))

chained : {H : Type 0} (m : Meaning H) (first same : Type 0) (h1 m1 k1 h2 m2 k2 : H) → IsKept m → m.keeps h1 m1 → m.keeps m1 k1 → m.keeps h2 m2 → m.keeps m2 k2 → SameUnlessEscaped m first h1 m1 h2 m2 → (first → m.alike m1 m2 → SameUnlessEscaped m same m1 k1 m2 k2) → SameUnlessEscaped m same h1 k1 h2 k2
chained m first same h1 m1 k1 h2 m2 k2 i a1 b1 a2 b2 (inl w) next = later_same m same h1 m1 k1 h2 m2 k2 i a1 a2 (next w.0 w.1)
chained m first same h1 m1 k1 h2 m2 k2 i a1 b1 a2 b2 (inr (inl e)) next = inr (inl (i.escaped_on h1 m1 k1 e b1))
chained m first same h1 m1 k1 h2 m2 k2 i a1 b1 a2 b2 (inr (inr e)) next = inr (inr (i.escaped_on h2 m2 k2 e b2))

-- what cannot be the same escaped
unlike_same : {H : Type 0} (m : Meaning H) (first same : Type 0) (h1 k1 h2 k2 : H) → (first → ⊥) → SameUnlessEscaped m first h1 k1 h2 k2 → SameUnlessEscaped m same h1 k1 h2 k2
unlike_same m first same h1 k1 h2 k2 n (inl w) = absurd (n w.0)
unlike_same m first same h1 k1 h2 k2 n (inr e) = inr e

-- the same by another word
pub by_same : {H : Type 0} (m : Meaning H) (first same : Type 0) (h1 k1 h2 k2 : H) → (first → same) → SameUnlessEscaped m first h1 k1 h2 k2 → SameUnlessEscaped m same h1 k1 h2 k2
by_same m first same h1 k1 h2 k2 f (inl w) = inl (f w.0, w.1)
by_same m first same h1 k1 h2 k2 f (inr e) = inr e

-- what follows from what another derivation came to, where both came to the same
from_same : {H : Type 0} {m : Meaning H} {c : ℕ} {X : Type 0} (k : X → Plan) {x x' : X} {h h2 : H} {r : Result Out Fault} → x ≡ x' → Follows m c (k x') h r h2 → Follows m c (k x) h r h2
from_same {m = m} {c = c} k {h = h} {h2 = h2} {r = r} e b = subst (λ y. Follows m c (k y) h r h2) (sym e) b

pub one : {H : Type 0} {m : Meaning H} {c : ℕ} {p : Plan} {h1 k1 h2 k2 : H} {r1 r2 : Result Out Fault} → IsKept m → IsDetermined m → m.tells k1 → m.tells k2 → m.alike h1 h2 → Follows m c p h1 r1 k1 → Follows m c p h2 r2 k2 → SameUnlessEscaped m (r1 ≡ r2) h1 k1 h2 k2
one i d t1 t2 s done done = inl (refl, s)
one i d t1 t2 s (stopped o) (stopped o') = inl (refl, s)
one {m = m} {h1 = h1} {k1 = k1} {h2 = h2} {k2 = k2} {r1 = r1} {r2 = r2} i d t1 t2 s (then {k = k} o m1 a b) (then o' m2 a' b') =
    let kept1 = kept i b in
    let kept2 = kept i b' in
    chained m (let q : Result Out Fault = Ok o in q ≡ Ok o') (r1 ≡ r2) h1 m1 k1 h2 m2 k2 i (kept i a) kept1 (kept i a') kept2
    (one i d (i.told m1 k1 kept1 t1) (i.told m2 k2 kept2 t2) s a a')
    (λ e s1. one i d t1 t2 s1 b (from_same k (same_out e) b'))
one {m = m} {h1 = h1} {k1 = k1} {h2 = h2} {k2 = k2} {r1 = r1} {r2 = r2} i d t1 t2 s (then o m1 a b) (then_stopped e a') =
    let kept1 = kept i b in
    chained m (let q : Result Out Fault = Ok o in q ≡ Err e) (r1 ≡ r2) h1 m1 k1 h2 k2 k2 i (kept i a) kept1 (kept i a') (i.same k2)
    (one i d (i.told m1 k1 kept1 t1) t2 s a a') (λ w s1. absurd (clash w))
one {m = m} {h1 = h1} {k1 = k1} {h2 = h2} {k2 = k2} {r1 = r1} {r2 = r2} i d t1 t2 s (then_stopped e a) (then o' m2 a' b') =
    let kept2 = kept i b' in
    chained m (let q : Result Out Fault = Err e in q ≡ Ok o') (r1 ≡ r2) h1 k1 k1 h2 m2 k2 i (kept i a) (i.same k1) (kept i a') kept2
    (one i d t1 (i.told m2 k2 kept2 t2) s a a') (λ w s1. absurd (clash' w))
one i d t1 t2 s (then_stopped e a) (then_stopped e' a') = one i d t1 t2 s a a'
one i d t1 t2 s too_deep too_deep = inl (refl, s)
one {m = m} {h1 = h1} {k1 = k1} {h2 = h2} {k2 = k2} {r1 = r1} {r2 = r2} i d t1 t2 s (called {k = k} o m1 a b) (called o' m2 a' b') =
    let kept1 = kept i b in
    let kept2 = kept i b' in
    chained m (let q : Result Out Fault = Ok o in q ≡ Ok o') (r1 ≡ r2) h1 m1 k1 h2 m2 k2 i (kept i a) kept1 (kept i a') kept2
    (one i d (i.told m1 k1 kept1 t1) (i.told m2 k2 kept2 t2) s a a')
    (λ e s1. one i d t1 t2 s1 b (from_same k (same_out e) b'))
one {m = m} {h1 = h1} {k1 = k1} {h2 = h2} {k2 = k2} {r1 = r1} {r2 = r2} i d t1 t2 s (called o m1 a b) (called_stopped e a') =
    let kept1 = kept i b in
    chained m (let q : Result Out Fault = Ok o in q ≡ Err e) (r1 ≡ r2) h1 m1 k1 h2 k2 k2 i (kept i a) kept1 (kept i a') (i.same k2)
    (one i d (i.told m1 k1 kept1 t1) t2 s a a') (λ w s1. absurd (clash w))
one {m = m} {h1 = h1} {k1 = k1} {h2 = h2} {k2 = k2} {r1 = r1} {r2 = r2} i d t1 t2 s (called_stopped e a) (called o' m2 a' b') =
    let kept2 = kept i b' in
    chained m (let q : Result Out Fault = Err e in q ≡ Ok o') (r1 ≡ r2) h1 k1 k1 h2 m2 k2 i (kept i a) (i.same k1) (kept i a') kept2
    (one i d t1 (i.told m2 k2 kept2 t2) s a a') (λ w s1. absurd (clash' w))
one i d t1 t2 s (called_stopped e a) (called_stopped e' a') = one i d t1 t2 s a a'
one {m = m} {h1 = h1} {k1 = k1} {h2 = h2} {k2 = k2} {r1 = r1} {r2 = r2} i d t1 t2 s (named {n = n} {k = k} v m1 a b) (named v' m2 a' b') =
    let kept1 = kept i b in
    let kept2 = kept i b' in
    chained m (v ≡ v') (r1 ≡ r2) h1 m1 k1 h2 m2 k2 i (i.names h1 m1 n v a) kept1 (i.names h2 m2 n v' a') kept2
    (d.names h1 m1 h2 m2 n v v' (i.told m1 k1 kept1 t1) (i.told m2 k2 kept2 t2) s a a')
    (λ e s1. one i d t1 t2 s1 b (from_same k e b'))
one {m = m} {h1 = h1} {k1 = k1} {h2 = h2} {k2 = k2} {r1 = r1} {r2 = r2} i d t1 t2 s (printed {text = text} m1 a b) (printed m2 a' b') =
    let kept1 = kept i b in
    let kept2 = kept i b' in
    chained m (let q : Answered (Unit {0}) = answers tt in q ≡ answers tt) (r1 ≡ r2) h1 m1 k1 h2 m2 k2 i (i.prints h1 m1 text (answers tt) a).0 kept1 (i.prints h2 m2 text (answers tt) a').0 kept2
    (d.prints h1 m1 h2 m2 text (answers tt) (answers tt) (i.told m1 k1 kept1 t1) (i.told m2 k2 kept2 t2) s a a')
    (λ e s1. one i d t1 t2 s1 b b')
one {m = m} {h1 = h1} {k1 = k1} {h2 = h2} {k2 = k2} {r1 = r1} {r2 = r2} i d t1 t2 s (printed {text = text} m1 a b) (print_refused a') =
    let kept1 = kept i b in
    chained m (let q : Answered (Unit {0}) = answers tt in q ≡ refuses) (r1 ≡ r2) h1 m1 k1 h2 k2 k2 i (i.prints h1 m1 text (answers tt) a).0 kept1 (i.prints h2 k2 text refuses a').0 (i.same k2)
    (d.prints h1 m1 h2 k2 text (answers tt) refuses (i.told m1 k1 kept1 t1) t2 s a a') (λ w s1. absurd (unlike w))
one {m = m} {h1 = h1} {k1 = k1} {h2 = h2} {k2 = k2} {r1 = r1} {r2 = r2} i d t1 t2 s (print_refused {text = text} a) (printed m2 a' b') =
    let kept2 = kept i b' in
    chained m (let q : Answered (Unit {0}) = refuses in q ≡ answers tt) (r1 ≡ r2) h1 k1 k1 h2 m2 k2 i (i.prints h1 k1 text refuses a).0 (i.same k1) (i.prints h2 m2 text (answers tt) a').0 kept2
    (d.prints h1 k1 h2 m2 text refuses (answers tt) t1 (i.told m2 k2 kept2 t2) s a a') (λ w s1. absurd (unlike' w))
one {m = m} {h1 = h1} {k1 = k1} {h2 = h2} {k2 = k2} {r1 = r1} {r2 = r2} i d t1 t2 s (print_refused {text = text} a) (print_refused a') =
    by_same m (let q : Answered (Unit {0}) = refuses in q ≡ refuses) (r1 ≡ r2) h1 k1 h2 k2 (λ w. refl) (d.prints h1 k1 h2 k2 text refuses refuses t1 t2 s a a')
one {m = m} {h1 = h1} {k1 = k1} {h2 = h2} {k2 = k2} {r1 = r1} {r2 = r2} i d t1 t2 s (asked {q = q} {s = st} {k = k} v m1 o1 a b) (asked v' m2 o2 a' b') =
    let kept1 = kept i b in
    let kept2 = kept i b' in
    chained m ((answers v ≡ answers v') × (o1 ≡ o2)) (r1 ≡ r2) h1 m1 k1 h2 m2 k2 i (i.replies q h1 m1 st.objects o1 (answers v) a).0 kept1 (i.replies q h2 m2 st.objects o2 (answers v') a').0 kept2
    (d.replies q h1 m1 h2 m2 st.objects o1 o2 (answers v) (answers v') (i.told m1 k1 kept1 t1) (i.told m2 k2 kept2 t2) s a a')
    (λ e s1. one i d t1 t2 s1 b (from_same (λ x. k v (with_objects st x)) e.1 (from_same (λ x. k x (with_objects st o2)) (same_answer e.0) b')))
one {m = m} {h1 = h1} {k1 = k1} {h2 = h2} {k2 = k2} {r1 = r1} {r2 = r2} i d t1 t2 s (asked {q = q} {s = st} v m1 o1 a b) (refused o2 a') =
    let kept1 = kept i b in
    chained m ((answers v ≡ refuses) × (o1 ≡ o2)) (r1 ≡ r2) h1 m1 k1 h2 k2 k2 i (i.replies q h1 m1 st.objects o1 (answers v) a).0 kept1 (i.replies q h2 k2 st.objects o2 refuses a').0 (i.same k2)
    (d.replies q h1 m1 h2 k2 st.objects o1 o2 (answers v) refuses (i.told m1 k1 kept1 t1) t2 s a a') (λ w s1. absurd (unlike w.0))
one {m = m} {h1 = h1} {k1 = k1} {h2 = h2} {k2 = k2} {r1 = r1} {r2 = r2} i d t1 t2 s (refused {q = q} {s = st} o1 a) (asked v' m2 o2 a' b') =
    let kept2 = kept i b' in
    chained m ((refuses ≡ answers v') × (o1 ≡ o2)) (r1 ≡ r2) h1 k1 k1 h2 m2 k2 i (i.replies q h1 k1 st.objects o1 refuses a).0 (i.same k1) (i.replies q h2 m2 st.objects o2 (answers v') a').0 kept2
    (d.replies q h1 k1 h2 m2 st.objects o1 o2 refuses (answers v') t1 (i.told m2 k2 kept2 t2) s a a') (λ w s1. absurd (unlike' w.0))
one {m = m} {h1 = h1} {k1 = k1} {h2 = h2} {k2 = k2} {r1 = r1} {r2 = r2} i d t1 t2 s (refused {q = q} {s = st} o1 a) (refused o2 a') =
    by_same m ((let x : Answered (Answer q) = refuses in x ≡ refuses) × (o1 ≡ o2)) (r1 ≡ r2) h1 k1 h2 k2 (λ w. refl) (d.replies q h1 k1 h2 k2 st.objects o1 o2 refuses refuses t1 t2 s a a')
