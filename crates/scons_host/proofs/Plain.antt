-- The plain host keeps what every host keeps to, and answers in one way.
use Rattle.std.proofs.Common.{arith, ◌≡◌, ◌≤◌, ◌+◌, ◌∙◌, Result, refl, sym, ap, subst, inl}
use Rattle.py_tree.specs.Tree.{Tree}
use Rattle.py_heap.specs.Heap.{Objects}
use Rattle.py_heap.specs.Units.{Units}
use Rattle.py_host.specs.Calls.{Answered, answers, refuses}
use Rattle.py_host.specs.Meaning.{IsKept, IsDetermined, Counts, SameUnlessEscaped}
use Rattle.py_meaning.specs.Evaluates.{Evaluates}
use Rattle.py_meaning.specs.States.{Out, Fault}
use Rattle.py_meaning.proofs.One.{one}
use Rattle.scons_host.specs.Turns.{Turn, Rules, answers_with, ends_with}
use Rattle.scons_host.specs.Plain.{Plain, Answers, Takes, plain}

answered_later : {S E X : Type 0} (t : Turn S E X) (h k : Plain S E) (o p : Objects) (a : Answered X) → Answers t h o a k p → (h.refusals ≤ k.refusals) × Counts a h.refusals k.refusals
answered_later (answers_with x s o2) h k o p (answers y) w =
    let e : k.refusals ≡ h.refusals = ap (λ n. n.refusals) w.1 in (omega arith, omega arith)
answered_later (answers_with x s o2) h k o p refuses w = absurd w
answered_later (ends_with e) h k o p (answers y) w = absurd w
answered_later (ends_with e) h k o p refuses w =
    let e : k.refusals ≡ h.refusals + 1 = ap (λ n. n.refusals) w.0 in (omega arith, record { later = omega arith; more = omega arith })

taken_later : {S E : Type 0} (h k : Plain S E) (text : _) (a : Answered (Unit {0})) → Takes h text a k → (h.refusals ≤ k.refusals) × Counts a h.refusals k.refusals
taken_later h k text (answers u) w = let e : k.refusals ≡ h.refusals = ap (λ n. n.refusals) w in (omega arith, omega arith)
taken_later h k text refuses w = absurd w

same_later : {S E : Type 0} (h k : Plain S E) → k ≡ h → h.refusals ≤ k.refusals
same_later h k w = let e : k.refusals ≡ h.refusals = ap (λ n. n.refusals) w in omega arith

-- one turn gives one answer
answered_once : {S E X : Type 0} (t : Turn S E X) (h k1 k2 : Plain S E) (o p1 p2 : Objects) (a b : Answered X) → Answers t h o a k1 p1 → Answers t h o b k2 p2 → ((a ≡ b) × (p1 ≡ p2)) × (k1 ≡ k2)
answered_once (answers_with x s o2) h k1 k2 o p1 p2 (answers y) (answers z) v w = ((ap answers (v.0 ∙ sym w.0), v.2 ∙ sym w.2), v.1 ∙ sym w.1)
answered_once (answers_with x s o2) h k1 k2 o p1 p2 (answers y) refuses v w = absurd w
answered_once (answers_with x s o2) h k1 k2 o p1 p2 refuses b v w = absurd v
answered_once (ends_with e) h k1 k2 o p1 p2 (answers y) b v w = absurd v
answered_once (ends_with e) h k1 k2 o p1 p2 refuses (answers z) v w = absurd w
answered_once (ends_with e) h k1 k2 o p1 p2 refuses refuses v w = ((refl, v.1 ∙ sym w.1), v.0 ∙ sym w.0)

taken_once : {S E : Type 0} (h k1 k2 : Plain S E) (text : _) (a b : Answered (Unit {0})) → Takes h text a k1 → Takes h text b k2 → (a ≡ b) × (k1 ≡ k2)
taken_once h k1 k2 text (answers u) (answers t) v w = (refl, v ∙ sym w)
taken_once h k1 k2 text (answers u) refuses v w = absurd w
taken_once h k1 k2 text refuses b v w = absurd v

module _ {F S E : Type 0} (r : Rules F S E) (f : F) where
  pub plain_kept : IsKept (plain r f)
  plain_kept = record {
    same = λ h. omega arith;
    joins = λ a b c v w. omega arith;
    later = λ a b v. v;
    told = λ a b v t. tt;
    escaped_on = λ a b c x v. absurd x;
    escaped_back = λ a b c v x. absurd x;
    names = λ h k name v w. same_later h k w.1;
    prints = λ h k text a w. taken_later h k text a w;
    replies = λ q h k o p a w. answered_later (r.turn f q h.state o) h k o p a w.0;
    stands = λ q h k o p a w. w.1;
  }

  pub plain_determined : IsDetermined (plain r f)
  plain_determined = record {
    names = λ h1 k1 h2 k2 name v w t1 t2 s a b.
        inl (a.0 ∙ ap (λ h. r.name h.state name) s ∙ sym b.0, a.1 ∙ s ∙ sym b.1);
    prints = λ h1 k1 h2 k2 text a b t1 t2 s v w.
        inl (taken_once h1 k1 k2 text a b v (subst (λ h. Takes h text b k2) (sym s) w));
    replies = λ q h1 k1 h2 k2 o o1 o2 a b t1 t2 s v w.
        inl (answered_once (r.turn f q h1.state o) h1 k1 k2 o o1 o2 a b v.0 (subst (λ h. Answers (r.turn f q h.state o) h o b k2 o2) (sym s) w.0));
  }

  -- a reading over plain files comes to one outcome
  pub one_reading : (t : Tree) (o : Objects) (u : Units) {h k1 k2 : Plain S E} {r1 r2 : Result Out Fault} → Evaluates (plain r f) t o u h r1 k1 → Evaluates (plain r f) t o u h r2 k2 → SameUnlessEscaped (plain r f) (r1 ≡ r2) h k1 h k2
  one_reading t o u a b = one plain_kept plain_determined tt tt refl a b
