-- What grows by each answer grows by a run; and a run that is all answered is one over other files, where each answer is.
use Rattle.std.proofs.Common.{◌≡◌, refl, sym, subst, ℕ, Ok}
use Rattle.py_heap.specs.Heap.{Objects}
use Rattle.py_host.specs.Calls.{Question, Answer, answers}
use Rattle.py_meaning.specs.States.{Out}
use Rattle.py_meaning.specs.Plans.{Plan}
use Rattle.py_meaning.specs.Evaluates.{Follows, done, then, called, named, printed, asked}
use Rattle.scons_reading.specs.Sources.{EachAsked}
use Rattle.scons_host.specs.Plain.{Plain, plain, Answers}
use Rattle.scons_host.specs.Turns.{Turn, Rules, answers_with, ends_with}

-- what is so of the state behind each answer, and of what it grew from
module _ {F S E : Type 0} (r : Rules F S E) (f : F) (Grows : S → S → Type 0) (stays : (s : S) → Grows s s) (joins : (s t u : S) → Grows s t → Grows t u → Grows s u)
    (grows : (q : Question) (s t : S) (h o : Objects) (x : Answer q) → r.turn f q s h ≡ answers_with x t o → Grows s t) where
  answered_grows : {X : Type 0} (turn : Turn S E X) (h k : Plain S E) (o p : Objects) (x : X) → ((y : X) (t : S) (q : Objects) → turn ≡ answers_with y t q → Grows h.state t)
      → Answers turn h o (answers x) k p → Grows h.state k.state
  answered_grows (answers_with y t q) h k o p x on w = subst (λ (m : Plain S E). Grows h.state m.state) (sym w.1) (on y t q refl)
  answered_grows (ends_with e) h k o p x on w = absurd w

  same_grows : (h k : Plain S E) → k ≡ h → Grows h.state k.state
  same_grows h k is = subst (λ (m : Plain S E). Grows h.state m.state) (sym is) (stays h.state)

  pub grown : {c : ℕ} {p : Plan} {h k : Plain S E} {out : Out} → Follows (plain r f) c p h (Ok out) k → Grows h.state k.state
  grown {h = h} done = stays h.state
  grown {h = h} {k = k} (then o h1 a b) = joins h.state h1.state k.state (grown a) (grown b)
  grown {h = h} {k = k} (called o h1 a b) = joins h.state h1.state k.state (grown a) (grown b)
  grown {h = h} {k = k} (named v h1 a b) = joins h.state h1.state k.state (same_grows h h1 a.1) (grown b)
  grown {h = h} {k = k} (printed {text = text} h1 a b) = joins h.state h1.state k.state (subst (λ (m : Plain S E). Grows h.state m.state) (sym a) (stays h.state)) (grown b)
  grown {h = h} {k = k} (asked {q = q} {s = s} x h1 objects a b) =
      joins h.state h1.state k.state
      (answered_grows (r.turn f q h.state s.objects) h h1 s.objects objects x (λ y t o. grows q h.state t s.objects o y) a.0) (grown b)

-- Where what is so of each question and of the end of the run moves each answer, the run moves.
module _ {F S E : Type 0} (r : Rules F S E) (f g : F) (Grows : S → S → Type 0) (stays : (s : S) → Grows s s) (joins : (s t u : S) → Grows s t → Grows t u → Grows s u)
    (grows : (q : Question) (s t : S) (h o : Objects) (x : Answer q) → r.turn f q s h ≡ answers_with x t o → Grows s t)
    (P : Question → Plain S E → Objects → Type 0) (last : S)
    (same : (q : Question) (h : Plain S E) (t : S) (b o : Objects) (x : Answer q) → P q h b → Grows t last → r.turn f q h.state b ≡ answers_with x t o → r.turn g q h.state b ≡ answers_with x t o) where
  answers_moved : {X : Type 0} (t1 t2 : Turn S E X) (h k : Plain S E) (o p : Objects) (x : X) → Grows k.state last
      → ((y : X) (s : S) (q : Objects) → Grows s last → t1 ≡ answers_with y s q → t2 ≡ answers_with y s q) → Answers t1 h o (answers x) k p → Answers t2 h o (answers x) k p
  answers_moved (answers_with y s q) t2 h k o p x later on w =
      subst (λ t. Answers t h o (answers x) k p) (sym (on y s q (subst (λ (m : Plain S E). Grows m.state last) w.1 later) refl)) w
  answers_moved (ends_with e) t2 h k o p x later on w = absurd w

  pub moved : {c : ℕ} {p : Plan} {h k : Plain S E} {out : Out} → (d : Follows (plain r f) c p h (Ok out) k) → EachAsked P d → Grows k.state last → Follows (plain r g) c p h (Ok out) k
  moved done e later = done
  moved {k = k} (then o h1 a b) e later = then o h1 (moved a e.0 (joins h1.state k.state last (grown r f Grows stays joins grows b) later)) (moved b e.1 later)
  moved {k = k} (called o h1 a b) e later = called o h1 (moved a e.0 (joins h1.state k.state last (grown r f Grows stays joins grows b) later)) (moved b e.1 later)
  moved (named v h1 a b) e later = named v h1 a (moved b e later)
  moved (printed h1 a b) e later = printed h1 a (moved b e later)
  moved {h = h} {k = k} (asked {q = q} {s = s} x h1 objects a b) e later =
      let behind = joins h1.state k.state last (grown r f Grows stays joins grows b) later in
      asked x h1 objects
      (answers_moved (r.turn f q h.state s.objects) (r.turn g q h.state s.objects) h h1 s.objects objects x behind (λ y t o. same q h t s.objects o y e.0) a.0, a.1) (moved b e.1 later)
