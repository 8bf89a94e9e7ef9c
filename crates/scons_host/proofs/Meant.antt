-- What scripts come to over a host that says its answers by rules, they come to over the plain host of those rules, unless the outside
-- was at fault.
use Rattle.std.proofs.Common.{◌≡◌, ℕ, List, Option, Some, None, Result, Ok, Err, refl, sym, subst, inl, inr}
use Rattle.py_tree.specs.Tree.{Tree}
use Rattle.py_heap.specs.Heap.{Objects}
use Rattle.py_heap.specs.Units.{Units}
use Rattle.py_host.specs.Calls.{answers, refuses}
use Rattle.py_host.specs.Meaning.{Meaning, IsKept}
use Rattle.py_host.proofs.Extending.{extends_same}
use Rattle.py_meaning.specs.declared.fault.EvalKind.{EvalKind}
use Rattle.py_meaning.specs.declared.fault.EvalKind.TheVariants as kind
use Rattle.py_meaning.specs.States.{Out, Fault}
use Rattle.py_meaning.specs.Plans.{Plan}
use Rattle.py_meaning.specs.Evaluates.{Evaluates, Follows, IsOwn, done, stopped, then, then_stopped, too_deep, called, called_stopped, named, printed, print_refused, asked, refused}
use Rattle.py_meaning.proofs.Counting as counting
use Rattle.scons_host.specs.Turns.{Turn, Rules, answers_with, ends_with}
use Rattle.scons_host.specs.Plain.{Plain, in_state, ended, Answers, plain}
use Rattle.scons_host.specs.Says.{IsFrom, Ends, Says, IsEnd, ComesBy, Comes}

-- what comes of more that is read
end_on : {S E : Type 0} (outside : E → Type 0) (reads more : Plain S E → Type 0) (text : List ℕ) (e : Option E) → ((p : Plain S E) → reads p → more p) → IsEnd outside reads text e → IsEnd outside more text e
end_on outside reads more text None on w = w
end_on outside reads more text (Some e) on (inl o) = inl o
end_on outside reads more text (Some e) on (inr w) = inr (w.0, on w.0 w.1, w.2, w.3)

by_on : {S E : Type 0} (outside : E → Type 0) (reads more : Plain S E → Type 0) (w : EvalKind) (k : Plain S E) → ((p : Plain S E) → reads p → more p) → ComesBy w outside reads k → ComesBy w outside more k
by_on outside reads more kind.Host k on c = end_on outside reads more k.printed k.end on c
by_on outside reads more (kind.Name name) k on c = on k c
by_on outside reads more (kind.Value fault) k on c = on k c
by_on outside reads more (kind.Args name) k on c = on k c
by_on outside reads more kind.NotCallable k on c = on k c
by_on outside reads more kind.Depth k on c = on k c

comes_on : {S E : Type 0} (outside : E → Type 0) (reads more : Plain S E → Type 0) (result : Result Out Fault) (k : Plain S E) → ((p : Plain S E) → reads p → more p) → Comes result outside reads k → Comes result outside more k
comes_on outside reads more (Ok out) k on c = on k c
comes_on outside reads more (Err fault) k on c = by_on outside reads more fault.kind k on c

own_comes : {S E : Type 0} (outside : E → Type 0) (reads : Plain S E → Type 0) (w : EvalKind) (k : Plain S E) → IsOwn w → reads k → ComesBy w outside reads k
own_comes outside reads kind.Host k own c = absurd own
own_comes outside reads (kind.Name name) k own c = c
own_comes outside reads (kind.Value fault) k own c = c
own_comes outside reads (kind.Args name) k own c = c
own_comes outside reads kind.NotCallable k own c = c
own_comes outside reads kind.Depth k own c = c

from_comes : {S E : Type 0} (outside : E → Type 0) (reads : Plain S E → Type 0) (text : List ℕ) (e : Option E) → IsFrom outside e → IsEnd outside reads text e
from_comes outside reads text None w = w
from_comes outside reads text (Some e) w = inl w

-- the end of a turn is that of the plain host, which has printed as much
end_comes : {S E X : Type 0} (outside : E → Type 0) (reads : Plain S E → Type 0) (t : Turn S E X) (h : Plain S E) (text : List ℕ) (e : Option E) → ((stop : E) → t ≡ ends_with stop → reads (ended h stop)) → text ≡ h.printed → Ends outside t e → IsEnd outside reads text e
end_comes outside reads t h text None on same w = w
end_comes outside reads t h text (Some e) on same (inl o) = inl o
end_comes outside reads t h text (Some e) on same (inr is) = inr (ended h e, on e is, refl, sym same)

-- an answer and an end of a turn, as the plain host gives them
answer_of : {S E X : Type 0} (t : Turn S E X) (h k : Plain S E) (o p : Objects) (x : X) → t ≡ answers_with x k.state p → k ≡ in_state h k.state → Answers t h o (answers x) k p
answer_of t h k o p x is same = subst (λ u. Answers u h o (answers x) k p) (sym is) (refl, same, refl)

refusal_of : {S E X : Type 0} (t : Turn S E X) (h : Plain S E) (o : Objects) (e : E) → t ≡ ends_with e → Answers t h o refuses (ended h e) o
refusal_of t h o e is = subst (λ u. Answers u h o refuses (ended h e) o) (sym is) (refl, refl)

module _ {H F S E : Type 0} (m : Meaning H) (r : Rules F S E) (f : F) (see : H → Plain S E) (outside : E → Type 0) (sees : H → H → Type 0) (i : IsKept m) (says : Says m r f see outside sees) where
  go : {c : ℕ} {p : Plan} {h k : H} {result : Result Out Fault} → sees h k → Follows m c p h result k → Comes result outside (λ end. Follows (plain r f) c p (see h) result end) (see k)
  go s done = done
  go {c = c} {p = p} {h = h} {result = result} s (stopped {k = w} own) = own_comes outside (λ end. Follows (plain r f) c p (see h) result end) w (see h) own (stopped own)
  go {c = c} {p = p} {h = h} {k = k} {result = result} s (then {j = j} {s = st} {k = next} o h1 a b) =
      let there = counting.kept i a in
      let on = counting.kept i b in
      let first = go (says.front h h1 k there on s) a in
      comes_on outside (λ end. Follows (plain r f) c (next o) (see h1) result end) (λ end. Follows (plain r f) c p (see h) result end) result (see k)
      (λ end w. then o (see h1) first w) (go (says.rest h h1 k there on s) b)
  go {c = c} {p = p} {h = h} {k = k} {result = result} s (then_stopped {j = j} {s = st} e a) =
      comes_on outside (λ end. Follows (plain r f) c _ (see h) result end) (λ end. Follows (plain r f) c p (see h) result end) result (see k)
      (λ end w. then_stopped e w) (go s a)
  go s too_deep = too_deep
  go {c = c} {p = p} {h = h} {k = k} {result = result} s (called {c = fewer} {k = next} o h1 a b) =
      let there = counting.kept i a in
      let on = counting.kept i b in
      let first = go (says.front h h1 k there on s) a in
      comes_on outside (λ end. Follows (plain r f) c (next o) (see h1) result end) (λ end. Follows (plain r f) c p (see h) result end) result (see k)
      (λ end w. called o (see h1) first w) (go (says.rest h h1 k there on s) b)
  go {c = c} {p = p} {h = h} {k = k} {result = result} s (called_stopped {c = fewer} e a) =
      comes_on outside (λ end. Follows (plain r f) fewer _ (see h) result end) (λ end. Follows (plain r f) c p (see h) result end) result (see k)
      (λ end w. called_stopped e w) (go s a)
  go {c = c} {p = p} {h = h} {k = k} {result = result} s (named {n = n} {k = next} v h1 a b) =
      let there = i.names h h1 n v a in
      let on = counting.kept i b in
      let said = says.names h h1 n v (says.front h h1 k there on s) a in
      comes_on outside (λ end. Follows (plain r f) c (next v) (see h1) result end) (λ end. Follows (plain r f) c p (see h) result end) result (see k)
      (λ end w. named v (see h1) said w) (go (says.rest h h1 k there on s) b)
  go {c = c} {p = p} {h = h} {k = k} {result = result} s (printed {text = text} {p = next} h1 a b) =
      let there = (i.prints h h1 text (answers tt) a).0 in
      let on = counting.kept i b in
      let said = says.printed h h1 text (says.front h h1 k there on s) a in
      comes_on outside (λ end. Follows (plain r f) c next (see h1) result end) (λ end. Follows (plain r f) c p (see h) result end) result (see k)
      (λ end w. printed (see h1) said w) (go (says.rest h h1 k there on s) b)
  go {c = c} {p = p} {h = h} {k = k} {result = result} s (print_refused {text = text} a) =
      from_comes outside (λ end. Follows (plain r f) c p (see h) result end) (see k).printed (see k).end (says.unprinted h k text s a)
  go {c = c} {p = p} {h = h} {k = k} {result = result} s (asked {q = q} {s = st} {k = next} x h1 objects a b) =
      let there = (i.replies q h h1 st.objects objects (answers x) a).0 in
      let on = counting.kept i b in
      let said = says.answered q h h1 st.objects objects x (says.front h h1 k there on s) a in
      comes_on outside (λ end. Follows (plain r f) c _ (see h1) result end) (λ end. Follows (plain r f) c p (see h) result end) result (see k)
      (λ end w. asked x (see h1) objects (answer_of (r.turn f q (see h).state st.objects) (see h) (see h1) st.objects objects x said.0 said.1, i.stands q h h1 st.objects objects (answers x) a) w)
      (go (says.rest h h1 k there on s) b)
  go {c = c} {p = p} {h = h} {k = k} {result = result} s (refused {q = q} {s = st} objects a) =
      let said = says.refused q h k st.objects objects s a in
      end_comes outside (λ end. Follows (plain r f) c p (see h) result end) (r.turn f q (see h).state st.objects) (see h) (see k).printed (see k).end
      (λ e is. refused st.objects (refusal_of (r.turn f q (see h).state st.objects) (see h) st.objects e is, extends_same st.objects)) said.1 said.0

  pub meant : (t : Tree) (o : Objects) (u : Units) {h k : H} {result : Result Out Fault} → Evaluates m t o u h result k → sees h k → Comes result outside (λ end. Evaluates (plain r f) t o u (see h) result end) (see k)
  meant t o u a s = go s a
