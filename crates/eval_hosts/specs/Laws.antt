-- Both hosts keep what every host keeps.
use Rattle.std.specs.Prelude.{◌≡◌, ℕ, pos, ◌+◌, ◌-◌, ◌^◌, ◌==◌, Bool, true, false, List, [], ◌∷◌, ◌++◌, Option, Some}
use Rattle.std.specs.Prelude.{None, if◌then◌else◌, nat_lt, length, codes}
use Rattle.std.proofs.Common.{arith, refl, sym, subst, ap, ◌∙◌, inl, append_assoc, append-nil}
use Rattle.std.proofs.lemmas.Bool.{ltb-false}
use Rattle.std.specs.Str.{bytes_eq}
use Rattle.py_tree.specs.Tree.{Tree}
use Rattle.py_heap.specs.declared.value.Value.{Value}
use Rattle.py_heap.specs.declared.value.Value.TheVariants as v
use Rattle.py_heap.specs.Heap.{Objects}
use Rattle.py_host.specs.Names.{Names, value_of, with_names}
use Rattle.py_host.specs.Calls.{Question, Answer, Answered, Arguments, Given, answers, refuses, called, attribute}
use Rattle.py_host.specs.Calls.{item, set_item, script_done, next_script, a_value, a_script, some_names, the_end}
use Rattle.py_host.specs.Extends.{Extends}
use Rattle.py_host.specs.Meaning.{Counts, IsKept, IsDetermined, SameUnlessEscaped}
use Rattle.scons_base.specs.Rising.{Rose}
use Rattle.py_host.proofs.Extending.{extends_same}
use Rattle.eval_hosts.specs.Refusals.{raised}
use Rattle.eval_hosts.specs.Texts.{Grown}
use Rattle.eval_hosts.specs.Printing.{Printed, refused, prints, refuses_all, has_none, replies, printing, Keeps}
use Rattle.eval_hosts.specs.Replying as replier
use Rattle.eval_hosts.specs.Replying.{Replier, Turn, answer, refusal, next_inner, call_turn, attribute_turn}
use Rattle.eval_hosts.specs.Replying.{done_turn, further_turn, turn, replying}

raised_by : (n : ℕ) (b : Bool) → nat_lt n (2 ^ 64 - 1) ≡ b → Rose n (if b then n + 1 else n)
raised_by n true e = record { later = omega arith; more = omega arith }
raised_by n false e = record { later = omega arith; more = omega (arith, ltb-false n (2 ^ 64 - 1) e) }

pub raises : (n : ℕ) → Rose n (raised n)
raises n = raised_by n (nat_lt n (2 ^ 64 - 1)) refl

none_more : (s : List ℕ) → Grown s s
none_more s = ([], sym (append-nil s))

more_more : (a b c : List ℕ) → Grown a b → Grown b c → Grown a c
more_more a b c p q = (p.0 ++ q.0, q.1 ∙ ap (λ s. s ++ q.0) p.1 ∙ append_assoc a p.0 q.0)

-- The host that prints.
pub kept_same : (h : Printed) → Keeps h h
kept_same h = record { text = none_more h.text; refusals = omega arith }

kept_joined : (a b c : Printed) → Keeps a b → Keeps b c → Keeps a c
kept_joined a b c p q = record {
  text = more_more a.text b.text c.text p.text q.text;
  refusals = let x = p.refusals in let y = q.refusals in omega arith;
}

pub kept_refused : (h : Printed) → Keeps h (refused h) × Rose h.refusals (refused h).refusals
kept_refused h = (record { text = none_more h.text; refusals = (raises h.refusals).later }, raises h.refusals)

abbrev KeptBy : {X : Type 0} → Printed → Answered X → Printed → Type 0
KeptBy h a h2 = Keeps h h2 × Counts a h.refusals h2.refusals

kept_prints : (h h2 : Printed) (text : List ℕ) (a : Answered (Unit {0})) → prints h text a h2 → KeptBy h a h2
kept_prints h h2 text (answers u) p = rw p.1 (record { text = (text, refl); refusals = omega arith }, omega arith)
kept_prints h h2 text refuses p = rw p.1 (kept_refused h)

kept_all : {X : Type 0} (h h2 : Printed) (o o2 : Objects) (a : Answered X) → refuses_all h o a h2 o2 → KeptBy h a h2
kept_all h h2 o o2 (answers x) p = absurd p
kept_all h h2 o o2 refuses p = rw p.0 (kept_refused h)

kept_none : {X : Type 0} (h h2 : Printed) (o o2 : Objects) (a : Answered (Option X)) → has_none h o a h2 o2 →
    KeptBy h a h2
kept_none h h2 o o2 (answers x) p = rw p.1 (kept_same h, omega arith)
kept_none h h2 o o2 refuses p = absurd p

kept_replies : (q : Question) (h h2 : Printed) (o o2 : Objects) (a : Answered (Answer q)) → replies q h o a h2 o2 →
    KeptBy h a h2
kept_replies next_script h h2 o o2 a p = kept_none h h2 o o2 a p
kept_replies (called place locals globals object arguments) h h2 o o2 a p = kept_all h h2 o o2 a p
kept_replies (attribute place object name) h h2 o o2 a p = kept_all h h2 o o2 a p
kept_replies (item place object key) h h2 o o2 a p = kept_all h h2 o o2 a p
kept_replies (set_item place object key v) h h2 o o2 a p = kept_all h h2 o o2 a p
kept_replies (script_done names) h h2 o o2 a p = kept_all h h2 o o2 a p

extends_as : (o o2 : Objects) → o2 ≡ o → Extends o o2
extends_as o o2 e = rw e (extends_same o)

stands_all : {X : Type 0} (h h2 : Printed) (o o2 : Objects) (a : Answered X) → refuses_all h o a h2 o2 → Extends o o2
stands_all h h2 o o2 (answers x) p = absurd p
stands_all h h2 o o2 refuses p = extends_as o o2 p.1

stands_none : {X : Type 0} (h h2 : Printed) (o o2 : Objects) (a : Answered (Option X)) → has_none h o a h2 o2 →
    Extends o o2
stands_none h h2 o o2 (answers x) p = extends_as o o2 p.2
stands_none h h2 o o2 refuses p = absurd p

stands : (q : Question) (h h2 : Printed) (o o2 : Objects) (a : Answered (Answer q)) → replies q h o a h2 o2 →
    Extends o o2
stands next_script h h2 o o2 a p = stands_none h h2 o o2 a p
stands (called place locals globals object arguments) h h2 o o2 a p = stands_all h h2 o o2 a p
stands (attribute place object name) h h2 o o2 a p = stands_all h h2 o o2 a p
stands (item place object key) h h2 o o2 a p = stands_all h h2 o o2 a p
stands (set_item place object key v) h h2 o o2 a p = stands_all h h2 o o2 a p
stands (script_done names) h h2 o o2 a p = stands_all h h2 o o2 a p

pub printing_kept : IsKept printing
printing_kept = record {
  same = kept_same;
  joins = kept_joined;
  later = λ a b p. p.refusals;
  told = λ a b p t. tt;
  escaped_on = λ a b c e p. absurd e;
  escaped_back = λ a b c p e. absurd e;
  names = λ h h2 name v p. rw p.1 (kept_same h);
  prints = λ h h2 text a p. kept_prints h h2 text a p;
  replies = λ q h h2 o o2 a p. kept_replies q h h2 o o2 a p;
  stands = λ q h h2 o o2 a p. stands q h h2 o o2 a p;
}

one_prints : (h h1 h2 : Printed) (text : List ℕ) (a b : Answered (Unit {0})) → prints h text a h1 →
    prints h text b h2 → (a ≡ b) × (h1 ≡ h2)
one_prints h h1 h2 text (answers u) (answers w) p q = (refl, p.1 ∙ sym q.1)
one_prints h h1 h2 text (answers u) refuses p q = absurd (p.0 q.0)
one_prints h h1 h2 text refuses (answers u) p q = absurd (q.0 p.0)
one_prints h h1 h2 text refuses refuses p q = (refl, p.1 ∙ sym q.1)

abbrev One : {X : Type 0} → Answered X → Answered X → Printed → Printed → Objects → Objects → Type 0
One a b h1 h2 o1 o2 = ((a ≡ b) × (o1 ≡ o2)) × (h1 ≡ h2)

one_all : {X : Type 0} (h h1 h2 : Printed) (o o1 o2 : Objects) (a b : Answered X) → refuses_all h o a h1 o1 →
    refuses_all h o b h2 o2 → One a b h1 h2 o1 o2
one_all h h1 h2 o o1 o2 (answers x) b p q = absurd p
one_all h h1 h2 o o1 o2 refuses (answers x) p q = absurd q
one_all h h1 h2 o o1 o2 refuses refuses p q = ((refl, p.1 ∙ sym q.1), p.0 ∙ sym q.0)

same_none : {X : Type 0} (x y : Option X) → x ≡ None → y ≡ None → answers x ≡ answers y
same_none x y p q = rw (p, q) refl

one_none : {X : Type 0} (h h1 h2 : Printed) (o o1 o2 : Objects) (a b : Answered (Option X)) → has_none h o a h1 o1 →
    has_none h o b h2 o2 → One a b h1 h2 o1 o2
one_none h h1 h2 o o1 o2 (answers x) (answers y) p q = ((same_none x y p.0 q.0, p.2 ∙ sym q.2), p.1 ∙ sym q.1)
one_none h h1 h2 o o1 o2 refuses b p q = absurd p
one_none h h1 h2 o o1 o2 (answers x) refuses p q = absurd q

one_replies : (q : Question) (h h1 h2 : Printed) (o o1 o2 : Objects) (a b : Answered (Answer q)) →
    replies q h o a h1 o1 → replies q h o b h2 o2 → One a b h1 h2 o1 o2
one_replies next_script h h1 h2 o o1 o2 a b p q = one_none h h1 h2 o o1 o2 a b p q
one_replies (called place locals globals object arguments) h h1 h2 o o1 o2 a b p q = one_all h h1 h2 o o1 o2 a b p q
one_replies (attribute place object name) h h1 h2 o o1 o2 a b p q = one_all h h1 h2 o o1 o2 a b p q
one_replies (item place object key) h h1 h2 o o1 o2 a b p q = one_all h h1 h2 o o1 o2 a b p q
one_replies (set_item place object key v) h h1 h2 o o1 o2 a b p q = one_all h h1 h2 o o1 o2 a b p q
one_replies (script_done names) h h1 h2 o o1 o2 a b p q = one_all h h1 h2 o o1 o2 a b p q

pub printing_determined : IsDetermined printing
printing_determined = record {
  names = λ h1 k1 h2 k2 name v w t1 t2 s p q. inl (p.0 ∙ sym q.0, p.1 ∙ s ∙ sym q.1);
  prints =
      λ h1 k1 h2 k2 text a b t1 t2 s p q. inl (one_prints h1 k1 k2 text a b p
      (subst (λ h. prints h text b k2) (sym s) q));
  replies =
      λ question h1 k1 h2 k2 o o1 o2 a b t1 t2 s p q. inl
      (one_replies question h1 k1 k2 o o1 o2 a b p (subst (λ h. replies question h o b k2 o2) (sym s) q));
}

-- The host that replies.
pub held : (h : Replier) → replier.Keeps h h
held h = record { text = none_more h.text; refusals = omega arith }

abbrev Held : {X : Type 0} → Replier → Turn X → Type 0
Held h t = replier.Keeps h t.1 × Counts t.0 h.refusals t.1.refusals

held_answer : {X : Type 0} (h : Replier) (x : X) → Held h (answer x h)
held_answer h x = (held h, omega arith)

held_refusal : (X : Type 0) (h : Replier) → Held {X = X} h (refusal h)
held_refusal X h = (record { text = none_more h.text; refusals = (raises h.refusals).later }, raises h.refusals)

held_if : {X : Type 0} (h : Replier) (b : Bool) (t u : Turn X) → Held h t → Held h u → Held h (if b then t else u)
held_if h true t u p q = p
held_if h false t u p q = q

held_script : (h h1 : Replier) (other : Replier → Turn Given) (t : Option Tree) → replier.Keeps h h1 →
    h.refusals ≡ h1.refusals → Held h (other h1) → Held h (replier.script_or other t h1)
held_script h h1 other None k e p = p
held_script h h1 other (Some t) k e p = (k, omega arith)

held_refused : (h : Replier) → Held h (next_inner refusal h)
held_refused h =
    held_script h (record h { inner = replier.left_of h.inner }) refusal (replier.next_of h.inner)
    (record { text = none_more h.text; refusals = omega arith }) refl
    (record { text = none_more h.text; refusals = (raises h.refusals).later }, raises h.refusals)

held_nil : (h : Replier) → Held h (next_inner (answer (a_value v.Nil)) h)
held_nil h =
    held_script h (record h { inner = replier.left_of h.inner }) (answer (a_value v.Nil)) (replier.next_of h.inner)
    (record { text = none_more h.text; refusals = omega arith }) refl
    (record { text = none_more h.text; refusals = omega arith }, omega arith)

held_done : (h : Replier) (x : Option Value) → Held h (done_turn x h)
held_done h (Some x) = held_answer h (a_value x)
held_done h None = held_nil h

held_call : (h : Replier) (object : ℕ) (locals globals : Names) (given : Arguments) →
    Held h (call_turn object locals globals given h)
held_call h object locals globals given =
    held_if h (object == 0) _ _ (held_answer h (a_value (replier.first_or_nil given.positional)))
    (held_if h (object == 1) _ _ (held_refused h)
    (held_if h (object == 2) _ _ (held_answer h (some_names (with_names [] given.named)))
    (held_if h (object == 3) _ _ (held_answer h the_end)
    (held_if h (object == 4) _ _ (held_answer h (a_value (replier.number_of (length locals))))
    (held_if h (object == 5) _ _ (held_answer h (a_value (replier.number_of (length globals))))
    (held_refusal Given h))))))

held_attribute : (h : Replier) (name : List ℕ) → Held h (attribute_turn name h)
held_attribute h name =
    held_if h (bytes_eq name (codes "run")) _ _ (held_answer h (v.Object (record { 0 = 1 })))
    (held_if h (nat_lt (length name) (2 ^ 63)) _ _ (held_answer h (v.Int (pos (length name)))) (held_refusal Value h))

held_turn : (q : Question) (o : Objects) (h : Replier) → Held h (turn q o h)
held_turn (called place locals globals object given) o h = held_call h object locals globals given
held_turn (attribute place object name) o h = held_attribute h name
held_turn (item place object key) o h = held_answer h key
held_turn (set_item place object key x) o h = (record { text = (_, refl); refusals = omega arith }, omega arith)
held_turn (script_done names) o h = held_done h (value_of names (codes "answer"))
held_turn next_script o h = (record { text = none_more h.text; refusals = omega arith }, omega arith)

held_replies : (q : Question) (h h2 : Replier) (o o2 : Objects) (a : Answered (Answer q)) →
    replying.replies q h o a h2 o2 → replier.Keeps h h2 × Counts a h.refusals h2.refusals
held_replies q h h2 o o2 a p = rw (p.0, p.1) (held_turn q o h)

held_prints : (h h2 : Replier) (text : List ℕ) (a : Answered (Unit {0})) → replier.prints h text a h2 →
    replier.Keeps h h2 × Counts a h.refusals h2.refusals
held_prints h h2 text (answers u) p = rw p (record { text = (text, refl); refusals = omega arith }, omega arith)
held_prints h h2 text refuses p = absurd p

pub replying_kept : IsKept replying
replying_kept = record {
  same = held;
  joins =
      λ a b c p q. record {
        text = more_more a.text b.text c.text p.text q.text;
        refusals = let x = p.refusals in let y = q.refusals in omega arith;
      };
  later = λ a b p. p.refusals;
  told = λ a b p t. tt;
  escaped_on = λ a b c e p. absurd e;
  escaped_back = λ a b c p e. absurd e;
  names = λ h h2 name x p. rw p.1 (held h);
  prints = λ h h2 text a p. held_prints h h2 text a p;
  replies = λ q h h2 o o2 a p. held_replies q h h2 o o2 a p;
  stands = λ q h h2 o o2 a p. extends_as o o2 p.2;
}

one_printed : (h h1 h2 : Replier) (text : List ℕ) (a b : Answered (Unit {0})) → replier.prints h text a h1 →
    replier.prints h text b h2 → (a ≡ b) × (h1 ≡ h2)
one_printed h h1 h2 text (answers u) (answers w) p q = (refl, p ∙ sym q)
one_printed h h1 h2 text refuses b p q = absurd p
one_printed h h1 h2 text (answers u) refuses p q = absurd q

pub replying_determined : IsDetermined replying
replying_determined = record {
  names = λ h1 k1 h2 k2 name x y t1 t2 s p q. inl (p.0 ∙ sym q.0, p.1 ∙ s ∙ sym q.1);
  prints =
      λ h1 k1 h2 k2 text a b t1 t2 s p q. inl (one_printed h1 k1 k2 text a b p
      (subst (λ h. replier.prints h text b k2) (sym s) q));
  replies = λ question h1 k1 h2 k2 o o1 o2 a b t1 t2 s p q.
      let same = ap (turn question o) s in
      inl ((p.0 ∙ ap (λ t. t.0) same ∙ sym q.0, p.2 ∙ sym q.2), p.1 ∙ ap (λ t. t.1) same ∙ sym q.1);
}
