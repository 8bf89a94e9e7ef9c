-- A host that answers by rules over files that stay, and prints on a text that takes all. It is the measure of what a reading gives.
use Rattle.std.specs.Prelude.{◌≡◌, ◌≤◌, ◌+◌, ◌++◌, ℕ, List, Option, Some}
use Rattle.py_heap.specs.Heap.{Objects}
use Rattle.py_host.specs.Calls.{Answered, answers, refuses}
use Rattle.py_host.specs.Extends.{Extends}
use Rattle.py_host.specs.Meaning.{Meaning}
use Rattle.scons_host.specs.Turns.{Turn, Rules, answers_with, ends_with}

-- what was read so far, the text that was printed, and the end of the reading once there is one
pub record Plain (S E : Type 0) : Type 0 where
  pub state : S
  pub printed : List ℕ
  pub end : Option E
  pub refusals : ℕ

abbrev pub in_state : {S E : Type 0} → Plain S E → S → Plain S E
in_state h s = record { state = s; printed = h.printed; end = h.end; refusals = h.refusals }

abbrev pub with_printed : {S E : Type 0} → Plain S E → List ℕ → Plain S E
with_printed h text = record { state = h.state; printed = h.printed ++ text; end = h.end; refusals = h.refusals }

abbrev pub ended : {S E : Type 0} → Plain S E → E → Plain S E
ended h e = record { state = h.state; printed = h.printed; end = Some e; refusals = h.refusals + 1 }

-- what is answered is the turn's answer, and the state and the heap after are the turn's; a refusal is its end
abbrev pub Answers : {S E X : Type 0} → Turn S E X → Plain S E → Objects → Answered X → Plain S E → Objects → Type 0
Answers (answers_with x s o2) h o (answers y) k p = (y ≡ x) × (k ≡ in_state h s) × (p ≡ o2)
Answers (answers_with x s o2) h o refuses k p = ⊥
Answers (ends_with e) h o (answers y) k p = ⊥
Answers (ends_with e) h o refuses k p = (k ≡ ended h e) × (p ≡ o)

-- a print is never refused
abbrev pub Takes : {S E : Type 0} → Plain S E → List ℕ → Answered (Unit {0}) → Plain S E → Type 0
Takes h text (answers u) k = k ≡ with_printed h text
Takes h text refuses k = ⊥

abbrev pub plain : {F S E : Type 0} → Rules F S E → F → Meaning (Plain S E)
plain r f = record {
  names = λ h name v k. (v ≡ r.name h.state name) × (k ≡ h);
  prints = λ h text a k. Takes h text a k;
  replies = λ q h o a k p. Answers (r.turn f q h.state o) h o a k p × Extends o p;
  keeps = λ h k. h.refusals ≤ k.refusals;
  tells = λ h. Unit {0};
  alike = λ h k. h ≡ k;
  escaped = λ h k. ⊥;
  refusals = λ h. h.refusals;
}
