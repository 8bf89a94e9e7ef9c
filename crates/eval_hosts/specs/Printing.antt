-- What the host that prints means.
use Rattle.std.specs.Prelude.{◌≡◌, ◌≢◌, ℕ, ◌-◌, ◌≤◌, List, ◌++◌, Option, Some, None}
use Rattle.py_heap.specs.Heap.{Objects}
use Rattle.py_host.specs.Calls.{Question, Answer, Answered, answers, refuses, called, attribute, item, set_item}
use Rattle.py_host.specs.Calls.{script_done, next_script}
use Rattle.py_host.specs.Meaning.{Meaning}
use Rattle.eval_hosts.specs.Refusals.{raised}
use Rattle.eval_hosts.specs.Texts.{Grown}

pub record Printed : Type 0 where
  pub text : List ℕ
  -- the texts that are still printed, if there is a last one
  pub left : Option ℕ
  pub refusals : ℕ

abbrev pub refused : Printed → Printed
refused h = record h { refusals = raised h.refusals }

abbrev pub one_less : Option ℕ → Option ℕ
one_less None = None
one_less (Some n) = Some (n - 1)

abbrev pub with_text : Printed → List ℕ → Printed
with_text h text = record { text = h.text ++ text; left = one_less h.left; refusals = h.refusals }

abbrev pub prints : Printed → List ℕ → Answered (Unit {0}) → Printed → Type 0
prints h text (answers u) h2 = (h.left ≢ Some 0) × (h2 ≡ with_text h text)
prints h text refuses h2 = (h.left ≡ Some 0) × (h2 ≡ refused h)

-- it knows no object and begins no script: it refuses all but to say that there is no further script
abbrev pub refuses_all : {X : Type 0} → Printed → Objects → Answered X → Printed → Objects → Type 0
refuses_all h o (answers x) h2 o2 = ⊥
refuses_all h o refuses h2 o2 = (h2 ≡ refused h) × (o2 ≡ o)

abbrev pub has_none : {X : Type 0} → Printed → Objects → Answered (Option X) → Printed → Objects → Type 0
has_none h o (answers x) h2 o2 = (x ≡ None) × (h2 ≡ h) × (o2 ≡ o)
has_none h o refuses h2 o2 = ⊥

abbrev pub replies : (q : Question) → Printed → Objects → Answered (Answer q) → Printed → Objects → Type 0
replies next_script h o a h2 o2 = has_none h o a h2 o2
replies (called place locals globals object arguments) h o a h2 o2 = refuses_all h o a h2 o2
replies (attribute place object name) h o a h2 o2 = refuses_all h o a h2 o2
replies (item place object key) h o a h2 o2 = refuses_all h o a h2 o2
replies (set_item place object key v) h o a h2 o2 = refuses_all h o a h2 o2
replies (script_done names) h o a h2 o2 = refuses_all h o a h2 o2

-- what was printed stays printed, whatever is asked, and refusals are counted
pub record Keeps (h h2 : Printed) : Type 0 where
  pub text : Grown h.text h2.text
  pub refusals : h.refusals ≤ h2.refusals

abbrev pub printing : Meaning Printed
printing = record {
  names = λ h name v h2. (v ≡ None) × (h2 ≡ h);
  prints = prints;
  replies = replies;
  keeps = Keeps;
  tells = λ h. Unit {0};
  alike = λ h k. h ≡ k;
  escaped = λ h h2. ⊥;
  refusals = λ h. h.refusals;
}
