-- The meaning of a host that holds references: that of what is seen of it, and that it holds the same references still.
use Rattle.std.specs.Prelude.{◌≡◌, ℕ, List, Option}
use Rattle.py_heap.specs.declared.value.Value.{Value}
use Rattle.py_heap.specs.Heap.{Objects}
use Rattle.py_host.specs.Calls.{Question, Answer, Answered}
use Rattle.py_host.specs.Meaning.{Meaning}

-- by what is seen of it, and the names of its references
abbrev pub lent : {H S N : Type 0} → (H → S) → (H → N) → Meaning S → Meaning H
lent see held m = record {
  names = λ h name v h2. (held h2 ≡ held h) × m.names (see h) name v (see h2);
  prints = λ h text a h2. (held h2 ≡ held h) × m.prints (see h) text a (see h2);
  replies = λ q h o a h2 o2. (held h2 ≡ held h) × m.replies q (see h) o a (see h2) o2;
  keeps = λ h h2. (held h2 ≡ held h) × m.keeps (see h) (see h2);
  tells = λ h. m.tells (see h);
  alike = λ h k. m.alike (see h) (see k);
  escaped = λ h h2. m.escaped (see h) (see h2);
  refusals = λ h. m.refusals (see h);
}

-- a host means by what is seen of it: whatever it answers, that is answered
pub record Simulates {H S : Type 0} (see : H → S) (big : Meaning H) (m : Meaning S) : Type 0 where
  pub names : (h h2 : H) (name : List ℕ) (v : Option Value) → big.names h name v h2 → m.names (see h) name v (see h2)
  pub prints : (h h2 : H) (text : List ℕ) (a : Answered (Unit {0})) → big.prints h text a h2 → m.prints (see h) text a (see h2)
  pub replies : (q : Question) (h h2 : H) (o o2 : Objects) (a : Answered (Answer q)) → big.replies q h o a h2 o2 → m.replies q (see h) o a (see h2) o2
