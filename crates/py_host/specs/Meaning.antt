-- What a host means: how it answers, and what every host keeps to.
use Rattle.std.specs.Prelude.{◌≡◌, ℕ, ◌≤◌, ◌⊎◌, List, Option}
use Rattle.scons_base.specs.Rising.{Rose}
use Rattle.py_heap.specs.Heap.{Objects}
use Rattle.py_heap.specs.declared.value.Value.{Value}
use Rattle.py_host.specs.Calls.{Question, Answer, Answered, answers, refuses}
use Rattle.py_host.specs.Extends.{Extends}

-- names: what a name that neither scripts nor the language have stands for, if anything.
-- prints: a text is printed.
-- replies: what a question is answered, with the heap before and after.
-- keeps: what no call changes, whatever it answers.
-- tells: what the host says of the outside is so.
-- alike: two states that answer alike.
-- escaped: a count of the outside rose between the two.
-- refusals: how often it refused. It is told always.
pub record Meaning (H : Type 0) : Type 1 where
  pub names : H → List ℕ → Option Value → H → Type 0
  pub prints : H → List ℕ → Answered (Unit {0}) → H → Type 0
  pub replies : (q : Question) → H → Objects → Answered (Answer q) → H → Objects → Type 0
  pub keeps : H → H → Type 0
  pub tells : H → Type 0
  pub alike : H → H → Type 0
  pub escaped : H → H → Type 0
  pub refusals : H → ℕ

-- what an answer does to the count of refusals: it rises with each of them, and never falls
abbrev pub Counts : {X : Type 0} → Answered X → ℕ → ℕ → Type 0
Counts (answers x) before now = before ≤ now
Counts refuses before now = Rose before now

-- What is kept is kept over any calls, by every call; refusals are counted; who tells now told before; a count that rose stays
-- up. What stood in the heap stands there after a reply.
pub record IsKept {H : Type 0} (m : Meaning H) : Type 0 where
  pub same : (h : H) → m.keeps h h
  pub joins : (a b c : H) → m.keeps a b → m.keeps b c → m.keeps a c
  pub later : (a b : H) → m.keeps a b → m.refusals a ≤ m.refusals b
  pub told : (a b : H) → m.keeps a b → m.tells b → m.tells a
  pub escaped_on : (a b c : H) → m.escaped a b → m.keeps b c → m.escaped a c
  pub escaped_back : (a b c : H) → m.keeps a b → m.escaped b c → m.escaped a c
  pub names : (h h2 : H) (name : List ℕ) (v : Option Value) → m.names h name v h2 → m.keeps h h2
  pub prints : (h h2 : H) (text : List ℕ) (a : Answered (Unit {0})) → m.prints h text a h2 → m.keeps h h2 × Counts a (m.refusals h) (m.refusals h2)
  pub replies : (q : Question) (h h2 : H) (o o2 : Objects) (a : Answered (Answer q)) → m.replies q h o a h2 o2 → m.keeps h h2 × Counts a (m.refusals h) (m.refusals h2)
  pub stands : (q : Question) (h h2 : H) (o o2 : Objects) (a : Answered (Answer q)) → m.replies q h o a h2 o2 → Extends o o2

-- from h1 to k1 and from h2 to k2: both are the same, and end alike, unless a count rose on one of the ways
abbrev pub SameUnlessEscaped : {H : Type 0} → Meaning H → Type 0 → H → H → H → H → Type 0
SameUnlessEscaped m same h1 k1 h2 k2 = (same × m.alike k1 k2) ⊎ (m.escaped h1 k1 ⊎ m.escaped h2 k2)

-- Two answers to one question from states that are alike are one, and the states after them are alike, unless one escaped; this
-- is so where the host tells at the end of both.
pub record IsDetermined {H : Type 0} (m : Meaning H) : Type 0 where
  pub names : (h1 k1 h2 k2 : H) (name : List ℕ) (v w : Option Value) → m.tells k1 → m.tells k2 → m.alike h1 h2 → m.names h1 name v k1 → m.names h2 name w k2 → SameUnlessEscaped m (v ≡ w) h1 k1 h2 k2
  pub prints : (h1 k1 h2 k2 : H) (text : List ℕ) (a b : Answered (Unit {0})) → m.tells k1 → m.tells k2 → m.alike h1 h2 → m.prints h1 text a k1 → m.prints h2 text b k2 → SameUnlessEscaped m (a ≡ b) h1 k1 h2 k2
  pub replies : (q : Question) (h1 k1 h2 k2 : H) (o o1 o2 : Objects) (a b : Answered (Answer q)) → m.tells k1 → m.tells k2 → m.alike h1 h2 → m.replies q h1 o a k1 o1 → m.replies q h2 o b k2 o2 → SameUnlessEscaped m ((a ≡ b) × (o1 ≡ o2)) h1 k1 h2 k2
