-- What a reading over a world comes to beside one over plain files.
use Rattle.std.specs.Prelude.{◌≡◌, ◌⊎◌, ℕ, List, Option, Some, None, Result, Ok, Err}
use Rattle.py_heap.specs.declared.value.Value.{Value}
use Rattle.py_heap.specs.Heap.{Objects}
use Rattle.py_host.specs.Calls.{Question, Answer, answers, refuses}
use Rattle.py_host.specs.Meaning.{Meaning}
use Rattle.py_meaning.specs.declared.fault.EvalKind.{EvalKind}
use Rattle.py_meaning.specs.declared.fault.EvalKind.TheVariants as kind
use Rattle.py_meaning.specs.States.{Out, Fault}
use Rattle.scons_host.specs.Turns.{Turn, Rules, answers_with, ends_with}
use Rattle.scons_host.specs.Plain.{Plain, in_state, with_printed}

-- what is kept is an end of the outside
abbrev pub IsFrom : {E : Type 0} → (E → Type 0) → Option E → Type 0
IsFrom outside None = ⊥
IsFrom outside (Some e) = outside e

-- what is kept is the end of the turn, or one of the outside
abbrev pub Ends : {S E X : Type 0} → (E → Type 0) → Turn S E X → Option E → Type 0
Ends outside t None = ⊥
Ends outside t (Some e) = outside e ⊎ (t ≡ ends_with e)

-- A host answers by rules over files: `see` is what is seen of it as a plain host, `outside` are the ends of the outside. It says so of
-- calls between states of which `sees` is so, as that the outside is told of at the second and the files are those that stand there;
-- what is so of a run is so of each part of it.
pub record Says {H F S E : Type 0} (m : Meaning H) (r : Rules F S E) (f : F) (see : H → Plain S E) (outside : E → Type 0) (sees : H → H → Type 0) : Type 0 where
  pub front : (a b c : H) → m.keeps a b → m.keeps b c → sees a c → sees a b
  pub rest : (a b c : H) → m.keeps a b → m.keeps b c → sees a c → sees b c
  pub names : (h k : H) (name : List ℕ) (v : Option Value) → sees h k → m.names h name v k
      → (v ≡ r.name (see h).state name) × (see k ≡ see h)
  pub printed : (h k : H) (text : List ℕ) → sees h k → m.prints h text (answers tt) k → see k ≡ with_printed (see h) text
  pub unprinted : (h k : H) (text : List ℕ) → sees h k → m.prints h text refuses k → IsFrom outside (see k).end
  pub answered : (q : Question) (h k : H) (o p : Objects) (x : Answer q) → sees h k → m.replies q h o (answers x) k p
      → (r.turn f q (see h).state o ≡ answers_with x (see k).state p) × (see k ≡ in_state (see h) (see k).state)
  pub refused : (q : Question) (h k : H) (o p : Objects) → sees h k → m.replies q h o refuses k p
      → Ends outside (r.turn f q (see h).state o) (see k).end × ((see k).printed ≡ (see h).printed)

-- an end that is kept: one of the outside, or that of a reading over plain files, which has printed the same
abbrev pub IsEnd : {S E : Type 0} → (E → Type 0) → (Plain S E → Type 0) → List ℕ → Option E → Type 0
IsEnd outside reads printed None = ⊥
IsEnd {S = S} {E = E} outside reads printed (Some e) = outside e ⊎ ((p : Plain S E) × reads p × (p.end ≡ Some e) × (p.printed ≡ printed))

abbrev pub ComesBy : {S E : Type 0} → EvalKind → (E → Type 0) → (Plain S E → Type 0) → Plain S E → Type 0
ComesBy kind.Host outside reads k = IsEnd outside reads k.printed k.end
ComesBy (kind.Name name) outside reads k = reads k
ComesBy (kind.Value fault) outside reads k = reads k
ComesBy (kind.Args called) outside reads k = reads k
ComesBy kind.NotCallable outside reads k = reads k
ComesBy kind.Depth outside reads k = reads k

-- what a reading over plain files comes to (`reads`) is all that is seen of the host behind it; where the host refused, its end alone
abbrev pub Comes : {S E : Type 0} → Result Out Fault → (E → Type 0) → (Plain S E → Type 0) → Plain S E → Type 0
Comes (Ok out) outside reads k = reads k
Comes (Err fault) outside reads k = ComesBy fault.kind outside reads k
