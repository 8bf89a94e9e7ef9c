-- What scripts are answered where files stay: a function of the files, of what was read so far, and of the heap.
use Rattle.std.specs.Prelude.{ℕ, List, Option}
use Rattle.py_heap.specs.declared.value.Value.{Value}
use Rattle.py_heap.specs.Heap.{Objects}
use Rattle.py_host.specs.Calls.{Question, Answer}

-- an answer, with the state and the heap after it; or an end of the reading
pub data Turn (S E X : Type 0) : Type 0 where
  answers_with : X → S → Objects → Turn S E X
  ends_with : E → Turn S E X

-- what a name stands for in a state, and the turn of each question over files
pub record Rules (F S E : Type 0) : Type 0 where
  pub name : S → List ℕ → Option Value
  pub turn : F → (q : Question) → S → Objects → Turn S E (Answer q)
