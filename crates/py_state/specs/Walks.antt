-- What a walk of the code is left to go over.
use Rattle.std.specs.Prelude.{Option, Some, None}
use Rattle.py_heap.specs.declared.value.Value.{Value}
use Rattle.py_heap.specs.Heap.{Objects}
use Rattle.py_meaning.specs.Loops as loops
use Rattle.py_meaning.specs.Loops.{list_from, keys_from, tuple_from, text_from}
use Rattle.py_state.specs.declared.walk.Walk.{Walk}
use Rattle.py_state.specs.declared.walk.Walk.TheVariants as walk

abbrev pub plain : Walk → loops.Walk
plain (walk.List list place) = list_from list.0 place
plain (walk.Keys dict place count) = keys_from dict.0 place count
plain (walk.Tuple tuple place) = tuple_from tuple.0 place
plain (walk.Text text at) = text_from text.0 at

-- an item, the heap with it, and what is left behind it
abbrev pub told_next : Objects → Option (Value × Walk) → Option (Value × Objects × loops.Walk)
told_next h None = None
told_next h (Some next) = Some (next.0, h, plain next.1)
