-- Values and their kinds.
use Rattle.py_heap.specs.declared.value.Value.{Value}
use Rattle.py_heap.specs.declared.value.Value.TheVariants as v
use Rattle.py_heap.specs.declared.kind.ValueKind.{ValueKind}
use Rattle.py_heap.specs.declared.kind.ValueKind.TheVariants as kind

abbrev pub kind_of : Value → ValueKind
kind_of v.Nil = kind.Nil
kind_of (v.Bool b) = kind.Bool
kind_of (v.Int n) = kind.Int
kind_of (v.Text id) = kind.Text
kind_of (v.List id) = kind.List
kind_of (v.Tuple id) = kind.Tuple
kind_of (v.Dict id) = kind.Dict
kind_of (v.Func id) = kind.Func
kind_of (v.Builtin b) = kind.Builtin
kind_of (v.Object id) = kind.Object
