-- Methods by the kind that they belong to.
use Rattle.std.specs.Prelude.{List, Err}
use Rattle.py_heap.specs.declared.value.Value.{Value}
use Rattle.py_heap.specs.declared.value.Value.TheVariants as v
use Rattle.py_heap.specs.declared.fault.ValueFault.TheVariants as fault
use Rattle.py_heap.specs.Heap.{Objects}
use Rattle.py_heap.specs.Units.{Units}
use Rattle.py_methods.specs.declared.name.Name.{Name}
use Rattle.py_compare.specs.Outcomes.{Outcome}
use Rattle.py_methods.specs.Methods.{list_method, dict_method}
use Rattle.py_methods.specs.TextMethods.{text_method}

abbrev pub method_of : Objects → Units → Value → Name → List Value → Outcome
method_of h u (v.Text id) name args = text_method h u id.0 name args
method_of h u (v.List id) name args = list_method h u id.0 name args
method_of h u (v.Dict id) name args = dict_method h u id.0 name args
method_of h u v.Nil name args = Err fault.NoMethod
method_of h u (v.Bool b) name args = Err fault.NoMethod
method_of h u (v.Int n) name args = Err fault.NoMethod
method_of h u (v.Tuple id) name args = Err fault.NoMethod
method_of h u (v.Func id) name args = Err fault.NoMethod
method_of h u (v.Builtin b) name args = Err fault.NoMethod
method_of h u (v.Object id) name args = Err fault.NoMethod
