-- What a machine keeps, and the state that it and a frame make.
use Rattle.std.specs.Prelude.{List, map}
use Rattle.py_tree.specs.Tree.{trees, line_tree}
use Rattle.py_heap.specs.Heap.{Objects}
use Rattle.py_heap.specs.Units.{Units}
use Rattle.py_host.specs.Names.{Names}
use Rattle.py_meaning.specs.States.{State, Function, Frame}
use Rattle.py_state.specs.declared.function.Function as code
use Rattle.py_state.specs.declared.machine.Machine.{Machine}

pub record Store : Type 0 where
  pub objects : Objects
  pub units : Units
  pub globals : List Names
  pub functions : List Function

abbrev pub function_of : code.Function → Function
function_of f =
    record {
      name = f.name;
      script = f.script;
      parameters = f.parameters.items;
      locals = f.locals.keys;
      body = trees (map line_tree f.body.value.items);
    }

abbrev pub store_of : Machine → Store
store_of m =
    record {
      objects = m.heap;
      units = m.budget;
      globals = m.globals.items;
      functions = map (λ r. function_of r.value) m.functions.items;
    }

-- the state that a store and a frame make
abbrev pub state_by : Store → Frame → State
state_by m f = record { objects = m.objects; units = m.units; globals = m.globals; functions = m.functions; frame = f }

abbrev pub state_of : Machine → Frame → State
state_of m f = state_by (store_of m) f
