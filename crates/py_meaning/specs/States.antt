-- What stands while scripts run, and how what was to be done comes out.
use Rattle.std.specs.Prelude.{ℕ, List, [], Option, Some, None, slice_set, slice_index_or}
use Rattle.py_tree.specs.Tree.{Tree}
use Rattle.py_heap.specs.declared.value.Value.{Value}
use Rattle.py_heap.specs.Heap.{Objects}
use Rattle.py_heap.specs.Units.{Units}
use Rattle.py_host.specs.declared.place.Place.{Place}
use Rattle.py_host.specs.Names.{Names, with_name, with_names}
use Rattle.py_meaning.specs.declared.fault.EvalKind.{EvalKind}
use Rattle.py_meaning.specs.declared.fault.Exit.{Exit}

-- a parameter, with the value of its default
pub record Parameter : Type 0 where
  pub name : List ℕ
  pub default : Option Value

-- what a `def` makes: section 8.7 ("Function definitions") of the Python language reference
pub record Function : Type 0 where
  -- the name that the `def` has
  pub name : List ℕ
  -- the script in which it stands
  pub script : ℕ
  pub parameters : List Parameter
  pub locals : List (List ℕ)
  pub body : Tree

-- what names stand for at a place of a script
pub record Frame : Type 0 where
  -- the script in which the place is
  pub script : ℕ
  -- the script that runs, from which a function of another one may have been called
  pub running : ℕ
  -- in a function, the names that are local
  pub locals : Option (List (List ℕ))
  -- the local names that are set
  pub values : Names
  -- the names of the comprehensions round the place, the innermost ones first
  pub inner : List Names

pub record State : Type 0 where
  pub objects : Objects
  pub units : Units
  -- the global names of each script, by its number: one entry for each script that has begun
  pub globals : List Names
  -- by the numbers of function values
  pub functions : List Function
  pub frame : Frame

pub data Out : Type 0 where
  -- an expression gives a value, or several do
  gives : Value → State → Out
  all_give : List Value → State → Out
  -- a statement goes on with the next one, leaves the loop, goes on with its next turn, leaves the function with a value
  goes_on : State → Out
  breaks : State → Out
  continues : State → Out
  returns : Value → State → Out
  -- the script that runs ends
  ends : State → Out
  -- all scripts have run
  exits : Exit → State → Out

abbrev pub state_in : Out → State
state_in (gives x s) = s
state_in (all_give xs s) = s
state_in (goes_on s) = s
state_in (breaks s) = s
state_in (continues s) = s
state_in (returns x s) = s
state_in (ends s) = s
state_in (exits exit s) = s

-- a fault on a line of a script
pub record Fault : Type 0 where
  pub place : Place
  pub kind : EvalKind

-- a line of the script in which the place is
abbrev pub place_at : ℕ → State → Place
place_at line s = record { script = s.frame.script; line = line }

abbrev pub with_objects : State → Objects → State
with_objects s o = record s { objects = o }

abbrev pub with_units : State → Units → State
with_units s u = record s { units = u }

abbrev pub with_frame : State → Frame → State
with_frame s f = record s { frame = f }

-- the state after an operation on values, which gives a value, the heap and the units
abbrev pub after_operation : State → Value × Objects × Units → State
after_operation s made = record s { objects = made.1; units = made.2 }

abbrev pub globals_at : State → ℕ → Names
globals_at s n = slice_index_or s.globals n []

-- a global name set in a script
abbrev pub with_global : State → ℕ → List ℕ → Value → State
with_global s n name v = record s { globals = slice_set s.globals n (with_name (globals_at s n) name v) }

abbrev pub with_globals : State → ℕ → Names → State
with_globals s n names = record s { globals = slice_set s.globals n (with_names (globals_at s n) names) }

-- the frame of a script's own level
abbrev pub script_frame : ℕ → Frame
script_frame n = record { script = n; running = n; locals = None; values = []; inner = [] }

-- the frame of a function's body
abbrev pub function_frame : Frame → Function → Names → Frame
function_frame caller f values =
    record { script = f.script; running = caller.running; locals = Some f.locals; values = values; inner = [] }
