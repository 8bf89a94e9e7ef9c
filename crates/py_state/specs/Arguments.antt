-- The value that a parameter takes, and arguments by name that no parameter takes.
use Rattle.std.specs.Prelude.{Bool, true, ◌&&◌, [], ◌∷◌, Option, Some, None, is_some}
use Rattle.py_heap.specs.declared.value.Value.{Value}
use Rattle.py_host.specs.Names.{Names, value_of}

-- by its positional argument, the argument of its name, and its default: none where it has both arguments, or nothing
abbrev pub taken_value : Option Value → Option Value → Option Value → Option Value
taken_value (Some v) (Some w) default = None
taken_value (Some v) None default = Some v
taken_value None (Some w) default = Some w
taken_value None None default = default

-- whether each argument by name has its name among those that were set
abbrev pub all_set : Names → Names → Bool
all_set names [] = true
all_set names (e ∷ es) = is_some (value_of names e.0) && all_set names es
