-- Arguments and parameters: section 6.3.4 ("Calls") of the Python language reference.
use Rattle.std.specs.Prelude.{ℕ, Bool, true, ◌&&◌, List, [], ◌∷◌, ◌++◌, Option, Some, None, if◌then◌else◌, is_some}
use Rattle.std.specs.List.{list_any}
use Rattle.std.specs.Str.{bytes_eq}
use Rattle.py_tree.specs.Tree.{Tree, nil, cons, named, parameter, absent}
use Rattle.py_heap.specs.declared.value.Value.{Value}
use Rattle.py_host.specs.Names.{Names, value_of, with_name}
use Rattle.py_host.specs.Calls.{Arguments}
use Rattle.py_meaning.specs.States.{Parameter}

abbrev pub with_argument : Arguments → Tree → Value → Arguments
with_argument given (named l n t) v = record given { named = with_name given.named n v }
with_argument given other v = record given { positional = given.positional ++ v ∷ [] }

-- the arguments that stand in a call, with their values behind others
abbrev pub arguments_onto : Arguments → Tree → List Value → Arguments
arguments_onto given (cons t ts) (v ∷ vs) = arguments_onto (with_argument given t v) ts vs
arguments_onto given ts vs = given

abbrev pub arguments_by : Tree → List Value → Arguments
arguments_by ts vs = arguments_onto (record { positional = []; named = [] }) ts vs

-- the value of a parameter without a positional argument: by its name, or its default
abbrev pub by_name : Option Value → Option Value → Option Value
by_name (Some v) default = Some v
by_name None default = default

-- a parameter takes its value: none where it has none, or where it gets a second one
abbrev pub and_then : Option Names → (Names → Option Names) → Option Names
and_then None f = None
and_then (Some names) f = f names

abbrev pub bind_one : Names → List ℕ → Option Value → Option Names
bind_one bound n None = None
bind_one bound n (Some v) = Some (with_name bound n v)

abbrev pub bind_first : Names → Names → List ℕ → Value → Option Names
bind_first bound by n v = if is_some (value_of by n) then None else Some (with_name bound n v)

-- the parameters in turn: the positional arguments go to the first ones
abbrev pub bound_onto : Names → List Parameter → List Value → Names → Option Names
bound_onto bound [] [] by = Some bound
bound_onto bound [] (v ∷ vs) by = None
bound_onto bound (p ∷ ps) (v ∷ vs) by = and_then (bind_first bound by p.name v) (λ more. bound_onto more ps vs by)
bound_onto bound (p ∷ ps) [] by =
    and_then (bind_one bound p.name (by_name (value_of by p.name) p.default)) (λ more. bound_onto more ps [] by)

-- whether each named argument names a parameter
abbrev pub all_known : List Parameter → Names → Bool
all_known ps [] = true
all_known ps (e ∷ es) = list_any (λ (p : Parameter). bytes_eq e.0 p.name) ps && all_known ps es

-- the names that a call of a function sets, where its arguments fit the parameters
abbrev pub bound : List Parameter → Arguments → Option Names
bound ps given = if all_known ps given.named then bound_onto [] ps given.positional given.named else None

-- the parameters of a `def`, with the values of those defaults that stand there
abbrev pub parameters_by : Tree → List Value → List Parameter
parameters_by (cons (parameter l n absent) ps) vs = record { name = n; default = None } ∷ parameters_by ps vs
parameters_by (cons (parameter l n d) ps) [] = record { name = n; default = None } ∷ parameters_by ps []
parameters_by (cons (parameter l n d) ps) (v ∷ vs) = record { name = n; default = Some v } ∷ parameters_by ps vs
parameters_by other vs = []

-- the defaults that are to be evaluated
abbrev pub defaults_of : Tree → Tree
defaults_of (cons (parameter l n absent) ps) = defaults_of ps
defaults_of (cons (parameter l n d) ps) = cons d (defaults_of ps)
defaults_of other = nil
