-- What a number of a script and a name of a variable stand for.
use Rattle.std.specs.Prelude.{ℕ, List, Option, Some, None, Ok, slice_get, unwrap_or}
use Rattle.env_vars.specs.declared.value.EnvValue.{EnvValue}
use Rattle.py_heap.specs.declared.value.Value.{Value}
use Rattle.py_heap.specs.Heap.{Objects}
use Rattle.py_host.specs.declared.place.Place.{Place}
use Rattle.scons_calls.specs.Results.{and_then}
use Rattle.scons_host.specs.Asked.{Step, variable, variable_step}
use Rattle.scons_host.specs.SoFar.{SoFar}

-- the script of a number; the top directory where none has begun
abbrev pub script_at : SoFar → ℕ → List ℕ
script_at s number = unwrap_or (slice_get s.scripts number) s.top

abbrev variable_or : Objects → Value → Option EnvValue × SoFar → Step Value
variable_or h other (Some x, s) = variable_step s h x
variable_or h other (None, s) = Ok (other, s, h)

-- `env.get(name, other)`
abbrev pub get : SoFar → Objects → Place → ℕ → List ℕ → Value → Step Value
get s h place env name other = and_then (variable s place env name) (variable_or h other)
