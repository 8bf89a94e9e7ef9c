-- What scripts share: scons(1) under Export, Import and Return.
use Rattle.std.specs.Prelude.{ℕ, ◌-◌, List, [], ◌∷◌, Option, Some, None, Result, Ok, codes, length, slice_get, slice_set, if◌then◌else◌}
use Rattle.std.specs.Option.{ok_or, option_or}
use Rattle.std.specs.Str.{bytes_eq}
use Rattle.py_heap.specs.declared.value.Value.{Value}
use Rattle.py_heap.specs.Given.{given_tuple}
use Rattle.py_heap.specs.Heap.{Objects}
use Rattle.py_host.specs.Names.{Names, value_of, with_name, with_names}
use Rattle.scons_calls.specs.declared.exports.Exports.{Exports}
use Rattle.scons_calls.specs.Results.{and_then, along, each}
use Rattle.scons_host.specs.declared.stop.Refusal.{Refusal}
use Rattle.scons_host.specs.Refusals.{of_value, not_exported, told_by}
use Rattle.scons_host.specs.SoFar.{SoFar, Waiting}

-- the value of a name where a call stands: a name of the function that calls, or else of its script
abbrev pub value_at : Names → Names → List ℕ → Result Value Refusal
value_at locals globals name = ok_or (option_or (value_of locals name) (value_of globals name)) (not_exported name)

abbrev pub exported_name : Names → Names → Names → List ℕ → Result Names Refusal
exported_name locals globals scope name = and_then (value_at locals globals name) (λ x. Ok (with_name scope name x))

-- a scope with what a call exports: the names with the values that they have there, then the values that it gives itself
abbrev pub with_exports : Names → Names → Names → Exports → Result Names Refusal
with_exports locals globals scope exports =
    and_then (along (exported_name locals globals) scope exports.names) (λ named. Ok (with_names named exports.values))

-- `Export(..)`
abbrev pub export : SoFar → Names → Names → Exports → Result SoFar Refusal
export s locals globals exports =
    and_then (with_exports locals globals s.exports exports) (λ scope. Ok (record s { exports = scope }))

-- the call of SConscript that reads the script that runs; a first script has none
abbrev pub innermost : SoFar → Option Waiting
innermost s = slice_get s.waiting (length s.waiting - 1)

abbrev pub exports_in : Option Waiting → Names
exports_in (Some call) = call.exports
exports_in None = []

-- the value that is exported under a name: by the call that reads the script, or else to all scripts
abbrev pub exported : SoFar → List ℕ → Result Value Refusal
exported s name = ok_or (option_or (value_of (exports_in (innermost s)) name) (value_of s.exports name)) (not_exported name)

-- all that is exported, that of the call in front of that to all
abbrev pub with_all : SoFar → Names → Names
with_all s scope = with_names (with_names scope s.exports) (exports_in (innermost s))

abbrev pub imported_name : SoFar → Names → List ℕ → Result Names Refusal
imported_name s scope name =
    if bytes_eq name (codes "*") then Ok (with_all s scope)
    else and_then (exported s name) (λ x. Ok (with_name scope name x))

-- `Import(..)`: the names that are set in the script
abbrev pub import : SoFar → List (List ℕ) → Result Names Refusal
import s names = along (imported_name s) [] names

abbrev pub returned_in : List Waiting → Value → Option Waiting → List Waiting
returned_in waiting x (Some call) = slice_set waiting (length waiting - 1) (record call { returned = x })
returned_in waiting x None = waiting

-- calls that wait, where the script of the innermost one has returned this; a first script returns it to no one
abbrev pub with_returned : List Waiting → Value → List Waiting
with_returned waiting x = returned_in waiting x (slice_get waiting (length waiting - 1))

-- what a script returns is kept for its call
abbrev pub keep : SoFar → Value → SoFar
keep s x = record s { waiting = with_returned s.waiting x }

-- one value as it is, several as a tuple
abbrev pub one_or_tuple : Objects → List Value → Result (Value × Objects) Refusal
one_or_tuple h (x ∷ []) = Ok (x, h)
one_or_tuple h values = told_by of_value (given_tuple h values)

-- `Return(..)`
abbrev pub return : SoFar → Objects → Names → Names → List (List ℕ) → Result (SoFar × Objects) Refusal
return s h locals globals names =
    and_then (each (value_at locals globals) names) (λ values.
    and_then (one_or_tuple h values) (λ m. Ok (keep s m.0, m.1)))
