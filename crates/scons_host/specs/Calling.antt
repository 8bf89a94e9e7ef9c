-- The call of an object: what is asked, bound and typed, and then what is done.
use Rattle.std.specs.Prelude.{ℕ, Ok}
use Rattle.py_heap.specs.declared.value.Value.{Value}
use Rattle.py_heap.specs.Heap.{Objects}
use Rattle.py_host.specs.Calls.{Arguments, Given, a_value}
use Rattle.py_host.specs.declared.place.Place.{Place}
use Rattle.py_host.specs.Names.{Names}
use Rattle.scons_calls.specs.declared.request.Request.{Request}
use Rattle.scons_calls.specs.declared.request.Request.TheVariants as request
use Rattle.scons_calls.specs.Results.{and_then}
use Rattle.scons_host.specs.Answers.{gives}
use Rattle.scons_host.specs.Asked.{Step}
use Rattle.scons_host.specs.Called.{asks, shares}
use Rattle.scons_host.specs.Files.{Files}
use Rattle.scons_host.specs.Globbing.{glob}
use Rattle.scons_host.specs.Refusals.{of_refusal, told_by}
use Rattle.scons_host.specs.Scripts.{Look, sconscript}
use Rattle.scons_host.specs.SoFar.{SoFar}

abbrev pub valued : Value × SoFar × Objects → Look Given
valued m = Ok (a_value m.0, m.1, m.2)

-- a step that gives a value, as an answer
abbrev pub as_value : Step Value → Look Given
as_value step = and_then (told_by of_refusal step) valued

-- what is asked is done, by the names of the function that calls and of its script
abbrev pub answered : Files → SoFar → Objects → Place → Names → Names → ℕ → Request → Look Given
answered f s h place locals globals env (request.Glob pattern) = as_value (glob f s h env pattern)
answered f s h place locals globals env (request.Scripts asked) = sconscript f s h place locals globals env asked
answered f s h place locals globals env (request.Shares asked) = told_by of_refusal (shares s h locals globals asked)
answered f s h place locals globals env (request.Gives asked) = as_value (gives s h place env asked)

abbrev pub answered_in : Files → SoFar → Objects → Place → Names → Names → ℕ × Request → Look Given
answered_in f s h place locals globals a = answered f s h place locals globals a.0 a.1

-- the call of an object
abbrev pub call : Files → SoFar → Objects → Place → Names → Names → ℕ → Arguments → Look Given
call f s h place locals globals object args = and_then (told_by of_refusal (asks s h object args)) (answered_in f s h place locals globals)
