-- The calls on environments.
use Rattle.std.specs.Prelude.{ℕ, length, List, Option, Some, None, Result, Ok, Err, codes, ◌||◌, if◌then◌else◌}
use Rattle.std.specs.Str.{bytes_eq}
use Rattle.world_api.specs.declared.decider.Decider.{Decider}
use Rattle.world_api.specs.declared.decider.Decider.TheVariants as decider
use Rattle.env_vars.specs.declared.value.EnvValue.{EnvValue}
use Rattle.env_vars.specs.Vars.{Var}
use Rattle.env_pieces.specs.declared.form.Mode.{Mode}
use Rattle.scons_decls.specs.declared.answer.Answer.TheVariants as answer
use Rattle.scons_decls.specs.declared.call.Change.{Change}
use Rattle.scons_decls.specs.declared.call.Change.TheVariants.{Append, Prepend, AppendUnique, Replace, SetDefault}
use Rattle.scons_decls.specs.declared.fault.NameFault.{NameFault}
use Rattle.scons_decls.specs.declared.fault.NameFault.TheVariants.{BadArgument, Kinds}
use Rattle.scons_decls.specs.declared.given.Variables.{Variables}
use Rattle.scons_decls.specs.Steps.{and_then, in_turn}
use Rattle.scons_decls.specs.Profile.{may_set, may_read}
use Rattle.scons_decls.specs.References.{value_allowed, vars_allowed}
use Rattle.scons_decls.specs.Environs.{Environs, with_new, with_clone, with_builder, with_decider, with_value, with_default, with_behind, with_in_front, with_missing, variable_of, value_given, expanded}
use Rattle.scons_decls.specs.State.{Declared}
use Rattle.scons_declare.specs.Calls.{Outcome, silent, with_envs}

-- the environments after a value was added, or that the kinds don't fit
abbrev pub or_kinds : List ℕ → Option Environs → Result Environs NameFault
or_kinds name None = Err (Kinds name)
or_kinds name (Some e) = Ok e

-- `Append` and its kin put a value behind or in front of what the variable has, `Replace` in its place, `SetDefault` where it
-- has none
abbrev pub changed : Change → Environs → ℕ → List ℕ → EnvValue → Result Environs NameFault
changed Append e env name value = or_kinds name (with_behind e env name value)
changed Prepend e env name value = or_kinds name (with_in_front e env name value)
changed AppendUnique e env name value = or_kinds name (with_missing e env name value)
changed Replace e env name value = Ok (with_value e env name value)
changed SetDefault e env name value = Ok (with_default e env name value)

-- what is declared after environments changed
abbrev pub or_declared : Declared → Result Environs NameFault → Result Declared NameFault
or_declared d result = and_then result (λ e. Ok (with_envs e d))

-- variables of an environment changed, one after another
abbrev pub one_changed : Change → ℕ → Var → Declared → Result Declared NameFault
one_changed how env var d = or_declared d (changed how d.envs env var.0 var.1)

abbrev pub all_changed : Change → ℕ → List Var → Declared → Result Declared NameFault
all_changed how env vars d = in_turn (one_changed how env) vars d

-- and builders given to it
abbrev pub builder_set : ℕ → List ℕ × ℕ → Declared → Result Declared NameFault
builder_set env b d = Ok (with_envs (with_builder d.envs env b.0 b.1) d)

abbrev pub builders_set : ℕ → List (List ℕ × ℕ) → Declared → Result Declared NameFault
builders_set env builders d = in_turn (builder_set env) builders d

-- `env.Append`, `env.Prepend`, `env.AppendUnique`, `env.Replace` and `env.SetDefault`
abbrev pub change : Declared → ℕ → Change → Variables → Outcome
change d env how vars =
    and_then (vars_allowed vars.values) (λ u.
    and_then (all_changed how env vars.values d) (λ e.
    and_then (builders_set env vars.builders e) silent))

-- `Environment(NAME=value, ..)`: a new environment in which these are set
abbrev pub environment : Declared → Variables → Outcome
environment d vars =
    and_then (vars_allowed vars.values) (λ u.
    and_then (change (with_envs (with_new d.envs) d) (length d.envs.scopes) Replace vars) (λ r.
    Ok (answer.Env (record { 0 = length d.envs.scopes }), r.1)))

-- `DefaultEnvironment(NAME=value, ..)`: these are set in the one default environment
abbrev pub default_environment : Declared → Variables → Outcome
default_environment d vars = and_then (change d 0 Replace vars) (λ r. Ok (answer.Env (record { 0 = 0 }), r.1))

-- one variable that is given to a clone
abbrev pub one_given : ℕ → ℕ → Var → Declared → Result Declared NameFault
one_given env clone var d =
    and_then (value_given d.envs env var.0 var.1) (λ value. one_changed Replace clone (var.0, value) d)

abbrev pub all_given : ℕ → ℕ → List Var → Declared → Result Declared NameFault
all_given env clone vars d = in_turn (one_given env clone) vars d

-- `env.Clone(NAME=value, ..)`: a copy that shares nothing; a variable's own name in what is given stands for its old value
abbrev pub clone : Declared → ℕ → Variables → Outcome
clone d env vars =
    let number = length d.envs.scopes in
    and_then (vars_allowed vars.values) (λ u.
    and_then (all_given env number vars.values (with_envs (with_clone d.envs env) d)) (λ e.
    and_then (builders_set number vars.builders e) (λ f.
    Ok (answer.Env (record { 0 = number }), f))))

-- `env['X'] = v`
abbrev pub set : Declared → ℕ → List ℕ → EnvValue → Outcome
set d env name value =
    and_then (may_set name) (λ u.
    and_then (value_allowed value) (λ v.
    and_then (one_changed Replace env (name, value) d) silent))

-- `env['BUILDERS']['N'] = b`
abbrev pub set_builder : Declared → ℕ → List ℕ → ℕ → Outcome
set_builder d env name number = silent (with_envs (with_builder d.envs env name number) d)

-- `env['X']` and `env.get('X')`: a copy of the value
abbrev pub get_by : Declared → List ℕ → Option EnvValue → Outcome
get_by d name (Some value) = Ok (answer.Variable (Some value), d)
get_by d name None = and_then (may_read name) (λ u. Ok (answer.Variable None, d))

abbrev pub get : Declared → ℕ → List ℕ → Outcome
get d env name = get_by d name (variable_of d.envs env name)

-- `env.subst(text, raw)`
abbrev pub subst : Declared → ℕ → List ℕ → Mode → Outcome
subst d env text mode = and_then (expanded d.envs d.locals env mode text) (λ t. Ok (answer.Text t, d))

-- the words of `Decider`
abbrev pub decider_named : List ℕ → Option Decider
decider_named name =
    if bytes_eq name (codes "content") || bytes_eq name (codes "MD5") then Some decider.Content
    else (if bytes_eq name (codes "timestamp-newer") || bytes_eq name (codes "make") then Some decider.Newer
    else (if bytes_eq name (codes "timestamp-match") then Some decider.Match
    else (if bytes_eq name (codes "content-timestamp") || bytes_eq name (codes "MD5-timestamp") then Some decider.ContentMatch
    else None)))

abbrev pub decided : Declared → ℕ → Option Decider → Outcome
decided d env None = Err (BadArgument (codes "Decider"))
decided d env (Some by) = silent (with_envs (with_decider d.envs env by) d)

-- `Decider(name)`: how rules see a change that are declared in this environment from here on
abbrev pub decide : Declared → ℕ → List ℕ → Outcome
decide d env name = decided d env (decider_named name)
