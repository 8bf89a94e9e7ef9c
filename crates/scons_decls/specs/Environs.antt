-- Environments: their variables, and what scripts chose for each beside them. The first is the default one, and a number
-- that was never given stands for it.
use Rattle.std.specs.Prelude.{ℕ, ◌+◌, nat_lt, nat_le, length, Bool, List, [], ◌∷◌, ◌++◌, Option, Some, None, Result, Ok, Err, slice_set, slice_index_or, if◌then◌else◌}
use Rattle.scons_base.specs.declared.limits.TheConstants.{TEXT_LIMIT}
use Rattle.world_api.specs.declared.decider.Decider.{Decider}
use Rattle.world_api.specs.declared.decider.Decider.TheVariants as decider
use Rattle.env_text.specs.Readings.{reading_of}
use Rattle.env_vars.specs.declared.value.EnvValue.{EnvValue}
use Rattle.env_vars.specs.Vars.{Var}
use Rattle.env_vars.specs.Given as vars
use Rattle.env_vars.specs.Initial.{initial_vars}
use Rattle.env_vars.specs.Added.{as_set}
use Rattle.env_vars.specs.Envs.{Scope, value_of, behind_of, copied, set_all, with_var, is_unset, appended, prepended, appended_new}
use Rattle.env_pieces.specs.declared.form.Mode.{Mode}
use Rattle.env_subst.specs.declared.locals.Locals.{Locals}
use Rattle.env_subst.specs.declared.library.LibItem.{LibItem}
use Rattle.env_subst.specs.Settings.{Setting, setting}
use Rattle.env_subst.specs.Entries as entries
use Rattle.env_subst.specs.Results as results
use Rattle.scons_decls.specs.declared.fault.NameFault.{NameFault}
use Rattle.scons_decls.specs.declared.environments.Choices.{Choices}
use Rattle.scons_decls.specs.Faults.{or_subst, too_long}
use Rattle.scons_decls.specs.Steps.{and_then, each}
use Rattle.scons_decls.specs.Tables.{value_at, put}
use Rattle.scons_decls.specs.References.{text_allowed, vars_allowed}

pub record Environs : Type 0 where
  -- the variables of each
  pub scopes : List Scope
  -- its decider and its own builders
  pub choices : List Choices

-- the environment that a number means
abbrev pub held : Environs → ℕ → ℕ
held e env = if nat_lt env (length e.scopes) then env else 0

abbrev pub no_choices : Choices
no_choices = record { decider = None; builders = [] }

abbrev pub choices_of : Environs → ℕ → Choices
choices_of e env = slice_index_or e.choices (held e env) no_choices

-- one environment more
abbrev pub with_env : Environs → Scope → Choices → Environs
with_env e scope choices = record { scopes = e.scopes ++ scope ∷ []; choices = e.choices ++ choices ∷ [] }

-- a new environment has the initial variables
abbrev pub with_new : Environs → Environs
with_new e = with_env e (record { own = initial_vars; behind = [] }) no_choices

-- a clone has a copy of all that the environment has now, its decider and its builders too
abbrev pub with_clone : Environs → ℕ → Environs
with_clone e env = with_env e (record { own = copied e.scopes (held e env); behind = [] }) (choices_of e env)

-- an overlay has variables of its own in front of an environment
abbrev pub with_overlay : Environs → ℕ → List Var → Environs
with_overlay e env own = with_env e (record { own = set_all [] own; behind = held e env ∷ behind_of e.scopes (held e env) }) no_choices

-- the variables of the environments after a change
abbrev pub with_scopes : Environs → List Scope → Environs
with_scopes e scopes = record { scopes = scopes; choices = e.choices }

abbrev pub with_choices : Environs → ℕ → Choices → Environs
with_choices e env choices = record { scopes = e.scopes; choices = slice_set e.choices (held e env) choices }

abbrev pub with_decider : Environs → ℕ → Decider → Environs
with_decider e env d = with_choices e env (record { decider = Some d; builders = (choices_of e env).builders })

abbrev pub with_builder : Environs → ℕ → List ℕ → ℕ → Environs
with_builder e env name number =
    with_choices e env (record { decider = (choices_of e env).decider; builders = put (choices_of e env).builders name number })

-- the number of the builder that an environment has under a name
abbrev pub builder_of : Environs → ℕ → List ℕ → Option ℕ
builder_of e env name = value_at (choices_of e env).builders name

abbrev pub decider_or : Option Decider → Decider → Decider
decider_or (Some d) other = d
decider_or None other = other

-- the decider of an environment: its own, or else that of the default environment, which is at first by content
abbrev pub decider_of : Environs → ℕ → Decider
decider_of e env = decider_or (choices_of e env).decider (decider_or (choices_of e 0).decider decider.Content)

-- the value of a variable
abbrev pub variable_of : Environs → ℕ → List ℕ → Option EnvValue
variable_of e env name = value_of e.scopes (held e env) name

abbrev pub short_enough : EnvValue → Result EnvValue NameFault
short_enough value = if nat_le (vars.size_of value) TEXT_LIMIT then Ok value else Err too_long

-- a value given to a clone or to one call, in which the variable's own name stands for its old value
abbrev pub value_given : Environs → ℕ → List ℕ → EnvValue → Result EnvValue NameFault
value_given e env name value = short_enough (vars.given name (variable_of e env name) value)

abbrev pub var_given : Environs → ℕ → Var → Result Var NameFault
var_given e env var = and_then (value_given e env var.0 var.1) (λ value. Ok (var.0, value))

abbrev pub overlaid : Environs → ℕ → List Var → Result (ℕ × Environs) NameFault
overlaid e env [] = Ok (held e env, e)
overlaid e env (var ∷ vars) =
    and_then (each (var_given e (held e env)) (var ∷ vars)) (λ own. Ok (length e.scopes, with_overlay e env own))

-- the environment of one call: its variables stand in front of the environment in which it is made, for this call alone
abbrev pub of_call : Environs → ℕ → List Var → Result (ℕ × Environs) NameFault
of_call e env vars = and_then (vars_allowed vars) (λ u. overlaid e env vars)

-- what a text is read in
abbrev pub setting_in : Environs → Locals → ℕ → Setting
setting_in e locals env = setting e.scopes (held e env) locals

-- what a text stands for
abbrev pub expanded : Environs → Locals → ℕ → Mode → List ℕ → Result (List ℕ) NameFault
expanded e locals env mode text = and_then (text_allowed text) (λ u. or_subst (results.substituted (setting_in e locals env) mode text))

-- the lines of a command
abbrev pub lines_in : Environs → Locals → ℕ → Mode → List ℕ → Result (List (List ℕ)) NameFault
lines_in e locals env mode text = and_then (text_allowed text) (λ u. or_subst (results.lines_of (setting_in e locals env) mode text))

-- the text of a path
abbrev pub spelled : Environs → Locals → ℕ → List ℕ → Result (List ℕ) NameFault
spelled e locals env text = and_then (text_allowed text) (λ u. or_subst (results.path_text (setting_in e locals env) text))

-- the libraries that an environment names
abbrev pub libraries : Environs → Locals → ℕ → Result (List LibItem) NameFault
libraries e locals env = or_subst (entries.lib_items (setting_in e locals env))

-- the directories of a search path
abbrev pub search_path : Environs → Locals → ℕ → List ℕ → Result (List (List ℕ)) NameFault
search_path e locals env name = or_subst (entries.search_path (setting_in e locals env) name)

-- a variable set, in the form that it takes, and set where it counts as none
abbrev pub with_value : Environs → ℕ → List ℕ → EnvValue → Environs
with_value e env name value = with_scopes e (with_var e.scopes (held e env) (name, as_set name value))

abbrev pub with_default : Environs → ℕ → List ℕ → EnvValue → Environs
with_default e env name value = if is_unset name (variable_of e env name) then with_value e env name value else e

-- the environments after values were added to a variable, or none where the kinds don't fit
abbrev pub or_none : Environs → Option (List Scope) → Option Environs
or_none e None = None
or_none e (Some scopes) = Some (with_scopes e scopes)

-- a value behind the one that the variable has, in front of it, and those of its items behind that aren't there
abbrev pub with_behind : Environs → ℕ → List ℕ → EnvValue → Option Environs
with_behind e env name value = or_none e (appended e.scopes (held e env) name value)

abbrev pub with_in_front : Environs → ℕ → List ℕ → EnvValue → Option Environs
with_in_front e env name value = or_none e (prepended e.scopes (held e env) name value)

abbrev pub with_missing : Environs → ℕ → List ℕ → EnvValue → Option Environs
with_missing e env name value = or_none e (appended_new e.scopes (held e env) name value)
