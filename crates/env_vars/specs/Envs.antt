-- Environments, numbered in the order in which they were made. An environment is a list of variables of its own, in
-- front of those of the environments behind it. Only an overlay has any behind it.
use Rattle.std.specs.Prelude.{ℕ, Bool, true, false, List, [], ◌∷◌, Option, Some, None, fold, slice_get, slice_set}
use Rattle.env_vars.specs.declared.value.EnvValue.{EnvValue}
use Rattle.env_vars.specs.declared.value.EnvValue.TheVariants as value
use Rattle.env_vars.specs.declared.place.Place.{Place}
use Rattle.env_vars.specs.declared.place.Place.TheVariants as place
use Rattle.env_vars.specs.Names.{is_late_variable}
use Rattle.env_vars.specs.Added.{as_set, added}
use Rattle.env_vars.specs.Vars.{Var, value_at, put, put_all}

pub record Scope : Type 0 where
  -- the variables of its own
  pub own : List Var
  -- the numbers of the environments behind it, the nearest first
  pub behind : List ℕ

abbrev own_or_none : Option Scope → List Var
own_or_none (Some scope) = scope.own
own_or_none None = []

abbrev behind_or_none : Option Scope → List ℕ
behind_or_none (Some scope) = scope.behind
behind_or_none None = []

abbrev pub own_of : List Scope → ℕ → List Var
own_of envs id = own_or_none (slice_get envs id)

abbrev pub behind_of : List Scope → ℕ → List ℕ
behind_of envs id = behind_or_none (slice_get envs id)

abbrev pub or_else : Option EnvValue → Option EnvValue → Option EnvValue
or_else (Some v) other = Some v
or_else None other = other

-- the value that the first of these environments with such a variable of its own has
abbrev pub first_value : List Scope → List ℕ → List ℕ → Option EnvValue
first_value envs [] name = None
first_value envs (id ∷ ids) name = or_else (value_at (own_of envs id) name) (first_value envs ids name)

-- the value of a variable in an environment: its own, or else that of the environments behind it
abbrev pub value_of : List Scope → ℕ → List ℕ → Option EnvValue
value_of envs id name = first_value envs (id ∷ behind_of envs id) name

-- all variables of these environments in one list: those in front hide those behind
abbrev pub flattened : List Scope → List ℕ → List Var
flattened envs [] = []
flattened envs (id ∷ ids) = put_all (flattened envs ids) (own_of envs id)

abbrev pub copied_by : List Scope → ℕ → List ℕ → List Var
copied_by envs id [] = own_of envs id
copied_by envs id (next ∷ ids) = flattened envs (id ∷ next ∷ ids)

-- the list that a clone gets: the environment's own, and for an overlay all that it shows
abbrev pub copied : List Scope → ℕ → List Var
copied envs id = copied_by envs id (behind_of envs id)

-- variables set, one after another
abbrev pub set_all : List Var → List Var → List Var
set_all vars new = fold (λ done var. put done (var.0, as_set var.0 var.1)) vars new

-- whether a value counts as none where a default is given: it isn't there, or a variable that SCons doesn't have at first holds
-- no item
abbrev pub is_unset : List ℕ → Option EnvValue → Bool
is_unset name None = true
is_unset name (Some (value.Words [])) = is_late_variable name
is_unset name (Some (value.List [])) = is_late_variable name
is_unset name (Some v) = false

-- the environments after one of them got a value for a name of its own: the others stay
abbrev pub with_var : List Scope → ℕ → Var → List Scope
with_var envs id var = slice_set envs id (record { own = put (own_of envs id) var; behind = behind_of envs id })

-- what the environments are after a value was added to a variable: nothing where the kinds don't fit
abbrev with_added : List Scope → ℕ → List ℕ → Option EnvValue → Option (List Scope)
with_added envs id name None = None
with_added envs id name (Some v) = Some (with_var envs id (name, v))

abbrev pub after_adding : Place → List Scope → ℕ → List ℕ → EnvValue → Option (List Scope)
after_adding at envs id name v = with_added envs id name (added at name (value_of envs id name) v)

-- the same by the names of the calls: `Append`, `Prepend` and `AppendUnique`
abbrev pub appended : List Scope → ℕ → List ℕ → EnvValue → Option (List Scope)
appended envs id name v = after_adding place.Behind envs id name v

abbrev pub prepended : List Scope → ℕ → List ℕ → EnvValue → Option (List Scope)
prepended envs id name v = after_adding place.InFront envs id name v

abbrev pub appended_new : List Scope → ℕ → List ℕ → EnvValue → Option (List Scope)
appended_new envs id name v = after_adding place.New envs id name v
