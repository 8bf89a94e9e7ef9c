-- The variables to which texts and values refer.
use Rattle.std.specs.Prelude.{ℕ, List, [], ◌∷◌, ◌++◌, Option, Some, None, Ok}
use Rattle.env_text.specs.Parts.{PlainPart, text, begin, end, variable, concat}
use Rattle.env_text.specs.Readings.{Reading, ends, part_at, bad_brace, reading_of}
use Rattle.env_vars.specs.declared.value.Item.{Item}
use Rattle.env_vars.specs.declared.value.Item.TheVariants as item
use Rattle.env_vars.specs.declared.value.EnvValue.{EnvValue}
use Rattle.env_vars.specs.declared.value.EnvValue.TheVariants as value
use Rattle.env_vars.specs.Vars.{Var}
use Rattle.scons_decls.specs.Steps.{Checked, and_then, all_of}
use Rattle.scons_decls.specs.Profile.{may_set, may_refer}

abbrev pub part_allowed : PlainPart → Checked
part_allowed (text t) = Ok tt
part_allowed begin = Ok tt
part_allowed end = Ok tt
part_allowed (variable name selection attribute) = may_refer name
part_allowed (concat prefix list suffix directories) =
    and_then (may_refer prefix) (λ u. and_then (may_refer list) (λ v. may_refer suffix))

-- the parts of a text in their order, up to its end or to a brace that can't be read
abbrev pub reading_allowed : Reading → Checked
reading_allowed ends = Ok tt
reading_allowed (part_at at p rest) = and_then (part_allowed p) (λ u. reading_allowed rest)
reading_allowed (bad_brace at) = Ok tt

-- a text whose references are all allowed
unfoldable pub text_allowed : List ℕ → Checked
text_allowed t = reading_allowed (reading_of t)

abbrev pub text_or_none_allowed : Option (List ℕ) → Checked
text_or_none_allowed (Some t) = text_allowed t
text_or_none_allowed None = Ok tt

abbrev pub item_allowed : Item → Checked
item_allowed (item.Text t) = text_allowed t
item_allowed (item.Pair name t) = text_or_none_allowed t
item_allowed (item.Int number) = Ok tt
item_allowed (item.Node path) = Ok tt

abbrev pub pair_allowed : List ℕ × Item → Checked
pair_allowed pair = item_allowed pair.1

-- a value all of whose texts are allowed
abbrev pub value_allowed : EnvValue → Checked
value_allowed value.Nil = Ok tt
value_allowed (value.Bool b) = Ok tt
value_allowed (value.Int number) = Ok tt
value_allowed (value.Text t) = text_allowed t
value_allowed (value.Words words) = all_of text_allowed words
value_allowed (value.List items) = all_of item_allowed items
value_allowed (value.Pairs pairs) = all_of pair_allowed pairs

-- a variable that a script may set to this value
abbrev pub var_allowed : Var → Checked
var_allowed var = and_then (may_set var.0) (λ u. value_allowed var.1)

-- variables with their values
abbrev pub vars_allowed : List Var → Checked
vars_allowed vars = all_of var_allowed vars
