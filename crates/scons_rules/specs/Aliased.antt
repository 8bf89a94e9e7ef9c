-- What aliases stand for: what they require, and behind that their members but those that they ignore.
use Rattle.std.specs.Prelude.{◌≡◌, ℕ, Bool, false, List, [], ◌∷◌, ◌++◌, Option, Some, None, map, position, if◌then◌else◌}
use Rattle.std.specs.List.{list_any, filter_map, flat_map}
use Rattle.std.specs.Option.{option_map}
use Rattle.std.specs.Str.{bytes_eq}
use Rattle.scons_decls.specs.declared.given.Given.{Given}
use Rattle.scons_decls.specs.declared.given.Given.TheVariants as given
use Rattle.scons_rules.specs.declared.orders.Step.{Step}
use Rattle.scons_rules.specs.declared.orders.Step.TheVariants.{Member, Inner}
use Rattle.scons_rules.specs.Orders.{Lists, flattened}
use Rattle.scons_decls.specs.declared.aliases.AliasParts.{AliasParts}
use Rattle.scons_decls.specs.State.{Declared}
use Rattle.scons_rules.specs.Settled.{settled}

-- whether a node is the alias of a name
abbrev pub is_alias : List ℕ → Given → Bool
is_alias name (given.Alias other) = bytes_eq name other
is_alias name (given.Text text) = false
is_alias name (given.File path) = false
is_alias name (given.Dir path) = false

-- whether a node is the file or the directory of a path
abbrev pub is_at : List ℕ → Given → Bool
is_at path (given.File other) = bytes_eq path other
is_at path (given.Dir other) = bytes_eq path other
is_at path (given.Text text) = false
is_at path (given.Alias name) = false

-- the step of a node in an alias that ignores these. An alias that isn't declared has no members
abbrev pub step_of : List (List ℕ) → List Given → Given → Option Step
step_of names ignored (given.Alias name) =
    if list_any (is_alias name) ignored then None else option_map Inner (position (bytes_eq name) names)
step_of names ignored (given.File path) = if list_any (is_at path) ignored then None else Some (Member (given.File path))
step_of names ignored (given.Dir path) = if list_any (is_at path) ignored then None else Some (Member (given.Dir path))
step_of names ignored (given.Text text) = Some (Member (given.Text text))

abbrev pub steps_of : List (List ℕ) → AliasParts → List Step
steps_of names p = filter_map (step_of names []) p.required ++ filter_map (step_of names p.ignored) p.members

-- what each alias says, where these are the names of all
abbrev pub lists_of : List (List ℕ) → List AliasParts → Lists
lists_of names parts = map (steps_of names) parts

-- the path of a file or a directory
abbrev pub path_in : Given → List (List ℕ)
path_in (given.File path) = path ∷ []
path_in (given.Dir path) = path ∷ []
path_in (given.Text text) = []
path_in (given.Alias name) = []

-- the file that a member of an alias stands for; a directory stands for itself
abbrev pub file_in : Declared → Given → List (List ℕ)
file_in d (given.File path) = settled d path ∷ []
file_in d (given.Dir path) = path ∷ []
file_in d (given.Text text) = []
file_in d (given.Alias name) = []

abbrev members_at : Lists → Option ℕ → List (List ℕ)
members_at lists None = []
members_at lists (Some place) = flat_map path_in (flattened lists place)

-- the paths that a node stands for: an alias stands for its members
abbrev pub paths_in : List (List ℕ) → Lists → Given → List (List ℕ)
paths_in names lists (given.Alias name) = members_at lists (position (bytes_eq name) names)
paths_in names lists (given.File path) = path ∷ []
paths_in names lists (given.Dir path) = path ∷ []
paths_in names lists (given.Text text) = []

-- what an alias ignores, as the code keeps it: paths and names
pub record Left : Type 0 where
  pub paths : List (List ℕ)
  pub aliases : List (List ℕ)

-- whether a node is ignored
abbrev pub is_left : Left → Given → Bool
is_left left (given.Alias name) = list_any (bytes_eq name) left.aliases
is_left left (given.File path) = list_any (bytes_eq path) left.paths
is_left left (given.Dir path) = list_any (bytes_eq path) left.paths
is_left left (given.Text text) = false

-- it is what was given
pub record Leaves (nodes : List Given) (left : Left) : Type 0 where
  pub paths : (path : List ℕ) → list_any (bytes_eq path) left.paths ≡ list_any (is_at path) nodes
  pub aliases : (name : List ℕ) → list_any (bytes_eq name) left.aliases ≡ list_any (is_alias name) nodes
