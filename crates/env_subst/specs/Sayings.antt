-- What values say, one thing after another.
use Rattle.std.specs.Prelude.{◌≡◌, ℕ, List, [], ◌∷◌, ◌++◌, map, Option, None, Some}
use Rattle.std.specs.Fmt.{signed_decimal}
use Rattle.env_vars.specs.declared.value.Item.{Item}
use Rattle.env_vars.specs.declared.value.Item.TheVariants as item
use Rattle.env_vars.specs.Added.{pair_text}
use Rattle.env_subst.specs.declared.attribute.Attribute.{Attribute}
use Rattle.env_subst.specs.declared.locals.Named.{Named}
use Rattle.env_subst.specs.declared.locals.Locals.{Locals}
use Rattle.env_subst.specs.declared.saying.Saying.{Saying}
use Rattle.env_subst.specs.declared.saying.Saying.TheVariants.{Read, Plain, Path}
use Rattle.env_subst.specs.declared.saying.Sayings.{Sayings}
use Rattle.env_subst.specs.declared.saying.Sayings.TheVariants as sayings
use Rattle.env_subst.specs.declared.saying.First.{First}
use Rattle.env_subst.specs.Attributes.{part_of, named_of}

-- a name with a value, as `name=value`
abbrev pub defined : List ℕ → List ℕ → List ℕ
defined name value = name ++ 61 ∷ value

abbrev pub pair_with : List ℕ → Option (List ℕ) → List ℕ
pair_with name None = name
pair_with name (Some value) = defined name value

-- a node says its path, or what the attribute tells of it
abbrev pub said_node : Locals → Option Attribute → Named → Saying
said_node locals None node = Path node.path
said_node locals (Some attribute) node = Plain (part_of locals.top attribute node)

-- a text is read in turn, a number says its decimals, a pair is read as `name=value`
abbrev pub said_item : Locals → Option Attribute → Item → Saying
said_item locals attribute (item.Text text) = Read text
said_item locals attribute (item.Int number) = Plain (signed_decimal number)
said_item locals attribute (item.Node path) = said_node locals attribute (named_of locals path)
said_item locals attribute (item.Pair name value) = Read (pair_with name value)

-- a pair of a dict
abbrev pub said_pair : List ℕ → Item → List ℕ
said_pair name value = pair_with name (pair_text value)

-- all that is still said
abbrev pub sayings_of : Locals → Sayings → List Saying
sayings_of locals (sayings.Nodes nodes attribute) = map (said_node locals attribute) nodes.now
sayings_of locals (sayings.Items items attribute) = map (said_item locals attribute) items.now
sayings_of locals (sayings.Words words) = map (λ w. Read w) words.now
sayings_of locals (sayings.Pairs pairs) = map (λ p. Read (said_pair p.0 p.1)) pairs.now
sayings_of locals (sayings.Text text) = Read text.now ∷ []
sayings_of locals (sayings.One saying) = saying ∷ []
sayings_of locals sayings.Over = []

-- the first thing and the others
abbrev pub first_and_rest : Locals → First → List Saying
first_and_rest locals first = first.saying ∷ sayings_of locals first.rest

-- the first of these things and the others, or nothing where there is none
abbrev pub Begins : Locals → List Saying → Option First → Type 0
Begins locals says None = says ≡ []
Begins locals says (Some first) = says ≡ first_and_rest locals first
