-- What variables hold, what an index or a slice takes of it, and what it says.
use Rattle.std.specs.Prelude.{ℕ, ◌==◌, Bool, true, false, List, [], ◌∷◌, map, take, length, Option, None, Some, codes, if◌then◌else◌}
use Rattle.std.specs.List.{list_all}
use Rattle.std.specs.Str.{bytes_eq}
use Rattle.std.specs.Fmt.{signed_decimal}
use Rattle.env_text.specs.declared.part.Selection.{Selection}
use Rattle.env_text.specs.declared.part.Selection.TheVariants.{Whole, Item, Slice}
use Rattle.env_vars.specs.declared.value.Item as vars
use Rattle.env_vars.specs.declared.value.Item.TheVariants as item
use Rattle.env_vars.specs.declared.value.EnvValue.{EnvValue}
use Rattle.env_vars.specs.declared.value.EnvValue.TheVariants as value
use Rattle.env_vars.specs.Added.{as_items, as_pairs}
use Rattle.env_vars.specs.Envs.{value_of}
use Rattle.env_subst.specs.declared.attribute.Attribute.{Attribute}
use Rattle.env_subst.specs.declared.content.Holding.{Holding}
use Rattle.env_subst.specs.declared.content.Holding.TheVariants as holding
use Rattle.env_subst.specs.declared.locals.Named.{Named}
use Rattle.env_subst.specs.declared.locals.Locals.{Locals}
use Rattle.env_subst.specs.declared.saying.Saying.{Saying}
use Rattle.env_subst.specs.declared.saying.Saying.TheVariants.{Read, Plain}
use Rattle.env_subst.specs.Attributes.{attribute_named}
use Rattle.env_subst.specs.Selections.{selected, selected_text}
use Rattle.env_subst.specs.Sayings.{said_node, said_item}
use Rattle.env_subst.specs.Settings.{Setting}

pub data Content : Type 0 where
  nothing : Content
  -- nodes of the rule
  nodes : List Named → Content
  -- items of a list, words, or the pairs of a dict
  items : List vars.Item → Content
  -- a text that is read in turn
  text : List ℕ → Content
  -- the text of a number or a truth value
  shown : List ℕ → Content

abbrev pub held : EnvValue → Content
held value.Nil = text []
held (value.Bool true) = shown (codes "True")
held (value.Bool false) = shown (codes "False")
held (value.Int number) = shown (signed_decimal number)
held (value.Text t) = text t
held (value.Words words) = items (as_items words)
held (value.List list) = items list
held (value.Pairs pairs) = items (as_pairs pairs)

abbrev pub held_or_nothing : Option EnvValue → Content
held_or_nothing None = nothing
held_or_nothing (Some v) = held v

-- five names stand for what the rule knows, whatever the environment has
abbrev pub known_at : Locals → List ℕ → Option Content
known_at locals name =
    if bytes_eq name (codes "TARGETS") then Some (nodes locals.targets.items)
    else (if bytes_eq name (codes "SOURCES") then Some (nodes locals.sources.items)
    else (if bytes_eq name (codes "TARGET") then Some (nodes (take 1 locals.targets.items))
    else (if bytes_eq name (codes "SOURCE") then Some (nodes (take 1 locals.sources.items))
    else (if bytes_eq name (codes "SMARTLINK") then Some (text locals.smartlink) else None))))

abbrev pub known_or : Option Content → Content → Content
known_or (Some known) other = known
known_or None other = other

-- what a variable holds
abbrev pub content_at : Setting → List ℕ → Content
content_at w name = known_or (known_at w.locals name) (held_or_nothing (value_of w.envs w.env name))

-- a character that isn't there is nothing
abbrev pub character_or_nothing : List ℕ → Content
character_or_nothing t = if length t == 0 then nothing else text t

abbrev pub taken_text : Selection → List ℕ → Content
taken_text Whole t = text t
taken_text (Item index) t = character_or_nothing (selected_text (Item index) t)
taken_text (Slice from to) t = text (selected_text (Slice from to) t)

abbrev pub taken_shown : Selection → List ℕ → Content
taken_shown Whole t = shown t
taken_shown (Item index) t = nothing
taken_shown (Slice from to) t = nothing

-- what is selected: items of a list, characters of a text, and of a number or a truth value nothing
abbrev pub taken : Selection → Content → Content
taken selection nothing = nothing
taken selection (nodes ns) = nodes (selected selection ns)
taken selection (items xs) = items (selected selection xs)
taken selection (text t) = taken_text selection t
taken selection (shown t) = taken_shown selection t

-- an empty text says nothing
abbrev pub said_text : List ℕ → List Saying
said_text t = if length t == 0 then [] else Read t ∷ []

-- what it says itself
abbrev pub said : Locals → Content → List Saying
said locals nothing = []
said locals (nodes ns) = map (said_node locals None) ns
said locals (items xs) = map (said_item locals None) xs
said locals (text t) = said_text t
said locals (shown t) = Plain t ∷ []

abbrev pub is_node : vars.Item → Bool
is_node (item.Text t) = false
is_node (item.Int number) = false
is_node (item.Node path) = true
is_node (item.Pair name t) = false

-- what an attribute says of each node: none where there is something else
abbrev pub shown_parts : Locals → Attribute → Content → Option (List Saying)
shown_parts locals attribute nothing = Some []
shown_parts locals attribute (nodes ns) = Some (map (said_node locals (Some attribute)) ns)
shown_parts locals attribute (items xs) = if list_all is_node xs then Some (map (said_item locals (Some attribute)) xs) else None
shown_parts locals attribute (text t) = None
shown_parts locals attribute (shown t) = None

abbrev pub parts_or_none : Locals → Option Attribute → Content → Option (List Saying)
parts_or_none locals None content = None
parts_or_none locals (Some attribute) content = shown_parts locals attribute content

-- what it says by the attribute of this name, if one is named
abbrev pub said_by : Locals → Option (List ℕ) → Content → Option (List Saying)
said_by locals None content = Some (said locals content)
said_by locals (Some name) content = parts_or_none locals (attribute_named name) content

-- what the code holds, as a content
abbrev pub content_of : Holding → Content
content_of holding.Nothing = nothing
content_of (holding.Nodes ns) = nodes ns.now
content_of (holding.Items xs) = items xs.now
content_of (holding.Words words) = items (as_items words.now)
content_of (holding.Pairs pairs) = items (as_pairs pairs.now)
content_of (holding.Text t) = text t.now
content_of (holding.Shown t) = shown t
