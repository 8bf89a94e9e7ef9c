-- The actions of a rule. An action that is the name of a list variable alone stands for an action for each item of the list
-- (scons(1), Builder Objects and Action Objects: a list of commands).
use Rattle.std.specs.Prelude.{ℕ, zero, suc, ◌+◌, nat_le, length, Bool, List, [], ◌∷◌, ◌++◌, Option, Some, None, Result, Ok, Err, codes, if◌then◌else◌}
use Rattle.std.specs.List.{list_any}
use Rattle.std.specs.Str.{bytes_eq}
use Rattle.scons_base.specs.declared.limits.TheConstants.{LIST_LIMIT, REFERENCE_LIMIT}
use Rattle.env_text.specs.Alone.{name_alone}
use Rattle.env_text.specs.Readings.{reading_of}
use Rattle.env_vars.specs.declared.value.EnvValue.{EnvValue}
use Rattle.env_vars.specs.declared.value.EnvValue.TheVariants as value
use Rattle.env_vars.specs.declared.value.Item.{Item}
use Rattle.env_vars.specs.declared.value.Item.TheVariants as item
use Rattle.env_subst.specs.declared.fault.SubstFault.TheVariants.{TooMany}
use Rattle.scons_decls.specs.declared.fault.NameFault.TheVariants.{OutOfProfile, Subst}
use Rattle.scons_decls.specs.Environs.{variable_of}
use Rattle.scons_rules.specs.declared.fault.RuleReadFault.{RuleReadFault}
use Rattle.scons_rules.specs.declared.fault.RuleReadFault.TheVariants.{Name}
use Rattle.scons_rules.specs.Expanding.{Expanding}
use Rattle.scons_rules.specs.Steps.{and_then, each}

abbrev pub Texts : Type 0
Texts = List (List ℕ)

-- what a list variable stands for, or why it can't
abbrev pub Items : Type 0
Items = Result Texts RuleReadFault

-- the names of a rule's own nodes and tool, which no variable hides
abbrev pub own_names : Texts
own_names = codes "TARGET" ∷ codes "TARGETS" ∷ codes "SOURCE" ∷ codes "SOURCES" ∷ codes "SMARTLINK" ∷ []

abbrev pub is_own : List ℕ → Bool
is_own name = list_any (λ own. bytes_eq own name) own_names

-- an item that is an action: a text
abbrev pub item_text : List ℕ → Item → Result (List ℕ) RuleReadFault
item_text name (item.Text text) = Ok text
item_text name (item.Int number) = Err (Name (OutOfProfile name))
item_text name (item.Node path) = Err (Name (OutOfProfile name))
item_text name (item.Pair key held) = Err (Name (OutOfProfile name))

-- the items of a list variable, where the value is one
abbrev pub items_in : List ℕ → EnvValue → Option Items
items_in name (value.Words words) = Some (Ok words)
items_in name (value.List items) = Some (each (item_text name) items)
items_in name (value.Text text) = None
items_in name (value.Pairs pairs) = None
items_in name (value.Int number) = None
items_in name (value.Bool flag) = None
items_in name value.Nil = None

abbrev pub items_or : List ℕ → Option EnvValue → Option Items
items_or name None = None
items_or name (Some value) = items_in name value

abbrev pub items_named : Expanding → Option (List ℕ) → Option Items
items_named x None = None
items_named x (Some name) = if is_own name then None else items_or name (variable_of x.declared.envs x.rule.env name)

-- what stands in the place of a text: the items of the list variable that it names and nothing else
abbrev pub items_at : Expanding → List ℕ → Option Items
items_at x text = items_named x (name_alone (reading_of text))

abbrev pub too_many_references : RuleReadFault
too_many_references = Name (Subst (TooMany (REFERENCE_LIMIT + 1)))

abbrev pub one_action : Option Items → (Items → Result Texts RuleReadFault) → List ℕ → Result Texts RuleReadFault → Result Texts RuleReadFault
one_action None follow text rest = and_then rest (λ more. Ok (text ∷ more))
one_action (Some items) follow text rest = follow items

-- texts one behind the other, where `follow` goes on with the items of a list variable and the texts behind it
abbrev pub looked_at : Expanding → (Items → Texts → Result Texts RuleReadFault) → Texts → Result Texts RuleReadFault
looked_at x follow [] = Ok []
looked_at x follow (text ∷ texts) = one_action (items_at x text) (λ items. follow items texts) text (looked_at x follow texts)

-- the actions of texts, where so many references may be followed. Behind each no more texts may be left than a list may have items
unfoldable pub actions_in : Expanding → ℕ → Texts → Result Texts RuleReadFault
actions_in x zero texts = looked_at x (λ items rest. Err too_many_references) texts
actions_in x (suc more) texts =
    looked_at x (λ items rest.
    if nat_le (length rest) LIST_LIMIT then and_then items (λ inner. actions_in x more (inner ++ rest)) else Err too_many_references) texts

-- the actions of texts: at most as many references are followed as in one text
abbrev pub actions_by : Expanding → Texts → Result Texts RuleReadFault
actions_by x texts = actions_in x REFERENCE_LIMIT texts
