-- What the graph gets once all rules are in it: the variant directories, the aliases with all that they stand for, the defaults and
-- the help texts.
use Rattle.std.specs.Prelude.{◌≡◌, ℕ, ◌+◌, not, List, [], ◌∷◌, ◌++◌, Option, Some, None, unwrap_or, Result, Ok, Err, map, fold, if◌then◌else◌}
use Rattle.std.specs.List.{list_any, find, flat_map}
use Rattle.std.specs.Str.{bytes_eq}
use Rattle.variant_dirs.specs.declared.fault.VariantFault.{VariantFault}
use Rattle.variant_dirs.specs.declared.variants.Variant.{Variant}
use Rattle.variant_dirs.specs.Variants.{add_fault, added}
use Rattle.rule_graph.specs.declared.wish.Wish.{Wish}
use Rattle.rule_graph.specs.declared.wish.Wish.TheVariants as wish
use Rattle.scons_decls.specs.declared.fault.NameFault.TheVariants.{NoRule}
use Rattle.scons_decls.specs.declared.place.Place.{Place}
use Rattle.scons_decls.specs.declared.said.Asked.{Asked}
use Rattle.scons_decls.specs.declared.said.Asked.TheVariants as asked
use Rattle.scons_decls.specs.declared.said.Said.{Said}
use Rattle.scons_decls.specs.declared.said.Saying.{Saying}
use Rattle.scons_decls.specs.declared.said.Saying.TheVariants.{Depends, Requires, Ignore, Always}
use Rattle.scons_decls.specs.Aliased.{Aliases}
use Rattle.scons_decls.specs.Faults.{of_variant}
use Rattle.scons_decls.specs.State.{Declared}
use Rattle.scons_decls.specs.Tables.{has, value_at, put}
use Rattle.scons_decls.specs.Targets as targets
use Rattle.scons_rules.specs.declared.fault.RuleReadFault.{RuleReadFault}
use Rattle.scons_rules.specs.declared.fault.RuleReadFault.TheVariants.{At}
use Rattle.scons_rules.specs.Aliased.{file_in}
use Rattle.scons_rules.specs.Faults.{of_name}
use Rattle.scons_rules.specs.Numbers.{each_once, interned}
use Rattle.scons_rules.specs.Orders.{Lists, flattened}
use Rattle.scons_rules.specs.PathGraphs.{PathGraph}
use Rattle.scons_rules.specs.Ruling.{alias_lists}
use Rattle.scons_rules.specs.Steps.{and_then, all_of, in_turn}

-- the first of these that no rule makes
abbrev pub unmade : Declared → List (List ℕ) → Option (List ℕ)
unmade d paths = find (λ t. not (targets.is_made d.made t)) paths

abbrev unless_unmade : Place → Option (List ℕ) → Result (Unit {0}) RuleReadFault
unless_unmade place None = Ok tt
unless_unmade place (Some target) = Err (At place (NoRule target))

abbrev has_rules_by : Saying → Declared → Said → Result (Unit {0}) RuleReadFault
has_rules_by Always d s = Ok tt
has_rules_by Depends d s = unless_unmade s.place (unmade d s.targets)
has_rules_by Requires d s = unless_unmade s.place (unmade d s.targets)
has_rules_by Ignore d s = unless_unmade s.place (unmade d s.targets)

-- what Depends, Requires or Ignore says of a target that no rule makes would count for nothing, and is refused on its line
abbrev pub has_rules : Declared → Said → Result (Unit {0}) RuleReadFault
has_rules d s = has_rules_by s.saying d s

abbrev pub have_rules : Declared → Result (Unit {0}) RuleReadFault
have_rules d = all_of (has_rules d) d.said

abbrev unless_fault : Option VariantFault → PathGraph → Result PathGraph RuleReadFault
unless_fault None g = Ok g
unless_fault (Some fault) g = Err (of_name (of_variant fault))

abbrev pub with_variant : Variant → PathGraph → Result PathGraph RuleReadFault
with_variant v g =
    unless_fault (add_fault g.variants v.dir v.source v.duplicate) (record g { variants = added g.variants v.dir v.source v.duplicate })

abbrev pub with_variants : List Variant → PathGraph → Result PathGraph RuleReadFault
with_variants variants g = in_turn with_variant variants g

-- the files and directories that the alias at a place stands for
abbrev pub alias_files : Declared → Lists → ℕ → List (List ℕ)
alias_files d lists place = flat_map (file_in d) (flattened lists place)

abbrev pub with_members : List ℕ → List (List ℕ) → PathGraph → PathGraph
with_members name paths g = record g { aliases = put g.aliases name (unwrap_or (value_at g.aliases name) [] ++ each_once paths) }

-- an alias of these files, each once
abbrev pub with_alias : List ℕ → List (List ℕ) → PathGraph → Result PathGraph RuleReadFault
with_alias name paths g = and_then (interned g.nodes paths) (λ nodes. Ok (with_members name paths (record g { nodes = nodes })))

-- all aliases from a place on, where these are the lists of all
abbrev pub with_aliases : Declared → Lists → Aliases → ℕ → PathGraph → Result PathGraph RuleReadFault
with_aliases d lists [] place g = Ok g
with_aliases d lists (alias ∷ aliases) place g =
    and_then (with_alias alias.0 (alias_files d lists place) g) (with_aliases d lists aliases (place + 1))

-- what was given to Default: a text that names an alias stands for it
abbrev pub wish_of : Declared → Asked → Wish
wish_of d (asked.Alias name) = wish.Alias name
wish_of d (asked.Path path) = wish.Path path
wish_of d (asked.Text text path) = if has d.aliases text then wish.Alias text else wish.Path path

-- the word that says the same on the command line
abbrev pub word_of : Wish → List ℕ
word_of (wish.Alias name) = name
word_of (wish.Path path) = path

abbrev pub with_wish : List Wish → Wish → List Wish
with_wish wishes w = if list_any (bytes_eq (word_of w)) (map word_of wishes) then wishes else wishes ++ w ∷ []

-- a wish that comes behind these: it is a further default, unless its word was met
pub record IsWished (wishes : List Wish) (w : Wish) (old new : List Wish) (met : List (List ℕ)) : Type 0 where
  pub words : met ≡ map word_of (with_wish wishes w)
  pub defaults : (base : List Wish) → old ≡ base ++ wishes → new ≡ base ++ with_wish wishes w

-- the defaults, each once
abbrev pub wishes : Declared → List Wish
wishes d = fold with_wish [] (map (wish_of d) d.defaults)

-- what is said of targets without a rule is refused first; then come variant directories and aliases
abbrev pub finished : Declared → PathGraph → Result PathGraph RuleReadFault
finished d g =
    and_then (have_rules d) (λ u.
    and_then (with_variants d.locals.variants g) (λ varied.
    and_then (with_aliases d (alias_lists d) d.aliases 0 varied) (λ named.
    Ok (record named { defaults = named.defaults ++ wishes d; helps = named.helps ++ d.helps }))))
