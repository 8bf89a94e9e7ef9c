-- What the scripts read so far have declared, as plain lists and tables.
use Rattle.std.specs.Prelude.{◌≡◌, ℕ, List, [], map, codes}
use Rattle.world_api.specs.declared.decider.Decider.{Decider}
use Rattle.variant_dirs.specs.declared.variants.Variant.{Variant}
use Rattle.env_subst.specs.declared.locals.Locals.{Locals}
use Rattle.scons_decls.specs.declared.builder.Builder.{Builder}
use Rattle.scons_decls.specs.declared.declarations.Declarations.{Declarations}
use Rattle.scons_decls.specs.declared.place.Place.{Place}
use Rattle.scons_decls.specs.declared.rule.Declaration.{Declaration}
use Rattle.scons_decls.specs.declared.rule.Recipe.{Recipe}
use Rattle.scons_decls.specs.declared.said.Said.{Said}
use Rattle.scons_decls.specs.declared.said.Asked.{Asked}
use Rattle.scons_decls.specs.Environs.{Environs, with_new}
use Rattle.scons_decls.specs.Targets as targets
use Rattle.scons_decls.specs.Aliased.{Aliases}

-- a rule as a call declared it
pub record Rule : Type 0 where
  -- where the call stands
  pub place : Place
  -- the number of its environment, and the directory of its script
  pub env : ℕ
  pub dir : List ℕ
  -- how its targets are made, and how it sees a change
  pub recipe : Recipe
  pub decider : Decider
  pub targets : List (List ℕ)
  pub sources : List (List ℕ)

pub record Declared : Type 0 where
  pub envs : Environs
  -- what path texts are read with: the directory of the script that runs, the top directory, the variant directories
  pub locals : Locals
  -- builders of scripts, by their numbers
  pub builders : List Builder
  -- rules in the order of their calls, and their targets
  pub rules : List Rule
  pub made : targets.Declared
  pub said : List Said
  pub aliases : Aliases
  pub defaults : List Asked
  pub helps : List (List ℕ)
  -- the directories of the scripts around the one that runs, the innermost last
  pub outer : List (List ℕ)

abbrev pub rule_of : Declaration → Rule
rule_of d = record {
  place = d.place;
  env = d.env.0;
  dir = d.dir;
  recipe = d.recipe;
  decider = d.decider;
  targets = d.targets;
  sources = d.sources;
}

abbrev pub declared_of : Declarations → Declared
declared_of s = record {
  envs = s.envs;
  locals = s.locals;
  builders = s.builders.items;
  rules = map rule_of s.rules.items;
  made = s.made;
  said = s.said.items;
  aliases = s.aliases;
  defaults = s.defaults.items;
  helps = s.helps;
  outer = s.outer_dirs.items;
}

-- what is declared in another directory, or with other variant directories
abbrev pub in_dir : List ℕ → Locals → Locals
in_dir dir l = record { targets = l.targets; sources = l.sources; smartlink = l.smartlink; dir = dir; top = l.top; variants = l.variants }

abbrev pub with_variants : List Variant → Locals → Locals
with_variants variants l =
    record { targets = l.targets; sources = l.sources; smartlink = l.smartlink; dir = l.dir; top = l.top; variants = variants }

-- nothing is declared
pub record IsFresh (top : List ℕ) (d : Declared) : Type 0 where
  pub envs : d.envs ≡ with_new (record { scopes = []; choices = [] })
  pub top_dir : d.locals.top ≡ top
  pub dir : d.locals.dir ≡ codes "."
  pub variants : d.locals.variants ≡ []
  pub builders : d.builders ≡ []
  pub rules : d.rules ≡ []
  pub made : d.made ≡ []
  pub said : d.said ≡ []
  pub aliases : d.aliases ≡ []
  pub defaults : d.defaults ≡ []
  pub helps : d.helps ≡ []
  pub outer : d.outer ≡ []
