-- Actions of a script's own: `Command`, `Builder` and the builders of environments.
use Rattle.std.specs.Prelude.{ℕ, ◌==◌, length, flat_map, slice_get, List, [], ◌∷◌, ◌++◌, Bool, Option, Some, None, Result, Ok, Err, codes, if◌then◌else◌}
use Rattle.std.specs.List.{list_all, slice_split}
use Rattle.scons_decls.specs.declared.answer.Answer.TheVariants as answer
use Rattle.scons_decls.specs.declared.builder.Builder.{Builder}
use Rattle.scons_decls.specs.declared.fault.NameFault.{NameFault}
use Rattle.scons_decls.specs.declared.fault.NameFault.TheVariants.{EmptyAction}
use Rattle.scons_decls.specs.declared.given.Given.{Given}
use Rattle.scons_decls.specs.declared.rule.Recipe.TheVariants as recipe
use Rattle.scons_decls.specs.Steps.{and_then, each}
use Rattle.scons_decls.specs.State.{Declared}
use Rattle.scons_decls.specs.Paths.{files_of}
use Rattle.scons_declare.specs.Calls.{Outcome}
use Rattle.scons_declare.specs.declared.own.Naming.{Naming}
use Rattle.scons_declare.specs.declared.site.Site.{Site}
use Rattle.scons_declare.specs.Sites.{declares, answer_of}
use Rattle.scons_declare.specs.Affixes.{plain, affixes, dotted, named, each_once, targets_of, target_of}

-- the lines of a text, between its line feeds
abbrev pub lines_in : List ℕ → List (List ℕ)
lines_in text = slice_split (λ b. b == 10) text

abbrev pub are_empty : List (List ℕ) → Bool
are_empty lines = list_all (λ line. length line == 0) lines

abbrev pub unless_empty : List (List ℕ) → Result (List (List ℕ)) NameFault
unless_empty lines = if are_empty lines then Err EmptyAction else Ok lines

-- the lines of an action: each text is cut at line feeds
abbrev pub lines_of : List (List ℕ) → Result (List (List ℕ)) NameFault
lines_of action = unless_empty (flat_map lines_in action)

-- `Command(target, source, action)`: it may have no source
abbrev pub command : Declared → Site → List Given → List Given → List (List ℕ) → Outcome
command d site targets sources action =
    and_then (lines_of action) (λ lines.
    and_then (files_of d site.env.0 (codes "Command") targets) (λ named.
    and_then (each_once (codes "Command") named) (λ made.
    and_then (files_of d site.env.0 (codes "Command") sources) (λ files.
    declares d site (recipe.Command lines) made files))))

-- `Builder(action=, suffix=, src_suffix=, prefix=)`: the number of the new builder
abbrev pub new_builder : Declared → Builder → Outcome
new_builder d b =
    and_then (lines_of b.action) (λ lines.
    Ok (
      answer.Builder (length d.builders),
      record d { builders = d.builders ++ record { action = lines; prefix = b.prefix; suffix = b.suffix; src_suffix = b.src_suffix } ∷ [] },
    ))

-- what a builder puts round the names of its targets and its sources
abbrev pub naming_by : Declared → Site → Option Builder → Result Naming NameFault
naming_by d site None = Ok (record { target = plain; source = plain })
naming_by d site (Some b) =
    and_then (affixes d site.env.0 b.prefix (dotted b.suffix)) (λ target.
    and_then (affixes d site.env.0 [] (dotted b.src_suffix)) (λ source.
    Ok (record { target = target; source = source })))

unfoldable pub naming_of : Declared → Site → ℕ → Result Naming NameFault
naming_of d site builder = naming_by d site (slice_get d.builders builder)

abbrev pub default_target : Naming → List (List ℕ) → Result (List (List ℕ)) NameFault
default_target n [] = Ok []
default_target n (source ∷ rest) = and_then (target_of n.source.suffix n.target source) (λ target. Ok (target ∷ []))

-- the targets: where none is named, one by the first source, and none where there is no source either
unfoldable pub own_targets : Declared → Site → Naming → List ℕ → Option (List Given) → List (List ℕ) → Result (List (List ℕ)) NameFault
own_targets d site n call None sources = default_target n sources
own_targets d site n call (Some targets) sources = targets_of d site.env.0 call n.target targets

-- without a target nothing is declared
unfoldable pub unless_none : Declared → Site → ℕ → List (List ℕ) → List (List ℕ) → Outcome
unless_none d site builder made files = if length made == 0 then Ok (answer_of [], d) else declares d site (recipe.Own builder) made files

unfoldable pub own_declared : Declared → Site → Naming → ℕ → List ℕ → Option (List Given) → List Given → Outcome
own_declared d site n builder call targets sources =
    and_then (each (named d site.env.0 call n.source) sources) (λ files.
    and_then (own_targets d site n call targets files) (λ made. unless_none d site builder made files))

-- `env.N(target, source)` and `env.N(source)`
abbrev pub own_rule : Declared → Site → ℕ → List ℕ → Option (List Given) → List Given → Outcome
own_rule d site builder call targets sources = and_then (naming_of d site builder) (λ n. own_declared d site n builder call targets sources)
