-- What each call of a name gives, in the order of the manual page.
use Rattle.std.specs.Prelude.{ℕ, List, [], ◌∷◌, Bool, Option, Some, None, Result, Ok, Err, codes}
use Rattle.scons_decls.specs.declared.answer.Answer.TheVariants as answer
use Rattle.scons_decls.specs.declared.call.Call.{Call}
use Rattle.scons_decls.specs.declared.call.Call.TheVariants as call
use Rattle.scons_decls.specs.declared.call.Maker.{Maker}
use Rattle.scons_decls.specs.declared.call.Maker.TheVariants as maker
use Rattle.scons_decls.specs.declared.call.RuleCall.{RuleCall}
use Rattle.scons_decls.specs.declared.call.RuleCall.TheVariants as rules
use Rattle.scons_decls.specs.declared.call.SayCall.{SayCall}
use Rattle.scons_decls.specs.declared.call.SayCall.TheVariants as says
use Rattle.scons_decls.specs.declared.fault.NameFault.{NameFault}
use Rattle.scons_decls.specs.declared.fault.NameFault.TheVariants.{NoSource, UnknownBuilder}
use Rattle.scons_decls.specs.declared.given.Given.{Given}
use Rattle.scons_decls.specs.declared.given.Given.TheVariants as given
use Rattle.scons_decls.specs.declared.given.Variables.{Variables}
use Rattle.scons_decls.specs.declared.place.Place.{Place}
use Rattle.scons_decls.specs.declared.rule.Recipe.TheVariants as recipe
use Rattle.scons_decls.specs.declared.said.Saying.TheVariants as saying
use Rattle.scons_decls.specs.Environs.{builder_of}
use Rattle.scons_decls.specs.Paths.{file_of, dir_of}
use Rattle.scons_decls.specs.Scripts.{variant_added}
use Rattle.scons_decls.specs.State.{Declared}
use Rattle.scons_decls.specs.Steps.{and_then}
use Rattle.scons_declare.specs.Calls.{Outcome, silent}
use Rattle.scons_declare.specs.Changes.{environment, default_environment, clone, change, set, set_builder, get, subst, decide}
use Rattle.scons_declare.specs.declared.site.Site.{Site}
use Rattle.scons_declare.specs.Sites.{plain_site, called_at}
use Rattle.scons_declare.specs.Linking.{objects, linked}
use Rattle.scons_declare.specs.Owns.{own_rule, command, new_builder}
use Rattle.scons_declare.specs.Copies.{install, install_as}
use Rattle.scons_declare.specs.Writes.{textfile, substfile}
use Rattle.scons_declare.specs.Sayings.{say, alias, ask, help}

-- `File(name)` and `Dir(name)`
abbrev pub file : Declared → ℕ → Given → Outcome
file d env one = and_then (file_of d env (codes "File") one) (λ path. Ok (answer.Targets (given.File path ∷ []), d))

abbrev pub dir : Declared → ℕ → Given → Outcome
dir d env one = and_then (dir_of d env (codes "Dir") one) (λ path. Ok (answer.Targets (given.Dir path ∷ []), d))

-- `VariantDir(variant, source, duplicate)`
abbrev pub variant_dir : Declared → ℕ → Given → Given → Bool → Outcome
variant_dir d env variant source duplicate =
    and_then (dir_of d env (codes "VariantDir") variant) (λ to.
    and_then (dir_of d env (codes "VariantDir") source) (λ from.
    and_then (variant_added d to from duplicate) silent))

-- the number of the builder that a name of the environment calls; the builders of SCons have none
abbrev pub known_builder : List ℕ → Option ℕ → Result ℕ NameFault
known_builder name (Some builder) = Ok builder
known_builder name None = Err (UnknownBuilder name)

abbrev pub builder_called : Declared → ℕ → Maker → Result ℕ NameFault
builder_called d env (maker.Own name) = known_builder name (builder_of d.envs env name)
builder_called d env other = Ok 0

-- the builders of SCons need a source
abbrev pub sources_for : Maker → List Given → Result (List Given) NameFault
sources_for (maker.Own name) sources = Ok sources
sources_for other [] = Err NoSource
sources_for other (source ∷ sources) = Ok (source ∷ sources)

-- `Program(source)` and `Program(target, source)`; `StaticLibrary` and `Library`, the same with `$LIBPREFIX` and `$LIBSUFFIX`
abbrev pub program : Declared → Site → Option (List Given) → List Given → Outcome
program d site targets sources = linked d site recipe.Program (codes "Program") [] (codes "$PROGSUFFIX") targets sources

abbrev pub static_library : Declared → Site → Option (List Given) → List Given → Outcome
static_library d site targets sources =
    linked d site recipe.StaticLibrary (codes "StaticLibrary") (codes "$LIBPREFIX") (codes "$LIBSUFFIX") targets sources

abbrev pub built_by : Declared → Site → Maker → ℕ → Option (List Given) → List Given → Outcome
built_by d site maker.Object builder targets sources = objects d site targets sources
built_by d site maker.Program builder targets sources = program d site targets sources
built_by d site maker.StaticLibrary builder targets sources = static_library d site targets sources
built_by d site (maker.Own name) builder targets sources = own_rule d site builder name targets sources

-- a call of a builder
abbrev pub build : Declared → ℕ → Place → Maker → Option (List Given) → List Given → Variables → Outcome
build d env place who targets sources vars =
    and_then (builder_called d env who) (λ builder.
    and_then (sources_for who sources) (λ s.
    and_then (called_at d env place vars) (λ at. built_by at.1 at.0 who builder targets s)))

-- the calls that declare rules
abbrev pub declares_rules : Declared → ℕ → Place → RuleCall → Outcome
declares_rules d env place (rules.Build who targets sources vars) = build d env place who targets sources vars
declares_rules d env place (rules.Command targets sources action vars) =
    and_then (called_at d env place vars) (λ at. command at.1 at.0 targets sources action)
declares_rules d env place (rules.Textfile targets texts pairs vars) =
    and_then (called_at d env place vars) (λ at. textfile at.1 at.0 targets texts pairs)
declares_rules d env place (rules.Substfile targets sources pairs vars) =
    and_then (called_at d env place vars) (λ at. substfile at.1 at.0 targets sources pairs)
declares_rules d env place (rules.Install dirs sources) = install d (plain_site d env place) dirs sources
declares_rules d env place (rules.InstallAs targets sources) = install_as d (plain_site d env place) targets sources

-- the calls that say something of targets
abbrev pub says_something : Declared → ℕ → Place → SayCall → Outcome
says_something d env place (says.Depends targets nodes) = say d env place saying.Depends targets nodes
says_something d env place (says.Requires targets nodes) = say d env place saying.Requires targets nodes
says_something d env place (says.Ignore targets nodes) = say d env place saying.Ignore targets nodes
says_something d env place (says.AlwaysBuild targets) = say d env place saying.Always targets []
says_something d env place (says.Alias names members) = alias d env names members

-- every call
abbrev pub declared_by : Declared → ℕ → Place → Call → Outcome
declared_by d env place (call.Environment vars) = environment d vars
declared_by d env place (call.DefaultEnvironment vars) = default_environment d vars
declared_by d env place (call.Clone vars) = clone d env vars
declared_by d env place (call.Change how vars) = change d env how vars
declared_by d env place (call.Set name value) = set d env name value
declared_by d env place (call.SetBuilder name builder) = set_builder d env name builder
declared_by d env place (call.Get name) = get d env name
declared_by d env place (call.Subst text mode) = subst d env text mode
declared_by d env place (call.Decider name) = decide d env name
declared_by d env place (call.NewBuilder builder) = new_builder d builder
declared_by d env place (call.Rules rule) = declares_rules d env place rule
declared_by d env place (call.Says saying) = says_something d env place saying
declared_by d env place (call.VariantDir variant source duplicate) = variant_dir d env variant source duplicate
declared_by d env place (call.Default targets) = ask d env targets
declared_by d env place (call.Help text) = help d env text
declared_by d env place (call.File one) = file d env one
declared_by d env place (call.Dir one) = dir d env one
