-- Which arguments each name of SCons takes, in which order and by which names: scons(1), "Builder Methods", and "SCons Functions
-- and Environment Methods". What a name takes in SCons and not here is listed too: a call that gives it is refused by its name.
use Rattle.std.specs.Prelude.{ℕ, List, [], ◌∷◌, codes}
use Rattle.std.specs.Borrow.{Bor}
use Rattle.scons_calls.specs.declared.name.Name.{Name}
use Rattle.scons_calls.specs.declared.name.Name.TheVariants as name
use Rattle.scons_calls.specs.declared.name.Environs.{Environs}
use Rattle.scons_calls.specs.declared.name.Environs.TheVariants as environs
use Rattle.scons_calls.specs.declared.name.Says.{Says}
use Rattle.scons_calls.specs.declared.name.Says.TheVariants as says
use Rattle.scons_calls.specs.declared.name.Tells.{Tells}
use Rattle.scons_calls.specs.declared.name.Tells.TheVariants as tells
use Rattle.scons_calls.specs.declared.name.Shares.{Shares}
use Rattle.scons_calls.specs.declared.name.Shares.TheVariants as shares
use Rattle.scons_calls.specs.declared.signature.Kind.{Kind}
use Rattle.scons_calls.specs.declared.signature.Kind.TheVariants as kind
use Rattle.scons_calls.specs.declared.signature.Takes.{Takes}
use Rattle.scons_calls.specs.declared.signature.Takes.TheVariants as takes
use Rattle.scons_calls.specs.declared.signature.Others.{Others}
use Rattle.scons_calls.specs.declared.signature.Others.TheVariants as others

-- a parameter: its name, of which kind its argument is, and how many it takes
pub record Parameter : Type 0 where
  pub name : List ℕ
  pub kind : Kind
  pub takes : Takes

-- the parameters in their order, the names of arguments that are left out, and what other named arguments are
pub record Signature : Type 0 where
  pub parameters : List Parameter
  pub left_out : List (List ℕ)
  pub others : Others

abbrev pub signature_by : List Parameter → List (List ℕ) → Others → Signature
signature_by parameters left_out rest = record { parameters = parameters; left_out = left_out; others = rest }

-- a parameter as the code's tables have it
abbrev pub parameter_of : Bor (List ℕ) × Kind × Takes → Parameter
parameter_of row = record { name = row.0.now; kind = row.1; takes = row.2 }

-- one that must be given, one that may be, and all that stand from its place on: at least one, or any number
abbrev one : List ℕ → Kind → Parameter
one name k = record { name = name; kind = k; takes = takes.One }

abbrev optional : List ℕ → Kind → Parameter
optional name k = record { name = name; kind = k; takes = takes.OneOrNone }

abbrev some : List ℕ → Kind → Parameter
some name k = record { name = name; kind = k; takes = takes.Some }

abbrev any : List ℕ → Kind → Parameter
any name k = record { name = name; kind = k; takes = takes.Any }

-- no other named argument is taken
abbrev only : List Parameter → Signature
only parameters = signature_by parameters [] others.Refused

-- every other named argument is a variable
abbrev and_variables : List Parameter → List (List ℕ) → Signature
and_variables parameters left_out = signature_by parameters left_out others.Variables

abbrev of_new_environment : Signature
of_new_environment =
    and_variables []
    (codes "platform" ∷ codes "tools" ∷ codes "toolpath" ∷ codes "variables" ∷ codes "options" ∷ codes "parse_flags" ∷ [])

abbrev left_out_of_builders : List (List ℕ)
left_out_of_builders =
    codes "chdir" ∷ codes "srcdir" ∷ codes "parse_flags" ∷ codes "emitter" ∷ codes "targets" ∷ codes "sources" ∷ []

-- builders with targets and sources, also those that scripts make
abbrev pub of_builds : Signature
of_builds = and_variables (optional (codes "target") kind.Nodes ∷ optional (codes "source") kind.Nodes ∷ []) left_out_of_builders

abbrev of_command : Signature
of_command =
    and_variables (one (codes "target") kind.Nodes ∷ one (codes "source") kind.Nodes ∷ one (codes "action") kind.Lines ∷ [])
    (codes "source_scanner" ∷ codes "target_scanner" ∷ codes "source_factory" ∷ codes "target_factory" ∷ codes "chdir" ∷
    codes "srcdir" ∷ codes "parse_flags" ∷ codes "emitter" ∷ codes "env" ∷ codes "shell" ∷ codes "targets" ∷ codes "sources" ∷ [])

abbrev pub of_environs : Environs → Signature
of_environs environs.Environment = of_new_environment
of_environs environs.DefaultEnvironment = of_new_environment
of_environs environs.Clone = of_new_environment
of_environs environs.Append = and_variables [] []
of_environs environs.Prepend = and_variables [] []
of_environs environs.AppendUnique = and_variables (optional (codes "delete_existing") kind.False ∷ []) []
of_environs environs.Replace = and_variables [] []
of_environs environs.SetDefault = and_variables [] []
of_environs environs.Subst =
    signature_by (one (codes "string") kind.Text ∷ optional (codes "raw") kind.Mode ∷ [])
    (codes "target" ∷ codes "source" ∷ codes "conv" ∷ codes "executor" ∷ codes "overrides" ∷ []) others.Refused
of_environs environs.Command = of_command
of_environs environs.Textfile =
    and_variables (one (codes "target") kind.Nodes ∷ one (codes "source") kind.Texts ∷ optional (codes "SUBST_DICT") kind.Pairs ∷ [])
    left_out_of_builders
of_environs environs.Substfile =
    and_variables
    (optional (codes "target") kind.Nodes ∷ optional (codes "source") kind.Nodes ∷ optional (codes "SUBST_DICT") kind.Pairs ∷ [])
    left_out_of_builders
of_environs environs.Builder =
    signature_by
    (one (codes "action") kind.Lines ∷ optional (codes "suffix") kind.Text ∷ optional (codes "src_suffix") kind.Text ∷
    optional (codes "prefix") kind.Text ∷ [])
    [] others.LeftOut
of_environs environs.Decider = only (one (codes "function") kind.Text ∷ [])
of_environs environs.Help = only (one (codes "text") kind.Text ∷ optional (codes "append") kind.False ∷ [])

abbrev of_place : Signature
of_place = signature_by (one (codes "name") kind.Place ∷ []) (codes "directory" ∷ codes "create" ∷ []) others.Refused

abbrev pub of_says : Says → Signature
of_says says.Install = only (one (codes "dir") kind.Nodes ∷ one (codes "source") kind.Nodes ∷ [])
of_says says.InstallAs = only (one (codes "target") kind.Nodes ∷ one (codes "source") kind.Nodes ∷ [])
of_says says.VariantDir =
    only (one (codes "variant_dir") kind.Place ∷ one (codes "src_dir") kind.Place ∷ optional (codes "duplicate") kind.Flag ∷ [])
of_says says.Depends = only (one (codes "target") kind.Nodes ∷ one (codes "dependency") kind.Nodes ∷ [])
of_says says.Requires = only (one (codes "target") kind.Nodes ∷ one (codes "prerequisite") kind.Nodes ∷ [])
of_says says.Ignore = only (one (codes "target") kind.Nodes ∷ one (codes "dependency") kind.Nodes ∷ [])
of_says says.AlwaysBuild = only (some (codes "targets") kind.Nodes ∷ [])
of_says says.Alias =
    only (one (codes "target") kind.Nodes ∷ optional (codes "source") kind.Nodes ∷ optional (codes "action") kind.None ∷ [])
of_says says.Default = only (some (codes "targets") kind.Nodes ∷ [])
of_says says.File = of_place
of_says says.Dir = of_place

abbrev of_version : Signature
of_version = only (one (codes "major") kind.Any ∷ optional (codes "minor") kind.Any ∷ optional (codes "revision") kind.Any ∷ [])

abbrev pub of_tells : Tells → Signature
of_tells tells.Get = only (one (codes "key") kind.Text ∷ optional (codes "default") kind.Any ∷ [])
of_tells tells.Glob =
    only (one (codes "pattern") kind.Text ∷ optional (codes "ondisk") kind.True ∷ optional (codes "source") kind.False ∷
    optional (codes "strings") kind.False ∷ optional (codes "exclude") kind.None ∷ [])
of_tells tells.Split = only (one (codes "arg") kind.Any ∷ [])
of_tells tells.Flatten = only (one (codes "arg") kind.Any ∷ [])
of_tells tells.EnsureSConsVersion = of_version
of_tells tells.EnsurePythonVersion = of_version

abbrev pub of_shares : Shares → Signature
of_shares shares.SConscript =
    signature_by
    (one (codes "files") kind.Nodes ∷ optional (codes "exports") kind.Exports ∷ optional (codes "variant_dir") kind.Place ∷
    optional (codes "duplicate") kind.Flag ∷ [])
    (codes "dirs" ∷ codes "name" ∷ codes "src_dir" ∷ codes "must_exist" ∷ []) others.Refused
of_shares shares.Export = signature_by (any (codes "names") kind.Exports ∷ []) [] others.Exports
of_shares shares.Import = only (any (codes "names") kind.Names ∷ [])
of_shares shares.Return = signature_by (any (codes "names") kind.Names ∷ []) (codes "stop" ∷ []) others.Refused

abbrev pub signature_of : Name → Signature
signature_of (name.Builds builder) = of_builds
signature_of (name.Environs environ) = of_environs environ
signature_of (name.Says said) = of_says said
signature_of (name.Tells told) = of_tells told
signature_of (name.Shares shared) = of_shares shared
