-- The names of SCons by their numbers, in the order of its manual's page: how each is written, what it is, and whether it stands
-- among the names of scripts, the methods of environments, or both (scons(1), "SCons Functions and Environment Methods").
use Rattle.std.specs.Prelude.{ℕ, Bool, true, false, List, [], ◌∷◌, Option, Some, None, codes, position, slice_get}
use Rattle.std.specs.Option.{option_map_or, option_and_then}
use Rattle.std.specs.Str.{bytes_eq}
use Rattle.scons_calls.specs.declared.name.Name.{Name}
use Rattle.scons_calls.specs.declared.name.Name.TheVariants as name
use Rattle.scons_calls.specs.declared.name.Builds.TheVariants as builds
use Rattle.scons_calls.specs.declared.name.Environs.TheVariants as environs
use Rattle.scons_calls.specs.declared.name.Says.TheVariants as says
use Rattle.scons_calls.specs.declared.name.Tells.TheVariants as tells
use Rattle.scons_calls.specs.declared.name.Shares.TheVariants as shares
use Rattle.scons_calls.specs.declared.name.Stands.{Stands}
use Rattle.scons_calls.specs.declared.name.Stands.TheVariants as stands

-- how a name is written, the name, and where it stands
abbrev pub Row : Type 0
Row = List ℕ × Name × Stands

unfoldable pub names_table : List Row
names_table =
    (codes "Environment", name.Environs environs.Environment, stands.AsBoth) ∷
    (codes "DefaultEnvironment", name.Environs environs.DefaultEnvironment, stands.AsBoth) ∷
    (codes "Clone", name.Environs environs.Clone, stands.AsMethod) ∷
    (codes "Append", name.Environs environs.Append, stands.AsMethod) ∷
    (codes "Prepend", name.Environs environs.Prepend, stands.AsMethod) ∷
    (codes "AppendUnique", name.Environs environs.AppendUnique, stands.AsMethod) ∷
    (codes "Replace", name.Environs environs.Replace, stands.AsMethod) ∷
    (codes "SetDefault", name.Environs environs.SetDefault, stands.AsMethod) ∷
    (codes "get", name.Tells tells.Get, stands.AsMethod) ∷
    (codes "subst", name.Environs environs.Subst, stands.AsMethod) ∷
    (codes "Object", name.Builds builds.Object, stands.AsBoth) ∷
    (codes "Program", name.Builds builds.Program, stands.AsBoth) ∷
    (codes "StaticLibrary", name.Builds builds.StaticLibrary, stands.AsBoth) ∷
    (codes "Library", name.Builds builds.Library, stands.AsBoth) ∷
    (codes "Command", name.Environs environs.Command, stands.AsBoth) ∷
    (codes "Textfile", name.Environs environs.Textfile, stands.AsBoth) ∷
    (codes "Substfile", name.Environs environs.Substfile, stands.AsBoth) ∷
    (codes "Builder", name.Environs environs.Builder, stands.AsBoth) ∷
    (codes "Install", name.Says says.Install, stands.AsBoth) ∷
    (codes "InstallAs", name.Says says.InstallAs, stands.AsBoth) ∷
    (codes "SConscript", name.Shares shares.SConscript, stands.AsBoth) ∷
    (codes "Export", name.Shares shares.Export, stands.Alone) ∷
    (codes "Import", name.Shares shares.Import, stands.Alone) ∷
    (codes "Return", name.Shares shares.Return, stands.Alone) ∷
    (codes "VariantDir", name.Says says.VariantDir, stands.AsBoth) ∷
    (codes "Depends", name.Says says.Depends, stands.AsBoth) ∷
    (codes "Requires", name.Says says.Requires, stands.AsBoth) ∷
    (codes "Ignore", name.Says says.Ignore, stands.AsBoth) ∷
    (codes "AlwaysBuild", name.Says says.AlwaysBuild, stands.AsBoth) ∷
    (codes "Alias", name.Says says.Alias, stands.AsBoth) ∷
    (codes "Default", name.Says says.Default, stands.AsBoth) ∷
    (codes "Help", name.Environs environs.Help, stands.AsBoth) ∷
    (codes "Decider", name.Environs environs.Decider, stands.AsBoth) ∷
    (codes "Glob", name.Tells tells.Glob, stands.AsBoth) ∷
    (codes "File", name.Says says.File, stands.AsBoth) ∷
    (codes "Dir", name.Says says.Dir, stands.AsBoth) ∷
    (codes "Split", name.Tells tells.Split, stands.AsBoth) ∷
    (codes "Flatten", name.Tells tells.Flatten, stands.AsBoth) ∷
    (codes "EnsureSConsVersion", name.Tells tells.EnsureSConsVersion, stands.AsBoth) ∷
    (codes "EnsurePythonVersion", name.Tells tells.EnsurePythonVersion, stands.AsBoth) ∷
    []

-- whether it stands among the names of scripts
abbrev pub is_alone : Stands → Bool
is_alone stands.Alone = true
is_alone stands.AsMethod = false
is_alone stands.AsBoth = true

-- whether it is a method of environments
abbrev pub is_method : Stands → Bool
is_method stands.Alone = false
is_method stands.AsMethod = true
is_method stands.AsBoth = true

-- the row at a place of a table: a place past it stands for its first
abbrev pub stands_in : List Row → ℕ → Stands
stands_in rows n = option_map_or (λ row. row.2) (slice_get rows n) stands.AsBoth

abbrev pub name_in : List Row → ℕ → Name
name_in rows n = option_map_or (λ row. row.1) (slice_get rows n) (name.Environs environs.Environment)

abbrev pub text_in : List Row → ℕ → List ℕ
text_in rows n = option_map_or (λ row. row.0) (slice_get rows n) (codes "Environment")

-- the number of the name that is written so
abbrev pub number_of : List ℕ → Option ℕ
number_of text = position (λ row. bytes_eq row.0 text) names_table

abbrev pub where_so : Bool → ℕ → Option ℕ
where_so true n = Some n
where_so false n = None

-- the number of the name of scripts that is written so
abbrev pub name_alone : List ℕ → Option ℕ
name_alone text = option_and_then (λ n. where_so (is_alone (stands_in names_table n)) n) (number_of text)

-- the number of the method of environments that is written so
abbrev pub name_of_method : List ℕ → Option ℕ
name_of_method text = option_and_then (λ n. where_so (is_method (stands_in names_table n)) n) (number_of text)

-- the name of a number, and how it is written
abbrev pub name_at : ℕ → Name
name_at n = name_in names_table n

abbrev pub text_at : ℕ → List ℕ
text_at n = text_in names_table n
