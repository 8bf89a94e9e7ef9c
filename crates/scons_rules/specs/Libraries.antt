-- The libraries that a program names: a file among `LIBS` is one, and for a name a file is looked for in the directories of
-- `LIBPATH` (scons(1), LIBS and LIBPATH). The first known one counts; targets of later calls are known too.
use Rattle.std.specs.Prelude.{ℕ, Bool, false, not, ◌&&◌, ◌||◌, ◌++◌, List, Option, Some, None, codes, Result, Ok, Err, if◌then◌else◌}
use Rattle.std.specs.List.{find, filter_map}
use Rattle.std.specs.Option.{option_map}
use Rattle.scons_base.specs.declared.fault.PathFault.{PathFault}
use Rattle.scons_base.specs.Resolve.{resolved, resolve_fault}
use Rattle.variant_dirs.specs.Variants.{variant_of, source_of}
use Rattle.env_subst.specs.declared.library.LibItem.{LibItem}
use Rattle.env_subst.specs.declared.library.LibItem.TheVariants.{Name, Node}
use Rattle.scons_decls.specs.State.{Declared}
use Rattle.scons_decls.specs.Targets as targets
use Rattle.scons_rules.specs.declared.fault.RuleReadFault.{RuleReadFault}
use Rattle.scons_rules.specs.declared.libraries.Wanted.{Wanted}
use Rattle.scons_rules.specs.declared.libraries.AskedFile.{AskedFile}
use Rattle.scons_rules.specs.Expanding.{Expanding, text_of, lib_items_of, dirs_of}
use Rattle.scons_rules.specs.Settled.{is_copied, settled}
use Rattle.scons_rules.specs.Shell.{in_line, all_in_line}
use Rattle.scons_rules.specs.Steps.{and_then, each}

-- where files stand
pub record Files : Type 0 where
  pub stands : List ℕ → Bool

-- the source that would be copied to a path
abbrev pub copied_from : Declared → List ℕ → Option (List ℕ)
copied_from d path =
    if is_copied (variant_of d.locals.variants path) then source_of d.locals.variants d.locals.top path else None

-- a source of copies: a target, or a file that is no copy itself
abbrev pub is_source : Files → Declared → List ℕ → Bool
is_source f d source =
    targets.is_made d.made source || (not (is_copied (variant_of d.locals.variants source)) && f.stands source)

abbrev pub is_source_of : Files → Declared → Option (List ℕ) → Bool
is_source_of f d None = false
is_source_of f d (Some source) = is_source f d source

-- a path is known where it is a target, a file stands there, or one would be copied there
abbrev pub is_known : Files → Declared → List ℕ → Bool
is_known f d path = targets.is_made d.made path || (f.stands path || is_source_of f d (copied_from d path))

abbrev unless : Option PathFault → List ℕ → Option (List ℕ)
unless None path = Some path
unless (Some fault) path = None

-- the path of a file in a directory, if there may be one
abbrev pub place_in : Declared → List ℕ → List ℕ → Option (List ℕ)
place_in d file dir = unless (resolve_fault d.locals.top dir file) (resolved d.locals.top dir file)

-- the first known place of a file
abbrev pub found_among : Files → Declared → List ℕ → List (List ℕ) → Option (List ℕ)
found_among f d file dirs = find (is_known f d) (filter_map (place_in d file) dirs)

abbrev pub file_name : Expanding → List ℕ → Result (List ℕ) RuleReadFault
file_name x name =
    and_then (text_of x (codes "$LIBPREFIX")) (λ prefix. and_then (text_of x (codes "$LIBSUFFIX")) (λ suffix. Ok (prefix ++ name ++ suffix)))

-- a library that is named by its file, which stands in the line
abbrev pub library_file : Declared → List ℕ → Result (Option (List ℕ)) RuleReadFault
library_file d path = and_then (in_line (settled d path)) (λ u. Ok (Some (settled d path)))

-- the library of one item, if one is found
abbrev pub library : Files → Expanding → List (List ℕ) → LibItem → Result (Option (List ℕ)) RuleReadFault
library f x dirs (Node path) = library_file x.declared path
library f x dirs (Name name) = and_then (file_name x name) (λ file. Ok (found_among f x.declared file dirs))

abbrev pub each_library : Files → Expanding → List (List ℕ) → List LibItem → Result (List (Option (List ℕ))) RuleReadFault
each_library f x dirs items = each (library f x dirs) items

-- the libraries of a program, for each item in turn
abbrev pub libraries : Files → Expanding → Result (List (Option (List ℕ))) RuleReadFault
libraries f x =
    and_then (lib_items_of x) (λ items.
    and_then (dirs_of x (codes "LIBPATH")) (λ dirs.
    and_then (all_in_line dirs) (λ u. each_library f x dirs items)))

-- this, or else a path where it is one
abbrev pub or_at : Option (List ℕ) → Bool → List ℕ → Option (List ℕ)
or_at (Some found) there path = Some found
or_at None there path = if there then Some path else None

-- the same of a place, if there is one
abbrev pub or_place : Files → Declared → Option (List ℕ) → Option (List ℕ) → Option (List ℕ)
or_place f d found None = found
or_place f d found (Some path) = or_at found (is_known f d path) path

abbrev pub or_known : Option (List ℕ) → Option AskedFile → Option (List ℕ)
or_known known (Some asked) = Some asked.library
or_known known None = known

-- what is found where this is wanted: the library of the first asked file that stands, else the known one
abbrev pub found_in : Files → Wanted → Option (List ℕ)
found_in f w = or_known w.known (find (λ a. f.stands a.file) w.asked)
