-- `Glob(pattern)`: the files and targets of one directory whose names fit. scons(1) has it under Glob.
use Rattle.std.specs.Prelude.{◌≡◌, ◌==◌, ◌||◌, ℕ, List, [], ◌∷◌, ◌++◌, Bool, Option, Some, None, Result, Ok, Err, codes, length, map, is_none, if◌then◌else◌}
use Rattle.std.specs.List.{list_any, filter_map, IsDistinct}
use Rattle.std.specs.List.Sorted.{IsSorted}
use Rattle.std.specs.Str.{bytes_eq}
use Rattle.std.specs.Cmp.Lexicographic.{slice_cmp}
use Rattle.std.specs.Ordering.{nat_cmp}
use Rattle.scons_base.specs.Parts.{dir_of, name_of, moved_path}
use Rattle.variant_dirs.specs.Variants as variants
use Rattle.env_pieces.specs.declared.form.Mode.TheVariants as mode
use Rattle.scons_decls.specs.declared.fault.NameFault.{NameFault}
use Rattle.scons_decls.specs.declared.fault.NameFault.TheVariants.{BadArgument}
use Rattle.scons_decls.specs.declared.given.Given.{Given}
use Rattle.scons_decls.specs.declared.given.Given.TheVariants.{File}
use Rattle.scons_decls.specs.declared.glob.Search.{Search}
use Rattle.scons_decls.specs.Environs.{expanded}
use Rattle.scons_decls.specs.Patterns.{pattern_of, fits, has_wildcard}
use Rattle.scons_decls.specs.Paths.{path_at}
use Rattle.scons_decls.specs.Scripts.{is_copied}
use Rattle.scons_decls.specs.State.{Declared}
use Rattle.scons_decls.specs.Steps.{and_then}
use Rattle.scons_decls.specs.Targets.{targets_in}

-- what an expanded text looks for: names that fit its last part, in the directory in front of that
abbrev pub search_at : Declared → List ℕ → Result Search NameFault
search_at d text =
    if has_wildcard (dir_of text) || length (name_of text) == 0 then Err (BadArgument (codes "Glob"))
    else and_then (path_at d (dir_of text)) (λ dir. Ok (record { dir = dir; pattern = pattern_of (name_of text) }))

abbrev pub search_of : Declared → ℕ → List ℕ → Result Search NameFault
search_of d env pattern = and_then (expanded d.envs d.locals env mode.Text pattern) (search_at d)

-- the source of a directory, where that lies in no variant directory itself
abbrev pub outside_variants : Declared → Option (List ℕ) → Option (List ℕ)
outside_variants d None = None
outside_variants d (Some source) = if is_none (variants.variant_of d.locals.variants source) then Some source else None

abbrev pub source_of : Declared → List ℕ → Option (List ℕ)
source_of d dir = outside_variants d (variants.source_of d.locals.variants d.locals.top dir)

-- the directories whose files count: the one that is looked in and its source, and with copies the source alone
abbrev pub dirs_with : List ℕ → Option (List ℕ) → Bool → List (List ℕ)
dirs_with dir None copied = dir ∷ []
dirs_with dir (Some source) copied = if copied then source ∷ [] else source ∷ dir ∷ []

abbrev pub glob_dirs : Declared → ℕ → List ℕ → Result (List (List ℕ)) NameFault
glob_dirs d env pattern =
    and_then (search_of d env pattern) (λ search. Ok (dirs_with search.dir (source_of d search.dir) (is_copied d search.dir)))

-- a path that stands in a directory, or in its source, which is named in the directory then
abbrev pub named_beside : List ℕ → Option (List ℕ) → List ℕ → Option (List ℕ)
named_beside dir None path = None
named_beside dir (Some source) path = if bytes_eq (dir_of path) source then moved_path path source dir else None

abbrev pub named_in : List ℕ → Option (List ℕ) → List ℕ → Option (List ℕ)
named_in dir source path = if bytes_eq (dir_of path) dir then Some path else named_beside dir source path

-- and whose name fits
abbrev pub found : Search → Option (List ℕ) → List ℕ → Option (List ℕ)
found search source path = if fits search.pattern (name_of path) then named_in search.dir source path else None

abbrev pub targets_beside : Declared → Option (List ℕ) → List (List ℕ)
targets_beside d None = []
targets_beside d (Some source) = targets_in d.made source

-- the paths that are meant: of the targets declared so far, there and in the source, and of the files
abbrev pub meant_by : Declared → Search → Option (List ℕ) → List (List ℕ) → List (List ℕ)
meant_by d search source files =
    filter_map (found search source) (targets_in d.made search.dir ++ (targets_beside d source ++ files))

-- what is answered: just the paths that are meant, each once, in byte order
pub record IsGlobbed (d : Declared) (env : ℕ) (pattern : List ℕ) (files : List (List ℕ)) (nodes : List Given) : Type 0 where
  pub search : Search
  pub searched : search_of d env pattern ≡ Ok search
  pub paths : List (List ℕ)
  pub named : nodes ≡ map File paths
  pub meant : (path : List ℕ) → list_any (bytes_eq path) paths ≡ list_any (bytes_eq path) (meant_by d search (source_of d search.dir) files)
  pub distinct : IsDistinct bytes_eq paths
  pub sorted : IsSorted (slice_cmp nat_cmp) paths
