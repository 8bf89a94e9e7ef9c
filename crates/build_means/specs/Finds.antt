-- Which files the include lines of a file mean: the manual page of SCons, under CPPPATH, has the order of the search.
use Rattle.std.specs.Prelude.{ℕ, Bool, List, [], ◌∷◌, ◌++◌, Option, is_some, find, flat_map, if◌then◌else◌}
use Rattle.std.specs.List.{filter_map}
use Rattle.std.specs.Option.{option_map, unwrap_or}
use Rattle.std.specs.Str.{is_utf8}
use Rattle.scons_base.specs.Parts.{dir_of}
use Rattle.scons_base.specs.Resolve.{resolved, resolve_fault}
use Rattle.variant_dirs.specs.Variants.{searched}
use Rattle.c_scanner.specs.declared.line.Include.{Include}
use Rattle.c_scanner.specs.Includes.{includes_of}
use Rattle.rule_graph.specs.Graphs.{RuleGraph}
use Rattle.build_model.specs.Rules.{Path, Bytes, Tree, Rule}
use Rattle.build_means.specs.Rules.{rule_for}
use Rattle.build_means.specs.Copies.{is_known}

-- the directories in which a rule's includes are looked for: its first target leads to it
abbrev pub search_path : RuleGraph → List Path → List Path
search_path g targets = unwrap_or (option_map (λ r. r.paths) (rule_for g targets)) []

-- A name in quotes is looked for in the directory of the including file, and then in the search path; one in angle brackets
-- in the search path, and then in that directory.
abbrev pub dirs_for : List Path → Path → Bool → List Path
dirs_for paths file quoted = if quoted then dir_of file ∷ paths else paths ++ dir_of file ∷ []

-- what a name may mean in a directory: nothing where it names no path
abbrev pub places_in : RuleGraph → List ℕ → Path → List Path
places_in g name dir =
    if is_some (resolve_fault g.top dir name) then [] else searched g.variants g.top (resolved g.top dir name)

-- what an include line of a file may mean, in order; nothing where its name is no text
abbrev pub candidates : RuleGraph → List Path → Path → Include → List Path
candidates g paths file include =
    if is_utf8 include.name then flat_map (places_in g include.name) (dirs_for paths file include.quoted) else []

-- the file that an include line means: the first candidate that is known
abbrev pub found_for : RuleGraph → Tree → List Path → Path → Include → Option Path
found_for g tree paths file include = find (is_known g tree) (candidates g paths file include)

-- The files that the include lines of these bytes mean at this path, in order, by the rule that makes these targets.
unfoldable pub finds : RuleGraph → Tree → Rule → Path → Bytes → List Path
finds g tree r file bytes = filter_map (found_for g tree (search_path g r.targets) file) (includes_of bytes)
