-- How a rule is made, by the recipe of the call that declared it.
use Rattle.std.specs.Prelude.{ℕ, Bool, true, false, List, [], ◌∷◌, Option, Some, None, Result, Ok, Err, length, map, codes, slice_get, if◌then◌else◌}
use Rattle.std.specs.Fmt.{decimal}
use Rattle.world_api.specs.declared.job.Work.{Work}
use Rattle.world_api.specs.declared.job.Work.TheVariants as work
use Rattle.rule_graph.specs.declared.rule.Rule.{Rule}
use Rattle.scons_decls.specs.declared.builder.Builder.{Builder}
use Rattle.scons_decls.specs.declared.rule.Recipe.{Recipe}
use Rattle.scons_decls.specs.declared.rule.Recipe.TheVariants.{Object, Program, StaticLibrary, Command, Own, Textfile, Substfile, Install, InstallAs}
use Rattle.scons_rules.specs.declared.adding.RuleNodes.{RuleNodes}
use Rattle.scons_rules.specs.declared.fault.RuleReadFault.{RuleReadFault}
use Rattle.scons_rules.specs.declared.line.RuleLines.{RuleLines}
use Rattle.scons_rules.specs.declared.making.Making.{Making}
use Rattle.scons_rules.specs.declared.said.OfRule.{OfRule}
use Rattle.scons_rules.specs.Actions.{actions_by}
use Rattle.scons_rules.specs.Expanding.{Expanding, dirs_of}
use Rattle.scons_rules.specs.Knowing.{work_of, is_cplusplus_source}
use Rattle.scons_rules.specs.Lines.{lines_by}
use Rattle.scons_rules.specs.Numbers.{each_once}
use Rattle.scons_rules.specs.PathRules.{PathRule}
use Rattle.scons_rules.specs.PathGraphs.{PathGraph, put_rule}
use Rattle.scons_rules.specs.Settled.{settled}
use Rattle.scons_rules.specs.Shell.{all_in_line}
use Rattle.scons_rules.specs.Steps.{and_then}
use Rattle.scons_rules.specs.Writes.{substituting, written}

-- the line that compiles a source, C++ or C
abbrev pub compiler_line : List (List ℕ) → List ℕ
compiler_line sources = if is_cplusplus_source sources then codes "$CXXCOM" else codes "$CCCOM"

-- the action of a script's own builder
abbrev pub action_of : Option Builder → List (List ℕ)
action_of None = []
action_of (Some builder) = builder.action

-- the texts whose expansions are the lines of a rule, by its recipe, the builders of scripts and its sources
abbrev pub texts_by : Recipe → List Builder → List (List ℕ) → List (List ℕ)
texts_by Object builders sources = compiler_line sources ∷ []
texts_by Program builders sources = codes "$LINKCOM" ∷ []
texts_by StaticLibrary builders sources = codes "$ARCOM" ∷ codes "$RANLIBCOM" ∷ []
texts_by (Command lines) builders sources = lines
texts_by (Own number) builders sources = action_of (slice_get builders number)
texts_by (Textfile texts pairs) builders sources = []
texts_by (Substfile pairs) builders sources = []
texts_by Install builders sources = []
texts_by InstallAs builders sources = []

abbrev pub texts_of : Expanding → List (List ℕ)
texts_of x = texts_by x.rule.recipe x.declared.builders x.rule.sources

-- the lines for the shell
abbrev pub shell_lines : Expanding → Result RuleLines RuleReadFault
shell_lines x = and_then (actions_by x (texts_of x)) (lines_by x)

-- no lines, where this is signed
abbrev pub signing : List (List ℕ) → RuleLines
signing signed = record { lines = []; signed = signed }

abbrev source_count : Expanding → ℕ
source_count x = length (each_once (map (λ n. n.path) x.locals.sources.items))

abbrev lines_with : Recipe → Expanding → Result RuleLines RuleReadFault
lines_with (Textfile texts pairs) x = and_then (written x texts pairs) (λ signed. Ok (signing signed))
lines_with (Substfile pairs) x = and_then (substituting x (source_count x) pairs) (λ signed. Ok (signing signed))
lines_with Object x = shell_lines x
lines_with Program x = shell_lines x
lines_with StaticLibrary x = shell_lines x
lines_with (Command lines) x = shell_lines x
lines_with (Own number) x = shell_lines x
lines_with Install x = shell_lines x
lines_with InstallAs x = shell_lines x

-- the lines of a rule, and what it signs
abbrev pub lines_of : Expanding → Result RuleLines RuleReadFault
lines_of x = lines_with x.rule.recipe x

abbrev in_its_line : Recipe → List (List ℕ) → Result (Unit {0}) RuleReadFault
in_its_line Object dirs = all_in_line dirs
in_its_line Program dirs = Ok tt
in_its_line StaticLibrary dirs = Ok tt
in_its_line (Command lines) dirs = Ok tt
in_its_line (Own number) dirs = Ok tt
in_its_line (Textfile texts pairs) dirs = Ok tt
in_its_line (Substfile pairs) dirs = Ok tt
in_its_line Install dirs = Ok tt
in_its_line InstallAs dirs = Ok tt

-- the directories of `CPPPATH`, which stand in the line of an object
abbrev pub header_dirs_of : Expanding → Result (List (List ℕ)) RuleReadFault
header_dirs_of x = and_then (dirs_of x (codes "CPPPATH")) (λ dirs. and_then (in_its_line x.rule.recipe dirs) (λ u. Ok dirs))

abbrev search_path_by : Work → Expanding → Result (List (List ℕ)) RuleReadFault
search_path_by work.Shell x = header_dirs_of x
search_path_by work.Copy x = Ok []
search_path_by work.Write x = Ok []

-- where headers are looked for
abbrev pub search_path_of : Expanding → Result (List (List ℕ)) RuleReadFault
search_path_of x = search_path_by (work_of x.rule.recipe) x

-- the name of a builder; of a script's own one its number
abbrev pub builder_of : Recipe → List ℕ
builder_of Object = codes "Object"
builder_of Program = codes "Program"
builder_of StaticLibrary = codes "StaticLibrary"
builder_of (Command lines) = codes "Command"
builder_of (Own number) = decimal number
builder_of (Textfile texts pairs) = codes "Textfile"
builder_of (Substfile pairs) = codes "Substfile"
builder_of Install = codes "Install"
builder_of InstallAs = codes "InstallAs"

-- how a rule is made: its lines, and then its search path
abbrev pub making_of : Expanding → Result Making RuleReadFault
making_of x =
    and_then (lines_of x) (λ l.
    and_then (search_path_of x) (λ dirs.
    Ok (record { lines = l.lines; signed = l.signed; paths = dirs; builder = builder_of x.rule.recipe })))

abbrev pub is_shell : Work → Bool
is_shell work.Shell = true
is_shell work.Copy = false
is_shell work.Write = false

-- a rule of the graph, of these nodes
abbrev pub rule_with : Expanding → Making → RuleNodes → Bool → Rule
rule_with x m n always = record {
  work = work_of x.rule.recipe;
  targets = n.targets;
  sources = n.sources;
  libs = n.libs;
  depends = n.depends;
  required = n.required;
  ignored = n.ignored;
  lines = m.lines;
  signed = m.signed;
  paths = m.paths;
  scans = is_shell (work_of x.rule.recipe);
  always = always;
  decider = x.rule.decider;
  builder = m.builder;
}

-- the same by paths: its targets and sources, the libraries that were found, and what was said of it, each path once. Targets
-- and libraries are what they are; all else stands for files
abbrev pub path_rule : Expanding → OfRule → List (List ℕ) → Making → PathRule
path_rule x said libs m = record {
  work = work_of x.rule.recipe;
  targets = each_once x.rule.targets;
  sources = each_once (map (λ n. n.path) x.locals.sources.items);
  libs = each_once libs;
  depends = each_once (map (settled x.declared) said.depends);
  required = each_once (map (settled x.declared) said.required);
  ignored = each_once (map (settled x.declared) said.ignored);
  lines = m.lines;
  signed = m.signed;
  paths = m.paths;
  scans = is_shell (work_of x.rule.recipe);
  always = said.always;
  decider = x.rule.decider;
  builder = m.builder;
}

-- the paths that a rule names, in the order in which they get numbers
abbrev pub lists_by : Expanding → OfRule → List (List ℕ) → List (List (List ℕ))
lists_by x said libs =
    x.rule.targets ∷ map (λ n. n.path) x.locals.sources.items ∷ libs ∷ map (settled x.declared) said.depends
    ∷ map (settled x.declared) said.required ∷ map (settled x.declared) said.ignored ∷ []

-- a rule put into a graph, with what was said of it and the libraries that were found
abbrev pub put_made : Expanding → OfRule → List (List ℕ) → PathGraph → Result PathGraph RuleReadFault
put_made x said libs g = and_then (making_of x) (λ m. put_rule (path_rule x said libs m) g)
