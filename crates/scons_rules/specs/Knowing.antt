-- What the lines of a rule know beside its environment: `$TARGETS`, `$SOURCES`, `$SMARTLINK`, and the directory of the script.
use Rattle.std.specs.Prelude.{ℕ, Bool, true, false, ◌||◌, List, [], ◌∷◌, Option, Some, None, map, take, codes, slice_get, Result, Ok, Err, if◌then◌else◌}
use Rattle.std.specs.List.{list_any, flat_map}
use Rattle.std.specs.Str.{bytes_eq}
use Rattle.world_api.specs.declared.job.Work.{Work}
use Rattle.world_api.specs.declared.job.Work.TheVariants as work
use Rattle.variant_dirs.specs.declared.variants.Variant.{Variant}
use Rattle.env_subst.specs.declared.locals.Named.{Named}
use Rattle.env_subst.specs.declared.locals.Locals.{Locals}
use Rattle.scons_decls.specs.declared.language.Language.{Language}
use Rattle.scons_decls.specs.declared.language.Language.TheVariants.{C, CPlusPlus}
use Rattle.scons_decls.specs.declared.rule.Recipe.{Recipe}
use Rattle.scons_decls.specs.declared.rule.Recipe.TheVariants.{Object, Program, StaticLibrary, Command, Own, Textfile, Substfile, Install, InstallAs}
use Rattle.scons_decls.specs.Languages.{language_of}
use Rattle.scons_decls.specs.State.{Declared, Rule}
use Rattle.scons_rules.specs.declared.fault.RuleReadFault.{RuleReadFault}
use Rattle.scons_rules.specs.Numbers.{each_once}
use Rattle.scons_rules.specs.Settled.{settled, named}
use Rattle.scons_rules.specs.Shell.{all_in_line}
use Rattle.scons_rules.specs.Steps.{and_then}

-- how a recipe is done: by the shell, as a copy, or as a write
abbrev pub work_of : Recipe → Work
work_of Object = work.Shell
work_of Program = work.Shell
work_of StaticLibrary = work.Shell
work_of (Command lines) = work.Shell
work_of (Own builder) = work.Shell
work_of (Textfile texts pairs) = work.Write
work_of (Substfile pairs) = work.Write
work_of Install = work.Copy
work_of InstallAs = work.Copy

abbrev is_spoken : Option Language → Bool
is_spoken None = false
is_spoken (Some C) = false
is_spoken (Some CPlusPlus) = true

-- a C++ source
abbrev pub is_cplusplus : List ℕ → Bool
is_cplusplus path = is_spoken (language_of path)

-- whether the first of these is one: an object has one source
abbrev pub is_cplusplus_source : List (List ℕ) → Bool
is_cplusplus_source sources = list_any is_cplusplus (take 1 sources)

-- these, or none
abbrev pub unless_none : Bool → List (List ℕ) → List (List ℕ)
unless_none there paths = if there then paths else []

abbrev of_cplusplus : Recipe → List (List ℕ) → List (List ℕ) → List (List ℕ)
of_cplusplus Object sources targets = unless_none (is_cplusplus_source sources) targets
of_cplusplus Program sources targets = []
of_cplusplus StaticLibrary sources targets = []
of_cplusplus (Command lines) sources targets = []
of_cplusplus (Own builder) sources targets = []
of_cplusplus (Textfile texts pairs) sources targets = []
of_cplusplus (Substfile pairs) sources targets = []
of_cplusplus Install sources targets = []
of_cplusplus InstallAs sources targets = []

-- the objects that a rule makes of a C++ source
abbrev pub cplusplus_of : Rule → List (List ℕ)
cplusplus_of r = of_cplusplus r.recipe r.sources r.targets

-- the objects that are made of C++ sources
abbrev pub cplusplus_objects : List Rule → List (List ℕ)
cplusplus_objects rules = each_once (flat_map cplusplus_of rules)

-- what links a rule's sources: the C++ compiler where one of them is a C++ source or an object of one, else the C compiler
abbrev pub smartlink_of : List (List ℕ) → List (List ℕ) → List ℕ
smartlink_of objects sources =
    if list_any (λ s. is_cplusplus s || list_any (bytes_eq s) objects) sources then codes "$CXX" else codes "$CC"

pub record Known : Type 0 where
  pub targets : List Named
  pub sources : List Named
  pub smartlink : List ℕ
  pub dir : List ℕ
  pub top : List ℕ
  pub variants : List Variant

abbrev pub known_of : Locals → Known
known_of l = record {
  targets = l.targets.items;
  sources = l.sources.items;
  smartlink = l.smartlink;
  dir = l.dir;
  top = l.top;
  variants = l.variants;
}

-- what is known of no rule yet
abbrev pub of_no_rule : Declared → Known
of_no_rule d = record {
  targets = [];
  sources = [];
  smartlink = codes "$CC";
  dir = d.locals.dir;
  top = d.locals.top;
  variants = d.locals.variants;
}

abbrev pub shown_in_lines : Work → List (List ℕ) → List (List ℕ) → Result (Unit {0}) RuleReadFault
shown_in_lines work.Shell sources targets = and_then (all_in_line sources) (λ u. all_in_line targets)
shown_in_lines work.Copy sources targets = Ok tt
shown_in_lines work.Write sources targets = Ok tt

-- the sources and then the targets of a rule that the shell makes have to be paths that it takes as one word
abbrev pub may_stand : Declared → Rule → Result (Unit {0}) RuleReadFault
may_stand d r = shown_in_lines (work_of r.recipe) (map (settled d) r.sources) r.targets

-- what is known of a rule, where these are the objects of C++ sources. The top and the variant directories stay
abbrev pub of_rule : Declared → List (List ℕ) → Rule → Known → Result Known RuleReadFault
of_rule d objects r k =
    and_then (may_stand d r) (λ u. Ok (record {
      targets = map (named d) r.targets;
      sources = map (named d) (map (settled d) r.sources);
      smartlink = smartlink_of objects r.sources;
      dir = r.dir;
      top = k.top;
      variants = k.variants;
    }))

abbrev of_rule_at : Declared → Option Rule → Known → Result Known RuleReadFault
of_rule_at d None k = Ok k
of_rule_at d (Some r) k = of_rule d (cplusplus_objects d.rules) r k

-- the same of the rule of a number; where there is none, all stays
abbrev pub begun : Declared → ℕ → Known → Result Known RuleReadFault
begun d number k = of_rule_at d (slice_get d.rules number) k
