-- The graph of what scripts have declared: each rule in the order of its call, and behind them all that isn't a rule.
use Rattle.std.specs.Prelude.{◌≡◌, ◌<◌, ◌==◌, ℕ, suc, List, [], length, slice_get, unwrap_or, Option, Some, None, Result, Ok, Err, if◌then◌else◌}
use Rattle.std.specs.List.{filter_map}
use Rattle.std.specs.Option.{option_map}
use Rattle.env_subst.specs.declared.locals.Locals.{Locals}
use Rattle.rule_graph.specs.Graphs.{empty_graph}
use Rattle.scons_decls.specs.declared.fault.NameFault.{NameFault}
use Rattle.scons_decls.specs.declared.fault.NameFault.TheVariants as name
use Rattle.scons_decls.specs.declared.place.Place.{Place}
use Rattle.scons_decls.specs.State.{Declared}
use Rattle.scons_rules.specs.declared.fault.RuleReadFault.{RuleReadFault}
use Rattle.scons_rules.specs.declared.fault.RuleReadFault.TheVariants as rule
use Rattle.scons_rules.specs.Finishing.{finished}
use Rattle.scons_rules.specs.Knowing.{Known, known_of, of_no_rule, begun}
use Rattle.scons_rules.specs.Libraries as libraries
use Rattle.scons_rules.specs.PathGraphs.{PathGraph, graph_by}
use Rattle.scons_rules.specs.Ruling.{libraries_of, added, first_rule_of}
use Rattle.scons_rules.specs.Steps.{and_then}
use Rattle.scons_host.specs.declared.end.ReadKind.{ReadKind}
use Rattle.scons_host.specs.declared.end.ReadKind.TheVariants as read
use Rattle.scons_host.specs.declared.stop.Stop.{Stop}
use Rattle.scons_host.specs.declared.stop.Stop.TheVariants as stop
use Rattle.scons_host.specs.Files.{Files}
use Rattle.scons_host.specs.Refusals.{told_by}
use Rattle.scons_reading.specs.Firsts.{is_file}

-- where libraries are looked for
abbrev pub standing_in : Files → libraries.Files
standing_in f = record { stands = is_file f }

-- those that were found
abbrev pub found : List (Option (List ℕ)) → List (List ℕ)
found wanted = filter_map (λ library. library) wanted

-- the rule of a number put into a graph, with what its lines know and the libraries that are found among the files
abbrev pub put_in : Files → Declared → ℕ → Locals → PathGraph → Result PathGraph RuleReadFault
put_in f d number l g = and_then (libraries_of (standing_in f) d number l) (λ wanted. added d number l (found wanted) g)

-- what the lines of the rule of a number know; or, where a path of it may not stand in them, its fault
abbrev pub known_at : Declared → ℕ → Result Known RuleReadFault
known_at d number = begun d number (of_no_rule d)

-- what the lines of any rule know: the top and the variant directories of what was declared
pub record IsWithin (d : Declared) (l : Locals) : Type 0 where
  pub top : l.top ≡ d.locals.top
  pub variants : l.variants ≡ d.locals.variants

-- what comes of putting the rule of a number into a graph
pub data Adds (f : Files) (d : Declared) (number : ℕ) (g : PathGraph) : Result PathGraph RuleReadFault → Type 0 where
  unknown : {e : RuleReadFault} → known_at d number ≡ Err e → Adds f d number g (Err e)
  known : {r : Result PathGraph RuleReadFault} (l : Locals) → known_at d number ≡ Ok (known_of l) → put_in f d number l g ≡ r →
      Adds f d number g r

-- nothing is in the graph yet
abbrev pub empty : Declared → PathGraph
empty d = graph_by (empty_graph d.locals.top)

-- the first so many rules, put in one behind another
pub data Puts (f : Files) (d : Declared) : ℕ → PathGraph → Type 0 where
  none : Puts f d 0 (empty d)
  more : {n : ℕ} {g next : PathGraph} → Puts f d n g → Adds f d n g (Ok next) → Puts f d (suc n) next

-- the script of a number
abbrev pub script_in : List (List ℕ) → ℕ → List ℕ
script_in scripts number = unwrap_or (slice_get scripts number) []

-- the script of a target's first rule, where that is another one
abbrev pub other_script : List (List ℕ) → Place → Place → Option (List ℕ)
other_script scripts place first = if first.script == place.script then None else slice_get scripts first.script

-- a target that has a rule already is told with the place of that one
abbrev pub kind_by : List (List ℕ) → Place → Option Place → NameFault → ReadKind
kind_by scripts place (Some first) (name.TwoRules target) =
    read.TwoRules target (record { line = first.line; script = other_script scripts place first })
kind_by scripts place first fault = read.Name fault

abbrev pub stop_by : List (List ℕ) → Option Place → Option Place → NameFault → Stop
stop_by scripts (Some place) first fault = stop.There (script_in scripts place.script) place.line (kind_by scripts place first fault)
stop_by scripts None first fault = stop.Here (read.Name fault)

-- a fault of a rule as it is told: on the line of the call that declared it, or on the line that it names itself
abbrev pub told : List (List ℕ) → Option Place → Option Place → RuleReadFault → Stop
told scripts place first (rule.Name fault) = stop_by scripts place first fault
told scripts place first (rule.At at fault) = stop_by scripts (Some at) first fault
told scripts place first (rule.TooMany what count) = stop.TooMany what count
told scripts place first rule.Memory = stop.Memory

-- where the rule of a number is declared
abbrev pub place_of : Declared → ℕ → Option Place
place_of d number = option_map (λ r. r.place) (slice_get d.rules number)

-- where the first rule of a target is declared that has two
abbrev pub first_place : Declared → RuleReadFault → Option Place
first_place d (rule.Name (name.TwoRules target)) = option_map (λ r. r.place) (first_rule_of d target)
first_place d other = None

abbrev pub rule_stop : List (List ℕ) → Declared → ℕ → RuleReadFault → Stop
rule_stop scripts d number fault = told scripts (place_of d number) (first_place d fault) fault

-- a stop for a fault of the rule of a number, behind those that are in the graph
abbrev pub IsRuleStop : Files → Declared → List (List ℕ) → ℕ → PathGraph → Stop → Type 0
IsRuleStop f d scripts number g s = (e : RuleReadFault) × Adds f d number g (Err e) × (s ≡ rule_stop scripts d number e)

-- the graph with all that isn't a rule, or why there is none
abbrev pub closed : List (List ℕ) → Declared → PathGraph → Result PathGraph Stop
closed scripts d g = told_by (told scripts None None) (finished d g)

-- a stop where rules came to this, and what stands behind them to that
abbrev pub IsEndOfRules : Result (Unit {0}) Stop → Result PathGraph Stop → Stop → Type 0
IsEndOfRules (Ok u) behind s = behind ≡ Err s
IsEndOfRules (Err fault) behind s = s ≡ fault

-- the graph of what was declared, or the first fault of a rule or of what stands behind the rules
pub data Graphs (f : Files) (d : Declared) (scripts : List (List ℕ)) : Result PathGraph Stop → Type 0 where
  refused : {n : ℕ} {g : PathGraph} {s : Stop} → n < length d.rules → Puts f d n g → IsRuleStop f d scripts n g s →
      Graphs f d scripts (Err s)
  made : {g : PathGraph} {r : Result PathGraph Stop} → Puts f d (length d.rules) g → closed scripts d g ≡ r → Graphs f d scripts r
