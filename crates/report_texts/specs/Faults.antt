-- What the faults of a build say on standard error.
use Rattle.std.specs.Prelude.{ℕ, List, [], ◌∷◌, ◌++◌, codes, flat_map}
use Rattle.std.specs.Fmt.{decimal, signed_decimal}
use Rattle.rule_graph.specs.declared.build_fault.BuildFault.{BuildFault}
use Rattle.rule_graph.specs.declared.build_fault.BuildFault.TheVariants.{Missing, Cycle, ActionFailed, TreeFault, StartFault, StoreFault, OutFault, TooLarge, TooMany}
use Rattle.rule_graph.specs.declared.build_fault.What.{What}
use Rattle.rule_graph.specs.declared.build_fault.What.TheVariants.{Nodes, Rules, Deps, StoreBytes}
use Rattle.report_texts.specs.Texts.{line_text}

abbrev pub what_name : What → List ℕ
what_name Nodes = codes "Nodes"
what_name Rules = codes "Rules"
what_name Deps = codes "Deps"
what_name StoreBytes = codes "StoreBytes"

-- each path with an arrow behind it
abbrev pub steps_text : List (List ℕ) → List ℕ
steps_text paths = flat_map (λ path. path ++ codes " -> ") paths

abbrev pub first_of : List (List ℕ) → List ℕ
first_of [] = []
first_of (path ∷ paths) = path

-- the rules of a cycle, back to the first one
abbrev pub cycle_text : List (List ℕ) → List ℕ
cycle_text paths = line_text (codes "scons: *** Dependency cycle: " ++ steps_text paths ++ first_of paths)

-- a fault of printing has no text: there is nowhere left to print it
abbrev pub fault_text : BuildFault → List ℕ
fault_text (Missing node target) = line_text (codes "scons: *** [" ++ target ++ codes "] Source `" ++ node ++ codes "' not found, needed by target `" ++ target ++ codes "'.")
fault_text (Cycle paths) = cycle_text paths
fault_text (ActionFailed target code) = line_text (codes "scons: *** [" ++ target ++ codes "] Error " ++ signed_decimal code)
fault_text (TreeFault path) = line_text (codes "scons: *** [" ++ path ++ codes "] The file tree refused.")
fault_text (StartFault target) = line_text (codes "scons: *** [" ++ target ++ codes "] The action could not be started.")
fault_text StoreFault = line_text (codes "scons: *** The signature file refused.")
fault_text OutFault = []
fault_text (TooLarge path size) = line_text (codes "scons: *** [" ++ path ++ codes "] The file has " ++ decimal size ++ codes " bytes, more than the limit.")
fault_text (TooMany what count) = line_text (codes "scons: *** Too many " ++ what_name what ++ codes ": " ++ decimal count)
