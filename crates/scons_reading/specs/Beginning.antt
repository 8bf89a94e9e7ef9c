-- What stands as the first script begins, as the code keeps it.
use Rattle.std.specs.Prelude.{◌≡◌, ◌++◌, ℕ, List, Result, Ok, Err}
use Rattle.py_heap.specs.Heap.{Objects, no_objects}
use Rattle.py_tree.specs.declared.line.Script.{Script}
use Rattle.py_tree.specs.Tree.{script_tree}
use Rattle.env_subst.specs.declared.locals.Locals.{Locals}
use Rattle.scons_words.specs.declared.words.Words.{Words}
use Rattle.scons_host.specs.declared.state.State.{State}
use Rattle.scons_host.specs.declared.stop.Refusal.{Refusal}
use Rattle.scons_host.specs.declared.stop.Stop.{Stop}
use Rattle.scons_host.specs.Files.{Files}
use Rattle.scons_host.specs.Refusals.{of_refusal}
use Rattle.scons_host.specs.SoFar.{SoFar, so_far}
use Rattle.scons_host.specs.Starting.{AreFirst, arguments}
use Rattle.scons_reading.specs.Firsts.{further_of}
use Rattle.scons_reading.specs.Reads.{Begun, begun_of, begins}

abbrev pub begun_by : Script → State → Objects → Begun
begun_by script state heap = begun_of (script_tree script) (so_far state) heap

-- further first scripts that wait
abbrev pub with_waiting : List (List ℕ) → SoFar → SoFar
with_waiting further s = record s { first = s.first ++ further }

abbrev pub with_further : List (List ℕ) → SoFar → SoFar
with_further named s = with_waiting (further_of named) s

-- a reading begins so, with locals that know nothing yet
abbrev pub Begins : Files → Words → Begun → Type 0
Begins f w b = (l : Locals) × AreFirst f.top l × (begins f w l ≡ Ok b)

-- none begins: a word `NAME=value` is refused, or the first script is
pub data BeginsNot (f : Files) (w : Words) (s : Stop) : Type 0 where
  bad_word : {r : Refusal} → arguments no_objects w.arguments ≡ Err r → s ≡ of_refusal r → BeginsNot f w s
  no_script : (l : Locals) → AreFirst f.top l → begins f w l ≡ Err s → BeginsNot f w s
