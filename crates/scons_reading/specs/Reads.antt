-- What a reading gives, from the words of the command line and the files that stand.
use Rattle.std.specs.Prelude.{◌≡◌, ℕ, List, [], Option, None, Result, Ok, Err}
use Rattle.scons_base.specs.declared.limits.TheConstants.{UNIT_LIMIT}
use Rattle.py_tree.specs.Tree.{Tree}
use Rattle.py_heap.specs.Heap.{Objects, no_objects}
use Rattle.py_heap.specs.Units.{Units}
use Rattle.py_meaning.specs.States.{Out, Fault}
use Rattle.py_meaning.specs.Evaluates.{Evaluates}
use Rattle.env_subst.specs.declared.locals.Locals.{Locals}
use Rattle.scons_words.specs.declared.words.Words.{Words}
use Rattle.scons_rules.specs.PathGraphs.{PathGraph}
use Rattle.scons_calls.specs.Results.{and_then}
use Rattle.scons_host.specs.declared.end.HostEnd.{HostEnd}
use Rattle.scons_host.specs.declared.stop.Refusal.{Refusal}
use Rattle.scons_host.specs.declared.stop.Stop.{Stop}
use Rattle.scons_host.specs.Files.{Files}
use Rattle.scons_host.specs.Plain.{Plain, plain}
use Rattle.scons_host.specs.ReadingRules.{reading_rules}
use Rattle.scons_host.specs.Refusals.{of_refusal, told_by}
use Rattle.scons_host.specs.Scripts.{first}
use Rattle.scons_host.specs.SoFar.{SoFar}
use Rattle.scons_host.specs.Starting.{AreFirst, arguments, unread}
use Rattle.scons_reading.specs.Firsts.{first_of, further_of}
use Rattle.scons_reading.specs.Ends.{IsFaultEnd, told_end}
use Rattle.scons_reading.specs.Graphs.{Graphs}

-- the first script, what was read so far as it begins, and the heap
pub record Begun : Type 0 where
  pub script : Tree
  pub state : SoFar
  pub heap : Objects

abbrev pub begun_of : Tree → SoFar → Objects → Begun
begun_of script state heap = record { script = script; state = state; heap = heap }

-- the first script begun where nothing was read, while those that are named behind it wait
abbrev pub begun_in : Files → List (List ℕ) → SoFar → Objects → Result Begun Stop
begun_in f named s h =
    and_then (first f (record s { first = further_of named }) (first_of f named)) (λ b. Ok (begun_of b.0 b.1 h))

-- what stands as the first script begins, where texts of scripts are read with these locals at first; or why it doesn't begin
abbrev pub begins : Files → Words → Locals → Result Begun Stop
begins f w l = and_then (told_by of_refusal (arguments no_objects w.arguments)) (λ a. begun_in f w.scripts (unread f.top l a.0) a.1)

-- the units that all scripts may use
abbrev pub all_units : Units
all_units = record { total = UNIT_LIMIT; used = 0 }

-- nothing was printed, and no call was refused
abbrev pub beginning : SoFar → Plain SoFar HostEnd
beginning s = record { state = s; printed = []; end = None; refusals = 0 }

-- what the scripts come to, as the meaning of scripts has it, over the plain host of these files
abbrev pub RunsTo : Files → Begun → Result Out Fault → Plain SoFar HostEnd → Type 0
RunsTo f b result k = Evaluates (plain reading_rules f) b.script b.heap all_units (beginning b.state) result k

-- the course of all scripts: they are over, with all that was read, or they stop; and what they printed
pub data Course : Type 0 where
  over : SoFar → List ℕ → Course
  stops : HostEnd → List ℕ → Course

pub data Runs (f : Files) (b : Begun) : Course → Type 0 where
  ran : {o : Out} {k : Plain SoFar HostEnd} → RunsTo f b (Ok o) k → Runs f b (over k.state k.printed)
  failed : {e : Fault} {k : Plain SoFar HostEnd} {end : HostEnd} → RunsTo f b (Err e) k → IsFaultEnd e k end → Runs f b (stops end k.printed)

-- a graph, or the end for which there is none; and what scripts printed
pub data Outcome : Type 0 where
  gives : PathGraph → List ℕ → Outcome
  ends : HostEnd → List ℕ → Outcome

-- what is read once the first script begins so: scripts stop; or what they declared makes no graph; or that is the graph
pub data ReadsOn (f : Files) (b : Begun) : Outcome → Type 0 where
  stopped : {e : HostEnd} {text : List ℕ} → Runs f b (stops e text) → ReadsOn f b (ends e text)
  ungraphed : {s : SoFar} {stop : Stop} {text : List ℕ} → Runs f b (over s text) → Graphs f s.declared s.scripts (Err stop) →
      ReadsOn f b (ends (told_end stop) text)
  graphed : {s : SoFar} {g : PathGraph} {text : List ℕ} → Runs f b (over s text) → Graphs f s.declared s.scripts (Ok g) →
      ReadsOn f b (gives g text)

-- what is read where texts of scripts are read with these locals at first
pub data ReadsFrom (f : Files) (w : Words) (l : Locals) : Outcome → Type 0 where
  unbegun : {s : Stop} → begins f w l ≡ Err s → ReadsFrom f w l (ends (told_end s) [])
  begun : {b : Begun} {o : Outcome} → begins f w l ≡ Ok b → ReadsOn f b o → ReadsFrom f w l o

-- what is read. A word `NAME=value` may be refused; else there are locals that know nothing yet, with which it begins
pub data Reads (f : Files) (w : Words) : Outcome → Type 0 where
  refused : {r : Refusal} → arguments no_objects w.arguments ≡ Err r → Reads f w (ends (told_end (of_refusal r)) [])
  reads : {o : Outcome} (l : Locals) → AreFirst f.top l → ReadsFrom f w l o → Reads f w o
