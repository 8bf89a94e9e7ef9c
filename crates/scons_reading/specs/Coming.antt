-- What scripts came to that ran over a world, beside what they come to over plain files.
use Rattle.std.specs.Prelude.{◌≡◌, ◌++◌, ℕ, List, Option, Some, None, Result, Ok, Err}
use Rattle.py_eval.specs.declared.scripts.Ran.{Ran}
use Rattle.py_host.specs.declared.place.Place.{Place}
use Rattle.py_meaning.specs.declared.fault.EvalFault.{EvalFault}
use Rattle.py_meaning.specs.declared.fault.EvalFault.TheVariants as fault
use Rattle.py_meaning.specs.declared.fault.EvalKind.{EvalKind}
use Rattle.py_meaning.specs.declared.fault.EvalKind.TheVariants as kind
use Rattle.rule_graph.specs.Graphs.{RuleGraph}
use Rattle.scons_rules.specs.PathGraphs.{graph_by}
use Rattle.world_api.specs.Meaning.{Meaning}
use Rattle.world_api.specs.Printed.{SinkMeaning}
use Rattle.scons_host.specs.declared.end.HostEnd.{HostEnd}
use Rattle.scons_host.specs.Files.{Files}
use Rattle.scons_host.specs.declared.stop.Stop.{Stop}
use Rattle.scons_host.specs.Shown.{Shown, IsTold}
use Rattle.scons_host.specs.SoFar.{SoFar}
use Rattle.scons_host.specs.Untold.{untold_end}
use Rattle.scons_reading.specs.Ends.{IsToldEnd, end_of, own_end}
use Rattle.scons_reading.specs.Graphs.{Graphs}
use Rattle.scons_reading.specs.Reads.{Begun, Runs, over, stops, Outcome, gives, ends}

-- the scripts stop with an end, unless it is one of the outside
abbrev pub StopsWith : Files → Begun → List ℕ → HostEnd → Type 0
StopsWith f b text e = IsToldEnd e → Runs f b (stops (untold_end e) text)

-- they stop with the end that was kept of a refusal
abbrev pub StopsKept : Files → Begun → List ℕ → Option HostEnd → Type 0
StopsKept f b text None = ⊥
StopsKept f b text (Some e) = StopsWith f b text e

-- they stop with a fault of this kind
abbrev pub StopsBy : Files → Begun → List ℕ → SoFar → Option HostEnd → Place → EvalKind → Type 0
StopsBy f b text s kept place kind.Host = StopsKept f b text kept
StopsBy f b text s kept place (kind.Name word) = StopsWith f b text (own_end s place (kind.Name word))
StopsBy f b text s kept place (kind.Value why) = StopsWith f b text (own_end s place (kind.Value why))
StopsBy f b text s kept place (kind.Args called) = StopsWith f b text (own_end s place (kind.Args called))
StopsBy f b text s kept place kind.NotCallable = StopsWith f b text (own_end s place kind.NotCallable)
StopsBy f b text s kept place kind.Depth = StopsWith f b text (own_end s place kind.Depth)

-- they stop with this fault; want of memory says nothing
abbrev pub IsFaultOf : Files → Begun → List ℕ → SoFar → Option HostEnd → EvalFault → Type 0
IsFaultOf f b text s kept (fault.At script line k) = StopsBy f b text s kept (record { script = script; line = line }) k
IsFaultOf f b text s kept fault.Memory = Unit {0}

-- what was found is what the scripts come to over these files, where this was read, this was kept of a refusal and this was printed
abbrev pub CameTo : Files → Begun → List ℕ → SoFar → Option HostEnd → Result Ran EvalFault → Type 0
CameTo f b text s kept (Ok ran) = Runs f b (over s text)
CameTo f b text s kept (Err e) = IsFaultOf f b text s kept e

-- the same by the end
abbrev pub EndedSo : {X : Type 0} → Files → Begun → List ℕ → SoFar → Result X HostEnd → Type 0
EndedSo f b text s (Ok x) = Runs f b (over s text)
EndedSo f b text s (Err e) = StopsWith f b text e

-- the outcome of a reading is so: with its graph, or with its end unless that is one of the outside
abbrev pub HasOutcome : (Outcome → Type 0) → List ℕ → Result RuleGraph HostEnd → Type 0
HasOutcome Comes text (Ok g) = Comes (gives (graph_by g) text)
HasOutcome Comes text (Err e) = IsToldEnd e → Comes (ends (untold_end e) text)

-- the graph of what was declared, or the end that its stop is
abbrev pub HasGraph : Files → SoFar → Result RuleGraph HostEnd → Type 0
HasGraph f s (Ok g) = Graphs f s.declared s.scripts (Ok (graph_by g))
HasGraph f s (Err e) = IsToldEnd e → (stop : Stop) × Graphs f s.declared s.scripts (Err stop) × (e ≡ end_of stop)

-- a graph that was looked for, or the end that the look's stop is
abbrev pub IsEndOfLook : Result RuleGraph Stop → Result RuleGraph HostEnd → Type 0
IsEndOfLook look (Ok g) = look ≡ Ok g
IsEndOfLook look (Err e) = IsToldEnd e → (stop : Stop) × (look ≡ Err stop) × IsTold stop × (e ≡ end_of stop)

-- what is printed behind a text is so
abbrev pub Since : List ℕ → List ℕ → (List ℕ → Type 0) → Type 0
Since before now P = (text : List ℕ) × (now ≡ before ++ text) × P text

-- where the sink tells, what was printed on it is so, for any files that show what stands around
abbrev pub Over : {W O : Type 0} → Meaning W → SinkMeaning O → W → O → W → O → (Files → List ℕ → Type 0) → Type 0
Over m p world out new_world new_out P = p.tells new_out → Shown m world new_world (λ f. Since (p.text out) (p.text new_out) (P f))
