-- Which faults a run reports that came to build: those that its build found, by its log, and what stands behind them.
use Rattle.std.specs.Prelude.{◌≡◌, ◌≢◌, ◌⊎◌, ◌++◌, ◌∷◌, [], Bool, true, List, All, Contains, map}
use Rattle.world_api.specs.Meaning.{Meaning}
use Rattle.rule_graph.specs.declared.build_fault.BuildFault.{BuildFault}
use Rattle.sign_store.specs.Ends.{image_in}
use Rattle.sign_store.specs.Tables.{Map}
use Rattle.scons_words.specs.declared.words.Words.{Words}
use Rattle.build_means.specs.Builds.{Wanted}
use Rattle.build_run.specs.Faulted.{HasFaulted}
use Rattle.build_run.specs.declared.end.BuildEnd.{BuildEnd}
use Rattle.scons_top.specs.Stops.{top_of}
use Rattle.scons_top.specs.Trees.{shows_trees}
use Rattle.scons_top.specs.declared.report.Report.{Report}
use Rattle.scons_top.specs.declared.report.Top.{Top}
use Rattle.scons_top.specs.declared.report.Top.TheVariants as top

-- this is what a build answered
pub record IsAnswer (answer : BuildEnd) (is_ended memory : Bool) (found : List BuildFault) : Type 0 where
  pub ended : answer.is_ended ≡ is_ended
  pub wanting : answer.memory ≡ memory
  pub faults : answer.faults ≡ found

-- The build of a run: it began once the run had begun the store, by the files, the counts and the records that the run found, and the run
-- changed no file behind it. The faults that it found come of its log.
pub record HasFoundFaults {W : Type 0} (m : Meaning W) (w : Wanted) (old new : W) (behind : Map) (is_ended memory : Bool) (found : List BuildFault) : Type 0 where
  pub begun : W
  pub built : W
  pub around : m.around begun ≡ m.around old
  pub counts : m.counts begun ≡ m.counts old
  pub left : m.around new ≡ m.around built
  pub answer : BuildEnd
  pub answered : IsAnswer answer is_ended memory found
  pub faulted : HasFaulted m w (image_in (m.seen old)) begun built behind answer

-- The faults of a report are those that its build found, in their order; behind them may stand that the last line was refused. Behind a build
-- without a fault, where trees are shown, stand those for which a tree isn't.
pub data AreReported (said : Words) (found : List BuildFault) (faults : List Top) : Type 0 where
  alone : faults ≡ map top_of found → AreReported said found faults
  unwritten : faults ≡ map top_of found ++ top.OutFault ∷ [] → AreReported said found faults
  of_trees : shows_trees said found ≡ true → AreReported said found faults

-- the build found this fault, or a text was refused
abbrev pub IsFound : List BuildFault → Top → Type 0
IsFound found f = Contains (map top_of found) f ⊎ (f ≡ top.OutFault)

abbrev pub AreFound : List BuildFault → List Top → Type 0
AreFound found faults = All (IsFound found) faults

-- What a report has of its build: all faults in their order unless memory was wanting, and no others.
pub record ReportsFound (said : Words) (found : List BuildFault) (report : Report) : Type 0 where
  pub all : report.status ≢ 3 → AreReported said found report.faults
  pub none_else : AreFound found report.faults ⊎ (shows_trees said found ≡ true)
