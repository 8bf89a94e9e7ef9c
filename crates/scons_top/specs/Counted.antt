-- That no more faults of a kind are reported than its count rose by.
use Rattle.std.specs.Prelude.{List, [], ◌∷◌, ◌++◌}
use Rattle.rule_graph.specs.declared.build_fault.BuildFault.{BuildFault}
use Rattle.rule_graph.specs.declared.build_fault.BuildFault.TheVariants as fault
use Rattle.build_run.specs.Causes.{Outside, AreCounted}
use Rattle.scons_top.specs.declared.report.Top.{Top}
use Rattle.scons_top.specs.declared.report.Top.TheVariants as top

-- the fault of a build that this is; those of words, scripts and a foreign signature file are none
abbrev pub built_fault : Top → List BuildFault
built_fault (top.Usage place kind) = []
built_fault (top.Reading file line kind) = []
built_fault (top.Missing node target) = fault.Missing node target ∷ []
built_fault (top.UnknownTarget word) = []
built_fault (top.Cycle paths) = fault.Cycle paths ∷ []
built_fault (top.ActionFailed target code) = fault.ActionFailed target code ∷ []
built_fault (top.TreeFault path) = fault.TreeFault path ∷ []
built_fault (top.StartFault target) = fault.StartFault target ∷ []
built_fault top.StoreFault = fault.StoreFault ∷ []
built_fault (top.StoreForeign bank) = []
built_fault top.OutFault = fault.OutFault ∷ []
built_fault (top.TooLarge path size) = fault.TooLarge path size ∷ []
built_fault (top.TooMany what count) = fault.TooMany what count ∷ []

-- those of some faults, in their order
abbrev pub built_faults : List Top → List BuildFault
built_faults [] = []
built_faults (f ∷ faults) = built_fault f ++ built_faults faults

-- Failed actions, jobs that couldn't be started, and faults of the file tree stand among these no more often than their counts
-- rose; a fault of a sink no more often than the counts of both sinks did.
abbrev pub AreFew : Outside → Outside → List Top → Type 0
AreFew old new faults = AreCounted old new (built_faults faults)
