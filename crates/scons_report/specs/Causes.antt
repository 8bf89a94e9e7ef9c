-- Why a list isn't given, and what of the outside that stands for.
use Rattle.std.specs.Prelude.{◌≡◌, Result, Ok, Err}
use Rattle.world_api.specs.Causes.{TreeFails}
use Rattle.world_api.specs.Counts.{Counts}
use Rattle.rule_graph.specs.declared.build_fault.BuildFault.{BuildFault}
use Rattle.rule_graph.specs.declared.build_fault.BuildFault.TheVariants as fault
use Rattle.build_files.specs.declared.end.ListEnd.{ListEnd}
use Rattle.build_files.specs.declared.end.ListEnd.TheVariants as end
use Rattle.world_api.specs.Looks.{IsTreeAlone}

-- a fault of the file tree comes only where its count rose, and any other only where nothing was at fault
abbrev pub HasFaultCause : Counts → Counts → BuildFault → Type 0
HasFaultCause old new (fault.Missing node target) = new ≡ old
HasFaultCause old new (fault.Cycle paths) = new ≡ old
HasFaultCause old new (fault.ActionFailed target code) = ⊥
HasFaultCause old new (fault.TreeFault path) = TreeFails old new
HasFaultCause old new (fault.StartFault target) = ⊥
HasFaultCause old new fault.StoreFault = ⊥
HasFaultCause old new fault.OutFault = ⊥
HasFaultCause old new (fault.TooLarge path size) = new ≡ old
HasFaultCause old new (fault.TooMany what count) = new ≡ old

-- for want of memory the path of a fault of the file tree may remain untold
abbrev pub HasEndCause : Counts → Counts → ListEnd → Type 0
HasEndCause old new (end.Fault fault) = HasFaultCause old new fault
HasEndCause old new end.Memory = IsTreeAlone old new

-- where a list is given nothing was at fault, and an end has its cause
abbrev pub HasListCause : {T : Type 0} → Counts → Counts → Result T ListEnd → Type 0
HasListCause old new (Ok value) = new ≡ old
HasListCause old new (Err e) = HasEndCause old new e

-- an end for which nothing outside is at fault
abbrev pub IsInside : ListEnd → Type 0
IsInside e = (counts : Counts) → HasEndCause counts counts e
