-- Why a look at the files of a build ends, and what of the outside that stands for.
use Rattle.std.specs.Prelude.{◌≡◌, Result, Ok, Err}
use Rattle.world_api.specs.Causes.{TreeFails}
use Rattle.world_api.specs.Counts.{Counts}
use Rattle.world_api.specs.Looks.{IsTreeAlone}
use Rattle.rule_graph.specs.declared.build_fault.BuildFault.{BuildFault}
use Rattle.rule_graph.specs.declared.build_fault.BuildFault.TheVariants as fault
use Rattle.build_files.specs.declared.end.ListEnd.{ListEnd}
use Rattle.build_files.specs.declared.end.ListEnd.TheVariants as end

-- a fault of the file tree comes only where its count rose; a file that is too large, and too many of something, only
-- where nothing was at fault; and no other fault comes
abbrev pub HasFaultCause : Counts → Counts → BuildFault → Type 0
HasFaultCause old new (fault.Missing node target) = ⊥
HasFaultCause old new (fault.Cycle paths) = ⊥
HasFaultCause old new (fault.ActionFailed target code) = ⊥
HasFaultCause old new (fault.TreeFault path) = TreeFails old new
HasFaultCause old new (fault.StartFault target) = ⊥
HasFaultCause old new fault.StoreFault = ⊥
HasFaultCause old new fault.OutFault = ⊥
HasFaultCause old new (fault.TooLarge path size) = new ≡ old
HasFaultCause old new (fault.TooMany what count) = new ≡ old

-- for want of memory the path of a fault of the file tree may remain untold
abbrev pub HasEndCause : Counts → Counts → ListEnd → Type 0
HasEndCause old new (end.Fault fault) = HasFaultCause old new fault
HasEndCause old new end.Memory = IsTreeAlone old new

-- where all was well nothing was at fault, and an end has its cause
abbrev pub HasLookCause : {T : Type 0} → Counts → Counts → Result T ListEnd → Type 0
HasLookCause old new (Ok value) = new ≡ old
HasLookCause old new (Err e) = HasEndCause old new e

-- an end for which nothing outside is at fault
abbrev pub IsInside : ListEnd → Type 0
IsInside e = (counts : Counts) → HasEndCause counts counts e

-- a result for which nothing outside is at fault
abbrev pub IsQuiet : {T : Type 0} → Result T ListEnd → Type 0
IsQuiet result = (counts : Counts) → HasLookCause counts counts result
