-- Why a build has the faults that it reports: each tells what was at fault outside, and what was at fault is told.
use Rattle.std.specs.Prelude.{◌≡◌, ◌≢◌, ◌≤◌, ◌+◌, ◌⊎◌, Bool, false, ℕ, List, All, Contains, Result, Ok, Err}
use Rattle.std.specs.List.{count_by}
use Rattle.world_api.specs.Causes.{Later, StartFails}
use Rattle.scons_base.specs.Rising.{Rose}
use Rattle.world_api.specs.Counts.{Counts}
use Rattle.world_api.specs.Meaning.{Meaning}
use Rattle.world_api.specs.Printed.{SinkMeaning}
use Rattle.rule_graph.specs.declared.build_fault.BuildFault.{BuildFault}
use Rattle.rule_graph.specs.declared.build_fault.BuildFault.TheVariants as fault
use Rattle.build_files.specs.declared.end.ListEnd.{ListEnd}
use Rattle.build_files.specs.declared.end.ListEnd.TheVariants as end
use Rattle.build_run.specs.declared.end.BuildEnd.{BuildEnd}
use Rattle.build_run.specs.Counting.{RoseBy, is_action_fault, is_start_fault, is_tree_fault, is_out_fault}

-- how often the world, standard output and standard error were at fault
pub record Outside : Type 0 where
  pub counts : Counts
  pub out : ℕ
  pub err : ℕ

abbrev pub outside : Counts → ℕ → ℕ → Outside
outside counts out err = record { counts = counts; out = out; err = err }

-- no count fell
pub record IsLater (old new : Outside) : Type 0 where
  pub counts : Later old.counts new.counts
  pub out : old.out ≤ new.out
  pub err : old.err ≤ new.err

-- a fault of what lies outside comes only where its count rose; the others speak of the graph and the files
abbrev pub HasCause : Outside → Outside → BuildFault → Type 0
HasCause old new (fault.Missing node target) = Unit {0}
HasCause old new (fault.Cycle paths) = Unit {0}
HasCause old new (fault.ActionFailed target code) = Rose old.counts.action_failures new.counts.action_failures
HasCause old new (fault.TreeFault path) = Rose old.counts.tree_faults new.counts.tree_faults
HasCause old new (fault.StartFault target) = Rose old.counts.start_faults new.counts.start_faults
HasCause old new fault.StoreFault = Rose old.counts.disk_faults new.counts.disk_faults
HasCause old new fault.OutFault = Rose old.out new.out ⊎ Rose old.err new.err
HasCause old new (fault.TooLarge path size) = Unit {0}
HasCause old new (fault.TooMany what count) = Unit {0}

-- a fault for which nothing outside need be at fault
abbrev pub IsInner : BuildFault → Type 0
IsInner fault = (old new : Outside) → HasCause old new fault

abbrev pub IsTreeFault : BuildFault → Type 0
IsTreeFault (fault.TreeFault path) = Unit {0}
IsTreeFault other = ⊥

abbrev pub IsStartFault : BuildFault → Type 0
IsStartFault (fault.StartFault target) = Unit {0}
IsStartFault other = ⊥

abbrev pub IsActionFault : BuildFault → Type 0
IsActionFault (fault.ActionFailed target code) = Unit {0}
IsActionFault other = ⊥

-- one of these faults is such
abbrev pub HasAny : (BuildFault → Type 0) → List BuildFault → Type 0
HasAny P faults = (fault : BuildFault) × Contains faults fault × P fault

-- each count that changed has its fault among these
pub record AreTold (old new : Outside) (faults : List BuildFault) : Type 0 where
  pub disk : new.counts.disk_faults ≢ old.counts.disk_faults → Contains faults fault.StoreFault
  pub tree : new.counts.tree_faults ≢ old.counts.tree_faults → HasAny IsTreeFault faults
  pub start : new.counts.start_faults ≢ old.counts.start_faults → HasAny IsStartFault faults
  pub action : new.counts.action_failures ≢ old.counts.action_failures → HasAny IsActionFault faults
  pub out : new.out ≢ old.out → Contains faults fault.OutFault
  pub err : new.err ≢ old.err → Contains faults fault.OutFault

-- Failed actions, jobs that couldn't be started, and faults of the file tree stand among these no more often than their counts
-- rose; a fault of a sink no more often than the counts of both sinks did.
pub record AreCounted (old new : Outside) (faults : List BuildFault) : Type 0 where
  pub action : RoseBy (count_by is_action_fault faults) old.counts.action_failures new.counts.action_failures
  pub start : RoseBy (count_by is_start_fault faults) old.counts.start_faults new.counts.start_faults
  pub tree : RoseBy (count_by is_tree_fault faults) old.counts.tree_faults new.counts.tree_faults
  pub of_out : ℕ
  pub of_err : ℕ
  pub sinks : count_by is_out_fault faults ≡ of_out + of_err
  pub out : RoseBy of_out old.out new.out
  pub err : RoseBy of_err old.err new.err

-- No count fell, each fault has its cause, there are no more of a kind than its count rose by, and, unless memory was wanting,
-- each count that changed has its fault.
pub record AreCaused (old new : Outside) (faults : List BuildFault) (memory : Bool) : Type 0 where
  pub later : IsLater old new
  pub each : All (HasCause old new) faults
  pub counted : AreCounted old new faults
  pub told : memory ≡ false → AreTold old new faults

-- the same of a build over a world and two sinks
abbrev pub BuildCauses : {W O E : Type 0} → Meaning W → SinkMeaning O → SinkMeaning E → W → O → E → W → O → E → BuildEnd → Type 0
BuildCauses m o e world out err new_world new_out new_err answer =
    AreCaused (outside (m.counts world) (o.faults out) (e.faults err)) (outside (m.counts new_world) (o.faults new_out) (e.faults new_err)) answer.faults answer.memory

-- a print was refused: standard output was at fault
abbrev pub HasPrintEnd : ℕ → ℕ → ListEnd → Type 0
HasPrintEnd old new (end.Fault fault.OutFault) = Rose old new
HasPrintEnd old new (end.Fault other) = ⊥
HasPrintEnd old new end.Memory = ⊥

-- or a text was printed
abbrev pub HasPrintCause : {T : Type 0} → ℕ → ℕ → Result T ListEnd → Type 0
HasPrintCause old new (Ok value) = new ≡ old
HasPrintCause old new (Err e) = HasPrintEnd old new e

-- a start was refused: it was at fault, though for want of memory its target may remain untold
abbrev pub HasStartEnd : Counts → Counts → ListEnd → Type 0
HasStartEnd old new (end.Fault (fault.StartFault target)) = StartFails old new
HasStartEnd old new (end.Fault other) = ⊥
HasStartEnd old new end.Memory = (new ≡ old) ⊎ StartFails old new

-- or a job was started
abbrev pub HasStartCause : {T : Type 0} → Counts → Counts → Result T ListEnd → Type 0
HasStartCause old new (Ok value) = new ≡ old
HasStartCause old new (Err e) = HasStartEnd old new e

-- an end for which the start of a job was at fault, though its target may remain untold for want of memory
abbrev pub IsUnstarted : ListEnd → Type 0
IsUnstarted (end.Fault fault) = IsStartFault fault
IsUnstarted end.Memory = Unit {0}
