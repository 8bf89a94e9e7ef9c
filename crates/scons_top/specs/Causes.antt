-- Why a run has the faults that it reports: each tells what was at fault outside, and what was at fault is told.
use Rattle.std.specs.Prelude.{◌≢◌, ◌⊎◌, List, All, Contains}
use Rattle.scons_base.specs.Rising.{Rose}
use Rattle.world_api.specs.Meaning.{Meaning}
use Rattle.world_api.specs.Printed.{SinkMeaning}
use Rattle.build_run.specs.Causes.{Outside, outside, IsLater}
use Rattle.scons_top.specs.Counted.{AreFew}
use Rattle.scons_top.specs.declared.report.Report.{Report}
use Rattle.scons_top.specs.declared.report.Top.{Top}
use Rattle.scons_top.specs.declared.report.Top.TheVariants as top

-- a fault of what lies outside comes only where its count rose; the others speak of the words, the scripts, the graph and
-- the files
abbrev pub HasCause : Outside → Outside → Top → Type 0
HasCause old new (top.Usage place kind) = Unit {0}
HasCause old new (top.Reading file line kind) = Unit {0}
HasCause old new (top.Missing node target) = Unit {0}
HasCause old new (top.UnknownTarget word) = Unit {0}
HasCause old new (top.Cycle paths) = Unit {0}
HasCause old new (top.ActionFailed target code) = Rose old.counts.action_failures new.counts.action_failures
HasCause old new (top.TreeFault path) = Rose old.counts.tree_faults new.counts.tree_faults
HasCause old new (top.StartFault target) = Rose old.counts.start_faults new.counts.start_faults
HasCause old new top.StoreFault = Rose old.counts.disk_faults new.counts.disk_faults
HasCause old new (top.StoreForeign bank) = Unit {0}
HasCause old new top.OutFault = Rose old.out new.out ⊎ Rose old.err new.err
HasCause old new (top.TooLarge path size) = Unit {0}
HasCause old new (top.TooMany what count) = Unit {0}

abbrev pub IsTreeFault : Top → Type 0
IsTreeFault (top.TreeFault path) = Unit {0}
IsTreeFault other = ⊥

abbrev pub IsStartFault : Top → Type 0
IsStartFault (top.StartFault target) = Unit {0}
IsStartFault other = ⊥

abbrev pub IsActionFault : Top → Type 0
IsActionFault (top.ActionFailed target code) = Unit {0}
IsActionFault other = ⊥

-- one of these faults is such
abbrev pub HasAny : (Top → Type 0) → List Top → Type 0
HasAny P faults = (fault : Top) × Contains faults fault × P fault

-- each count that changed has its fault among these
pub record AreTold (old new : Outside) (faults : List Top) : Type 0 where
  pub disk : new.counts.disk_faults ≢ old.counts.disk_faults → Contains faults top.StoreFault
  pub tree : new.counts.tree_faults ≢ old.counts.tree_faults → HasAny IsTreeFault faults
  pub start : new.counts.start_faults ≢ old.counts.start_faults → HasAny IsStartFault faults
  pub action : new.counts.action_failures ≢ old.counts.action_failures → HasAny IsActionFault faults
  pub out : new.out ≢ old.out → Contains faults top.OutFault
  pub err : new.err ≢ old.err → Contains faults top.OutFault

-- no count fell, each fault has its cause, there are no more of a kind than its count rose by, and, unless memory was wanting, each count
-- that changed has its fault
pub record IsCaused (old new : Outside) (report : Report) : Type 0 where
  pub later : IsLater old new
  pub each : All (HasCause old new) report.faults
  pub counted : AreFew old new report.faults
  pub told : report.status ≢ 3 → AreTold old new report.faults

-- the same of a run over a world and two sinks
abbrev pub RunCauses : {W O E : Type 0} → Meaning W → SinkMeaning O → SinkMeaning E → W → O → E → W → O → E → Report → Type 0
RunCauses m o e world out err new_world new_out new_err report =
    IsCaused (outside (m.counts world) (o.faults out) (e.faults err)) (outside (m.counts new_world) (o.faults new_out) (e.faults new_err)) report
