-- How the faults of a run are put together as it ends.
use Rattle.std.specs.Prelude.{◌≡◌, ◌≤◌, ◌+◌, ◌++◌, ◌∷◌, [], ℕ, Bool, true, false, List, All, map, Result, Ok, Err}
use Rattle.std.specs.List.{count_by}
use Rattle.world_api.specs.Counts.{Counts}
use Rattle.world_api.specs.Printed.{SinkMeaning}
use Rattle.world_api.specs.declared.refusal.Fault.{Fault}
use Rattle.rule_graph.specs.declared.build_fault.BuildFault.{BuildFault}
use Rattle.rule_graph.specs.declared.build_fault.BuildFault.TheVariants as fault
use Rattle.build_run.specs.Causes.{Outside, outside, IsLater}
use Rattle.scons_top.specs.declared.report.Report.{Report}
use Rattle.scons_top.specs.declared.report.Top.{Top}
use Rattle.scons_top.specs.declared.report.Top.TheVariants as top
use Rattle.scons_top.specs.declared.stop.Stop.{Stop}
use Rattle.scons_top.specs.declared.stop.Stop.TheVariants as stop
use Rattle.scons_top.specs.Causes.{HasCause, AreTold, IsCaused}
use Rattle.scons_top.specs.Counted.{AreFew, built_faults}
use Rattle.scons_top.specs.Stops.{top_of, HasWorldCause, HasStopFault, HasStop, ReportStep, SinkStep}

-- the faults found so far, and whether memory was wanting: no count fell, each fault has its cause, there are no more of a kind than its
-- count rose by, and, unless memory was wanting, each count that changed is told
pub record Found (old new : Outside) (faults : List Top) (memory : Bool) : Type 0 where
  pub later : IsLater old new
  pub each : All (HasCause old new) faults
  pub counted : AreFew old new faults
  pub told : memory ≡ false → AreTold old new faults

-- over a print on standard error
abbrev pub ErrFinds : {E : Type 0} → SinkMeaning E → E → E → List Top → List Top → Bool → Type 0
ErrFinds e err new_err before after memory = (start : Outside) (counts : Counts) (out : ℕ)
    → Found start (outside counts out (e.faults err)) before false → Found start (outside counts out (e.faults new_err)) after memory

-- the fault for which a run stops is reported
abbrev pub ErrReports : {E : Type 0} → SinkMeaning E → Top → E → E → Report → Type 0
ErrReports e fault err new_err report = (start : Outside) (counts : Counts) (out : ℕ)
    → HasStopFault start (outside counts out (e.faults err)) fault → IsCaused start (outside counts out (e.faults new_err)) report

abbrev pub ErrEnds : {E : Type 0} → SinkMeaning E → Stop → E → E → Report → Type 0
ErrEnds e s err new_err report = (start : Outside) (counts : Counts) (out : ℕ)
    → HasStop start (outside counts out (e.faults err)) s → IsCaused start (outside counts out (e.faults new_err)) report

-- the fault for which a list isn't given is reported
abbrev pub ListEnds : {O E : Type 0} → SinkMeaning O → SinkMeaning E → BuildFault → O → E → O → E → Result Report Stop → Type 0
ListEnds o e fault out err new_out new_err result = (old new : Counts) → HasWorldCause old new (top_of fault)
    → ReportStep (outside old (o.faults out) (e.faults err)) (outside new (o.faults new_out) (e.faults new_err)) result

-- of no kind more of these faults were put behind others than there are
abbrev pub AddsFew : List BuildFault → List Top → List Top → Type 0
AddsFew found old new = (test : BuildFault → Bool) → count_by test (built_faults new) ≤ count_by test (built_faults old) + count_by test found

-- the fault that a last line wasn't written is added, unless memory is wanting
abbrev pub AddsStopped : Stop → List Top → List Top → Bool → Type 0
AddsStopped stop.Memory old new lost = (new ≡ old) × (lost ≡ true)
AddsStopped other old new lost = (lost ≡ false → new ≡ old ++ top.OutFault ∷ []) × (lost ≡ true → new ≡ old)

-- the same, where it may have been written
abbrev pub AddsUnwritten : Result (Unit {0}) Stop → List Top → List Top → Bool → Type 0
AddsUnwritten (Ok value) old new lost = (new ≡ old) × (lost ≡ false)
AddsUnwritten (Err s) old new lost = AddsStopped s old new lost

-- which faults a report then has that wants no memory
abbrev pub ClosesWith : List BuildFault → Result (Unit {0}) Stop → List Top → Type 0
ClosesWith found (Ok value) faults = faults ≡ map top_of found
ClosesWith found (Err s) faults = faults ≡ map top_of found ++ top.OutFault ∷ []

-- the faults of a build are reported, once the last line was written or not
abbrev pub Closes : List BuildFault → Bool → Result (Unit {0}) Stop → Report → Type 0
Closes found memory written report = (start : Outside) (counts : Counts) (out new_out err : ℕ)
    → Found start (outside counts out err) (map top_of found) memory → SinkStep out new_out written → IsCaused start (outside counts new_out err) report

-- the fault that a text wasn't printed is added, unless memory is wanting
abbrev pub AddsUnprinted : Result (Unit {0}) Fault → List BuildFault → List BuildFault → Bool → Type 0
AddsUnprinted (Ok value) old new lost = (new ≡ old) × (lost ≡ false)
AddsUnprinted (Err refused) old new lost = (lost ≡ false → new ≡ old ++ fault.OutFault ∷ []) × (lost ≡ true → new ≡ old)
