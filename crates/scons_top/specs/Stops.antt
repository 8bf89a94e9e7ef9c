-- What a step of a run says of the outside: where it goes on nothing was at fault, and where it stops, what it stops for alone was.
use Rattle.std.specs.Prelude.{◌≡◌, ℕ, Result, Ok, Err}
use Rattle.scons_base.specs.Rising.{Rose}
use Rattle.world_api.specs.Causes.{Later, TreeFails, DiskFails}
use Rattle.world_api.specs.Counts.{Counts}
use Rattle.world_api.specs.Meaning.{Meaning}
use Rattle.world_api.specs.Printed.{SinkMeaning}
use Rattle.rule_graph.specs.declared.build_fault.BuildFault.{BuildFault}
use Rattle.rule_graph.specs.declared.build_fault.BuildFault.TheVariants as fault
use Rattle.rule_graph.specs.declared.build_fault.What.TheVariants as what
use Rattle.build_files.specs.declared.end.ListEnd.{ListEnd}
use Rattle.build_files.specs.declared.end.ListEnd.TheVariants as list_end
use Rattle.sign_store.specs.declared.refusals.StoreRefusal.{StoreRefusal}
use Rattle.sign_store.specs.declared.refusals.StoreRefusal.TheVariants as refusal
use Rattle.scons_host.specs.declared.end.HostEnd.{HostEnd}
use Rattle.scons_host.specs.declared.end.HostEnd.TheVariants as host_end
use Rattle.scons_words.specs.declared.fault.WordsFault.{WordsFault}
use Rattle.scons_words.specs.declared.fault.WordsFault.TheVariants as words_fault
use Rattle.build_run.specs.Causes.{Outside, outside, IsLater}
use Rattle.scons_top.specs.declared.report.Report.{Report}
use Rattle.scons_top.specs.declared.report.Top.{Top}
use Rattle.scons_top.specs.declared.report.Top.TheVariants as top
use Rattle.scons_top.specs.declared.stop.OwnFault.TheVariants as own
use Rattle.scons_top.specs.declared.stop.Stop.{Stop}
use Rattle.scons_top.specs.declared.stop.Stop.TheVariants as stop
use Rattle.scons_top.specs.Causes.{IsCaused}
use Rattle.scons_top.specs.Faults.{top_of_own}

-- the fault of a run that a fault of a build is
abbrev pub top_of : BuildFault → Top
top_of (fault.Missing node target) = top.Missing node target
top_of (fault.Cycle paths) = top.Cycle paths
top_of (fault.ActionFailed target code) = top.ActionFailed target code
top_of (fault.TreeFault path) = top.TreeFault path
top_of (fault.StartFault target) = top.StartFault target
top_of fault.StoreFault = top.StoreFault
top_of fault.OutFault = top.OutFault
top_of (fault.TooLarge path size) = top.TooLarge path size
top_of (fault.TooMany what count) = top.TooMany what count

-- the stops that the ends of the layers below are
abbrev pub stop_of_words : WordsFault → Stop
stop_of_words (words_fault.At place kind) = stop.Fault (own.Usage place kind)
stop_of_words words_fault.Memory = stop.Memory

abbrev pub stop_of_list : ListEnd → Stop
stop_of_list (list_end.Fault fault) = stop.Build fault
stop_of_list list_end.Memory = stop.Memory

abbrev pub stop_of_host : HostEnd → Stop
stop_of_host (host_end.Reading file line kind) = stop.Fault (own.Reading file line kind)
stop_of_host (host_end.Tree path) = stop.Build (fault.TreeFault path)
stop_of_host host_end.Out = stop.Build fault.OutFault
stop_of_host (host_end.TooLarge path size) = stop.Build (fault.TooLarge path size)
stop_of_host (host_end.TooMany what count) = stop.Build (fault.TooMany what count)
stop_of_host host_end.Memory = stop.Memory

abbrev pub stop_of_store : StoreRefusal → Stop
stop_of_store refusal.Fault = stop.Build fault.StoreFault
stop_of_store (refusal.Foreign bank) = stop.Fault (own.StoreForeign bank)
stop_of_store (refusal.Large size) = stop.Build (fault.TooMany what.StoreBytes size)
stop_of_store refusal.Memory = stop.Memory

-- with which fault of the world what was at fault, and nothing else; none of a sink or of an action comes
abbrev pub HasWorldCause : Counts → Counts → Top → Type 0
HasWorldCause old new (top.Usage place kind) = new ≡ old
HasWorldCause old new (top.Reading file line kind) = new ≡ old
HasWorldCause old new (top.Missing node target) = new ≡ old
HasWorldCause old new (top.UnknownTarget word) = new ≡ old
HasWorldCause old new (top.Cycle paths) = new ≡ old
HasWorldCause old new (top.ActionFailed target code) = ⊥
HasWorldCause old new (top.TreeFault path) = TreeFails old new
HasWorldCause old new (top.StartFault target) = ⊥
HasWorldCause old new top.StoreFault = DiskFails old new
HasWorldCause old new (top.StoreForeign bank) = new ≡ old
HasWorldCause old new top.OutFault = ⊥
HasWorldCause old new (top.TooLarge path size) = new ≡ old
HasWorldCause old new (top.TooMany what count) = new ≡ old

-- for want of memory a fault may remain untold
abbrev pub HasWorldStop : Counts → Counts → Stop → Type 0
HasWorldStop old new (stop.Fault fault) = HasWorldCause old new (top_of_own fault)
HasWorldStop old new (stop.Build fault) = HasWorldCause old new (top_of fault)
HasWorldStop old new stop.Memory = Later old new

-- a step over the world alone
abbrev pub WorldStep : {T : Type 0} → Counts → Counts → Result T Stop → Type 0
WorldStep old new (Ok value) = new ≡ old
WorldStep old new (Err s) = HasWorldStop old new s

-- a stop for which nothing outside is at fault
abbrev pub IsInside : Stop → Type 0
IsInside s = (counts : Counts) → HasWorldStop counts counts s

-- a stop because the file tree refused; its path may remain untold for want of memory
abbrev pub IsTopStop : Stop → Type 0
IsTopStop s = (old new : Counts) → TreeFails old new → HasWorldStop old new s

-- a step with no call outside
abbrev pub InnerStep : {T : Type 0} → Result T Stop → Type 0
InnerStep result = (counts : Counts) → WorldStep counts counts result

-- a step on a sink alone stops for that sink, or for want of memory
abbrev pub HasSinkStop : ℕ → ℕ → Stop → Type 0
HasSinkStop old new (stop.Fault fault) = ⊥
HasSinkStop old new (stop.Build fault.OutFault) = Rose old new
HasSinkStop old new (stop.Build other) = ⊥
HasSinkStop old new stop.Memory = new ≡ old

abbrev pub SinkStep : {T : Type 0} → ℕ → ℕ → Result T Stop → Type 0
SinkStep old new (Ok value) = new ≡ old
SinkStep old new (Err s) = HasSinkStop old new s

-- no sink was at fault
pub record OnWorld (P : Counts → Counts → Type 0) (old new : Outside) : Type 0 where
  pub counts : P old.counts new.counts
  pub out : new.out ≡ old.out
  pub err : new.err ≡ old.err

-- standard output was at fault, and nothing else
pub record OutFails (old new : Outside) : Type 0 where
  pub counts : new.counts ≡ old.counts
  pub out : Rose old.out new.out
  pub err : new.err ≡ old.err

-- a fault for which a step stops
abbrev pub HasStopFault : Outside → Outside → Top → Type 0
HasStopFault old new top.OutFault = OutFails old new
HasStopFault old new other = OnWorld (λ a b. HasWorldCause a b other) old new

abbrev pub HasStop : Outside → Outside → Stop → Type 0
HasStop old new (stop.Fault fault) = HasStopFault old new (top_of_own fault)
HasStop old new (stop.Build fault) = HasStopFault old new (top_of fault)
HasStop old new stop.Memory = IsLater old new

-- a step over the world and both sinks
abbrev pub Step : {T : Type 0} → Outside → Outside → Result T Stop → Type 0
Step old new (Ok value) = new ≡ old
Step old new (Err s) = HasStop old new s

-- the same of calls on the world and standard output
abbrev pub OutSteps : {W O T : Type 0} → Meaning W → SinkMeaning O → W → O → W → O → Result T Stop → Type 0
OutSteps m o world out new_world new_out result =
    (err : ℕ) → Step (outside (m.counts world) (o.faults out) err) (outside (m.counts new_world) (o.faults new_out) err) result

-- a step that gives a report
abbrev pub ReportStep : Outside → Outside → Result Report Stop → Type 0
ReportStep old new (Ok report) = IsCaused old new report
ReportStep old new (Err s) = HasStop old new s

abbrev pub SinkReports : {O : Type 0} → SinkMeaning O → O → O → Result Report Stop → Type 0
SinkReports o out new_out result = (counts : Counts) (err : ℕ) → ReportStep (outside counts (o.faults out) err) (outside counts (o.faults new_out) err) result

abbrev pub OutReports : {W O : Type 0} → Meaning W → SinkMeaning O → W → O → W → O → Result Report Stop → Type 0
OutReports m o world out new_world new_out result =
    (err : ℕ) → ReportStep (outside (m.counts world) (o.faults out) err) (outside (m.counts new_world) (o.faults new_out) err) result

abbrev pub Reports : {W O E : Type 0} → Meaning W → SinkMeaning O → SinkMeaning E → W → O → E → W → O → E → Result Report Stop → Type 0
Reports m o e world out err new_world new_out new_err result =
    ReportStep (outside (m.counts world) (o.faults out) (e.faults err)) (outside (m.counts new_world) (o.faults new_out) (e.faults new_err)) result
