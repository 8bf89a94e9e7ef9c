-- When a run ends well: what may stand in its way where nothing outside was at fault.
use Rattle.std.specs.Prelude.{◌≡◌, ◌⊎◌}
use Rattle.scons_base.specs.Rising.{Rose}
use Rattle.world_api.specs.Meaning.{Meaning}
use Rattle.world_api.specs.Printed.{SinkMeaning}
use Rattle.rule_graph.specs.declared.build_fault.What.TheVariants as what
use Rattle.build_run.specs.Causes.{Outside, outside}
use Rattle.scons_top.specs.Causes.{HasAny}
use Rattle.scons_top.specs.declared.report.Report.{Report}
use Rattle.scons_top.specs.declared.report.Top.{Top}
use Rattle.scons_top.specs.declared.report.Top.TheVariants as top
use Rattle.scons_top.specs.declared.step.Step.{Step}
use Rattle.scons_top.specs.declared.step.Step.TheVariants as step

-- nothing outside was at fault: no count rose
pub record NoneRose (old new : Outside) : Type 0 where
  pub disk : Rose old.counts.disk_faults new.counts.disk_faults → ⊥
  pub tree : Rose old.counts.tree_faults new.counts.tree_faults → ⊥
  pub start : Rose old.counts.start_faults new.counts.start_faults → ⊥
  pub action : Rose old.counts.action_failures new.counts.action_failures → ⊥
  pub out : Rose old.out new.out → ⊥
  pub err : Rose old.err new.err → ⊥

-- a script that can't be read, or a limit that is passed
abbrev pub IsOfScripts : Top → Type 0
IsOfScripts (top.Reading file line kind) = Unit {0}
IsOfScripts (top.TooLarge path size) = Unit {0}
IsOfScripts (top.TooMany what count) = Unit {0}
IsOfScripts other = ⊥

-- a word for which there is nothing, a member of an alias that isn't there, a limit, or, where leftover copies are looked for, banks that are
-- something else
abbrev pub IsOfAsking : Top → Type 0
IsOfAsking (top.UnknownTarget word) = Unit {0}
IsOfAsking (top.Missing node target) = Unit {0}
IsOfAsking (top.StoreForeign bank) = Unit {0}
IsOfAsking (top.TooLarge path size) = Unit {0}
IsOfAsking (top.TooMany what count) = Unit {0}
IsOfAsking other = ⊥

-- banks that are something else, or too large
abbrev pub IsOfBanks : Top → Type 0
IsOfBanks (top.StoreForeign bank) = Unit {0}
IsOfBanks (top.TooMany what.StoreBytes count) = Unit {0}
IsOfBanks other = ⊥

-- a dependency that isn't there, a cycle, or a limit
abbrev pub IsOfGraph : Top → Type 0
IsOfGraph (top.Missing node target) = Unit {0}
IsOfGraph (top.Cycle paths) = Unit {0}
IsOfGraph (top.TooLarge path size) = Unit {0}
IsOfGraph (top.TooMany what count) = Unit {0}
IsOfGraph other = ⊥

-- At these steps such a fault may stand in the way, and at the others none.
abbrev pub StandsInTheWay : Step → Top → Type 0
StandsInTheWay step.Reading fault = IsOfScripts fault
StandsInTheWay step.Requests fault = IsOfAsking fault
StandsInTheWay step.Store fault = IsOfBanks fault
StandsInTheWay step.Listing fault = IsOfGraph fault
StandsInTheWay step.Building fault = IsOfGraph fault
StandsInTheWay other fault = ⊥

-- Where nothing outside was at fault, a run ends well or for want of memory, or it reports what stands in its way.
abbrev pub Completes : Outside → Outside → Report → Type 0
Completes old new report = NoneRose old new → (report.status ≡ 0) ⊎ (report.status ≡ 3) ⊎ HasAny (StandsInTheWay report.step) report.faults

-- the same of a run over a world and two sinks
abbrev pub RunCompletes : {W O E : Type 0} → Meaning W → SinkMeaning O → SinkMeaning E → W → O → E → W → O → E → Report → Type 0
RunCompletes m o e world out err new_world new_out new_err report =
    Completes (outside (m.counts world) (o.faults out) (e.faults err)) (outside (m.counts new_world) (o.faults new_out) (e.faults new_err)) report
