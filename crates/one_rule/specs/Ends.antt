-- What each step of a run is told and leaves, by how it ends.
use Rattle.std.specs.Prelude.{◌≡◌, ◌⊎◌, Result, Ok, Err}
use Rattle.world_api.specs.Around.{Around, Tree}
use Rattle.world_api.specs.Causes.{ActionFails, TreeFails, StartFails}
use Rattle.world_api.specs.Counts.{Counts}
use Rattle.world_api.specs.Meaning.{Meaning}
use Rattle.world_api.specs.Printed.{SinkMeaning}
use Rattle.world_api.specs.declared.job.Outcome.TheVariants.{Done, Failed, Broken}
use Rattle.one_rule.specs.declared.rule.Rule.{Rule}
use Rattle.one_rule.specs.declared.report.Top.{Top}
use Rattle.one_rule.specs.declared.report.Top.TheVariants.{Usage, Reading, Missing, ActionFailed, TreeFault, StartFault, OutFault, TooLarge}
use Rattle.one_rule.specs.declared.stops.ReadStop.{ReadStop}
use Rattle.one_rule.specs.declared.stops.ReadStop.TheVariants as read
use Rattle.one_rule.specs.declared.stops.BuildStop.{BuildStop}
use Rattle.one_rule.specs.declared.stops.BuildStop.TheVariants as build
use Rattle.one_rule.specs.Building.{MayBuild, HasLog, clean_content}
use Rattle.one_rule.specs.Course.{Stopped, Failed as Fails_, Built, announced_text, body_text}
use Rattle.one_rule.specs.Reading.{Reads, Misreads}
use Rattle.world_api.specs.Printing.{Prints, PrintsPart, Cuts}
use Rattle.one_rule.specs.Texts.{reading_text}

-- the count of the outside that a fault stands for; the other faults leave the counts as they were. No step ends by a
-- sink's fault: that comes from printing alone.
abbrev pub FaultCause : Top → Counts → Counts → Type 0
FaultCause (Usage place kind) old new = new ≡ old
FaultCause (Reading file line kind) old new = new ≡ old
FaultCause (Missing node target) old new = new ≡ old
FaultCause (ActionFailed target code) old new = ActionFails old new
FaultCause (TreeFault path) old new = TreeFails old new
FaultCause (StartFault target) old new = StartFails old new
FaultCause OutFault old new = ⊥
FaultCause (TooLarge path size) old new = new ≡ old

-- reading
abbrev pub ReadCause : Result Rule ReadStop → Counts → Counts → Type 0
ReadCause (Ok rule) old new = new ≡ old
ReadCause (Err (read.Fault fault)) old new = FaultCause fault old new
ReadCause (Err read.Unprinted) old new = new ≡ old
ReadCause (Err read.NoMemory) old new = new ≡ old

abbrev pub ReadGives : Tree → Result Rule ReadStop → Type 0
ReadGives tree (Ok rule) = Reads tree rule
ReadGives tree (Err (read.Fault fault)) = Misreads tree fault
ReadGives tree (Err read.Unprinted) = Unit {0}
ReadGives tree (Err read.NoMemory) = Unit {0}

abbrev pub ReadPrints : {S : Type 0} → SinkMeaning S → S → S → Result Rule ReadStop → Type 0
ReadPrints meaning old new (Ok rule) = Prints meaning old new reading_text
ReadPrints meaning old new (Err (read.Fault fault)) = Prints meaning old new reading_text
ReadPrints meaning old new (Err read.Unprinted) = Cuts meaning old new reading_text
ReadPrints meaning old new (Err read.NoMemory) = Prints meaning old new reading_text

-- building
abbrev pub BuildCause : Result (Unit {0}) BuildStop → Counts → Counts → Type 0
BuildCause (Ok done) old new = new ≡ old
BuildCause (Err (build.Stopped fault)) old new = FaultCause fault old new
BuildCause (Err (build.Failed fault)) old new = FaultCause fault old new
BuildCause (Err build.Unprinted) old new = new ≡ old
BuildCause (Err build.NoMemory) old new = new ≡ old

abbrev pub BuildGives : Tree → Rule → Result (Unit {0}) BuildStop → Type 0
BuildGives tree rule (Ok done) = MayBuild tree rule (Built rule)
BuildGives tree rule (Err (build.Stopped fault)) = MayBuild tree rule (Stopped fault)
BuildGives tree rule (Err (build.Failed fault)) = MayBuild tree rule (Fails_ rule fault)
BuildGives tree rule (Err build.Unprinted) = Unit {0}
BuildGives tree rule (Err build.NoMemory) = Unit {0}

-- a started job stands in the log with its ending, which is the fault's
abbrev pub FailLogs : Rule → Counts → Around → Around → Top → Type 0
FailLogs rule counts old new (ActionFailed target code) = HasLog rule counts old.log new.log (Failed code)
FailLogs rule counts old new (StartFault target) = (new.log ≡ old.log) ⊎ HasLog rule counts old.log new.log Broken
FailLogs rule counts old new _ = new.log ≡ old.log

-- the target is what a clean build makes, and its job was started and done
pub record Makes (sure : Type 0) (rule : Rule) (counts : Counts) (old new : Around) : Type 0 where
  pub bytes : sure → new.tree rule.target ≡ clean_content old.law old.tree rule
  pub started : HasLog rule counts old.log new.log Done

abbrev pub BuildMakes : Type 0 → Rule → Counts → Around → Around → Result (Unit {0}) BuildStop → Type 0
BuildMakes sure rule counts old new (Ok done) = Makes sure rule counts old new
BuildMakes sure rule counts old new (Err (build.Stopped fault)) = new.log ≡ old.log
BuildMakes sure rule counts old new (Err (build.Failed fault)) = FailLogs rule counts old new fault
BuildMakes sure rule counts old new (Err build.Unprinted) = new.log ≡ old.log
BuildMakes sure rule counts old new (Err build.NoMemory) = Unit {0}

-- the same between two states of a world
abbrev pub BuildMakesIn : {W : Type 0} → Meaning W → Rule → W → W → Result (Unit {0}) BuildStop → Type 0
BuildMakesIn meaning rule old new result =
    BuildMakes (meaning.sure new) rule (meaning.counts old) (meaning.around old) (meaning.around new) result

abbrev pub BuildPrints : {S : Type 0} → SinkMeaning S → Rule → S → S → Result (Unit {0}) BuildStop → Type 0
BuildPrints meaning rule old new (Ok done) = Prints meaning old new (body_text rule)
BuildPrints meaning rule old new (Err (build.Stopped fault)) = Prints meaning old new announced_text
BuildPrints meaning rule old new (Err (build.Failed fault)) = Prints meaning old new (body_text rule)
BuildPrints meaning rule old new (Err build.Unprinted) = Cuts meaning old new (body_text rule)
BuildPrints meaning rule old new (Err build.NoMemory) = PrintsPart meaning old new (body_text rule)
