-- The steps of building a rule.
use Rattle.std.specs.Prelude.{◌≡◌, ◌⊎◌, ℕ, ℤ, List, [], Option, Some, None, Result, Ok, Err}
use Rattle.world_api.specs.Around.{Tree}
use Rattle.world_api.specs.Counts.{Counts}
use Rattle.world_api.specs.declared.refusal.ReadRefusal.{ReadRefusal}
use Rattle.world_api.specs.declared.refusal.ReadRefusal.TheVariants as refusal
use Rattle.world_api.specs.declared.refusal.AskRefusal.{AskRefusal}
use Rattle.world_api.specs.declared.refusal.AskRefusal.TheVariants as ask
use Rattle.world_api.specs.declared.job.Outcome.{Outcome}
use Rattle.world_api.specs.declared.job.Outcome.TheVariants as outcome
use Rattle.world_api.specs.Printed.{SinkMeaning}
use Rattle.one_rule.specs.declared.rule.Rule.{Rule}
use Rattle.world_api.specs.Printing.{Prints, Cuts}
use Rattle.one_rule.specs.Texts.{line_text}
use Rattle.one_rule.specs.declared.report.Top.TheVariants.{Missing, TreeFault, TooLarge, StartFault, ActionFailed}
use Rattle.one_rule.specs.declared.stops.BuildStop.{BuildStop}
use Rattle.one_rule.specs.declared.stops.BuildStop.TheVariants.{Stopped, Failed, Unprinted, NoMemory}
use Rattle.one_rule.specs.Building.{HasSource}
use Rattle.one_rule.specs.Ends.{BuildGives, BuildCause}

-- a source that was read
abbrev pub source_result : Rule → Option (List ℕ) → Result Rule BuildStop
source_result rule None = Err (Stopped (Missing rule.source rule.target))
source_result rule (Some bytes) = Ok rule

-- a source that wasn't read
abbrev pub unread_stop : Rule → ReadRefusal → BuildStop
unread_stop rule refusal.Fault = Stopped (TreeFault rule.source)
unread_stop rule (refusal.TooLarge size) = Stopped (TooLarge rule.source size)
unread_stop rule refusal.Memory = NoMemory

-- a step either goes on or stops the building
abbrev pub StepGives : Tree → Rule → Result Rule BuildStop → Type 0
StepGives tree rule (Ok same) = HasSource tree rule
StepGives tree rule (Err stop) = BuildGives tree rule (Err stop)

abbrev pub StepCause : Result Rule BuildStop → Counts → Counts → Type 0
StepCause (Ok rule) old new = new ≡ old
StepCause (Err stop) old new = BuildCause (Err stop) old new

-- a stop before the line is printed, or for want of memory
abbrev pub IsNoPrintStop : BuildStop → Type 0
IsNoPrintStop (Stopped fault) = Unit {0}
IsNoPrintStop (Failed fault) = ⊥
IsNoPrintStop Unprinted = ⊥
IsNoPrintStop NoMemory = Unit {0}

-- an action that wasn't started
abbrev pub unstarted_stop : Rule → AskRefusal → BuildStop
unstarted_stop rule ask.Fault = Failed (StartFault rule.target)
unstarted_stop rule ask.Memory = NoMemory

-- an action that has ended
abbrev pub ended_result : Rule → Outcome → Result (Unit {0}) BuildStop
ended_result rule outcome.Done = Ok tt
ended_result rule (outcome.Failed code) = Err (Failed (ActionFailed rule.target code))
ended_result rule outcome.Broken = Err (Failed (StartFault rule.target))
ended_result rule outcome.NoMemory = Err NoMemory

-- a stop after the line is printed
abbrev pub IsFailStop : Rule → BuildStop → Type 0
IsFailStop rule (Stopped fault) = ⊥
IsFailStop rule (Failed fault) = (fault ≡ StartFault rule.target) ⊎ ((code : ℤ) × (fault ≡ ActionFailed rule.target code))
IsFailStop rule Unprinted = ⊥
IsFailStop rule NoMemory = Unit {0}

abbrev pub LinePrints : {S : Type 0} → SinkMeaning S → Rule → S → S → Result (Unit {0}) BuildStop → Type 0
LinePrints meaning rule old new (Ok done) = Prints meaning old new (line_text rule.line)
LinePrints meaning rule old new (Err stop) = ((stop ≡ Unprinted) × Cuts meaning old new (line_text rule.line)) ⊎ ((stop ≡ NoMemory) × Prints meaning old new [])
