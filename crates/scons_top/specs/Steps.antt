-- The steps of a run: which of them its words come to, what it leaves where it ends at one, and which faults it has there.
use Rattle.std.specs.Prelude.{◌≡◌, ◌≢◌, ◌⊎◌, ℕ, false, true, List, All, Contains, IsSome, None, Result, Ok, Err}
use Rattle.world_api.specs.Looks.{Looks}
use Rattle.world_api.specs.Meaning.{Meaning}
use Rattle.rule_graph.specs.declared.build_fault.BuildFault.{BuildFault}
use Rattle.rule_graph.specs.declared.build_fault.What.TheVariants as what
use Rattle.build_files.specs.declared.end.ListEnd.{ListEnd}
use Rattle.build_files.specs.declared.end.ListEnd.TheVariants as list_end
use Rattle.rule_graph.specs.declared.build_fault.BuildFault.TheVariants as fault
use Rattle.scons_words.specs.declared.words.Words.{Words}
use Rattle.scons_words.specs.declared.fault.UsageKind.{UsageKind}
use Rattle.scons_words.specs.declared.fault.WordsFault.{WordsFault}
use Rattle.scons_words.specs.declared.fault.WordsFault.TheVariants as words_fault
use Rattle.scons_top.specs.declared.report.Report.{Report}
use Rattle.scons_top.specs.declared.report.Top.{Top}
use Rattle.scons_top.specs.declared.report.Top.TheVariants as top
use Rattle.scons_top.specs.declared.step.Step.{Step}
use Rattle.scons_top.specs.declared.step.Step.TheVariants as step
use Rattle.scons_top.specs.declared.stop.OwnFault.TheVariants as own
use Rattle.scons_top.specs.declared.stop.Stop.{Stop}
use Rattle.scons_top.specs.declared.stop.Stop.TheVariants as stop
use Rattle.scons_top.specs.Alone.{EndsAtOne}
use Rattle.scons_top.specs.Builds.{EndsBefore}
use Rattle.scons_top.specs.Remembered.{KeepsBanks}
use Rattle.scons_top.specs.Faults.{top_of_own}
use Rattle.scons_top.specs.Stops.{top_of, stop_of_words}

-- which words come to which step

-- Once it is known what is requested, these words clean, list or build it.
abbrev pub ServesAt : Words → Step → Type 0
ServesAt said step.Words = ⊥
ServesAt said step.Load = ⊥
ServesAt said step.Top = ⊥
ServesAt said step.Reading = ⊥
ServesAt said step.Help = ⊥
ServesAt said step.Requests = ⊥
ServesAt said step.Cleaning = said.clean ≡ true
ServesAt said step.Store = said.clean ≡ false
ServesAt said step.Listing = (said.clean ≡ false) × (said.dry ≡ true)
ServesAt said step.Building = (said.clean ≡ false) × (said.dry ≡ false)

-- Over scripts a run with these words may end here: it reads them, and with `-h` writes their help texts.
abbrev pub RunsTo : Words → Step → Type 0
RunsTo said step.Words = ⊥
RunsTo said step.Load = ⊥
RunsTo said step.Top = Unit {0}
RunsTo said step.Reading = Unit {0}
RunsTo said step.Help = said.help ≡ true
RunsTo said step.Requests = said.help ≡ false
RunsTo said step.Cleaning = (said.help ≡ false) × (said.clean ≡ true)
RunsTo said step.Store = (said.help ≡ false) × (said.clean ≡ false)
RunsTo said step.Listing = (said.help ≡ false) × (said.clean ≡ false) × (said.dry ≡ true)
RunsTo said step.Building = (said.help ≡ false) × (said.clean ≡ false) × (said.dry ≡ false)

-- A run with these words may end here. At the words, which aren't refused, it ends for want of memory alone.
abbrev pub ComesTo : Words → Step → Type 0
ComesTo said step.Words = Unit {0}
ComesTo said step.Load = IsSome said.load
ComesTo said other = (said.load ≡ None) × RunsTo said other

-- what a run leaves

-- By the step at which a run ended: before it cleaned or built it only looked, or looked and began the store; cleaning changes no
-- bank, at no moment. What a build does is told of builds.
abbrev pub LeavesAt : {W : Type 0} → Meaning W → Step → W → W → Type 0
LeavesAt m step.Words old new = Looks m old new
LeavesAt m step.Load old new = Looks m old new
LeavesAt m step.Top old new = Looks m old new
LeavesAt m step.Reading old new = Looks m old new
LeavesAt m step.Help old new = Looks m old new
LeavesAt m step.Requests old new = Looks m old new
LeavesAt m step.Cleaning old new = KeepsBanks m old new
LeavesAt m step.Store old new = EndsBefore m old new
LeavesAt m step.Listing old new = Looks m old new
LeavesAt m step.Building old new = Unit {0}

-- which faults come at which step

-- a text that a sink refused may be at fault at every step
abbrev pub IsOfWords : Top → Type 0
IsOfWords (top.Usage place kind) = Unit {0}
IsOfWords top.OutFault = Unit {0}
IsOfWords other = ⊥

abbrev pub IsOfSinks : Top → Type 0
IsOfSinks top.OutFault = Unit {0}
IsOfSinks other = ⊥

-- the file tree
abbrev pub IsOfTree : Top → Type 0
IsOfTree (top.TreeFault path) = Unit {0}
IsOfTree top.OutFault = Unit {0}
IsOfTree other = ⊥

abbrev pub IsOfReading : Top → Type 0
IsOfReading (top.Reading file line kind) = Unit {0}
IsOfReading (top.TreeFault path) = Unit {0}
IsOfReading (top.TooLarge path size) = Unit {0}
IsOfReading (top.TooMany what count) = Unit {0}
IsOfReading top.OutFault = Unit {0}
IsOfReading other = ⊥

-- a word or a member of an alias that isn't there; for leftover copies the signature file is read
abbrev pub IsOfRequests : Top → Type 0
IsOfRequests (top.UnknownTarget word) = Unit {0}
IsOfRequests (top.Missing node target) = Unit {0}
IsOfRequests (top.TreeFault path) = Unit {0}
IsOfRequests top.StoreFault = Unit {0}
IsOfRequests (top.StoreForeign bank) = Unit {0}
IsOfRequests (top.TooLarge path size) = Unit {0}
IsOfRequests (top.TooMany what count) = Unit {0}
IsOfRequests top.OutFault = Unit {0}
IsOfRequests other = ⊥

abbrev pub IsOfStore : Top → Type 0
IsOfStore top.StoreFault = Unit {0}
IsOfStore (top.StoreForeign bank) = Unit {0}
IsOfStore (top.TooMany what.StoreBytes count) = Unit {0}
IsOfStore top.OutFault = Unit {0}
IsOfStore other = ⊥

abbrev pub IsOfListing : Top → Type 0
IsOfListing (top.Missing node target) = Unit {0}
IsOfListing (top.Cycle paths) = Unit {0}
IsOfListing (top.TreeFault path) = Unit {0}
IsOfListing (top.TooLarge path size) = Unit {0}
IsOfListing (top.TooMany what count) = Unit {0}
IsOfListing top.OutFault = Unit {0}
IsOfListing other = ⊥

abbrev pub IsOfBuilding : Top → Type 0
IsOfBuilding (top.Usage place kind) = ⊥
IsOfBuilding (top.Reading file line kind) = ⊥
IsOfBuilding (top.UnknownTarget word) = ⊥
IsOfBuilding (top.StoreForeign bank) = ⊥
IsOfBuilding other = Unit {0}

-- a fault that a run may report which ended at this step
abbrev pub ComesAt : Step → Top → Type 0
ComesAt step.Words fault = IsOfWords fault
ComesAt step.Load fault = IsOfSinks fault
ComesAt step.Top fault = IsOfTree fault
ComesAt step.Reading fault = IsOfReading fault
ComesAt step.Help fault = IsOfSinks fault
ComesAt step.Requests fault = IsOfRequests fault
ComesAt step.Cleaning fault = IsOfTree fault
ComesAt step.Store fault = IsOfStore fault
ComesAt step.Listing fault = IsOfListing fault
ComesAt step.Building fault = IsOfBuilding fault

abbrev pub AllComeAt : Step → List Top → Type 0
AllComeAt at faults = All (ComesAt at) faults

-- the same of faults of a build or a list
abbrev pub AllFoundAt : Step → List BuildFault → Type 0
AllFoundAt at faults = All (λ f. ComesAt at (top_of f)) faults

-- a stop for which a run may end at this step
abbrev pub StopsAt : Step → Stop → Type 0
StopsAt at (stop.Fault fault) = ComesAt at (top_of_own fault)
StopsAt at (stop.Build fault) = ComesAt at (top_of fault)
StopsAt at stop.Memory = Unit {0}

-- a report of a run that ended at this step
pub record ReportsAt (at : Step) (report : Report) : Type 0 where
  pub ends : report.step ≡ at
  pub faults : AllComeAt at report.faults
  pub alone : EndsAtOne at report.faults

-- a run that gives a report or stops ended at this step
abbrev pub RunEndsAt : Step → Result Report Stop → Type 0
RunEndsAt at (Ok report) = ReportsAt at report
RunEndsAt at (Err s) = StopsAt at s

-- the end of a look that the file tree refused, whose path may remain untold for want of memory
abbrev pub IsTreeEnd : ListEnd → Type 0
IsTreeEnd (list_end.Fault (fault.TreeFault path)) = Unit {0}
IsTreeEnd (list_end.Fault other) = ⊥
IsTreeEnd list_end.Memory = Unit {0}

-- the top directory is named, and the scripts are read
abbrev pub IsReadingStep : Step → Type 0
IsReadingStep step.Top = Unit {0}
IsReadingStep step.Reading = Unit {0}
IsReadingStep other = ⊥

-- the store is read, and what would be started is listed
abbrev pub IsListingStep : Step → Type 0
IsListingStep step.Store = Unit {0}
IsListingStep step.Listing = Unit {0}
IsListingStep other = ⊥

-- the store is begun, and what is requested is built
abbrev pub IsBuildingStep : Step → Type 0
IsBuildingStep step.Store = Unit {0}
IsBuildingStep step.Building = Unit {0}
IsBuildingStep other = ⊥

-- words that are refused

-- these faults are of the one fault for which a run stopped, and of what a sink refused
abbrev pub IsFaultOr : Top → Top → Type 0
IsFaultOr fault f = (f ≡ fault) ⊎ (f ≡ top.OutFault)

abbrev pub IsStopOr : Stop → Top → Type 0
IsStopOr (stop.Fault fault) f = IsFaultOr (top_of_own fault) f
IsStopOr (stop.Build fault) f = IsFaultOr (top_of fault) f
IsStopOr stop.Memory f = ⊥

-- the fault for which a run stopped is among these
abbrev pub IsTold : Stop → List Top → Type 0
IsTold (stop.Fault fault) faults = Contains faults (top_of_own fault)
IsTold (stop.Build fault) faults = Contains faults (top_of fault)
IsTold stop.Memory faults = ⊥

-- a run stops since its words are refused so, or for want of memory
abbrev pub StopsForWords : WordsFault → Result Report Stop → Type 0
StopsForWords why (Ok report) = ⊥
StopsForWords why (Err s) = (s ≡ stop_of_words why) ⊎ (s ≡ stop.Memory)

-- a fault of the words is told only where they are refused so
abbrev pub TellsUsage : Result Words WordsFault → Stop → Type 0
TellsUsage reading s = (place : ℕ) (kind : UsageKind) → s ≡ stop.Fault (own.Usage place kind) → reading ≡ Err (words_fault.At place kind)

-- a run whose words are refused so ends there, and nothing else is done
pub record IsRefused {W O : Type 0} (why : WordsFault) (at : Step) (old new : W) (out new_out : O) (result : Result Report Stop) : Type 0 where
  pub ends : at ≡ step.Words
  pub stops : StopsForWords why result
  pub untouched : new ≡ old
  pub unprinted : new_out ≡ out

-- The words are refused so: that is what the run reports, unless memory was wanting, and it did nothing else.
pub record RefusesWords {W O : Type 0} (why : WordsFault) (old new : W) (out new_out : O) (report : Report) : Type 0 where
  pub ends : report.step ≡ step.Words
  pub told : report.status ≢ 3 → IsTold (stop_of_words why) report.faults
  pub untouched : new ≡ old
  pub unprinted : new_out ≡ out
