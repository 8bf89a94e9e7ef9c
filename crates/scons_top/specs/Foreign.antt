-- That the signature file is told to be something else just where its bytes say so.
use Rattle.std.specs.Prelude.{◌≡◌, ◌≢◌, ◌⊎◌, ℕ, List, All, Contains, Result, Ok, Err, IfErr}
use Rattle.world_api.specs.Banks.{Banks}
use Rattle.world_api.specs.Meaning.{Meaning}
use Rattle.world_api.specs.declared.disk.Bank.{Bank}
use Rattle.rule_graph.specs.declared.build_fault.What.TheVariants as what
use Rattle.sign_store.specs.Readings.{AreReadable, IsRefusal}
use Rattle.sign_store.specs.declared.refusals.StoreRefusal.{StoreRefusal}
use Rattle.sign_store.specs.declared.refusals.StoreRefusal.TheVariants as refusal
use Rattle.scons_top.specs.Faults.{top_of_own}
use Rattle.scons_top.specs.Stops.{stop_of_store}
use Rattle.scons_top.specs.declared.report.Report.{Report}
use Rattle.scons_top.specs.declared.report.Top.{Top}
use Rattle.scons_top.specs.declared.report.Top.TheVariants as top
use Rattle.scons_top.specs.declared.step.Step.{Step}
use Rattle.scons_top.specs.declared.step.Step.TheVariants as step
use Rattle.scons_top.specs.declared.stop.Stop.{Stop}
use Rattle.scons_top.specs.declared.stop.Stop.TheVariants as stop

-- where a fault says that a bank is something else, that bank is live and has another mark
abbrev pub IsOfBytes : Banks → Top → Type 0
IsOfBytes banks (top.StoreForeign bank) = IsRefusal banks (refusal.Foreign bank)
IsOfBytes banks other = Unit {0}

abbrev pub StopsByBytes : Banks → Stop → Type 0
StopsByBytes banks (stop.Fault fault) = IsOfBytes banks (top_of_own fault)
StopsByBytes banks (stop.Build fault) = Unit {0}
StopsByBytes banks stop.Memory = Unit {0}

-- the same of a world that tells, by what its banks held before
abbrev pub StepByBytes : {W T : Type 0} → Meaning W → W → W → Result T Stop → Type 0
StepByBytes m old new result = m.tells new → IfErr result (StopsByBytes (m.seen old))

-- a step that reads no bank
abbrev pub StepOnNone : {T : Type 0} → Result T Stop → Type 0
StepOnNone result = (banks : Banks) → IfErr result (StopsByBytes banks)

-- the signature file was begun, or read
abbrev pub IsOpened : Step → Type 0
IsOpened step.Listing = Unit {0}
IsOpened step.Building = Unit {0}
IsOpened other = ⊥

-- A run that ended at this step tells that a bank is something else only where its bytes say so; and behind the opening of the
-- signature file they don't.
pub record TellsBytes (banks : Banks) (at : Step) (faults : List Top) : Type 0 where
  pub each : All (IsOfBytes banks) faults
  pub readable : IsOpened at → AreReadable banks

-- the refusal of the signature file for which a run stops that opens it
pub record StopsOpening (banks : Banks) (s : Stop) : Type 0 where
  pub why : StoreRefusal
  pub refused : IsRefusal banks why
  pub stops : s ≡ stop_of_store why

-- there it stops for nothing else
abbrev pub StopsOpeningAt : Banks → Step → Stop → Type 0
StopsOpeningAt banks step.Store s = StopsOpening banks s
StopsOpeningAt banks other s = Unit {0}

-- the same, where a run may have stopped
pub record StopsAtBytes (banks : Banks) (at : Step) (s : Stop) : Type 0 where
  pub stops : StopsByBytes banks s
  pub readable : IsOpened at → AreReadable banks
  pub opening : StopsOpeningAt banks at s

-- no run gives its report as it opens the signature file: it stops there, or goes on
abbrev pub EndsByBytes : Banks → Step → Result Report Stop → Type 0
EndsByBytes banks at (Ok report) = TellsBytes banks at report.faults × (at ≢ step.Store)
EndsByBytes banks at (Err s) = StopsAtBytes banks at s

-- over a world that tells
abbrev pub RunByBytes : {W : Type 0} → Meaning W → Step → W → W → Result Report Stop → Type 0
RunByBytes m at old new result = m.tells new → EndsByBytes (m.seen old) at result

-- ---- what a run tells whose bank is wrong

-- the signature file was to be begun, or read
abbrev pub ComesToOpen : Step → Type 0
ComesToOpen step.Store = Unit {0}
ComesToOpen step.Listing = Unit {0}
ComesToOpen step.Building = Unit {0}
ComesToOpen other = ⊥

-- A run ended as it opened the signature file, and tells this of it, unless memory was wanting or the disk refused.
pub record EndsOpening (fault : Top) (report : Report) : Type 0 where
  pub ends : report.step ≡ step.Store
  pub told : report.status ≢ 3 → Contains report.faults fault ⊎ Contains report.faults top.StoreFault

-- Where the first live bank has another mark, or a bank is too large, a run that comes to open them ends there and tells it; and that a
-- bank is too large it tells there only where one is.
pub record OpensByBytes (banks : Banks) (report : Report) : Type 0 where
  pub foreign : (bank : Bank) → IsRefusal banks (refusal.Foreign bank) → ComesToOpen report.step → EndsOpening (top.StoreForeign bank) report
  pub large : (size : ℕ) → IsRefusal banks (refusal.Large size) → ComesToOpen report.step → EndsOpening (top.TooMany what.StoreBytes size) report
  pub only : (size : ℕ) → report.step ≡ step.Store → Contains report.faults (top.TooMany what.StoreBytes size) → IsRefusal banks (refusal.Large size)
