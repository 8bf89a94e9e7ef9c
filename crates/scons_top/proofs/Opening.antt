-- What is told of the bytes of the signature file, by the step at which a run ends.
use Rattle.std.proofs.Common.{◌≡◌, ◌≢◌, ◌∙◌, ◌⊎◌, inl, inr, sym, subst, refl, ap, ℕ, List, [], Contains}
use Rattle.std.specs.Prelude.{All, Result, Ok, Err, IsErrAnd, IfErr, IfOk}
use Rattle.std.proofs.lemmas.List.Elements.{All-weaker, All-contains}
use Rattle.world_api.specs.Banks.{Banks}
use Rattle.world_api.specs.Looks.{Looks}
use Rattle.world_api.specs.Meaning.{Meaning, BanksKept}
use Rattle.world_api.specs.declared.disk.Bank.{Bank}
use Rattle.rule_graph.specs.declared.build_fault.BuildFault.{BuildFault}
use Rattle.rule_graph.specs.declared.build_fault.BuildFault.TheVariants as fault
use Rattle.sign_store.specs.Readings.{AreReadable, IsRefusal}
use Rattle.sign_store.specs.declared.refusals.StoreRefusal.{StoreRefusal}
use Rattle.sign_store.specs.declared.refusals.StoreRefusal.TheVariants as refusal
use Rattle.build_files.specs.declared.end.ListEnd.{ListEnd}
use Rattle.build_files.specs.declared.end.ListEnd.TheVariants as list_end
use Rattle.scons_top.specs.declared.report.Report.{Report}
use Rattle.scons_top.specs.declared.report.Top.{Top}
use Rattle.scons_top.specs.declared.report.Top.TheVariants as top
use Rattle.scons_top.specs.declared.step.Step.{Step}
use Rattle.scons_top.specs.declared.step.Step.TheVariants as step
use Rattle.scons_top.specs.declared.stop.Stop.{Stop}
use Rattle.scons_top.specs.declared.stop.Stop.TheVariants as stop
use Rattle.scons_top.specs.Faults.{IsLateStop, top_of_own}
use Rattle.scons_top.specs.Asked.{NamesNone, StopsFor}
use Rattle.scons_top.specs.Foreign.{IsOfBytes, StopsByBytes, StepByBytes, StepOnNone, IsOpened, TellsBytes, StopsOpening, StopsOpeningAt, StopsAtBytes, EndsByBytes, RunByBytes}
use Rattle.scons_top.specs.Steps.{ComesAt, AllComeAt, StopsAt, RunEndsAt, IsReadingStep, IsStopOr, IsFaultOr}
use Rattle.scons_top.specs.Stops.{top_of, stop_of_list, stop_of_store, IsInside}

-- a step that reads no bank, or whose banks were read before
abbrev IsElsewhere : Step → Type 0
IsElsewhere step.Requests = ⊥
IsElsewhere step.Store = ⊥
IsElsewhere other = Unit {0}

fault_elsewhere : (banks : Banks) (at : Step) (f : Top) → IsElsewhere at → ComesAt at f → IsOfBytes banks f
fault_elsewhere banks at (top.Usage place kind) e h = tt
fault_elsewhere banks at (top.Reading file line kind) e h = tt
fault_elsewhere banks at (top.Missing node target) e h = tt
fault_elsewhere banks at (top.UnknownTarget word) e h = tt
fault_elsewhere banks at (top.Cycle paths) e h = tt
fault_elsewhere banks at (top.ActionFailed target code) e h = tt
fault_elsewhere banks at (top.TreeFault path) e h = tt
fault_elsewhere banks at (top.StartFault target) e h = tt
fault_elsewhere banks at top.StoreFault e h = tt
fault_elsewhere banks step.Words (top.StoreForeign bank) e h = absurd h
fault_elsewhere banks step.Load (top.StoreForeign bank) e h = absurd h
fault_elsewhere banks step.Top (top.StoreForeign bank) e h = absurd h
fault_elsewhere banks step.Reading (top.StoreForeign bank) e h = absurd h
fault_elsewhere banks step.Help (top.StoreForeign bank) e h = absurd h
fault_elsewhere banks step.Requests (top.StoreForeign bank) e h = absurd e
fault_elsewhere banks step.Cleaning (top.StoreForeign bank) e h = absurd h
fault_elsewhere banks step.Store (top.StoreForeign bank) e h = absurd e
fault_elsewhere banks step.Listing (top.StoreForeign bank) e h = absurd h
fault_elsewhere banks step.Building (top.StoreForeign bank) e h = absurd h
fault_elsewhere banks at top.OutFault e h = tt
fault_elsewhere banks at (top.TooLarge path size) e h = tt
fault_elsewhere banks at (top.TooMany what count) e h = tt

stop_elsewhere : (banks : Banks) (at : Step) (s : Stop) → IsElsewhere at → StopsAt at s → StopsByBytes banks s
stop_elsewhere banks at (stop.Fault f) e h = fault_elsewhere banks at (top_of_own f) e h
stop_elsewhere banks at (stop.Build f) e h = tt
stop_elsewhere banks at stop.Memory e h = tt

-- no report comes at the step of the store
not_store : (at : Step) → IsElsewhere at → at ≢ step.Store
not_store at e is = subst IsElsewhere is e

opens_elsewhere : (banks : Banks) (at : Step) (s : Stop) → IsElsewhere at → StopsOpeningAt banks at s
opens_elsewhere banks step.Words s e = tt
opens_elsewhere banks step.Load s e = tt
opens_elsewhere banks step.Top s e = tt
opens_elsewhere banks step.Reading s e = tt
opens_elsewhere banks step.Help s e = tt
opens_elsewhere banks step.Requests s e = tt
opens_elsewhere banks step.Cleaning s e = tt
opens_elsewhere banks step.Store s e = absurd e
opens_elsewhere banks step.Listing s e = tt
opens_elsewhere banks step.Building s e = tt

ends_elsewhere : (banks : Banks) (at : Step) (r : Result Report Stop) → IsElsewhere at → (IsOpened at → AreReadable banks) → RunEndsAt at r → EndsByBytes banks at r
ends_elsewhere banks at (Ok report) e opened h =
    (record { each = All-weaker (ComesAt at) (IsOfBytes banks) (λ f comes. fault_elsewhere banks at f e comes) report.faults h.faults; readable = opened }, not_store at e)
ends_elsewhere banks at (Err s) e opened h = record { stops = stop_elsewhere banks at s e h; readable = opened; opening = opens_elsewhere banks at s e }

pub words_end : (banks : Banks) (r : Result Report Stop) → RunEndsAt step.Words r → EndsByBytes banks step.Words r
words_end banks r h = ends_elsewhere banks step.Words r tt (λ no. absurd no) h

pub load_ends : (banks : Banks) (r : Result Report Stop) → RunEndsAt step.Load r → EndsByBytes banks step.Load r
load_ends banks r h = ends_elsewhere banks step.Load r tt (λ no. absurd no) h

pub help_ends : (banks : Banks) (r : Result Report Stop) → RunEndsAt step.Help r → EndsByBytes banks step.Help r
help_ends banks r h = ends_elsewhere banks step.Help r tt (λ no. absurd no) h

pub cleaning_ends : (banks : Banks) (r : Result Report Stop) → RunEndsAt step.Cleaning r → EndsByBytes banks step.Cleaning r
cleaning_ends banks r h = ends_elsewhere banks step.Cleaning r tt (λ no. absurd no) h

pub reading_ends : (banks : Banks) (at : Step) (r : Result Report Stop) → IsReadingStep at → RunEndsAt at r → EndsByBytes banks at r
reading_ends banks step.Words r is h = absurd is
reading_ends banks step.Load r is h = absurd is
reading_ends banks step.Top r is h = ends_elsewhere banks step.Top r tt (λ no. absurd no) h
reading_ends banks step.Reading r is h = ends_elsewhere banks step.Reading r tt (λ no. absurd no) h
reading_ends banks step.Help r is h = absurd is
reading_ends banks step.Requests r is h = absurd is
reading_ends banks step.Cleaning r is h = absurd is
reading_ends banks step.Store r is h = absurd is
reading_ends banks step.Listing r is h = absurd is
reading_ends banks step.Building r is h = absurd is

pub listing_ends : (banks : Banks) (r : Result Report Stop) → AreReadable banks → RunEndsAt step.Listing r → EndsByBytes banks step.Listing r
listing_ends banks r readable h = ends_elsewhere banks step.Listing r tt (λ o. readable) h

pub building_ends : (banks : Banks) (r : Result Report Stop) → AreReadable banks → RunEndsAt step.Building r → EndsByBytes banks step.Building r
building_ends banks r readable h = ends_elsewhere banks step.Building r tt (λ o. readable) h

-- a run that stops before it opens the signature file
pub asked_unopened : (banks : Banks) (r : Result Report Stop) (s : Stop) → IsErrAnd r (λ x. x ≡ s) → StopsByBytes banks s → EndsByBytes banks step.Requests r
asked_unopened banks (Ok report) s is h = absurd is
asked_unopened banks (Err x) s is h = record { stops = subst (StopsByBytes banks) (sym is) h; readable = λ o. absurd o; opening = tt }

-- and one that stops as it opens it
stops_store : (banks : Banks) (s : Stop) → StopsByBytes banks s → StopsOpening banks s → StopsAtBytes banks step.Store s
stops_store banks s h o = record { stops = h; readable = λ x. absurd x; opening = o }

pub stops_unopened : (banks : Banks) (r : Result Report Stop) (s : Stop) → IsErrAnd r (λ x. x ≡ s) → StopsByBytes banks s → StopsOpening banks s → EndsByBytes banks step.Store r
stops_unopened banks (Ok report) s is h o = absurd is
stops_unopened banks (Err x) s is h o = subst (StopsAtBytes banks step.Store) (sym is) (stops_store banks s h o)

memory_opening : (banks : Banks) → StopsOpening banks stop.Memory
memory_opening banks = record { why = refusal.Memory; refused = tt; stops = refl }

pub memory_unopened : (banks : Banks) (r : Result Report Stop) → IsErrAnd r (λ x. x ≡ stop.Memory) → EndsByBytes banks step.Store r
memory_unopened banks r is = stops_unopened banks r stop.Memory is tt (memory_opening banks)

pub store_bytes : (banks : Banks) (e : StoreRefusal) → IsRefusal banks e → StopsByBytes banks (stop_of_store e)
store_bytes banks refusal.Fault h = tt
store_bytes banks (refusal.Foreign bank) h = h
store_bytes banks (refusal.Large size) h = tt
store_bytes banks refusal.Memory h = tt

pub store_opening : (banks : Banks) (s : Stop) (e : StoreRefusal) → s ≡ stop_of_store e → IsRefusal banks e → StopsOpening banks s
store_opening banks s e is h = record { why = e; refused = h; stops = is }

pub store_unopened : (banks : Banks) (r : Result Report Stop) (e : StoreRefusal) → IsErrAnd r (λ s. IsLateStop s × (s ≡ stop_of_store e)) → IsRefusal banks e → EndsByBytes banks step.Store r
store_unopened banks (Ok report) e is h = absurd is
store_unopened banks (Err s) e is h = stops_store banks s (subst (StopsByBytes banks) (sym is.1) (store_bytes banks e h)) (store_opening banks s e is.1 h)

pub store_refused : (banks : Banks) (s : Stop) (e : StoreRefusal) → s ≡ stop_of_store e → IsRefusal banks e → StopsByBytes banks s
store_refused banks s e is h = subst (StopsByBytes banks) (sym is) (store_bytes banks e h)

-- the exits of a `?`
pub bytes_exit : {T : Type 0} (banks : Banks) (r : Result T Stop) (s : Stop) → IsErrAnd r (λ x. x ≡ s) → StopsByBytes banks s → IfErr r (StopsByBytes banks)
bytes_exit banks (Ok value) s is h = absurd is
bytes_exit banks (Err x) s is h = subst (StopsByBytes banks) (sym is) h

pub bytes_memory : {T : Type 0} (banks : Banks) (r : Result T Stop) → IsErrAnd r (λ s. s ≡ stop.Memory) → IfErr r (StopsByBytes banks)
bytes_memory banks r is = bytes_exit banks r stop.Memory is tt

list_bytes : (banks : Banks) (e : ListEnd) → StopsByBytes banks (stop_of_list e)
list_bytes banks (list_end.Fault f) = tt
list_bytes banks list_end.Memory = tt

pub bytes_list : {T : Type 0} (banks : Banks) (r : Result T Stop) (e : ListEnd) → IsErrAnd r (λ s. IsLateStop s × (s ≡ stop_of_list e)) → IfErr r (StopsByBytes banks)
bytes_list banks (Ok value) e is = absurd is
bytes_list banks (Err s) e is = subst (StopsByBytes banks) (sym is.1) (list_bytes banks e)

module _ {W : Type 0} (m : Meaning W) where
  same_banks : (a b : W) → BanksKept m a b → m.seen b ≡ m.seen a
  same_banks a b kept = λ i bank. (kept bank).same i

  -- a step behind looks
  pub bytes_after : {T : Type 0} (a b c : W) (r : Result T Stop) → Looks m a b → (m.tells c → m.tells b) → StepByBytes m b c r → StepByBytes m a c r
  bytes_after a b c r looks told h t = subst (λ (banks : Banks). IfErr r (StopsByBytes banks)) (same_banks a b (looks.banks (told t))) (h t)

  pub run_after : (at : Step) (a b c : W) (r : Result Report Stop) → Looks m a b → (m.tells c → m.tells b) → RunByBytes m at b c r → RunByBytes m at a c r
  run_after at a b c r looks told h t = subst (λ (banks : Banks). EndsByBytes banks at r) (same_banks a b (looks.banks (told t))) (h t)

-- the report
or_bytes : (banks : Banks) (fault f : Top) → IsOfBytes banks fault → IsFaultOr fault f → IsOfBytes banks f
or_bytes banks fault f h (inl same) = subst (IsOfBytes banks) (sym same) h
or_bytes banks fault f h (inr out) = subst (IsOfBytes banks) (sym out) tt

build_bytes : (banks : Banks) (f : BuildFault) → IsOfBytes banks (top_of f)
build_bytes banks (fault.Missing node target) = tt
build_bytes banks (fault.Cycle paths) = tt
build_bytes banks (fault.ActionFailed target code) = tt
build_bytes banks (fault.TreeFault path) = tt
build_bytes banks (fault.StartFault target) = tt
build_bytes banks fault.StoreFault = tt
build_bytes banks fault.OutFault = tt
build_bytes banks (fault.TooLarge path size) = tt
build_bytes banks (fault.TooMany what count) = tt

alone_bytes : (banks : Banks) (s : Stop) (faults : List Top) → All (IsStopOr s) faults → StopsByBytes banks s → All (IsOfBytes banks) faults
alone_bytes banks (stop.Fault fault) faults all h = All-weaker (IsFaultOr (top_of_own fault)) (IsOfBytes banks) (λ f is. or_bytes banks (top_of_own fault) f h is) faults all
alone_bytes banks (stop.Build f) faults all h = All-weaker (IsFaultOr (top_of f)) (IsOfBytes banks) (λ g is. or_bytes banks (top_of f) g (build_bytes banks f) is) faults all
alone_bytes banks stop.Memory faults all h = All-weaker (IsStopOr stop.Memory) (IsOfBytes banks) (λ f is. absurd is) faults all

pub report_bytes : (banks : Banks) (at : Step) (report : Report) → report.step ≡ at → TellsBytes banks at report.faults → TellsBytes banks report.step report.faults
report_bytes banks at report is h = subst (λ (x : Step). TellsBytes banks x report.faults) (sym is) h

pub reported_bytes : (banks : Banks) (at : Step) (report : Report) → report.step ≡ at → EndsByBytes banks at (Ok report) → TellsBytes banks report.step report.faults
reported_bytes banks at report is h = report_bytes banks at report is h.0

pub stopped_bytes : (banks : Banks) (at : Step) (s : Stop) (report : Report) → report.step ≡ at → All (IsStopOr s) report.faults → StopsAtBytes banks at s → TellsBytes banks report.step report.faults
stopped_bytes banks at s report is all h = report_bytes banks at report is (record { each = alone_bytes banks s report.faults all h.stops; readable = h.readable })

-- a node that isn't to be had
pub node_bytes : {T : Type 0} (banks : Banks) (r : Result T Stop) → IsErrAnd r (λ s. IsInside s × StopsFor NamesNone s × ((x : Banks) → StopsByBytes x s)) → IfErr r (StopsByBytes banks)
node_bytes banks (Ok value) is = absurd is
node_bytes banks (Err s) is = is.2 banks
