-- The step at which a run ends, and the faults that come there.
use Rattle.std.proofs.Common.{arith, ◌≡◌, ◌≢◌, ◌∙◌, ◌⊎◌, inl, inr, ⊎_elim, sym, subst, refl, ap, ℕ, List, [], ◌∷◌, ◌++◌, true, false, Bool, Some, None, map, get_or, Contains}
use Rattle.std.specs.Prelude.{All, IsSome, Option, Result, Ok, Err, OnOk, IsErrAnd, IfErr, IfOk}
use Rattle.std.proofs.lemmas.Bool.{false≢true}
use Rattle.std.proofs.lemmas.List.Elements.{All-nil, All-cons, All-push, All-map, All-weaker, All-contains, Contains-push, Contains-append_left}
use Rattle.world_api.specs.Causes.{TreeFails}
use Rattle.world_api.specs.Counts.{Counts}
use Rattle.world_api.specs.Laws.{HasOnlyNow}
use Rattle.world_api.specs.Looks.{Looks}
use Rattle.world_api.specs.Meaning.{Meaning}
use Rattle.world_api.specs.declared.refusal.Fault.{Fault}
use Rattle.world_api.proofs.Looking.{looks_joined}
use Rattle.rule_graph.specs.declared.build_fault.BuildFault.{BuildFault}
use Rattle.rule_graph.specs.declared.build_fault.BuildFault.TheVariants as fault
use Rattle.build_files.specs.Causes.{HasEndCause, HasFaultCause as HasLookFault}
use Rattle.build_files.specs.declared.end.ListEnd.{ListEnd}
use Rattle.build_files.specs.declared.end.ListEnd.TheVariants as list_end
use Rattle.scons_report.specs.Causes.{HasFaultCause as HasListFault, HasEndCause as HasListEnd}
use Rattle.sign_store.specs.declared.refusals.StoreRefusal.{StoreRefusal}
use Rattle.sign_store.specs.declared.refusals.StoreRefusal.TheVariants as refusal
use Rattle.scons_host.specs.declared.end.HostEnd.{HostEnd}
use Rattle.scons_host.specs.declared.end.HostEnd.TheVariants as host_end
use Rattle.scons_words.specs.declared.fault.UsageKind.{UsageKind}
use Rattle.scons_words.specs.declared.fault.WordsFault.{WordsFault}
use Rattle.scons_words.specs.declared.fault.WordsFault.TheVariants as words_fault
use Rattle.scons_words.specs.declared.words.Words.{Words}
use Rattle.scons_top.specs.declared.report.Report.{Report}
use Rattle.scons_top.specs.declared.report.Top.{Top}
use Rattle.scons_top.specs.declared.report.Top.TheVariants as top
use Rattle.scons_top.specs.declared.step.Step.{Step}
use Rattle.scons_top.specs.declared.step.Step.TheVariants as step
use Rattle.scons_top.specs.declared.stop.OwnFault.{OwnFault}
use Rattle.scons_top.specs.declared.stop.OwnFault.TheVariants as own
use Rattle.scons_top.specs.declared.stop.Stop.{Stop}
use Rattle.scons_top.specs.declared.stop.Stop.TheVariants as stop
use Rattle.scons_top.specs.Alone.{AreOne, EndsAtOne, GoesOn}
use Rattle.scons_top.specs.Alone.AreOne.{no_fault}
use Rattle.scons_top.specs.Faults.{IsLateStop, top_of_own}
use Rattle.scons_top.specs.Builds.{EndsBefore}
use Rattle.scons_top.specs.Asked.{NamesNone, StopsFor}
use Rattle.scons_top.specs.Foreign.{StopsByBytes}
use Rattle.world_api.specs.Banks.{Banks}
use Rattle.scons_top.specs.Endings.{AddsStopped, AddsUnwritten, AddsUnprinted}
use Rattle.scons_top.specs.Stops.{top_of, stop_of_words, stop_of_list, stop_of_host, stop_of_store, HasSinkStop, IsInside, InnerStep, SinkStep}
use Rattle.scons_top.specs.Steps.{ServesAt, RunsTo, ComesTo, LeavesAt, ComesAt, AllComeAt, AllFoundAt, StopsAt, ReportsAt, RunEndsAt, IsTreeEnd, IsReadingStep, IsListingStep, IsBuildingStep, IsFaultOr, IsStopOr, IsTold, StopsForWords, TellsUsage, IsRefused, RefusesWords}
use Rattle.scons_top.specs.Watching.{Watches}
use Rattle.scons_top.proofs.Building.{ends_looked}
use Rattle.scons_top.proofs.Remembered.{keeps_looked}

-- a sink may refuse at every step
pub out_at : (at : Step) → ComesAt at top.OutFault
out_at step.Words = tt
out_at step.Load = tt
out_at step.Top = tt
out_at step.Reading = tt
out_at step.Help = tt
out_at step.Requests = tt
out_at step.Cleaning = tt
out_at step.Store = tt
out_at step.Listing = tt
out_at step.Building = tt

sink_fault : (at : Step) (a b : ℕ) (f : BuildFault) → HasSinkStop a b (stop.Build f) → ComesAt at (top_of f)
sink_fault at a b (fault.Missing node target) h = absurd h
sink_fault at a b (fault.Cycle paths) h = absurd h
sink_fault at a b (fault.ActionFailed target code) h = absurd h
sink_fault at a b (fault.TreeFault path) h = absurd h
sink_fault at a b (fault.StartFault target) h = absurd h
sink_fault at a b fault.StoreFault h = absurd h
sink_fault at a b fault.OutFault h = out_at at
sink_fault at a b (fault.TooLarge path size) h = absurd h
sink_fault at a b (fault.TooMany what count) h = absurd h

pub sink_at : (at : Step) (a b : ℕ) (s : Stop) → HasSinkStop a b s → StopsAt at s
sink_at at a b (stop.Fault f) h = absurd h
sink_at at a b (stop.Build f) h = sink_fault at a b f h
sink_at at a b stop.Memory h = tt

pub sink_stops : {T : Type 0} (at : Step) (a b : ℕ) (r : Result T Stop) → SinkStep a b r → IfErr r (StopsAt at)
sink_stops at a b (Ok value) h = tt
sink_stops at a b (Err s) h = sink_at at a b s h

-- the exits of a `?`
pub stops_exit : {T : Type 0} (at : Step) (r : Result T Stop) (s : Stop) → IsErrAnd r (λ x. x ≡ s) → StopsAt at s → IfErr r (StopsAt at)
stops_exit at (Ok value) s is h = absurd is
stops_exit at (Err x) s is h = subst (StopsAt at) (sym is) h

pub stops_memory : {T : Type 0} (at : Step) (r : Result T Stop) → IsErrAnd r (λ s. s ≡ stop.Memory) → IfErr r (StopsAt at)
stops_memory at r is = stops_exit at r stop.Memory is tt

pub stops_list : {T : Type 0} (at : Step) (r : Result T Stop) (e : ListEnd) → IsErrAnd r (λ s. IsLateStop s × (s ≡ stop_of_list e)) → StopsAt at (stop_of_list e) → IfErr r (StopsAt at)
stops_list at (Ok value) e is h = absurd is
stops_list at (Err s) e is h = subst (StopsAt at) (sym is.1) h

pub ends_exit : (at : Step) (r : Result Report Stop) (s : Stop) → IsErrAnd r (λ x. x ≡ s) → StopsAt at s → RunEndsAt at r
ends_exit at (Ok value) s is h = absurd is
ends_exit at (Err x) s is h = subst (StopsAt at) (sym is) h

pub ends_memory : (at : Step) (r : Result Report Stop) → IsErrAnd r (λ s. s ≡ stop.Memory) → RunEndsAt at r
ends_memory at r is = ends_exit at r stop.Memory is tt

pub ends_store : (at : Step) (r : Result Report Stop) (e : StoreRefusal) → IsErrAnd r (λ s. IsLateStop s × (s ≡ stop_of_store e)) → StopsAt at (stop_of_store e) → RunEndsAt at r
ends_store at (Ok value) e is h = absurd is
ends_store at (Err s) e is h = subst (StopsAt at) (sym is.1) h

-- ends of the layers below

pub words_at : (e : WordsFault) → StopsAt step.Words (stop_of_words e)
words_at (words_fault.At place kind) = tt
words_at words_fault.Memory = tt

pub host_at : (e : HostEnd) → StopsAt step.Reading (stop_of_host e)
host_at (host_end.Reading file line kind) = tt
host_at (host_end.Tree path) = tt
host_at host_end.Out = tt
host_at (host_end.TooLarge path size) = tt
host_at (host_end.TooMany what count) = tt
host_at host_end.Memory = tt

pub store_at : (e : StoreRefusal) → StopsAt step.Store (stop_of_store e)
store_at refusal.Fault = tt
store_at (refusal.Foreign bank) = tt
store_at (refusal.Large size) = tt
store_at refusal.Memory = tt

-- a refusal of the file tree alone has its cause where only that was at fault

none : Counts
none = record { disk_faults = 0; tree_faults = 0; start_faults = 0; action_failures = 0 }

one : Counts
one = record { disk_faults = 0; tree_faults = 1; start_faults = 0; action_failures = 0 }

fails : TreeFails none one
unfolding none one
fails = record { disk = refl; rose = record { later = omega arith; more = omega arith }; start = refl; action = refl }

differ : one ≢ none
unfolding none one
differ e = let same : 1 ≡ 0 = ap (λ (c : Counts). c.tree_faults) e in omega (arith, same)

tree_fault : (f : BuildFault) → HasLookFault none one f → IsTreeEnd (list_end.Fault f)
tree_fault (fault.Missing node target) h = absurd h
tree_fault (fault.Cycle paths) h = absurd h
tree_fault (fault.ActionFailed target code) h = absurd h
tree_fault (fault.TreeFault path) h = tt
tree_fault (fault.StartFault target) h = absurd h
tree_fault fault.StoreFault h = absurd h
tree_fault fault.OutFault h = absurd h
tree_fault (fault.TooLarge path size) h = absurd (differ h)
tree_fault (fault.TooMany what count) h = absurd (differ h)

pub tree_end : (e : ListEnd) → ((old new : Counts) → TreeFails old new → HasEndCause old new e) → IsTreeEnd e
tree_end (list_end.Fault f) h = tree_fault f (h none one fails)
tree_end list_end.Memory h = tt

pub tree_exit : {T : Type 0} (r : Result T ListEnd) (e : ListEnd) → IsErrAnd r (λ x. x ≡ e) → IsTreeEnd e → IfErr r IsTreeEnd
tree_exit (Ok value) e is h = absurd is
tree_exit (Err x) e is h = subst IsTreeEnd (sym is) h

cleaning_fault : (f : BuildFault) → IsTreeEnd (list_end.Fault f) → ComesAt step.Cleaning (top_of f)
cleaning_fault (fault.Missing node target) h = absurd h
cleaning_fault (fault.Cycle paths) h = absurd h
cleaning_fault (fault.ActionFailed target code) h = absurd h
cleaning_fault (fault.TreeFault path) h = tt
cleaning_fault (fault.StartFault target) h = absurd h
cleaning_fault fault.StoreFault h = absurd h
cleaning_fault fault.OutFault h = absurd h
cleaning_fault (fault.TooLarge path size) h = absurd h
cleaning_fault (fault.TooMany what count) h = absurd h

pub cleaning_at : (e : ListEnd) → IsTreeEnd e → StopsAt step.Cleaning (stop_of_list e)
cleaning_at (list_end.Fault f) h = cleaning_fault f h
cleaning_at list_end.Memory h = tt

listing_fault : (a b : Counts) (f : BuildFault) → HasListFault a b f → ComesAt step.Listing (top_of f)
listing_fault a b (fault.Missing node target) h = tt
listing_fault a b (fault.Cycle paths) h = tt
listing_fault a b (fault.ActionFailed target code) h = absurd h
listing_fault a b (fault.TreeFault path) h = tt
listing_fault a b (fault.StartFault target) h = absurd h
listing_fault a b fault.StoreFault h = absurd h
listing_fault a b fault.OutFault h = absurd h
listing_fault a b (fault.TooLarge path size) h = tt
listing_fault a b (fault.TooMany what count) h = tt

-- a list that isn't given for a fault
pub listing_at : (a b : Counts) (e : ListEnd) (f : BuildFault) → e ≡ list_end.Fault f → HasListEnd a b e → ComesAt step.Listing (top_of f)
listing_at a b e f is h = listing_fault a b f (subst (HasListEnd a b) is h)

pub building_fault : (f : BuildFault) → ComesAt step.Building (top_of f)
building_fault (fault.Missing node target) = tt
building_fault (fault.Cycle paths) = tt
building_fault (fault.ActionFailed target code) = tt
building_fault (fault.TreeFault path) = tt
building_fault (fault.StartFault target) = tt
building_fault fault.StoreFault = tt
building_fault fault.OutFault = tt
building_fault (fault.TooLarge path size) = tt
building_fault (fault.TooMany what count) = tt

pub building_at : (fs : List BuildFault) → AllFoundAt step.Building fs
building_at fs = λ k d lt. building_fault (get_or fs k d)

-- faults put together

come_more : (at : Step) (old : List Top) (f : Top) (new : List Top) → new ≡ old ++ f ∷ [] → ComesAt at f → AllComeAt at old → AllComeAt at new
come_more at old f new same h all = subst (λ faults. AllComeAt at faults) (sym same) (All-push (ComesAt at) old f all h)

stopped_at : (at : Step) (s : Stop) (old new : List Top) (lost : Bool) → AddsStopped s old new lost → AllComeAt at old → AllComeAt at new
stopped_at at (stop.Fault f) old new true adds all = subst (λ faults. AllComeAt at faults) (sym (adds.1 refl)) all
stopped_at at (stop.Fault f) old new false adds all = come_more at old top.OutFault new (adds.0 refl) (out_at at) all
stopped_at at (stop.Build f) old new true adds all = subst (λ faults. AllComeAt at faults) (sym (adds.1 refl)) all
stopped_at at (stop.Build f) old new false adds all = come_more at old top.OutFault new (adds.0 refl) (out_at at) all
stopped_at at stop.Memory old new lost adds all = subst (λ faults. AllComeAt at faults) (sym adds.0) all

unwritten_at : (at : Step) (written : Result (Unit {0}) Stop) (old new : List Top) (lost : Bool) → AddsUnwritten written old new lost → AllComeAt at old → AllComeAt at new
unwritten_at at (Ok value) old new lost adds all = subst (λ faults. AllComeAt at faults) (sym adds.0) all
unwritten_at at (Err s) old new lost adds all = stopped_at at s old new lost adds all

-- the faults of a build, and that of the last line
pub closed_at : (at : Step) (found : List BuildFault) (empty first last : List Top) (lost : Bool) (written : Result (Unit {0}) Stop) → empty ≡ []
    → All (Contains (empty ++ map top_of found)) first → AddsUnwritten written first last lost → AllFoundAt at found → AllComeAt at last
closed_at at found empty first last lost written is each adds all =
    let tops : AllComeAt at (map top_of found) = All-map (ComesAt at) top_of found all in
    let inner = All-weaker (Contains (empty ++ map top_of found)) (ComesAt at)
    (λ f has. All-contains (ComesAt at) (map top_of found) f tops (subst (λ (fs : List Top). Contains (fs ++ map top_of found) f) is has)) first each in
    unwritten_at at written first last lost adds inner

pub unprinted_at : (at : Step) (printed : Result (Unit {0}) Fault) (old new : List BuildFault) (lost : Bool) → AddsUnprinted printed old new lost → AllFoundAt at old → AllFoundAt at new
unprinted_at at (Ok value) old new lost adds all = subst (λ fs. AllFoundAt at fs) (sym adds.0) all
unprinted_at at (Err refused) old new true adds all = subst (λ fs. AllFoundAt at fs) (sym (adds.1 refl)) all
unprinted_at at (Err refused) old new false adds all =
    subst (λ fs. AllFoundAt at fs) (sym (adds.0 refl)) (All-push (λ f. ComesAt at (top_of f)) old fault.OutFault all (out_at at))

-- the fault alone for which a list isn't given
pub one_found : (at : Step) (f : BuildFault) (none first : List BuildFault) → none ≡ [] → first ≡ none ++ f ∷ [] → ComesAt at (top_of f) → AllFoundAt at first
one_found at f none first empty is h =
    let P = λ (x : BuildFault). ComesAt at (top_of x) in
    subst (λ fs. AllFoundAt at fs) (sym (is ∙ ap (λ (fs : List BuildFault). fs ++ f ∷ []) empty)) (All-cons P f [] h (All-nil P))

pub many_at : (at : Step) (faults : List Top) → GoesOn at → EndsAtOne at faults
many_at at faults on = λ ends. absurd (ends on)

pub one_at : (at : Step) (faults : List Top) → AreOne faults → EndsAtOne at faults
one_at at faults one = λ ends. one

pub none_at : (at : Step) (faults : List Top) → faults ≡ [] → EndsAtOne at faults
none_at at faults none = one_at at faults (subst AreOne (sym none) no_fault)

-- by the report's own step
pub alone_as : (at reported : Step) (faults : List Top) → reported ≡ at → EndsAtOne at faults → EndsAtOne reported faults
alone_as at reported faults is h = subst (λ (s : Step). EndsAtOne s faults) (sym is) h

pub reports_at : (at : Step) (report : Report) → report.step ≡ at → AllComeAt at report.faults → GoesOn at → ReportsAt at report
reports_at at report is all on = record { ends = is; faults = all; alone = many_at at report.faults on }

pub good_at : (at : Step) (report : Report) → report.step ≡ at → report.faults ≡ [] → ReportsAt at report
good_at at report is none = record {
  ends = is;
  faults = subst (λ faults. AllComeAt at faults) (sym none) (All-nil (ComesAt at));
  alone = none_at at report.faults none;
}

-- the one fault for which a run stops

pub or_more : (fault : Top) (old : List Top) (f : Top) (new : List Top) → new ≡ old ++ f ∷ [] → IsFaultOr fault f → All (IsFaultOr fault) old → All (IsFaultOr fault) new
or_more fault old f new same is all = subst (λ faults. All (IsFaultOr fault) faults) (sym same) (All-push (IsFaultOr fault) old f all is)

pub or_same : (fault : Top) (old new : List Top) → new ≡ old → All (IsFaultOr fault) old → All (IsFaultOr fault) new
or_same fault old new same all = subst (λ faults. All (IsFaultOr fault) faults) (sym same) all

pub or_none : (fault : Top) (old : List Top) → old ≡ [] → All (IsFaultOr fault) old
or_none fault old none = subst (λ faults. All (IsFaultOr fault) faults) (sym none) (All-nil (IsFaultOr fault))

pub has_pushed : (old : List Top) (f : Top) (new : List Top) → new ≡ old ++ f ∷ [] → Contains new f
has_pushed old f new same = subst (λ (faults : List Top). Contains faults f) (sym same) (Contains-push old f)

pub has_before : (old : List Top) (f g : Top) (new : List Top) → new ≡ old ++ g ∷ [] → Contains old f → Contains new f
has_before old f g new same has = subst (λ (faults : List Top). Contains faults f) (sym same) (Contains-append_left old (g ∷ []) f has)

-- of a stop
pub stop_or_fault : (s : Stop) (f : OwnFault) (g : Top) (faults : List Top) → s ≡ stop.Fault f → g ≡ top_of_own f → All (IsFaultOr g) faults → All (IsStopOr s) faults
stop_or_fault s f g faults is same all =
    subst (λ (x : Stop). All (IsStopOr x) faults) (sym is) (subst (λ (x : Top). All (IsFaultOr x) faults) same all)

pub stop_or_build : (s : Stop) (f : BuildFault) (g : Top) (faults : List Top) → s ≡ stop.Build f → g ≡ top_of f → All (IsFaultOr g) faults → All (IsStopOr s) faults
stop_or_build s f g faults is same all =
    subst (λ (x : Stop). All (IsStopOr x) faults) (sym is) (subst (λ (x : Top). All (IsFaultOr x) faults) same all)

pub stop_or_none : (s : Stop) (faults : List Top) → faults ≡ [] → All (IsStopOr s) faults
stop_or_none s faults none = subst (λ (fs : List Top). All (IsStopOr s) fs) (sym none) (All-nil (IsStopOr s))

pub told_fault : (s : Stop) (f : OwnFault) (g : Top) (faults : List Top) → s ≡ stop.Fault f → g ≡ top_of_own f → Contains faults g → IsTold s faults
told_fault s f g faults is same has =
    subst (λ (x : Stop). IsTold x faults) (sym is) (subst (λ (x : Top). Contains faults x) same has)

pub told_build : (s : Stop) (f : BuildFault) (g : Top) (faults : List Top) → s ≡ stop.Build f → g ≡ top_of f → Contains faults g → IsTold s faults
told_build s f g faults is same has =
    subst (λ (x : Stop). IsTold x faults) (sym is) (subst (λ (x : Top). Contains faults x) same has)

fault_comes : (at : Step) (fault f : Top) → ComesAt at fault → IsFaultOr fault f → ComesAt at f
fault_comes at fault f h (inl same) = subst (ComesAt at) (sym same) h
fault_comes at fault f h (inr out) = subst (ComesAt at) (sym out) (out_at at)

-- the report of a run that one stop ended
pub alone_at : (at : Step) (s : Stop) (faults : List Top) → All (IsStopOr s) faults → StopsAt at s → AllComeAt at faults
alone_at at (stop.Fault fault) faults all h = All-weaker (IsFaultOr (top_of_own fault)) (ComesAt at) (λ f is. fault_comes at (top_of_own fault) f h is) faults all
alone_at at (stop.Build fault) faults all h = All-weaker (IsFaultOr (top_of fault)) (ComesAt at) (λ f is. fault_comes at (top_of fault) f h is) faults all
alone_at at stop.Memory faults all h = All-weaker (IsStopOr stop.Memory) (ComesAt at) (λ f is. absurd is) faults all

-- faults of the words

IsUsage : Top → Type 0
IsUsage (top.Usage place kind) = Unit {0}
IsUsage other = ⊥

usage_one : (at : Step) (place : ℕ) (kind : UsageKind) → ComesAt at (top.Usage place kind) → at ≡ step.Words
usage_one step.Words place kind h = refl
usage_one step.Load place kind h = absurd h
usage_one step.Top place kind h = absurd h
usage_one step.Reading place kind h = absurd h
usage_one step.Help place kind h = absurd h
usage_one step.Requests place kind h = absurd h
usage_one step.Cleaning place kind h = absurd h
usage_one step.Store place kind h = absurd h
usage_one step.Listing place kind h = absurd h
usage_one step.Building place kind h = absurd h

usage_build : (f : BuildFault) (place : ℕ) (kind : UsageKind) → top.Usage place kind ≡ top_of f → ⊥
usage_build f place kind e = subst (ComesAt step.Building) (sym e) (building_fault f)

usage_own : (f : OwnFault) (place : ℕ) (kind : UsageKind) → top.Usage place kind ≡ top_of_own f → f ≡ own.Usage place kind
usage_own (own.Usage at word) place kind same = cc
usage_own (own.Reading file line why) place kind same = absurd (let no = same in cc)
usage_own (own.UnknownTarget word) place kind same = absurd (let no = same in cc)
usage_own (own.StoreForeign bank) place kind same = absurd (let no = same in cc)

usage_stop : (s : Stop) (place : ℕ) (kind : UsageKind) → IsStopOr s (top.Usage place kind) → s ≡ stop.Fault (own.Usage place kind)
usage_stop (stop.Fault fault) place kind (inl same) = ap (λ (f : OwnFault). stop.Fault f) (usage_own fault place kind same)
usage_stop (stop.Fault fault) place kind (inr out) = absurd (let no = out in cc)
usage_stop (stop.Build fault) place kind (inl same) = absurd (usage_build fault place kind same)
usage_stop (stop.Build fault) place kind (inr out) = absurd (let no = out in cc)
usage_stop stop.Memory place kind h = absurd h

-- a fault of the words is that for which the run stopped
pub usage_told : (s : Stop) (faults : List Top) (place : ℕ) (kind : UsageKind) → All (IsStopOr s) faults → Contains faults (top.Usage place kind) → s ≡ stop.Fault (own.Usage place kind)
usage_told s faults place kind all has = usage_stop s place kind (All-contains (IsStopOr s) faults (top.Usage place kind) all has)

-- a run that isn't at its words has none
pub usage_at : (at : Step) (faults : List Top) (place : ℕ) (kind : UsageKind) → AllComeAt at faults → Contains faults (top.Usage place kind) → at ≡ step.Words
usage_at at faults place kind all has = usage_one at place kind (All-contains (ComesAt at) faults (top.Usage place kind) all has)

no_usage : (at : Step) (s : Stop) (place : ℕ) (kind : UsageKind) → StopsAt at s → s ≡ stop.Fault (own.Usage place kind) → at ≡ step.Words
no_usage at s place kind h is = usage_one at place kind (subst (StopsAt at) is h)

-- steps behind the words tell no fault of the words
pub usage_behind : {T : Type 0} (at : Step) (reading : Result Words WordsFault) (r : Result T Stop) → IfErr r (StopsAt at) → (at ≡ step.Words → ⊥) → IfErr r (TellsUsage reading)
usage_behind at reading (Ok value) h not = tt
usage_behind at reading (Err s) h not = λ place kind is. absurd (not (no_usage at s place kind h is))

pub ends_stops : (at : Step) (r : Result Report Stop) → RunEndsAt at r → IfErr r (StopsAt at)
ends_stops at (Ok report) h = tt
ends_stops at (Err s) h = h

pub not_words : (said : Words) (at : Step) → RunsTo said at → at ≡ step.Words → ⊥
not_words said at runs is = subst (RunsTo said) is runs

pub usage_run : (at : Step) (said : Words) (reading : Result Words WordsFault) (r : Result Report Stop) → RunEndsAt at r → RunsTo said at → IfErr r (TellsUsage reading)
usage_run at said reading r h runs = usage_behind at reading r (ends_stops at r h) (not_words said at runs)

pub usage_load : (reading : Result Words WordsFault) (r : Result Report Stop) → RunEndsAt step.Load r → IfErr r (TellsUsage reading)
usage_load reading r h = usage_behind step.Load reading r (ends_stops step.Load r h) (λ is. let no = is in cc)

abbrev refused : WordsFault → Result Words WordsFault
refused e = Err e

words_told : (e : WordsFault) (reading : Result Words WordsFault) → (e ≢ words_fault.Memory → reading ≡ Err e) → TellsUsage reading (stop_of_words e)
words_told (words_fault.At p k) reading said place kind is =
    let same : words_fault.At p k ≡ words_fault.At place kind = cc in
    said (λ no. cc) ∙ ap refused same
words_told words_fault.Memory reading said place kind is = absurd (let no = is in cc)

pub usage_words : {T : Type 0} (r : Result T Stop) (e : WordsFault) (reading : Result Words WordsFault) → IsErrAnd r (λ x. x ≡ stop_of_words e) → (e ≢ words_fault.Memory → reading ≡ Err e) → IfErr r (TellsUsage reading)
usage_words (Ok value) e reading is said = absurd is
usage_words (Err x) e reading is said = subst (TellsUsage reading) (sym is) (words_told e reading said)

-- words that are refused

words_stop_by : (e why : WordsFault) (reading : Result Words WordsFault) → (e ≢ words_fault.Memory → reading ≡ Err e) → reading ≡ Err why
    → (stop_of_words e ≡ stop_of_words why) ⊎ (stop_of_words e ≡ stop.Memory)
words_stop_by (words_fault.At place kind) why reading said is =
    let same = sym (said (λ no. cc)) ∙ is in
    inl (ap stop_of_words (let e : words_fault.At place kind ≡ why = cc in e))
words_stop_by words_fault.Memory why reading said is = inr refl

stops_for : (r : Result Report Stop) (e why : WordsFault) (reading : Result Words WordsFault) → IsErrAnd r (λ x. x ≡ stop_of_words e) → (e ≢ words_fault.Memory → reading ≡ Err e) → reading ≡ Err why
    → StopsForWords why r
stops_for (Ok report) e why reading is said refused = absurd is
stops_for (Err s) e why reading is said refused = ⊎_elim (λ same. inl (is ∙ same)) (λ memory. inr (is ∙ memory)) (words_stop_by e why reading said refused)

pub refused_words : {W O : Type 0} (world : W) (out : O) (r : Result Report Stop) (e why : WordsFault) (reading : Result Words WordsFault) → IsErrAnd r (λ x. x ≡ stop_of_words e)
    → (e ≢ words_fault.Memory → reading ≡ Err e) → reading ≡ Err why → IsRefused why step.Words world world out out r
refused_words world out r e why reading is said refused = record { ends = refl; stops = stops_for r e why reading is said refused; untouched = refl; unprinted = refl }

-- words that were read aren't refused
pub not_refused : {P : Type 0} (reading : Result Words WordsFault) (said : Words) (why : WordsFault) → reading ≡ Ok said → reading ≡ Err why → P
not_refused reading said why is other = absurd (let e = sym is ∙ other in cc)

told_words : (why : WordsFault) (s : Stop) (report : Report) → (s ≡ stop_of_words why) ⊎ (s ≡ stop.Memory) → (report.status ≢ 3 → IsTold s report.faults)
    → report.status ≢ 3 → IsTold (stop_of_words why) report.faults
told_words why s report (inl same) told ne = subst (λ (x : Stop). IsTold x report.faults) same (told ne)
told_words why s report (inr memory) told ne = absurd (subst (λ (x : Stop). IsTold x report.faults) memory (told ne))

-- the report of words that are refused
pub refuses : {W O : Type 0} (why : WordsFault) (at : Step) (old new : W) (out new_out : O) (s : Stop) (report : Report) → IsRefused why at old new out new_out (Err s)
    → report.step ≡ at → (report.status ≢ 3 → IsTold s report.faults) → RefusesWords why old new out new_out report
refuses why at old new out new_out s report h is told = record {
  ends = is ∙ h.ends;
  told = told_words why s report h.stops told;
  untouched = h.untouched;
  unprinted = h.unprinted;
}

-- no report comes of words that are refused
pub reports_refused : {W O : Type 0} {P : Type 0} (why : WordsFault) (at : Step) (old new : W) (out new_out : O) (report : Report) → IsRefused why at old new out new_out (Ok report) → P
reports_refused why at old new out new_out report h = absurd h.stops

-- which steps words come to

pub listing_serves : (said : Words) (at : Step) → said.clean ≡ false → said.dry ≡ true → IsListingStep at → ServesAt said at
listing_serves said step.Words clean dry h = absurd h
listing_serves said step.Load clean dry h = absurd h
listing_serves said step.Top clean dry h = absurd h
listing_serves said step.Reading clean dry h = absurd h
listing_serves said step.Help clean dry h = absurd h
listing_serves said step.Requests clean dry h = absurd h
listing_serves said step.Cleaning clean dry h = absurd h
listing_serves said step.Store clean dry h = clean
listing_serves said step.Listing clean dry h = (clean, dry)
listing_serves said step.Building clean dry h = absurd h

pub building_serves : (said : Words) (at : Step) → said.clean ≡ false → said.dry ≡ false → IsBuildingStep at → ServesAt said at
building_serves said step.Words clean dry h = absurd h
building_serves said step.Load clean dry h = absurd h
building_serves said step.Top clean dry h = absurd h
building_serves said step.Reading clean dry h = absurd h
building_serves said step.Help clean dry h = absurd h
building_serves said step.Requests clean dry h = absurd h
building_serves said step.Cleaning clean dry h = absurd h
building_serves said step.Store clean dry h = clean
building_serves said step.Listing clean dry h = absurd h
building_serves said step.Building clean dry h = (clean, dry)

pub serves_runs : (said : Words) (at : Step) → said.help ≡ false → ServesAt said at → RunsTo said at
serves_runs said step.Words help h = h
serves_runs said step.Load help h = h
serves_runs said step.Top help h = absurd h
serves_runs said step.Reading help h = absurd h
serves_runs said step.Help help h = absurd h
serves_runs said step.Requests help h = absurd h
serves_runs said step.Cleaning help h = (help, h)
serves_runs said step.Store help h = (help, h)
serves_runs said step.Listing help h = (help, h.0, h.1)
serves_runs said step.Building help h = (help, h.0, h.1)

pub reading_runs : (said : Words) (at : Step) → IsReadingStep at → RunsTo said at
reading_runs said step.Words h = absurd h
reading_runs said step.Load h = absurd h
reading_runs said step.Top h = tt
reading_runs said step.Reading h = tt
reading_runs said step.Help h = absurd h
reading_runs said step.Requests h = absurd h
reading_runs said step.Cleaning h = absurd h
reading_runs said step.Store h = absurd h
reading_runs said step.Listing h = absurd h
reading_runs said step.Building h = absurd h

runs_to : (said : Words) (at : Step) → said.load ≡ None → RunsTo said at → ComesTo said at
runs_to said step.Words load h = absurd h
runs_to said step.Load load h = absurd h
runs_to said step.Top load h = (load, h)
runs_to said step.Reading load h = (load, h)
runs_to said step.Help load h = (load, h)
runs_to said step.Requests load h = (load, h)
runs_to said step.Cleaning load h = (load, h)
runs_to said step.Store load h = (load, h)
runs_to said step.Listing load h = (load, h)
runs_to said step.Building load h = (load, h)

pub run_comes : (words said : Words) (at : Step) → words ≡ said → words.load ≡ None → RunsTo words at → ComesTo said at
run_comes words said at same load h = subst (λ (w : Words). ComesTo w at) same (runs_to words at load h)

some_is : {A : Type 0} (o : Option A) (x : A) → o ≡ Some x → IsSome o
some_is o x is = subst (λ p. IsSome p) (sym is) refl

pub load_comes : (words said : Words) (rules : ℕ) → words ≡ said → words.load ≡ Some rules → ComesTo said step.Load
load_comes words said rules same is = subst (λ (w : Words). IsSome w.load) same (some_is words.load rules is)

pub none_loads : {P : Type 0} (words said : Words) → words ≡ said → words.load ≡ None → IsSome said.load → P
none_loads words said same is some = absurd (false≢true (subst (λ o. IsSome o) is (subst (λ (w : Words). IsSome w.load) (sym same) some)))

-- what a run leaves

pub leaves_reading : {W : Type 0} (m : Meaning W) (at : Step) (old new : W) → IsReadingStep at → Looks m old new → LeavesAt m at old new
leaves_reading m step.Words old new h looks = looks
leaves_reading m step.Load old new h looks = looks
leaves_reading m step.Top old new h looks = looks
leaves_reading m step.Reading old new h looks = looks
leaves_reading m step.Help old new h looks = looks
leaves_reading m step.Requests old new h looks = looks
leaves_reading m step.Cleaning old new h looks = absurd h
leaves_reading m step.Store old new h looks = absurd h
leaves_reading m step.Listing old new h looks = looks
leaves_reading m step.Building old new h looks = tt

pub leaves_listing : {W : Type 0} (m : Meaning W) (at : Step) (old new : W) → IsListingStep at → Looks m old new → LeavesAt m at old new
leaves_listing m step.Words old new h looks = looks
leaves_listing m step.Load old new h looks = looks
leaves_listing m step.Top old new h looks = looks
leaves_listing m step.Reading old new h looks = looks
leaves_listing m step.Help old new h looks = looks
leaves_listing m step.Requests old new h looks = looks
leaves_listing m step.Cleaning old new h looks = absurd h
leaves_listing m step.Store old new h looks = inl looks
leaves_listing m step.Listing old new h looks = looks
leaves_listing m step.Building old new h looks = tt

-- a run that had looked before
pub leaves_after : {W : Type 0} (m : Meaning W) → HasOnlyNow m → (at : Step) (a b c : W) → Watches m a b → LeavesAt m at b c → LeavesAt m at a c
leaves_after m only step.Words a b c watches h = looks_joined m a b c watches.looks h
leaves_after m only step.Load a b c watches h = looks_joined m a b c watches.looks h
leaves_after m only step.Top a b c watches h = looks_joined m a b c watches.looks h
leaves_after m only step.Reading a b c watches h = looks_joined m a b c watches.looks h
leaves_after m only step.Help a b c watches h = looks_joined m a b c watches.looks h
leaves_after m only step.Requests a b c watches h = looks_joined m a b c watches.looks h
leaves_after m only step.Cleaning a b c watches h = keeps_looked m only a b c watches h
leaves_after m only step.Store a b c watches h = ends_looked m a b c watches.looks h
leaves_after m only step.Listing a b c watches h = looks_joined m a b c watches.looks h
leaves_after m only step.Building a b c watches h = tt

-- by the report's own step
pub leaves_as : {W : Type 0} (m : Meaning W) (at reported : Step) (old new : W) → reported ≡ at → LeavesAt m at old new → LeavesAt m reported old new
leaves_as m at reported old new is h = subst (λ (s : Step). LeavesAt m s old new) (sym is) h

pub comes_as : (said : Words) (at reported : Step) → reported ≡ at → ComesTo said at → ComesTo said reported
comes_as said at reported is h = subst (ComesTo said) (sym is) h

pub faults_as : (at reported : Step) (faults : List Top) → reported ≡ at → AllComeAt at faults → AllComeAt reported faults
faults_as at reported faults is h = subst (λ (s : Step). AllComeAt s faults) (sym is) h

-- a report behind which words were read has no fault of the words
pub usage_reported : (reading : Result Words WordsFault) (at : Step) (faults : List Top) (place : ℕ) (kind : UsageKind) → AllComeAt at faults → (at ≡ step.Words → ⊥)
    → Contains faults (top.Usage place kind) → reading ≡ Err (words_fault.At place kind)
usage_reported reading at faults place kind all not has = absurd (not (usage_at at faults place kind all has))

pub past_load : (r : Result Report Stop) → IfOk r (λ report. step.Load ≢ step.Words)
past_load (Ok report) = λ is. let no = is in cc
past_load (Err s) = tt

pub past_run : (said : Words) (at : Step) (r : Result Report Stop) → RunsTo said at → IfOk r (λ report. at ≢ step.Words)
past_run said at (Ok report) runs = not_words said at runs
past_run said at (Err s) runs = tt

pub faults_of : (at : Step) (faults all : List Top) → faults ≡ all → AllComeAt at all → AllComeAt at faults
faults_of at faults all same h = subst (AllComeAt at) (sym same) h

pub stops_ok : {T : Type 0} (at : Step) (r : Result T Stop) (value : T) → r ≡ Ok value → IfErr r (StopsAt at)
stops_ok {T = T} at r value is = subst (λ (x : Result T Stop). IfErr x (StopsAt at)) (sym is) tt

pub stops_as : {T : Type 0} (at : Step) (r : Result T Stop) (s : Stop) → r ≡ Err s → StopsAt at s → IfErr r (StopsAt at)
stops_as {T = T} at r s is h = subst (λ (x : Result T Stop). IfErr x (StopsAt at)) (sym is) h

-- the store that isn't begun, or not read
pub store_stops : (s : Stop) (e : StoreRefusal) → s ≡ stop_of_store e → StopsAt step.Store s
store_stops s e is = subst (StopsAt step.Store) (sym is) (store_at e)

-- a node that isn't to be had
pub node_step : {T : Type 0} (r : Result T Stop) → IsErrAnd r (λ s. IsInside s × StopsFor NamesNone s × ((banks : Banks) → StopsByBytes banks s)) → InnerStep r
node_step (Ok value) is = absurd is
node_step (Err s) is = is.0
