-- Which faults the report of a build has, and that they come of its log.
use Rattle.std.proofs.Common.{◌≡◌, ◌≢◌, ◌∙◌, inl, inr, refl, sym, subst, Bool, List, [], ◌∷◌, ◌++◌, true, false, map, Contains}
use Rattle.std.specs.Prelude.{All, Result, Ok, Err}
use Rattle.std.proofs.lemmas.List.Elements.{All-push, All-weaker}
use Rattle.world_api.specs.Meaning.{Meaning}
use Rattle.rule_graph.specs.declared.build_fault.BuildFault.{BuildFault}
use Rattle.sign_store.specs.Ends.{image_in}
use Rattle.sign_store.specs.Tables.{Map}
use Rattle.build_means.specs.Builds.{Wanted}
use Rattle.build_run.specs.Faulted.{HasFaulted}
use Rattle.build_run.specs.declared.end.BuildEnd.{BuildEnd}
use Rattle.scons_words.specs.declared.words.Words.{Words}
use Rattle.scons_top.specs.Endings.{AddsStopped, AddsUnwritten, ClosesWith}
use Rattle.scons_top.specs.Reported.{AreFound, AreReported, HasFoundFaults, IsFound, ReportsFound}
use Rattle.scons_top.specs.Reported.AreReported.{alone, unwritten, of_trees}
use Rattle.scons_top.specs.Stops.{top_of}
use Rattle.scons_top.specs.Trees.{shows_trees}
use Rattle.scons_top.specs.declared.report.Report.{Report}
use Rattle.scons_top.specs.declared.report.Top.{Top}
use Rattle.scons_top.specs.declared.report.Top.TheVariants as top
use Rattle.scons_top.specs.declared.stop.Stop.{Stop}
use Rattle.scons_top.specs.declared.stop.Stop.TheVariants as stop

-- faults put together

found_same : (found : List BuildFault) (old new : List Top) → new ≡ old → AreFound found old → AreFound found new
found_same found old new same all = subst (λ (fs : List Top). AreFound found fs) (sym same) all

found_more : (found : List BuildFault) (old new : List Top) → new ≡ old ++ top.OutFault ∷ [] → AreFound found old → AreFound found new
found_more found old new same all = subst (λ (fs : List Top). AreFound found fs) (sym same) (All-push (IsFound found) old top.OutFault all (inr refl))

stopped_found : (found : List BuildFault) (s : Stop) (old new : List Top) (lost : Bool) → AddsStopped s old new lost → AreFound found old → AreFound found new
stopped_found found (stop.Fault f) old new true adds all = found_same found old new (adds.1 refl) all
stopped_found found (stop.Fault f) old new false adds all = found_more found old new (adds.0 refl) all
stopped_found found (stop.Build f) old new true adds all = found_same found old new (adds.1 refl) all
stopped_found found (stop.Build f) old new false adds all = found_more found old new (adds.0 refl) all
stopped_found found stop.Memory old new lost adds all = found_same found old new adds.0 all

unwritten_found : (found : List BuildFault) (written : Result (Unit {0}) Stop) (old new : List Top) (lost : Bool) → AddsUnwritten written old new lost → AreFound found old → AreFound found new
unwritten_found found (Ok value) old new lost adds all = found_same found old new adds.0 all
unwritten_found found (Err s) old new lost adds all = stopped_found found s old new lost adds all

-- those of a build, and that of the last line
pub closed_found : (found : List BuildFault) (empty first last : List Top) (lost : Bool) (written : Result (Unit {0}) Stop) (report : Report) → empty ≡ []
    → All (Contains (empty ++ map top_of found)) first → AddsUnwritten written first last lost → report.faults ≡ last → AreFound found report.faults
closed_found found empty first last lost written report is each adds same =
    let inner = All-weaker (Contains (empty ++ map top_of found)) (IsFound found)
    (λ f has. inl (subst (λ (fs : List Top). Contains (fs ++ map top_of found) f) is has)) first each in
    found_same found last report.faults same (unwritten_found found written first last lost adds inner)

-- reports

reported : (said : Words) (found : List BuildFault) (written : Result (Unit {0}) Stop) (faults : List Top) → ClosesWith found written faults → AreReported said found faults
reported said found (Ok value) faults is = alone is
reported said found (Err s) faults is = unwritten is

pub reports_closed : (said : Words) (found : List BuildFault) (written : Result (Unit {0}) Stop) (report : Report)
    → (report.status ≢ 3 → ClosesWith found written report.faults) → AreFound found report.faults → ReportsFound said found report
reports_closed said found written report closes only = record { all = λ ne. reported said found written report.faults (closes ne); none_else = inl only }

pub reports_treed : (said : Words) (found : List BuildFault) (report : Report) → shows_trees said found ≡ true → ReportsFound said found report
reports_treed said found report shows = record { all = λ ne. of_trees shows; none_else = inr shows }

-- builds within a run

module _ {W : Type 0} (m : Meaning W) (w : Wanted) where
  pub come_done : (store : Map) (old begun new : W) (behind : Map) (answer : BuildEnd) → m.around begun ≡ m.around old → m.counts begun ≡ m.counts old
      → store ≡ image_in (m.seen old) → HasFaulted m w store begun new behind answer
      → HasFoundFaults m w old new behind answer.is_ended answer.memory answer.faults
  come_done store old begun new behind answer around counts records h = record {
    begun = begun;
    built = new;
    around = around;
    counts = counts;
    left = refl;
    answer = answer;
    answered = record { ended = refl; wanting = refl; faults = refl };
    faulted = subst (λ (map : Map). HasFaulted m w map begun new behind answer) records h;
  }

  -- the run looked behind
  pub come_behind : (old a b : W) (behind : Map) (ended memory : Bool) (found : List BuildFault) → m.around b ≡ m.around a
      → HasFoundFaults m w old a behind ended memory found → HasFoundFaults m w old b behind ended memory found
  come_behind old a b behind ended memory found around h = record {
    begun = h.begun;
    built = h.built;
    around = h.around;
    counts = h.counts;
    left = around ∙ h.left;
    answer = h.answer;
    answered = h.answered;
    faulted = h.faulted;
  }

  -- or before
  pub come_back : (a b new : W) (behind : Map) (ended memory : Bool) (found : List BuildFault) → m.around b ≡ m.around a → m.counts b ≡ m.counts a
      → image_in (m.seen b) ≡ image_in (m.seen a) → HasFoundFaults m w b new behind ended memory found → HasFoundFaults m w a new behind ended memory found
  come_back a b new behind ended memory found around counts records h = record {
    begun = h.begun;
    built = h.built;
    around = h.around ∙ around;
    counts = h.counts ∙ counts;
    left = h.left;
    answer = h.answer;
    answered = h.answered;
    faulted = subst (λ (map : Map). HasFaulted m w map h.begun h.built behind h.answer) records h.faulted;
  }
