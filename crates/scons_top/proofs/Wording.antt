-- What a run tells of the words that it was asked for.
use Rattle.std.proofs.Common.{◌≡◌, ◌∙◌, sym, subst, ℕ, List, [], Contains}
use Rattle.std.specs.Prelude.{All, IsErrAnd, Result, Ok, Err}
use Rattle.world_api.specs.Around.{Around}
use Rattle.world_api.specs.Looks.{Looks}
use Rattle.world_api.specs.Meaning.{Meaning}
use Rattle.rule_graph.specs.Graphs.{RuleGraph, empty_graph}
use Rattle.rule_graph.specs.declared.build_fault.BuildFault.TheVariants as fault
use Rattle.sign_store.specs.Ends.{image_in}
use Rattle.sign_store.specs.Tables.{Map}
use Rattle.build_files.specs.Leftovers.{AtRest}
use Rattle.scons_words.specs.declared.words.Words.{Words}
use Rattle.scons_top.specs.Asked.{asked_by}
use Rattle.scons_top.specs.Faults.{EarlyOnlyIf}
use Rattle.scons_top.specs.Finding.{IsBehindRequests, ReportTellsWords, RunTellsWords, TellsMissing, TellsWords}
use Rattle.scons_top.specs.Naming.{IsFirstMissing, IsFirstUnknown, NamesSome}
use Rattle.scons_top.specs.Steps.{ComesAt, IsReadingStep, IsStopOr, RunEndsAt, ServesAt, StopsAt}
use Rattle.scons_top.specs.declared.report.Report.{Report}
use Rattle.scons_top.specs.declared.report.Top.{Top}
use Rattle.scons_top.specs.declared.report.Top.TheVariants as top
use Rattle.scons_top.specs.declared.step.Step.{Step}
use Rattle.scons_top.specs.declared.step.Step.TheVariants as step
use Rattle.scons_top.specs.declared.stop.OwnFault.TheVariants as own
use Rattle.scons_top.specs.declared.stop.Stop.{Stop}
use Rattle.scons_top.specs.declared.stop.Stop.TheVariants as stop
use Rattle.scons_top.proofs.Asking.{missing_alone, none_told, told_alone}
use Rattle.scons_top.proofs.Finding.{around_stays, records_stay}

-- ---- before the requests

words_untold : (said : Words) (around : Around) (records : Map) (at : Step) (tells : List ℕ → Type 0) (misses : List ℕ → List ℕ → Type 0) → ((word : List ℕ) → tells word → ⊥)
    → ((node target : List ℕ) → misses node target → ⊥) → (IsBehindRequests at → ⊥) → TellsWords said around records at tells misses
words_untold said around records at tells misses none no_miss before = record {
  graph = empty_graph [];
  first = λ word told. absurd (none word told);
  missing = λ node target told. absurd (no_miss node target told);
  named = λ behind. absurd (before behind);
}

stop_untold : (at : Step) (s : Stop) → ((word : List ℕ) → ComesAt at (top.UnknownTarget word) → ⊥) → StopsAt at s → (word : List ℕ) → s ≡ stop.Fault (own.UnknownTarget word) → ⊥
stop_untold at s none h word is = none word (subst (StopsAt at) is h)

pub run_untold : {W : Type 0} (m : Meaning W) (said : Words) (at : Step) (old new : W) (r : Result Report Stop) → ((word : List ℕ) → ComesAt at (top.UnknownTarget word) → ⊥)
    → (at ≡ step.Requests → ⊥) → (IsBehindRequests at → ⊥) → RunEndsAt at r → RunTellsWords m said at old new r
run_untold m said at old new (Ok report) none other before h = λ tells.
    words_untold said (m.around old) (image_in (m.seen old)) at (λ word. ⊥) (λ node target. at ≡ step.Requests) (λ word told. told) (λ node target is. other is) before
run_untold m said at old new (Err s) none other before h = λ tells.
    words_untold said (m.around old) (image_in (m.seen old)) at (λ word. s ≡ stop.Fault (own.UnknownTarget word))
    (λ node target. (at ≡ step.Requests) × (s ≡ stop.Build (fault.Missing node target))) (stop_untold at s none h) (λ node target is. other is.0) before

-- the scripts are read before
pub reading_asks : (at : Step) → IsReadingStep at → at ≡ step.Requests → ⊥
reading_asks at is same = subst IsReadingStep same is

-- and what is requested is served behind
pub serves_asks : (said : Words) (at : Step) → ServesAt said at → at ≡ step.Requests → ⊥
serves_asks said at serves same = subst (ServesAt said) same serves

pub reading_before : (at : Step) → IsReadingStep at → IsBehindRequests at → ⊥
reading_before step.Words is behind = behind
reading_before step.Load is behind = behind
reading_before step.Top is behind = behind
reading_before step.Reading is behind = behind
reading_before step.Help is behind = behind
reading_before step.Requests is behind = behind
reading_before step.Cleaning is behind = is
reading_before step.Store is behind = is
reading_before step.Listing is behind = is
reading_before step.Building is behind = is

-- ---- at the requests, and behind them

module _ {W : Type 0} (m : Meaning W) (said : Words) (g : RuleGraph) (a b : W) (looks : Looks m a b) (idle : m.tells a → (m.around a).running ≡ []) where
  at_rest : m.tells b → AtRest m b
  at_rest tells = (tells, (looks.around tells).running ∙ idle (looks.told.told tells))

  back : (P : Around → Map → Type 0) → m.tells b → P (m.around b) (image_in (m.seen b)) → P (m.around a) (image_in (m.seen a))
  back P tells p =
      subst (λ (around : Around). P around (image_in (m.seen a))) (around_stays m a b looks (at_rest tells))
      (subst (λ (records : Map). P (m.around b) records) (records_stay m a b looks tells) p)

  pub run_refused : (r : Result Report Stop) (s : Stop) → IsErrAnd r (λ x. x ≡ s)
      → (AtRest m b → (word : List ℕ) → s ≡ stop.Fault (own.UnknownTarget word) → IsFirstUnknown said.clean g (m.around b) (image_in (m.seen b)) (asked_by g said) word)
      → (AtRest m b → TellsMissing said.clean g (m.around b) (image_in (m.seen b)) (asked_by g said) s)
      → RunTellsWords m said step.Requests a b r
  run_refused (Ok report) s is h misses = absurd is
  run_refused (Err x) s is h misses = λ tells. record {
    graph = g;
    missing = λ node target told. back (λ around records. IsFirstMissing said.clean g around records (asked_by g said) node target) tells (misses (at_rest tells) node target (sym is ∙ told.1));
    first = λ word told. back (λ around records. IsFirstUnknown said.clean g around records (asked_by g said) word) tells (h (at_rest tells) word (sym is ∙ told));
    named = λ behind. absurd behind;
  }

  named_at : m.tells b → (AtRest m b → All (NamesSome said.clean g (m.around b) (image_in (m.seen b))) (asked_by g said)) → All (NamesSome said.clean g (m.around a) (image_in (m.seen a))) (asked_by g said)
  named_at tells names = back (λ around records. All (NamesSome said.clean g around records) (asked_by g said)) tells (names (at_rest tells))

  pub run_behind : (at : Step) (c : W) (r : Result Report Stop) → (m.tells c → m.tells b) → (AtRest m b → All (NamesSome said.clean g (m.around b) (image_in (m.seen b))) (asked_by g said))
      → ((word : List ℕ) → ComesAt at (top.UnknownTarget word) → ⊥) → (at ≡ step.Requests → ⊥) → RunEndsAt at r → RunTellsWords m said at a c r
  run_behind at c (Ok report) told names none other h = λ tells. record {
    graph = g;
    first = λ word no_word. absurd no_word;
    missing = λ node target is. absurd (other is);
    named = λ behind. named_at (told tells) names;
  }
  run_behind at c (Err s) told names none other h = λ tells. record {
    graph = g;
    first = λ word is. absurd (stop_untold at s none h word is);
    missing = λ node target is. absurd (other is.0);
    named = λ behind. named_at (told tells) names;
  }

-- ---- the report

pub report_words : (said : Words) (around : Around) (records : Map) (at : Step) (report : Report) → report.step ≡ at → EarlyOnlyIf ⊥ report.faults
    → TellsWords said around records at (λ word. ⊥) (λ node target. at ≡ step.Requests) → ReportTellsWords said around records report.step report.faults
report_words said around records at report is late h = record {
  graph = h.graph;
  first = λ word has. none_told report.faults word late has;
  missing = λ node target has. h.missing node target (sym is ∙ has.0);
  named = λ behind. h.named (subst IsBehindRequests is behind);
}

pub stop_words : (said : Words) (around : Around) (records : Map) (at : Step) (s : Stop) (report : Report) → report.step ≡ at → All (IsStopOr s) report.faults
    → TellsWords said around records at (λ word. s ≡ stop.Fault (own.UnknownTarget word)) (λ node target. (at ≡ step.Requests) × (s ≡ stop.Build (fault.Missing node target)))
    → ReportTellsWords said around records report.step report.faults
stop_words said around records at s report is all h = record {
  graph = h.graph;
  first = λ word has. h.first word (told_alone s report.faults word all has);
  missing = λ node target has. h.missing node target (sym is ∙ has.0, missing_alone s report.faults node target all has.1);
  named = λ behind. h.named (subst IsBehindRequests is behind);
}
