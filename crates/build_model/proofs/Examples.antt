-- The builds meet what the laws ask.
use Rattle.std.proofs.Common.{◌≡◌, Bool, true, false, if◌then◌else◌, [], ◌∷◌, Some, None, bytes_eq, refl, sym, subst, ap, ◌∙◌, inl, inr, ◌⊎◌, arith}
use Rattle.std.proofs.lemmas.Slice.Eq.{bytes_eq-Decides}
use Rattle.build_model.specs.Rules.{Path, Bytes, Content, content, Rule, Record, Among, here, there}
use Rattle.build_model.specs.Needs.{is_requested}
use Rattle.build_model.specs.Contents.{in_tree, found_in}
use Rattle.build_model.specs.Records.{IsMet, IsMadeBy}
use Rattle.build_model.specs.Stale.{IsStale, IsUpToDate, IsKept}
use Rattle.build_model.specs.Steps.{IsRun, present_record}
use Rattle.build_model.specs.Graphs.{setting, rule_at}
use Rattle.build_model.specs.Laws.{TestsDue}
use Rattle.build_model.specs.Headline.{BuildsByContent, clean_record, IsAgain}
use Rattle.build_model.specs.Histories.{no_records}
use Rattle.build_model.specs.Examples.{notes, header, source, object, header_rule, object_rule, graph, sources_alone, all_made, first_build, second_build, second_steps, records_kept, always_rule, always_graph, always_build, always_again, AreMet}
use Rattle.build_model.proofs.Lists.{none_some, some_same, true_false}
use Rattle.build_model.proofs.Made.{fresh_not_stale, due_stale}
use Rattle.build_model.proofs.Samples.{two, one, needed_declared, needed_among, is_graph, not_header, header_decided, both_settled, object_prepared, object_met, notes_met, plain_set, both_tested, first_builds, wide_builds, failing_builds}
use Rattle.build_model.proofs.SampleOrders.{ended_in_order, stopped_in_order, object_needs_header, header_idle, object_idle, failing_rests}
use Rattle.build_model.proofs.SampleLoops.{loop_set, loop_builds, one_needs_other, other_needs_one, loop_rests}
use Rattle.build_model.proofs.SampleCourses.{first_untouched, first_left, first_history, first_course}

second_run : IsRun (setting graph all_made) second_build second_steps
second_run = (
  (
    record { goes_on = refl; not_began = λ n. elim n [ ]; not_done = not_header; prepared = object_prepared all_made records_kept 1 all_made refl refl (omega arith) refl },
    record { not_due = refl; each_met = object_met; same = λ p n. refl },
  ),
  (
    (
      header_decided all_made records_kept 1 false all_made refl refl,
      record { not_due = refl; each_met = notes_met all_made refl; same = λ p n. refl },
    ),
    tt,
  ),
)

-- which record is kept
kept_rule : (p : Path) (r : Record) (h o : Bool) → bytes_eq p header ≡ h → bytes_eq p object ≡ o →
    (if h then Some (clean_record graph first_build header_rule)
    else (if o then Some (clean_record graph first_build object_rule) else None)) ≡ Some r →
    ((header ≡ p) × (clean_record graph first_build header_rule ≡ r)) ⊎ ((object ≡ p) × (clean_record graph first_build object_rule ≡ r))
kept_rule p r true o h_is o_is e = inl (sym ((bytes_eq-Decides p header).0 h_is), some_same e)
kept_rule p r false true h_is o_is e = inr (sym ((bytes_eq-Decides p object).0 o_is), some_same e)
kept_rule p r false false h_is o_is e = none_some e

kept_at_target : {p : Path} {r : Record} →
    ((header ≡ p) × (clean_record graph first_build header_rule ≡ r)) ⊎ ((object ≡ p) × (clean_record graph first_build object_rule ≡ r)) →
    Among p r.targets
kept_at_target {p} (inl h) = subst (λ x. Among p x.targets) h.1 (subst (λ q. Among q (header ∷ [])) h.0 here)
kept_at_target {p} (inr h) = subst (λ x. Among p x.targets) h.1 (subst (λ q. Among q (object ∷ [])) h.0 here)

abbrev MadeBy : Record → Path → Bytes → Type 0
MadeBy r p bytes = IsMadeBy (setting graph all_made) first_build.met r p bytes

header_given : (x : Path × Content) → Among x ((notes, Some (1 ∷ [])) ∷ []) → IsMet first_build.met x.1
header_given x n = one {A = Path × Content} (λ y. IsMet first_build.met y.1) here n

object_given : (x : Path × Content) → Among x ((source, Some (2 ∷ [])) ∷ (header, Some (1 ∷ [])) ∷ []) → IsMet first_build.met x.1
object_given x here = there here
object_given x (there here) = here
object_given x (there (there n)) = elim n [ ]

header_made_by : (bytes : Bytes) → all_made header ≡ Some bytes → MadeBy (clean_record graph first_build header_rule) header bytes
header_made_by bytes e = record { given = (notes, Some (1 ∷ [])) ∷ []; each_met = header_given; digests = refl; made = e }

object_made_by : (bytes : Bytes) → all_made object ≡ Some bytes → MadeBy (clean_record graph first_build object_rule) object bytes
object_made_by bytes e = record {
  given = (source, Some (2 ∷ [])) ∷ (header, Some (1 ∷ [])) ∷ [];
  each_met = object_given;
  digests = refl;
  made = e;
}

kept_true : (p : Path) (r : Record) (bytes : Bytes) →
    ((header ≡ p) × (clean_record graph first_build header_rule ≡ r)) ⊎ ((object ≡ p) × (clean_record graph first_build object_rule ≡ r)) →
    all_made p ≡ Some bytes → MadeBy r p bytes
kept_true p r bytes (inl h) file =
    subst (λ x. MadeBy x p bytes) h.1
    (subst (λ q. all_made q ≡ Some bytes → MadeBy (clean_record graph first_build header_rule) q bytes) h.0 (header_made_by bytes) file)
kept_true p r bytes (inr h) file =
    subst (λ x. MadeBy x p bytes) h.1
    (subst (λ q. all_made q ≡ Some bytes → MadeBy (clean_record graph first_build object_rule) q bytes) h.0 (object_made_by bytes) file)

up_to_date_tested : (r : Rule) → IsUpToDate all_made records_kept r (present_record (setting graph all_made) second_build r) →
    graph.is_due r all_made (λ q. None) records_kept (present_record (setting graph all_made) second_build r) ≡ false → r.decider ≡ content →
    TestsDue (setting graph all_made) second_build r
up_to_date_tested r kept is by = record {
  due = λ e. true_false (sym e ∙ is);
  spared = λ e d. fresh_not_stale kept (due_stale by d);
  kept = λ c e. kept;
}

header_kept : IsUpToDate all_made records_kept header_rule (present_record (setting graph all_made) second_build header_rule)
header_kept = record {
  not_always = refl;
  targets = λ p n. one (λ q. IsKept all_made records_kept (present_record (setting graph all_made) second_build header_rule) q)
      (record { bytes = 1 ∷ []; is_file = refl; has_record = refl }) n;
}

object_kept : IsUpToDate all_made records_kept object_rule (present_record (setting graph all_made) second_build object_rule)
object_kept = record {
  not_always = refl;
  targets = λ p n. one (λ q. IsKept all_made records_kept (present_record (setting graph all_made) second_build object_rule) q)
      (record { bytes = 2 ∷ 1 ∷ []; is_file = refl; has_record = refl }) n;
}

second_builds : BuildsByContent graph second_build second_steps
second_builds = record {
  graph = is_graph;
  by = record {
    tests = λ r n. two (TestsDue (setting graph all_made) second_build) (up_to_date_tested header_rule header_kept refl refl)
        (up_to_date_tested object_rule object_kept refl refl) r (needed_among all_made n);
    distinct = λ a b n k e. e;
    sound = record {
      at_targets = λ p r e. kept_at_target (kept_rule p r (bytes_eq p header) (bytes_eq p object) refl refl e);
      true_of_files = λ p r bytes e file. kept_true p r bytes (kept_rule p r (bytes_eq p header) (bytes_eq p object) refl refl e) file;
    };
    decider = λ r n. two (λ x. x.decider ≡ content) refl refl r (needed_among all_made n);
  };
  sources = λ p none. refl;
  run = second_run;
}

first_again : IsAgain graph first_build second_build
first_again = record {
  tree = refl;
  requested = refl;
  records = λ r needed p n. two (λ x. (q : Path) → Among q x.targets → records_kept q ≡ Some (clean_record graph first_build x))
      (λ q k. one (λ y. records_kept y ≡ Some (clean_record graph first_build header_rule)) refl k)
      (λ q k. one (λ y. records_kept y ≡ Some (clean_record graph first_build object_rule)) refl k) r (needed_among sources_alone needed) p n;
}

-- the rule that is always carried out
always_is_again : IsAgain always_graph always_build always_again
always_is_again = record {
  tree = refl;
  requested = refl;
  records = λ r needed p n. one (λ x. Some (clean_record always_graph always_build always_rule) ≡ Some (clean_record always_graph always_build x))
      refl (needed_declared always_graph (λ q. refl) sources_alone needed);
}

always_same : (p : Path) (h : Bool) → bytes_eq p header ≡ h → rule_at always_graph sources_alone p ≡ None →
    sources_alone p ≡ (if h then Some (1 ∷ []) else sources_alone p)
always_same p true e none = none_some (sym none ∙ ap (λ q. rule_at always_graph sources_alone q) ((bytes_eq-Decides p header).0 e))
always_same p false e none = refl

pub are_met : AreMet
are_met = record {
  first = record { builds = first_builds; succeeds = both_settled sources_alone no_records 1 false all_made refl refl };
  second = record { builds = second_builds; succeeds = both_settled all_made records_kept 1 false all_made refl refl };
  again = first_again;
  always = always_is_again;
  always_sources = λ p none. always_same p (bytes_eq p header) refl none;
  always_stale = (is_requested header here refl, IsStale.is_always refl);
  course = first_course;
  untouched = first_untouched;
  records = first_left;
  history = first_history;
  needs = object_needs_header (found_in plain_set (in_tree all_made)) here;
  tests = λ r n. both_tested 1 false all_made refl refl r (needed_among sources_alone n);
  ended = ended_in_order;
  stopped = stopped_in_order;
  wide = record { builds = wide_builds; succeeds = both_settled sources_alone no_records 2 false all_made refl refl };
  wide_waits = (inr object_idle, (inr header_idle, tt));
  failing = (failing_builds, failing_rests);
  loop = (loop_builds, loop_rests);
  cycle = (one_needs_other (found_in loop_set (in_tree sources_alone)), other_needs_one (found_in loop_set (in_tree sources_alone)));
}
