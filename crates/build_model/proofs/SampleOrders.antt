-- At one job they follow the build order; at two, and behind a fault, what is left waits.
use Rattle.std.proofs.Common.{◌≡◌, ◌<◌, true, List, [], ◌∷◌, length, refl, sym, subst, arith}
use Rattle.build_model.specs.Rules.{Tree, Rule, Among, here}
use Rattle.build_model.specs.Reach.{left_out, scan_list, scans_source, scans_found, is_scanned}
use Rattle.build_model.specs.Needs.{Found, Needs, as_dependency, NeedsThrough, directly, through, Needed, needs_in_order, Visits, nothing_left, met_first, IsBuildOrder}
use Rattle.build_model.specs.Contents.{found_in, IsLawful}
use Rattle.build_model.specs.Steps.{Step, Began, Ended}
use Rattle.build_model.specs.Graphs.{rule_at, clean_build}
use Rattle.build_model.specs.Resting.{has_failed, whole_found, IsLeft, IsAtRest}
use Rattle.build_model.specs.OneJob.{IsPassed, IsTakenFirst, IsTakenInOrder}
use Rattle.build_model.specs.Waiting.{IsIdle}
use Rattle.build_model.specs.Examples.{header, source, object, header_rule, object_rule, graph, sources_alone, first_build, first_steps, wide_build, stopped_build, failing_build, failing_steps, both_rules, MeetsOrder}
use Rattle.build_model.proofs.Lists.{not_has, among_same}
use Rattle.build_model.proofs.Placed.{lawful}
use Rattle.build_model.proofs.Ordering.{needs_in_order_of}
use Rattle.build_model.proofs.Scanning.{all_is_found}
use Rattle.build_model.proofs.Headline.{agrees, sees_missing}
use Rattle.build_model.proofs.Samples.{two, one, needed_among, is_graph, not_header, not_object, plain_set, one_may, first_builds, wide_builds, stopped_builds, failing_builds}

-- an order of what was found, where the object alone needs something
module _ (t : Tree) (f : Found) (object_needs : needs_in_order (rule_at graph t) 10 f object_rule ≡ header_rule ∷ [])
    (header_needs : needs_in_order (rule_at graph t) 10 f header_rule ≡ []) where
  abbrev Follow : List Rule → List Rule → List Rule → List Rule → Type 0
  Follow met rules after order = Visits (needs_in_order (rule_at graph t) 10 f) met rules after order

  header_visited : Follow (object_rule ∷ []) (header_rule ∷ []) (header_rule ∷ object_rule ∷ []) (header_rule ∷ [])
  header_visited =
      met_first not_object (subst (λ l. Follow (header_rule ∷ object_rule ∷ []) l (header_rule ∷ object_rule ∷ []) []) (sym header_needs) nothing_left)
      nothing_left

  both_ordered : IsBuildOrder (rule_at graph t) 10 f (object ∷ []) both_rules
  both_ordered = record {
    met = header_rule ∷ object_rule ∷ [];
    visits = met_first (λ n. elim n [ ])
        (subst (λ l. Follow (object_rule ∷ []) l (header_rule ∷ object_rule ∷ []) (header_rule ∷ [])) (sym object_needs) header_visited)
        nothing_left;
  }

  module _ (object_short : length (scan_list 10 (f object_rule) object_rule) < 10)
      (header_short : length (scan_list 10 (f header_rule) header_rule) < 10) where
    header_alone : {q : Rule} → Needs (rule_at graph t) f header_rule q → ⊥
    header_alone needs = elim (among_same header_needs (needs_in_order_of (rule_at graph t) 10 {found = f} header_short needs)) [ ]

    header_through : {q : Rule} → NeedsThrough (rule_at graph t) f header_rule q → ⊥
    header_through (directly needs) = header_alone needs
    header_through (through x needs more) = header_alone needs

    object_next : {q : Rule} → Needs (rule_at graph t) f object_rule q → header_rule ≡ q
    object_next needs =
        one (λ y. header_rule ≡ y) refl (among_same object_needs (needs_in_order_of (rule_at graph t) 10 {found = f} object_short needs))

    object_loop : NeedsThrough (rule_at graph t) f object_rule object_rule → ⊥
    object_loop (directly needs) = not_header (subst (λ y. Among y (header_rule ∷ [])) (object_next needs) here)
    object_loop (through x needs more) =
        header_through (subst (λ y. NeedsThrough (rule_at graph t) f y object_rule) (sym (object_next needs)) more)

    no_loops : (r : Rule) → Needed (rule_at graph t) f (object ∷ []) r → NeedsThrough (rule_at graph t) f r r → ⊥
    no_loops r needed = two (λ x. NeedsThrough (rule_at graph t) f x x → ⊥) header_through object_loop r (needed_among t needed)

    none_cut : (r : Rule) → Needed (rule_at graph t) f (object ∷ []) r → length (scan_list 10 (f r) r) < 10
    none_cut r needed = two (λ x. length (scan_list 10 (f x) x) < 10) header_short object_short r (needed_among t needed)

pub plain_lawful : IsLawful plain_set
plain_lawful = lawful graph sources_alone is_graph

-- the header is taken first, by what is found before any step
header_first : IsTakenFirst plain_set first_build [] header_rule
header_first = record {
  found = whole_found plain_set first_build [];
  found_whole = all_is_found plain_set first_build [] plain_lawful tt;
  order = both_rules;
  is_order = both_ordered sources_alone (whole_found plain_set first_build []) refl refl;
  front = [];
  behind = object_rule ∷ [];
  parts = refl;
  passed = λ x n. elim n [ ];
}

header_stopped : IsTakenFirst plain_set stopped_build [] header_rule
header_stopped = record {
  found = whole_found plain_set stopped_build [];
  found_whole = all_is_found plain_set stopped_build [] plain_lawful tt;
  order = both_rules;
  is_order = both_ordered sources_alone (whole_found plain_set stopped_build []) refl refl;
  front = [];
  behind = object_rule ∷ [];
  parts = refl;
  passed = λ x n. elim n [ ];
}

abbrev pub header_steps : List Step
header_steps = Ended header_rule true ∷ Began header_rule ∷ []

object_first : IsTakenFirst plain_set first_build header_steps object_rule
object_first = record {
  found = whole_found plain_set first_build header_steps;
  found_whole = all_is_found plain_set first_build header_steps plain_lawful first_builds.run.1.1;
  order = both_rules;
  is_order = both_ordered sources_alone (whole_found plain_set first_build header_steps) refl refl;
  front = header_rule ∷ [];
  behind = [];
  parts = refl;
  passed = λ x n. one (λ y. IsPassed plain_set header_steps (whole_found plain_set first_build header_steps) y) (IsPassed.is_settled here) n;
}

header_in_order : IsTakenInOrder plain_set first_build [] header_rule
unfolding header_first
header_in_order = record {
  first = header_first;
  room = one_may;
  no_cycle = no_loops sources_alone (whole_found plain_set first_build []) refl refl (omega arith) (omega arith);
  not_cut = none_cut sources_alone (whole_found plain_set first_build []) refl refl (omega arith) (omega arith);
}

header_stopped_in_order : IsTakenInOrder plain_set stopped_build [] header_rule
unfolding header_stopped
header_stopped_in_order = record {
  first = header_stopped;
  room = one_may;
  no_cycle = no_loops sources_alone (whole_found plain_set stopped_build []) refl refl (omega arith) (omega arith);
  not_cut = none_cut sources_alone (whole_found plain_set stopped_build []) refl refl (omega arith) (omega arith);
}

object_in_order : IsTakenInOrder plain_set first_build header_steps object_rule
unfolding object_first
object_in_order = record {
  first = object_first;
  room = one_may;
  no_cycle = no_loops sources_alone (whole_found plain_set first_build header_steps) refl refl (omega arith) (omega arith);
  not_cut = none_cut sources_alone (whole_found plain_set first_build header_steps) refl refl (omega arith) (omega arith);
}

clean_ordered : IsBuildOrder (rule_at graph sources_alone) 10 (found_in plain_set (clean_build graph sources_alone)) (object ∷ []) both_rules
clean_ordered = both_ordered sources_alone (found_in plain_set (clean_build graph sources_alone)) refl refl

pub ended_in_order : MeetsOrder first_build first_steps
ended_in_order = record {
  builds = first_builds;
  one = refl;
  stops = refl;
  first = (object_first, (header_first, tt));
  in_order = (object_in_order, (header_in_order, tt));
  sees = agrees graph first_build first_steps first_builds;
  sees_missing = sees_missing graph first_build first_steps first_builds;
  is_order = clean_ordered;
}

pub stopped_in_order : MeetsOrder stopped_build failing_steps
stopped_in_order = record {
  builds = stopped_builds;
  one = refl;
  stops = refl;
  first = (header_stopped, tt);
  in_order = (header_stopped_in_order, tt);
  sees = agrees graph stopped_build failing_steps stopped_builds;
  sees_missing = sees_missing graph stopped_build failing_steps stopped_builds;
  is_order = clean_ordered;
}

-- the object needs the header, where the source is found to include it
pub object_needs_header : (f : Found) → Among header (f object_rule source) → Needs (rule_at graph sources_alone) f object_rule header_rule
object_needs_header f m =
    as_dependency header (is_scanned (scans_found source (scans_source here) m (not_has {p = header} {ps = left_out object_rule} refl))) refl

-- at two jobs: while the header is made, the object waits for it; and then nothing is left but the object
abbrev wide_found : List Step → Found
wide_found past = whole_found plain_set wide_build past

pub header_idle : IsIdle plain_set wide_build (Began header_rule ∷ [])
header_idle = record {
  found = wide_found (Began header_rule ∷ []);
  found_whole = all_is_found plain_set wide_build (Began header_rule ∷ []) plain_lawful wide_builds.run.1.1.1;
  passed = λ r n. two (λ x. IsPassed plain_set (Began header_rule ∷ []) (wide_found (Began header_rule ∷ [])) x)
      (IsPassed.is_running (record { began = here; not_done = λ k. elim k [ ] }))
      (IsPassed.waits header_rule (object_needs_header (wide_found (Began header_rule ∷ [])) here) (λ k. elim k [ ])) r
      (needed_among sources_alone n);
}

pub object_idle : IsIdle plain_set wide_build (Began object_rule ∷ header_steps)
object_idle = record {
  found = wide_found (Began object_rule ∷ header_steps);
  found_whole = all_is_found plain_set wide_build (Began object_rule ∷ header_steps) plain_lawful wide_builds.run.1;
  passed = λ r n. two (λ x. IsPassed plain_set (Began object_rule ∷ header_steps) (wide_found (Began object_rule ∷ header_steps)) x)
      (IsPassed.is_settled here) (IsPassed.is_running (record { began = here; not_done = not_header })) r (needed_among sources_alone n);
}

-- behind the fault of the header the object waits
pub failing_rests : IsAtRest plain_set failing_build failing_steps (whole_found plain_set failing_build failing_steps)
failing_rests = record {
  found_whole = all_is_found plain_set failing_build failing_steps plain_lawful failing_builds.run;
  rules = graph.rules;
  all = λ r n. needed_among sources_alone n;
  left = λ r n. two (λ x. IsLeft plain_set failing_steps (whole_found plain_set failing_build failing_steps) x)
      (IsLeft.is_faulty (has_failed here))
      (IsLeft.waits header_rule (object_needs_header (whole_found plain_set failing_build failing_steps) here) (λ k. elim k [ ])) r
      (needed_among sources_alone n);
}
