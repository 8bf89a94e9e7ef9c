-- Builds of a source with a generated header, from sources alone, go by content.
use Rattle.std.proofs.Common.{◌≡◌, ◌<◌, ℕ, Bool, true, false, if◌then◌else◌, List, [], ◌∷◌, length, Option, Some, None, bytes_eq, refl, sym, subst, ap, ◌∙◌, inl, inr, ◌⊎◌, arith}
use Rattle.std.proofs.lemmas.Slice.Eq.{bytes_eq-Decides}
use Rattle.build_model.specs.Rules.{Path, Tree, content, Rule, Records, Setting, Among, here, there}
use Rattle.build_model.specs.Reach.{has, left_out, scans_source, scans_found, is_scanned}
use Rattle.build_model.specs.Needs.{Found, as_dependency, Needed, is_requested, is_needed}
use Rattle.build_model.specs.Contents.{in_tree, found_in, includes_of, scanned_files, dependencies}
use Rattle.build_model.specs.Records.{IsMet}
use Rattle.build_model.specs.Stale.{IsDue}
use Rattle.build_model.specs.Steps.{Step, Began, Build, IsReady, is_source, is_made, IsFound, IsPrepared, IsDecided, IsRun, present_record}
use Rattle.build_model.specs.Graphs.{Graph, IsGraph, declared_rule, or_copy, copy_at, setting, rule_at}
use Rattle.build_model.specs.Laws.{TestsDue}
use Rattle.build_model.specs.Headline.{BuildsByContent, clean_record}
use Rattle.build_model.specs.Histories.{no_records}
use Rattle.build_model.specs.Examples.{notes, header, source, object, header_rule, object_rule, graph, sources_alone, all_made, first_build, first_steps, records_kept, wide_build, stopped_build, failing_build, failing_steps}
use Rattle.build_model.proofs.Lists.{none_some, some_same, true_false, not_has, among_same}
use Rattle.build_model.proofs.Ready.{needed_place}
use Rattle.build_model.proofs.Placed.{declared_there}

-- what holds of both rules
pub two : (P : Rule → Type 0) → P header_rule → P object_rule → (r : Rule) → Among r graph.rules → P r
two P h o r here = h
two P h o r (there here) = o
two P h o r (there (there m)) = elim m [ ]

pub one : {A : Type 0} (P : A → Type 0) {x y : A} → P x → Among y (x ∷ []) → P y
one P p here = p
one P p (there m) = elim m [ ]

-- in a graph without variant directories what is needed is declared
module _ (g : Graph) (plain : (p : Path) → g.source_of p ≡ None) (t : Tree) where
  or_none : (p : Path) {r : Rule} (o : Option Rule) → or_copy g t p o ≡ Some r → o ≡ Some r
  or_none p None e = none_some (sym (ap (copy_at g t p) (plain p)) ∙ e)
  or_none p (Some x) e = e

  pub needed_declared : {found : Found} {requested : List Path} {r : Rule} → Needed (rule_at g t) found requested r → Among r g.rules
  needed_declared needed =
      let place = needed_place needed in (declared_there {p = place.0} g.rules (or_none place.0 (declared_rule g.rules place.0) place.1)).0

pub needed_among : (t : Tree) {found : Found} {requested : List Path} {r : Rule} → Needed (rule_at graph t) found requested r → Among r graph.rules
needed_among t needed = needed_declared graph (λ p. refl) t needed

pub is_graph : IsGraph graph
is_graph = record {
  no_copies = two (λ r. r.copies ≡ false) refl refl;
  one_rule = λ r p m n. two (λ x. Among p x.targets → declared_rule graph.rules p ≡ Some x)
      (one (λ q. declared_rule graph.rules q ≡ Some header_rule) refl) (one (λ q. declared_rule graph.rules q ≡ Some object_rule) refl) r m n;
}

-- the build changed what is neither the header nor the object in nothing
same_elsewhere : (p : Path) (h o : Bool) → bytes_eq p header ≡ h → bytes_eq p object ≡ o → rule_at graph sources_alone p ≡ None →
    sources_alone p ≡ (if h then Some (1 ∷ []) else (if o then Some (2 ∷ 1 ∷ []) else sources_alone p))
same_elsewhere p true o h_is o_is none =
    none_some (sym none ∙ ap (λ q. rule_at graph sources_alone q) ((bytes_eq-Decides p header).0 h_is))
same_elsewhere p false true h_is o_is none =
    none_some (sym none ∙ ap (λ q. rule_at graph sources_alone q) ((bytes_eq-Decides p object).0 o_is))
same_elsewhere p false false h_is o_is none = refl

pub not_header : Among object_rule (header_rule ∷ []) → ⊥
not_header m = true_false (sym (one (λ r. has header r.targets ≡ true) refl m))

pub not_object : Among header_rule (object_rule ∷ []) → ⊥
not_object m = true_false (sym (one (λ r. has object r.targets ≡ true) refl m))

pub target_is : {p q : Path} → bytes_eq p q ≡ true → p ≡ q
target_is {p} {q} e = (bytes_eq-Decides p q).0 e

-- what neither is the header nor the object is no target
no_target : {p q : Path} {A : Type 0} → bytes_eq p q ≡ false → Among p (q ∷ []) → A
no_target {p} {q} e m = true_false (sym ((bytes_eq-Decides p q).1 (one (λ y. y ≡ q) refl m)) ∙ e)

pub begun_target : {p : Path} → bytes_eq p header ≡ false → bytes_eq p object ≡ false → (r : Rule) → Among r (object_rule ∷ header_rule ∷ []) →
    Among p r.targets → ⊥
begun_target h o r here m = no_target o m
begun_target h o r (there here) m = no_target h m
begun_target h o r (there (there n)) m = elim n [ ]

pub none_kept : (p : Path) → bytes_eq p header ≡ false → bytes_eq p object ≡ false → records_kept p ≡ None
none_kept p h o =
    ap (λ c. if c then Some (clean_record graph first_build header_rule)
    else (if bytes_eq p object then Some (clean_record graph first_build object_rule) else None)) h
    ∙ ap (λ c. if c then Some (clean_record graph first_build object_rule) else None) o

-- what the source includes
pub found : Found
found r p = if bytes_eq p source then header ∷ [] else []

-- what holds whichever tree a build begins with, and at whatever end
module _ (t : Tree) (m : Records) (jobs : ℕ) (goes_on : Bool) (u : Tree) (notes_there : u notes ≡ Some (1 ∷ []))
    (source_there : u source ≡ Some (2 ∷ [])) where
  abbrev set : Setting
  set = setting graph t

  abbrev from : Build
  from = record first_build { before = t; records = m; jobs = jobs; keeps_going = goes_on; after = u }

  source_includes : (r : Rule) → (header ∷ []) ≡ found_in set (in_tree u) r source
  source_includes r = sym (ap (λ c. includes_of (graph.includes r source) (Some c)) source_there)

  found_cases : {rules : List Rule} (r : Rule) (p : Path) (c : Bool) → bytes_eq p source ≡ c →
      ((if c then header ∷ [] else []) ≡ []) ⊎
      (IsReady set u rules p × ((if c then header ∷ [] else []) ≡ found_in set (in_tree u) r p))
  found_cases r p false e = inl refl
  found_cases {rules} r p true e =
      inr (subst (λ q. IsReady set u rules q × ((header ∷ []) ≡ found_in set (in_tree u) r q))
      (sym ((bytes_eq-Decides p source).0 e)) (is_source (2 ∷ []) refl source_there, source_includes r))

  is_found_so : (rules : List Rule) → IsFound set u rules found
  unfolding found
  is_found_so rules r p = found_cases r p (bytes_eq p source) refl

  object_needed : Needed (rule_at graph t) found (object ∷ []) object_rule
  object_needed = is_requested object here refl

  header_needed : Needed (rule_at graph t) found (object ∷ []) header_rule
  unfolding found
  header_needed =
      is_needed object_rule object_needed
      (as_dependency header (is_scanned (scans_found source (scans_source here) here (not_has {p = header} {ps = left_out object_rule} refl))) refl)

  header_prepared : IsPrepared set from [] header_rule
  header_prepared = record {
    wanted = record { found = found; is_found = is_found_so []; is_needed = header_needed };
    whole = omega arith;
    dependencies = λ p n. one (λ q. IsReady set u [] q) (is_source (1 ∷ []) refl notes_there) n;
    required = λ p q n e. elim n [ ];
  }

  pub header_decided : IsDecided set from [] header_rule
  header_decided = record { goes_on = refl; not_began = λ n. elim n [ ]; not_done = λ n. elim n [ ]; prepared = header_prepared }

  object_ready : (p : Path) → Among p (source ∷ header ∷ []) → IsReady set u (header_rule ∷ []) p
  object_ready p here = is_source (2 ∷ []) refl source_there
  object_ready p (there here) = is_made header_rule refl here
  object_ready p (there (there n)) = elim n [ ]

  requested_rule : (r : Rule) (p : Path) → Among p (object ∷ []) → rule_at graph t p ≡ Some r → object_rule ≡ r
  requested_rule r p n = one (λ q. rule_at graph t q ≡ Some r → object_rule ≡ r) some_same n

  pub both_settled : (p : Path) (r : Rule) → Among p (object ∷ []) → rule_at graph t p ≡ Some r → Among r (object_rule ∷ header_rule ∷ [])
  both_settled p r n e = subst (λ x. Among x (object_rule ∷ header_rule ∷ [])) (requested_rule r p n e) here

-- the object, once the header is settled and the source was seen to include it
module _ (t : Tree) (m : Records) (jobs : ℕ) (u : Tree) (notes_there : u notes ≡ Some (1 ∷ [])) (source_there : u source ≡ Some (2 ∷ []))
    (short : length (scanned_files (setting graph t) (in_tree u) object_rule) < 10)
    (depends : dependencies (setting graph t) (in_tree u) object_rule ≡ source ∷ header ∷ []) where
  pub object_prepared : IsPrepared (setting graph t) (from t m jobs false u notes_there source_there) (header_rule ∷ []) object_rule
  object_prepared = record {
    wanted = record {
      found = found;
      is_found = is_found_so t m jobs false u notes_there source_there (header_rule ∷ []);
      is_needed = object_needed t m jobs false u notes_there source_there;
    };
    whole = short;
    dependencies = λ p n. object_ready t m jobs false u notes_there source_there p (among_same depends n);
    required = λ p q n e. elim n [ ];
  }

pub object_met : (p : Path) → Among p (source ∷ header ∷ []) → IsMet first_build.met (all_made p)
object_met p here = there here
object_met p (there here) = here
object_met p (there (there n)) = elim n [ ]

pub notes_met : (u : Tree) → u notes ≡ Some (1 ∷ []) → (p : Path) → Among p (notes ∷ []) → IsMet first_build.met (u p)
notes_met u notes_there p n =
    one (λ q. IsMet first_build.met (u q)) (subst (λ c. IsMet first_build.met c) (sym notes_there) here) n

abbrev pub plain_set : Setting
plain_set = setting graph sources_alone

-- from sources alone, with so many jobs
module _ (jobs : ℕ) (room : 0 < jobs) where
  header_begun : (goes_on : Bool) (u : Tree) (notes_there : u notes ≡ Some (1 ∷ [])) (source_there : u source ≡ Some (2 ∷ [])) →
      IsRun plain_set (from sources_alone no_records jobs goes_on u notes_there source_there) (Began header_rule ∷ [])
  header_begun goes_on u notes_there source_there = (
    (
      header_decided sources_alone no_records jobs goes_on u notes_there source_there,
      record { due = refl; each_met = notes_met u notes_there; room = room },
    ),
    tt,
  )

  plain_run : IsRun plain_set (from sources_alone no_records jobs false all_made refl refl) first_steps
  plain_run = (
    (record { began = here; not_done = not_header }, λ p n. one (λ q. all_made q ≡ Some (2 ∷ 1 ∷ [])) refl n),
    (
      (
        record { goes_on = refl; not_began = not_header; not_done = not_header; prepared = object_prepared sources_alone no_records jobs all_made refl refl (omega arith) refl },
        record { due = refl; each_met = object_met; room = room },
      ),
      (
        (record { began = here; not_done = λ n. elim n [ ] }, λ p n. one (λ q. all_made q ≡ Some (1 ∷ [])) refl n),
        header_begun false all_made refl refl,
      ),
    ),
  )

  failing_run : (goes_on : Bool) → IsRun plain_set (from sources_alone no_records jobs goes_on sources_alone refl refl) failing_steps
  failing_run goes_on = (record { began = here; not_done = λ n. elim n [ ] }, header_begun goes_on sources_alone refl refl)

pub missing_tested : (s : Setting) (b : Build) (r : Rule) (p : Path) → Among p r.targets → b.before p ≡ None →
    s.is_due r b.before b.stamps_before b.records (present_record s b r) ≡ true → TestsDue s b r
missing_tested s b r p n none is = record {
  due = λ e. IsDue.no_file p n none;
  spared = λ e d. true_false (sym is ∙ e);
  kept = λ c e. true_false (sym is ∙ e);
}

-- a build of the graph from sources alone goes by content
module _ (jobs : ℕ) (goes_on : Bool) (u : Tree) (notes_there : u notes ≡ Some (1 ∷ [])) (source_there : u source ≡ Some (2 ∷ [])) where
  abbrev plain : Build
  plain = from sources_alone no_records jobs goes_on u notes_there source_there

  pub both_tested : (r : Rule) → Among r graph.rules → TestsDue plain_set plain r
  both_tested =
      two (λ r. TestsDue plain_set plain r) (missing_tested plain_set plain header_rule header here refl refl)
      (missing_tested plain_set plain object_rule object here refl refl)

  plain_builds : (steps : List Step) → IsRun plain_set plain steps →
      ((p : Path) → rule_at graph sources_alone p ≡ None → sources_alone p ≡ u p) → BuildsByContent graph plain steps
  plain_builds steps run sources = record {
    graph = is_graph;
    by = record {
      tests = λ r n. both_tested r (needed_among sources_alone n);
      distinct = λ a b n k e. e;
      sound = record { at_targets = λ p r e. none_some e; true_of_files = λ p r bytes e file. none_some e };
      decider = λ r n. two (λ x. x.decider ≡ content) refl refl r (needed_among sources_alone n);
    };
    sources = sources;
    run = run;
  }

pub one_may : 0 < 1
one_may = omega arith

two_may : 0 < 2
two_may = omega arith

pub first_builds : BuildsByContent graph first_build first_steps
first_builds = plain_builds 1 false all_made refl refl first_steps (plain_run 1 one_may)
    (λ p none. same_elsewhere p (bytes_eq p header) (bytes_eq p object) refl refl none)

pub wide_builds : BuildsByContent graph wide_build first_steps
wide_builds = plain_builds 2 false all_made refl refl first_steps (plain_run 2 two_may)
    (λ p none. same_elsewhere p (bytes_eq p header) (bytes_eq p object) refl refl none)

pub stopped_builds : BuildsByContent graph stopped_build failing_steps
stopped_builds = plain_builds 1 false sources_alone refl refl failing_steps (failing_run 1 one_may false) (λ p none. refl)

pub failing_builds : BuildsByContent graph failing_build failing_steps
failing_builds = plain_builds 1 true sources_alone refl refl failing_steps (failing_run 1 one_may true) (λ p none. refl)
