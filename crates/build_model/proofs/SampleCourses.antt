-- The first build as a program sees it, and what it leaves of files and records.
use Rattle.std.proofs.Common.{◌≡◌, Bool, true, false, if◌then◌else◌, [], ◌∷◌, Some, None, bytes_eq, refl, sym, subst, arith}
use Rattle.build_model.specs.Rules.{Path, Rule, Among, here, there}
use Rattle.build_model.specs.Records.{IsMet}
use Rattle.build_model.specs.Steps.{Began, began}
use Rattle.build_model.specs.Moments.{MayWrite, IsCourse}
use Rattle.build_model.specs.Leaving.{IsRecordAfter, is_put, is_kept, IsUntouched}
use Rattle.build_model.specs.Histories.{no_records, IsHistory, begins, built}
use Rattle.build_model.specs.Examples.{header, source, object, header_rule, object_rule, graph, sources_alone, all_made, first_build, first_steps, header_job, object_job, records_kept, header_made}
use Rattle.build_model.proofs.Samples.{one, not_header, target_is, begun_target, none_kept, header_decided, object_prepared, notes_met, plain_set, one_may, first_builds}
use Rattle.build_model.proofs.SampleOrders.{plain_lawful, header_steps}

-- what the first build leaves
made_or_same : (p : Path) (h o : Bool) → bytes_eq p header ≡ h → bytes_eq p object ≡ o →
    ((r : Rule) → Among r (began first_steps) → Among p r.targets → ⊥) →
    sources_alone p ≡ (if h then Some (1 ∷ []) else (if o then Some (2 ∷ 1 ∷ []) else sources_alone p))
made_or_same p true o h_is o_is out =
    absurd (out header_rule (there here) (subst (λ q. Among q (header ∷ [])) (sym (target_is h_is)) here))
made_or_same p false true h_is o_is out =
    absurd (out object_rule here (subst (λ q. Among q (object ∷ [])) (sym (target_is o_is)) here))
made_or_same p false false h_is o_is out = refl

pub first_untouched : IsUntouched first_build first_steps
first_untouched p out = made_or_same p (bytes_eq p header) (bytes_eq p object) refl refl out

first_records : (p : Path) (h o : Bool) → bytes_eq p header ≡ h → bytes_eq p object ≡ o →
    IsRecordAfter plain_set first_build first_steps records_kept p
first_records p true o h_is o_is =
    subst (λ q. IsRecordAfter plain_set first_build first_steps records_kept q) (sym (target_is h_is))
    (is_put header_rule (there here) (there here) here refl)
first_records p false true h_is o_is =
    subst (λ q. IsRecordAfter plain_set first_build first_steps records_kept q) (sym (target_is o_is))
    (is_put object_rule here here here refl)
first_records p false false h_is o_is = is_kept (λ r n m. begun_target h_is o_is r n m) (none_kept p h_is o_is)

pub first_left : (p : Path) → IsRecordAfter plain_set first_build first_steps records_kept p
first_left p = first_records p (bytes_eq p header) (bytes_eq p object) refl refl

pub first_history : IsHistory graph.act graph.digest all_made records_kept first_build.met
first_history =
    built graph first_build first_steps records_kept
    (record { act_is = refl; digest_is = refl; tree = refl; records = refl; met_more = λ bytes n. n })
    (record { lawful = plain_lawful; sources = first_builds.sources; run = first_builds.run }) first_untouched first_left
    (begins sources_alone first_build.met)

-- between the two actions
half_met : (p : Path) → Among p (source ∷ header ∷ []) → IsMet first_build.met (header_made p)
half_met p here = there here
half_met p (there here) = here
half_met p (there (there n)) = elim n [ ]

header_changes : (p : Path) (h : Bool) → bytes_eq p header ≡ h → (MayWrite (header_job ∷ []) (Began header_rule ∷ []) p → ⊥) →
    sources_alone p ≡ (if h then Some (1 ∷ []) else sources_alone p)
header_changes p true e out =
    absurd (out (record {
      job = header_job;
      started = here;
      not_done = λ n. elim n [ ];
      target = subst (λ q. Among q (header ∷ [])) (sym (target_is e)) here;
    }))
header_changes p false e out = refl

object_changes : (p : Path) (h o : Bool) → bytes_eq p object ≡ o →
    (MayWrite (object_job ∷ header_job ∷ []) (Began object_rule ∷ header_steps) p → ⊥) →
    (if h then Some (1 ∷ []) else sources_alone p) ≡ (if h then Some (1 ∷ []) else (if o then Some (2 ∷ 1 ∷ []) else sources_alone p))
object_changes p true o e out = refl
object_changes p false true e out =
    absurd (out (record {
      job = object_job;
      started = here;
      not_done = not_header;
      target = subst (λ q. Among q (object ∷ [])) (sym (target_is e)) here;
    }))
object_changes p false false e out = refl

header_course : IsCourse plain_set first_build (header_job ∷ []) header_made (λ p. None) header_steps
header_course =
    IsCourse.makes header_job here (record { began = here; not_done = λ n. elim n [ ] }) (λ p n. one (λ q. header_made q ≡ Some (1 ∷ [])) refl n)
    (IsCourse.changes header_made (λ p. None)
    (record { contents = λ p out. header_changes p (bytes_eq p header) refl out; times = λ p out. refl })
    (IsCourse.starts header_rule (header_decided sources_alone no_records 1 false sources_alone refl refl)
    (record { due = refl; each_met = notes_met sources_alone refl; room = one_may }) IsCourse.begins))

pub first_course : IsCourse plain_set first_build (object_job ∷ header_job ∷ []) all_made (λ p. None) first_steps
first_course =
    IsCourse.makes object_job here (record { began = here; not_done = not_header }) (λ p n. one (λ q. all_made q ≡ Some (2 ∷ 1 ∷ [])) refl n)
    (IsCourse.changes all_made (λ p. None)
    (record { contents = λ p out. object_changes p (bytes_eq p header) (bytes_eq p object) refl out; times = λ p out. refl })
    (IsCourse.starts object_rule
    (record {
      goes_on = refl;
      not_began = not_header;
      not_done = not_header;
      prepared = object_prepared sources_alone no_records 1 header_made refl refl (omega arith) refl;
    })
    (record { due = refl; each_met = half_met; room = one_may }) header_course))
