-- The records that a build's steps leave.
use Rattle.std.proofs.Common.{◌≡◌, ◌⊎◌, inl, inr, true, false, List, [], ◌∷◌, Contains, Some, refl, sym, subst, ap, ◌∙◌, option_map}
use Rattle.scons_base.specs.declared.ids.RuleId.{RuleId}
use Rattle.world_api.specs.Around.{Around}
use Rattle.world_api.specs.Reads.{stamp_of}
use Rattle.deciders.specs.declared.recorded.Rec.{Rec}
use Rattle.build_model.specs.Rules.{Path, Rule, Among, here, there}
use Rattle.build_model.specs.Contents.{in_tree, dependencies}
use Rattle.build_model.specs.Leaving.{IsRecordAfter, is_put, is_withdrawn, is_kept}
use Rattle.build_model.specs.Moments.{Job as Given}
use Rattle.build_model.specs.Records.{dependency_of, known_digest, stamp_kept}
use Rattle.build_model.specs.Steps.{Step, Fresh, Began, Ended, Lacks, Halts, began, settled, present_record, IsReady, is_source, is_made, IsPrepared, IsDecided, IsRunning}
use Rattle.build_model.proofs.Agree.{same_record}
use Rattle.build_model.proofs.Lists.{none_some, same_map}
use Rattle.build_model.proofs.Ready.{needed_place}
use Rattle.build_model.proofs.Runs.{begun_prepared, settled_done}
use Rattle.build_means.specs.Builds.{Kept}
use Rattle.build_means.specs.Records.{record_in, records_in}
use Rattle.run_means.proofs.Keeping.{none_there}
use Rattle.run_means.proofs.Lists.{contains_among, among_contains}
use Rattle.turn_means.specs.Standing.{Outset, IsOutset, setting_at, Standing, IsAt}
use Rattle.turn_means.specs.Laws.{IsWeighed}
use Rattle.turn_means.specs.Recording.{IsWayTo, build_at, AreRecorded, IsRecordOf, KeepsOthers, HaveRecord, HaveNone, HasRecord, Stay, Leave, Begin, End}
use Rattle.turn_means.specs.Writing.{Writes}
use Rattle.turn_means.proofs.Deciding.{decided, record_is}
use Rattle.turn_means.proofs.Files.{contained}
use Rattle.turn_means.proofs.Running.{MakesIt, one_rule, makes_each, run_so, ready_still}

stamp_same : (old new : Around) (path : Path) → new.tree path ≡ old.tree path → new.stamps path ≡ old.stamps path →
    stamp_of new path ≡ stamp_of old path
stamp_same old new path file time =
    ap (option_map (λ bytes. new.stamps path)) file ∙ ap (λ t. option_map (λ bytes. t) (old.tree path)) time

pub begins : (o : Outset) (around : Around) → AreRecorded o around [] o.kept
begins o around p = is_kept (λ r m t. elim m [ ]) refl

pub leaves : (o : Outset) (around : Around) (past : List Step) (records : Kept) → AreRecorded o around past records →
    Leave o around past records
leaves o around past records are = record {
  fresh = λ r not_began p. fresh r not_began p (are p);
  lacks = λ r path p. lacks r path p (are p);
  halts = λ p. halts p (are p);
}
  where
    fresh : (r : Rule) → (Among r (began past) → ⊥) → (p : Path) →
        IsRecordAfter (setting_at o) (build_at o around) past (records_in records) p →
        IsRecordAfter (setting_at o) (build_at o around) (Fresh r ∷ past) (records_in records) p
    fresh r not_began p (is_put q m n t e) = is_put q m (there n) t e
    fresh r not_began p (is_withdrawn q m out t e) = is_withdrawn q m (not_it q m out) t e
      where
        not_it : (q : Rule) → Among q (began past) → (Among q (settled past) → ⊥) → Among q (r ∷ settled past) → ⊥
        not_it q m out here = not_began m
        not_it q m out (there n) = out n
    fresh r not_began p (is_kept none e) = is_kept none e

    lacks : (r : Rule) (path p : Path) → IsRecordAfter (setting_at o) (build_at o around) past (records_in records) p →
        IsRecordAfter (setting_at o) (build_at o around) (Lacks r path ∷ past) (records_in records) p
    lacks r path p (is_put q m n t e) = is_put q m n t e
    lacks r path p (is_withdrawn q m out t e) = is_withdrawn q m out t e
    lacks r path p (is_kept none e) = is_kept none e

    halts : (p : Path) → IsRecordAfter (setting_at o) (build_at o around) past (records_in records) p →
        IsRecordAfter (setting_at o) (build_at o around) (Halts ∷ past) (records_in records) p
    halts p (is_put q m n t e) = is_put q m n t e
    halts p (is_withdrawn q m out t e) = is_withdrawn q m out t e
    halts p (is_kept none e) = is_kept none e

module _ (o : Outset) (outset : IsOutset o) where
  pub weighed_have : (jobs : List Given) (s : Standing) (past : List Step) (rule : RuleId) (r : Rule) (rec : Rec) → IsAt o jobs s past →
      s.ended ≡ false → IsWeighed o s rule r rec → HasRecord o s past r rec
  weighed_have jobs s past rule r rec at goes_on weighed = record {
    decided = decided o outset jobs s past at.way (at.knows goes_on) rule r rec weighed;
    is = record_is o outset jobs s past at.way (at.knows goes_on) rule r rec weighed;
  }

  module _ (jobs : List Given) (old new : Around) (past : List Step) (way : IsWayTo o jobs old past) (paths : List Path)
      (writes : Writes paths old new)
      (unready : (p : Path) → Contains paths p → IsReady (setting_at o) old.tree (settled past) p → ⊥) where
    -- what waits for nothing stays as it is
    same_file : (p : Path) → IsReady (setting_at o) old.tree (settled past) p → new.tree p ≡ old.tree p
    same_file p ready = writes.files p (ready_still o outset jobs old past way ready) (λ m. unready p m ready)

    same_time : (p : Path) → IsReady (setting_at o) old.tree (settled past) p → stamp_of new p ≡ stamp_of old p
    same_time p ready =
        stamp_same old new p (same_file p ready)
        (writes.stamps p (ready_still o outset jobs old past way ready) (λ m. unready p m ready))

    -- so the record of a rule that could be decided is the same
    same_kept : (r : Rule) → IsPrepared (setting_at o) (build_at o old) (settled past) r →
        present_record (setting_at o) (build_at o new) r ≡ present_record (setting_at o) (build_at o old) r
    same_kept r prepared =
        same_record (setting_at o) r (in_tree old.tree) (in_tree new.tree)
        (λ p m. ap Some (sym (same_file p (prepared.dependencies p m)))) (stamp_of new)
        ∙ ap (λ l. record { work = r.work; hash = (setting_at o).hash; signed = r.signed; targets = r.targets; dependencies = l })
        (same_map (dependency_of (setting_at o) r (in_tree old.tree) (stamp_of new))
        (dependency_of (setting_at o) r (in_tree old.tree) (stamp_of old)) (dependencies (setting_at o) (in_tree old.tree) r)
        (λ p m. ap (λ x. record { name = p; digest = known_digest (setting_at o) (Some (old.tree p)); stamp = stamp_kept r.decider x })
        (same_time p (prepared.dependencies p m))))

    begun_kept : {r : Rule} → Among r (began past) →
        present_record (setting_at o) (build_at o new) r ≡ present_record (setting_at o) (build_at o old) r
    begun_kept {r} m = same_kept r (begun_prepared (setting_at o) (build_at o old) past (run_so o outset jobs old past way) m)

    after_now : (records : Kept) (p : Path) → IsRecordAfter (setting_at o) (build_at o old) past (records_in records) p →
        IsRecordAfter (setting_at o) (build_at o new) past (records_in records) p
    after_now records p (is_put q m n t e) = is_put q m n t (e ∙ ap Some (sym (begun_kept m)))
    after_now records p (is_withdrawn q m out t e) = is_withdrawn q m out t e
    after_now records p (is_kept none e) = is_kept none e

    place_of_begun : {r : Rule} → Among r (began past) → (p : Path) × MakesIt o p r
    place_of_begun m =
        needed_place (begun_prepared (setting_at o) (build_at o old) past (run_so o outset jobs old past way) m).wanted.is_needed

  pub stays : (jobs : List Given) (old new : Around) (past : List Step) → IsWayTo o jobs old past → Writes [] old new →
      Stay o old new past
  stays jobs old new past way writes = record {
    records = λ records are p. after_now jobs old new past way [] writes (λ q m ready. none_there m) records p (are p);
    to_have = λ r rec m is. is ∙ sym (begun_kept jobs old new past way [] writes (λ q n ready. none_there n) m);
  }

  module _ (jobs : List Given) (old new : Around) (past : List Step) (r : Rule) (records after : Kept) (way : IsWayTo o jobs old past)
      (is_decided : IsDecided (setting_at o) (build_at o old) past r) (writes : Writes r.targets old new)
      (are : AreRecorded o old past records)
      (none : HaveNone r.targets after) (others : KeepsOthers r.targets records after) where
    not_settled : Among r (settled past) → ⊥
    not_settled m = is_decided.not_done (settled_done past m)

    own : (p : Path) → Contains r.targets p → MakesIt o p r
    own p m =
        let place = needed_place is_decided.prepared.wanted.is_needed in
        makes_each o outset place.0 place.1 p (contains_among r.targets m)

    unready : (p : Path) → Contains r.targets p → IsReady (setting_at o) old.tree (settled past) p → ⊥
    unready p m (is_source bytes no_rule file) = none_some (sym no_rule ∙ own p m)
    unready p m (is_made q e n) = not_settled (subst (λ x. Among x (settled past)) (one_rule o outset p e (own p m)) n)

    same : (p : Path) → (Contains r.targets p → ⊥) → records_in after p ≡ records_in records p
    same p out = ap (option_map record_in) (others p out)

    other : (p : Path) → (Contains r.targets p → ⊥) → IsRecordAfter (setting_at o) (build_at o old) past (records_in records) p →
        IsRecordAfter (setting_at o) (build_at o new) (Began r ∷ past) (records_in after) p
    other p out (is_put q m n t e) =
        is_put q (there m) n t (same p out ∙ e ∙ ap Some (sym (begun_kept jobs old new past way r.targets writes unready m)))
    other p out (is_withdrawn q m unsettled t e) = is_withdrawn q (there m) unsettled t (same p out ∙ e)
    other p out (is_kept none_began e) = is_kept none_now (same p out ∙ e)
      where
        none_now : (q : Rule) → Among q (r ∷ began past) → Among p q.targets → ⊥
        none_now q here t = out (among_contains t)
        none_now q (there m) t = none_began q m t

    begun_at : (p : Path) → Contains r.targets p ⊎ (Contains r.targets p → ⊥) →
        IsRecordAfter (setting_at o) (build_at o new) (Began r ∷ past) (records_in after) p
    begun_at p (inl m) = is_withdrawn r here not_settled (contains_among r.targets m) (ap (option_map record_in) (none p m))
    begun_at p (inr out) = other p out (are p)

    refused_at : (p : Path) → IsRecordAfter (setting_at o) (build_at o new) (Began r ∷ past) (records_in after) p →
        IsRecordAfter (setting_at o) (build_at o new) (Ended r false ∷ Began r ∷ past) (records_in after) p
    refused_at p (is_put q m n t e) = is_put q m n t e
    refused_at p (is_withdrawn q m unsettled t e) = is_withdrawn q m unsettled t e
    refused_at p (is_kept none_began e) = is_kept none_began e

    pub begins_without : Begin o old new past r after
    begins_without = record {
      started = λ p. begun_at p (contained r.targets p);
      refused = λ p. refused_at p (begun_at p (contained r.targets p));
      to_have = λ rec is. is ∙ sym (same_kept jobs old new past way r.targets writes unready r is_decided.prepared);
    }

    -- the others that began are to have the same records still
    pub begun_others : (q : Rule) (rec : Rec) → Among q (began past) → IsRecordOf o old q rec → IsRecordOf o new q rec
    begun_others q rec m is = is ∙ sym (begun_kept jobs old new past way r.targets writes unready m)

  module _ (jobs : List Given) (old new : Around) (past : List Step) (r : Rule) (records : Kept) (way : IsWayTo o jobs old past)
      (runs : IsRunning past r) (writes : Writes [] old new) (are : AreRecorded o old past records) where
    now : (p : Path) → IsRecordAfter (setting_at o) (build_at o new) past (records_in records) p
    now p = after_now jobs old new past way [] writes (λ q m ready. none_there m) records p (are p)

    failed_at : (p : Path) → IsRecordAfter (setting_at o) (build_at o new) past (records_in records) p →
        IsRecordAfter (setting_at o) (build_at o new) (Ended r false ∷ past) (records_in records) p
    failed_at p (is_put q m n t e) = is_put q m n t e
    failed_at p (is_withdrawn q m unsettled t e) = is_withdrawn q m unsettled t e
    failed_at p (is_kept none_began e) = is_kept none_began e

    module _ (rec : Rec) (after : Kept) (is : IsRecordOf o old r rec) (have : HaveRecord r.targets rec after)
        (others : KeepsOthers r.targets records after) where
      put_at : (p : Path) → Contains r.targets p → IsRecordAfter (setting_at o) (build_at o new) (Ended r true ∷ past) (records_in after) p
      put_at p m =
          is_put r runs.began here (contains_among r.targets m)
          (ap (option_map record_in) (have p m)
          ∙ ap Some (is ∙ sym (begun_kept jobs old new past way [] writes (λ q n ready. none_there n) runs.began)))

      other_at : (p : Path) → (Contains r.targets p → ⊥) → IsRecordAfter (setting_at o) (build_at o new) past (records_in records) p →
          IsRecordAfter (setting_at o) (build_at o new) (Ended r true ∷ past) (records_in after) p
      other_at p out (is_put q m n t e) = is_put q m (there n) t (ap (option_map record_in) (others p out) ∙ e)
      other_at p out (is_withdrawn q m unsettled t e) =
          is_withdrawn q m (not_it q t unsettled) t (ap (option_map record_in) (others p out) ∙ e)
        where
          not_it : (q : Rule) → Among p q.targets → (Among q (settled past) → ⊥) → Among q (r ∷ settled past) → ⊥
          not_it q t unsettled here = out (among_contains t)
          not_it q t unsettled (there n) = unsettled n
      other_at p out (is_kept none_began e) = is_kept none_began (ap (option_map record_in) (others p out) ∙ e)

      well_at : (p : Path) → Contains r.targets p ⊎ (Contains r.targets p → ⊥) →
          IsRecordAfter (setting_at o) (build_at o new) (Ended r true ∷ past) (records_in after) p
      well_at p (inl m) = put_at p m
      well_at p (inr out) = other_at p out (now p)

    pub ends_with : End o old new past r records
    ends_with = record {
      well = λ rec after is have others p. well_at rec after is have others p (contained r.targets p);
      failed = λ p. failed_at p (now p);
    }
