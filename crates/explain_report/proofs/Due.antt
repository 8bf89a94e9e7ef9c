-- A rule is found due exactly where a reason holds for one of its targets.
use Rattle.std.proofs.Common.{◌≡◌, ℕ, Bool, true, false, List, [], ◌∷◌, length, map, Option, Some, None, refl, sym, subst, ap, ◌∙◌, zip}
use Rattle.std.specs.Prelude.{◌↔◌, slice_get, is_some, ◌&&◌, not, ◌==◌}
use Rattle.std.specs.Option.{option_map}
use Rattle.std.specs.List.{list_all}
use Rattle.world_api.specs.declared.decider.Decider.{Decider}
use Rattle.deciders.specs.declared.recorded.Rec.{Rec}
use Rattle.deciders.specs.Records.{named_once, name_of, is_by}
use Rattle.deciders.specs.Changes as kept
use Rattle.build_model.specs.Rules.{Path, Tree, Stamps, Rule, Record, Among, Content}
use Rattle.build_model.specs.Stale.{first_stamp, IsDue, is_always, no_file, no_record, has_changed, HasChanged}
use Rattle.build_means.specs.Due.{is_due}
use Rattle.build_means.specs.Laws.{ChangesAreAlike}
use Rattle.build_means.specs.Rules.{decider_of}
use Rattle.build_means.specs.Records.{record_in, records_in}
use Rattle.build_means.proofs.Lists.{true_false, none_some, some_same, and_both, place_of, at_place}
use Rattle.build_means.proofs.Testing.{due, spared}
use Rattle.explain_report.specs.declared.reason.Reason.{Reason}
use Rattle.explain_report.specs.declared.reason.Reason.TheVariants.{Always, Absent, NoRecord, Action, Newly, Gone, Moved, Changed}
use Rattle.explain_report.specs.Reasons.{Differs, Holds}
use Rattle.explain_report.specs.Laws.{AreRecords, HoldsIn}
use Rattle.explain_report.proofs.Firsts.{some_first}
use Rattle.explain_report.proofs.Changing.{by_work, by_newly, by_gone, by_names, by_change, NoneOf, not_changed}

no_content : (c : Content) → is_some c ≡ false → c ≡ None
no_content None e = refl
no_content (Some bytes) e = true_false e

none_in : (o : Option Rec) → o ≡ None → option_map record_in o ≡ None
none_in o e = ap (option_map record_in) e

none_from : (o : Option Rec) → option_map record_in o ≡ None → o ≡ None
none_from None e = refl
none_from (Some old) e = none_some (sym e)

some_from : (o : Option Rec) (old : Record) → option_map record_in o ≡ Some old → (rec : Rec) × (o ≡ Some rec) × (record_in rec ≡ old)
some_from None old e = none_some e
some_from (Some rec) old e = (rec, refl, some_same e)

-- a list that isn't empty has a first item
first_item : {A : Type 0} (xs : List A) → not (length xs == 0) ≡ true → (x : A) × (slice_get xs 0 ≡ Some x)
first_item [] e = true_false (sym e)
first_item (x ∷ xs) e = (x, refl)

module _ (alike : ChangesAreAlike) (r : Rule) (tree : Tree) (stamps : Stamps) (stored : Path → Option Rec) (decider : Decider) (now : Rec) (are : AreRecords r decider stored now) where
  abbrev first : Option ℕ
  first = first_stamp stamps r.targets

  abbrev Due : Type 0
  Due = IsDue tree stamps (records_in stored) r (record_in now)

  changed_due : (p : Path) (old : Rec) → Among p r.targets → stored p ≡ Some old → kept.HasChanged decider old now first → Due
  changed_due p old among e h =
      let like = (alike decider first old now (are.kept_valid p old e) are.valid).0 h in
      has_changed p (record_in old) among (ap (option_map record_in) e)
      (subst (λ d. HasChanged d first (record_in old) (record_in now)) (sym are.by) like)

  beside : (p : Path) (place : ℕ) (o : Option Rec) → stored p ≡ o → Among p r.targets → (reason : Reason) →
      Holds decider r.always now place (is_some (tree p)) first o reason → Due
  beside p place o e among (Always x) h = is_always h.1
  beside p place o e among (Absent x) h = no_file p among (no_content (tree p) h.1)
  beside p place o e among (NoRecord x) h = no_record p among (none_in (stored p) (e ∙ h.1))
  beside p place None e among (Action x) h = absurd h
  beside p place (Some old) e among (Action x) h = changed_due p old among e (by_work decider first old now h.1)
  beside p place None e among (Newly x d) h = absurd h
  beside p place (Some old) e among (Newly x d) h = changed_due p old among e (by_newly decider first old now d h.1)
  beside p place None e among (Gone x d) h = absurd h
  beside p place (Some old) e among (Gone x d) h = changed_due p old among e (by_gone decider first old now d h.1)
  beside p place None e among (Moved x) h = absurd h
  beside p place (Some old) e among (Moved x) h = changed_due p old among e (by_names decider first old now h.1)
  beside p place None e among (Changed x d) h = absurd h
  beside p place (Some old) e among (Changed x d) h = changed_due p old among e (by_change decider first old now are.stamps d h.1)

  -- a reason that holds makes it due
  holds_due : (reason : Reason) → HoldsIn r tree stamps stored decider now reason → Due
  holds_due reason h = beside h.0 h.1 (stored h.0) refl (at_place r.targets h.1 h.2) reason h.3

  module _ (none : (reason : Reason) → HoldsIn r tree stamps stored decider now reason → ⊥) where
    at : (p : Path) (place : ℕ) → slice_get r.targets place ≡ Some p → (o : Option Rec) → stored p ≡ o → (reason : Reason) →
        Holds decider r.always now place (is_some (tree p)) first o reason → ⊥
    at p place there o e reason h =
        none reason (p, place, there, subst (λ x. Holds decider r.always now place (is_some (tree p)) first x reason) (sym e) h)

    none_of : (p : Path) (place : ℕ) → slice_get r.targets place ≡ Some p → (old : Rec) → stored p ≡ Some old → NoneOf decider first old now
    none_of p place there old e = record {
      work = λ n. at p place there (Some old) e (Action place) (refl, n);
      names = λ n. at p place there (Some old) e (Moved place) (refl, n);
      change = λ s. some_first (Differs decider first) 0 (zip old.deps now.deps) s (λ d f. at p place there (Some old) e (Changed place d) (refl, f));
    }

    some_target : (p : Path) × (slice_get r.targets 0 ≡ Some p)
    some_target =
        let filled = and_both (not (length now.targets == 0)) (named_once [] now.targets && (named_once [] (map name_of now.deps) && list_all (is_by now.hash) now.deps)) are.valid in
        first_item r.targets (subst (λ (ts : List Path). not (length ts == 0) ≡ true) are.targets filled.0)

    -- and where none holds it isn't
    none_due : Due → ⊥
    none_due (is_always e) = at some_target.0 0 some_target.1 (stored some_target.0) refl (Always 0) (refl, e)
    none_due (no_file p among e) =
        let place = place_of among in
        at p place.0 place.1 (stored p) refl (Absent place.0) (refl, ap is_some e)
    none_due (no_record p among e) =
        let place = place_of among in
        at p place.0 place.1 (stored p) refl (NoRecord place.0) (refl, none_from (stored p) e)
    none_due (has_changed p old among e h) =
        let place = place_of among in
        let rec = some_from (stored p) old e in
        let by = subst (λ d. HasChanged d first old (record_in now)) are.by h in
        let like = (alike decider first rec.0 now (are.kept_valid p rec.0 rec.1) are.valid).1 (subst (λ o. HasChanged (decider_of decider) first o (record_in now)) (sym rec.2) by) in
        not_changed decider first rec.0 now are.stamps (none_of p place.0 place.1 rec.0 rec.1) like

    not_due : (b : Bool) → is_due r tree stamps (records_in stored) (record_in now) ≡ b → b ≡ false
    not_due false e = refl
    not_due true e = absurd (none_due (due tree stamps (records_in stored) r (record_in now) e))

  pub due_alike : (is_due r tree stamps (records_in stored) (record_in now) ≡ false) ↔ ((reason : Reason) → HoldsIn r tree stamps stored decider now reason → ⊥)
  due_alike = (
    (λ e reason h. spared tree stamps (records_in stored) r (record_in now) e (holds_due reason h)),
    (λ none. not_due none (is_due r tree stamps (records_in stored) (record_in now)) refl),
  )
