-- A build of a graph that ended well equals a clean build, and the next one starts little.
use Rattle.std.proofs.Common.{◌≡◌, ◌<◌, ◌≤◌, ◌+◌, ◌*◌, ℕ, zero, suc, true, false, List, length, Option, Some, None, refl, sym, subst, ap, ◌∙◌, inl, inr, ◌⊎◌, arith}
use Rattle.build_model.specs.Rules.{Path, Content, Tree, Stamps, content, Rule, Record, Setting, Among}
use Rattle.build_model.specs.Needs.{IsBuildOrder}
use Rattle.build_model.specs.Contents.{View, found_in, dependencies, source_content, by_rule, made, clean, IsKnown, has_rule, is_file, height}
use Rattle.build_model.specs.Records.{record_of, dependency_of, known_digest, stamp_kept}
use Rattle.build_model.specs.Stale.{IsStale, IsUpToDate}
use Rattle.build_model.specs.Steps.{Step, Fresh, Build, settled, began, IsRun, Succeeds, present_record}
use Rattle.build_model.specs.Graphs.{Graph, setting, rule_at, clean_build, or_copy, copy_at, copy_of_source, copy_of_file, declared_rule}
use Rattle.build_model.specs.Laws.{NeededIn, EachStep}
use Rattle.build_model.specs.Headline.{no_stamps, clean_record, IsNeeded, IsStaleBefore, BuildsByContent, IsBuilt, BeginsStaleFront, IsAgain}
use Rattle.build_model.specs.OneJob.{TakesInOrder, SeesMissing, IsPast}
use Rattle.build_model.proofs.Lists.{none_some, some_same, same_map}
use Rattle.build_model.proofs.Heights.{higher_le}
use Rattle.build_model.proofs.Ready.{Agrees, wanted_needed}
use Rattle.build_model.proofs.Runs.{settled_prepared, fresh_of, fresh_or_began, began_once, needs_before, needed_settled, no_cycle}
use Rattle.build_model.proofs.Clean.{each_step_is_clean, settled_agrees, missing_stuck}
use Rattle.build_model.proofs.Placed.{lawful, high_enough}
use Rattle.build_model.proofs.OneJob.{follows_order}
use Rattle.build_model.proofs.Stopped.{front_begins}

unstamped_dependency : (s : Setting) (r : Rule) (view : View) (stamps : Stamps) (p : Path) → r.decider ≡ content →
    dependency_of s r view stamps p ≡ dependency_of s r view no_stamps p
unstamped_dependency s r view stamps p by =
    ap (λ x. record { name = p; digest = known_digest s (view p); stamp = x })
    (ap (λ d. stamp_kept d (stamps p)) by ∙ ap (λ d. stamp_kept d None) (sym by))

-- the content decider keeps no stamps
unstamped : (s : Setting) (r : Rule) (view : View) (stamps : Stamps) → r.decider ≡ content →
    record_of s r view stamps ≡ record_of s r view no_stamps
unstamped s r view stamps by =
    ap (λ l. record { work = r.work; hash = s.hash; signed = r.signed; targets = r.targets; dependencies = l })
    (same_map (dependency_of s r view stamps) (dependency_of s r view no_stamps) (dependencies s view r)
    (λ p m. unstamped_dependency s r view stamps p by))

module _ (g : Graph) (b : Build) (steps : List Step) (builds : BuildsByContent g b steps) where
  abbrev pub Set : Setting
  Set = setting g b.before

  abbrev top : ℕ
  top = 2 * length g.rules + 1

  low : height (settled steps) < top
  low = high_enough g b steps builds.graph builds.run

  each : EachStep Set b (clean_build g b.before) steps
  each =
      each_step_is_clean Set b steps top
      (record { lawful = lawful g b.before builds.graph; sources = builds.sources; run = builds.run }) builds.by low

  pub agrees : Agrees Set b (settled steps) (clean_build g b.before)
  agrees = settled_agrees Set b (lawful g b.before builds.graph) builds.sources top builds.by steps builds.run low

  same_stale : {r : Rule} → IsNeeded g b r → record_of Set r (clean_build g b.before) b.stamps_after ≡ clean_record g b r
  same_stale {r} needed = unstamped Set r (clean_build g b.before) b.stamps_after (builds.by.decider r needed)

  pub found_up_to_date : {r : Rule} → IsNeeded g b r → Among (Fresh r) steps → IsUpToDate b.before b.records r (present_record Set b r)
  found_up_to_date {r} needed m =
      (builds.by.tests r needed).kept (builds.by.decider r needed) (fresh_of Set b m builds.run).not_due

  only_stale : (r : Rule) → Among r (began steps) → IsNeeded g b r × IsStaleBefore g b r
  only_stale r m =
      let h = each.began r m in (h.0, subst (λ now. IsStale b.before b.records r now) (same_stale h.0) h.1)

  began_if_stale : {r : Rule} → IsNeeded g b r → IsStaleBefore g b r → Among (Fresh r) steps ⊎ Among r (began steps) → Among r (began steps)
  began_if_stale needed is_stale (inr m) = m
  began_if_stale {r} needed is_stale (inl m) =
      absurd (each.fresh r m (subst (λ now. IsStale b.before b.records r now) (sym (same_stale needed)) is_stale))

  pub sees_missing : SeesMissing Set b (clean_build g b.before)
  sees_missing p bytes missing e =
      none_some (sym (missing_stuck Set b (lawful g b.before builds.graph) builds.sources top builds.by missing) ∙ e)

  stale_past : {x : Rule} → IsPast Set b steps x → IsStaleBefore g b x → Among x (began steps)
  stale_past h is_stale =
      began_if_stale (wanted_needed Set b (settled_prepared Set b steps builds.run h.is_settled).wanted agrees) is_stale
      (fresh_or_began Set b steps builds.run h.is_settled)

  pub stale_front_begins : (order : List Rule) → b.jobs ≡ 1 → b.keeps_going ≡ false → TakesInOrder Set b steps →
      IsBuildOrder (rule_at g b.before) g.limit (found_in Set (clean_build g b.before)) b.requested order → BeginsStaleFront g b order steps
  stale_front_begins order one stops takes is_order =
      let front = front_begins Set b (clean_build g b.before) steps order builds.run one stops takes agrees sees_missing is_order in
      record {
        only = only_stale;
        follows = front.follows;
        before_begun = λ r x m k. stale_past (front.before_begun r x m k);
        before_fault = λ r x f k. stale_past (front.before_fault r x f k);
        last = front.last;
      }

  known_source : (p : Path) (c : Content) → rule_at g b.before p ≡ None → b.before p ≡ c → IsKnown Set b.before p →
      clean_build g b.before p ≡ Some (b.after p)
  known_source p c none is (has_rule r e) = none_some (sym none ∙ e)
  known_source p c none is (is_file bytes e) =
      higher_le Set b.before 0 top (le top) p (b.after p)
      (ap (λ o. by_rule o (source_content (b.before p)) (λ r. None)) none ∙ ap source_content e
      ∙ ap Some (sym e ∙ builds.sources p none))
    where
      le : (n : ℕ) → 0 ≤ n
      le n = omega arith

  module _ (succeeds : Succeeds Set b steps) where
    pub settled_at_end : {r : Rule} → IsNeeded g b r → Among r (settled steps)
    settled_at_end needed = needed_settled Set b (clean_build g b.before) steps builds.run agrees succeeds needed

    known_clean : (p : Path) → Among p b.requested → (o : Option Rule) → rule_at g b.before p ≡ o → IsKnown Set b.before p →
        clean_build g b.before p ≡ Some (b.after p)
    known_clean p m None none known = known_source p (b.before p) none refl known
    known_clean p m (Some r) e known =
        (each.settled r (succeeds p r m e)).targets p ((lawful g b.before builds.graph).makes p r e)

    pub incremental_is_clean : IsBuilt g b steps
    incremental_is_clean = record {
      targets = λ r needed p m. (each.settled r (settled_at_end needed)).targets p m;
      requested = λ p m known. known_clean p m (rule_at g b.before p) refl known;
      starts = record {
        only = only_stale;
        all = λ r needed is_stale. began_if_stale needed is_stale (fresh_or_began Set b steps builds.run (settled_at_end needed));
        once = began_once Set b steps builds.run;
      };
      records = λ r needed. sym (each.settled r (settled_at_end needed)).record_is ∙ same_stale needed;
      order = λ later past r q e needs.
          needs_before Set b (clean_build g b.before) later past r q
          (subst (λ l. Agrees Set b (settled l) (clean_build g b.before)) e agrees)
          (subst (λ l. IsRun Set b l) e builds.run) needs;
      no_cycle = λ r rs needed cycle. no_cycle Set b (clean_build g b.before) steps r rs builds.run agrees succeeds needed cycle;
      one_job = λ one takes order is_order.
          follows_order Set b (clean_build g b.before) steps order builds.run succeeds one takes agrees is_order;
    }

-- The rules of a path are the same before and after a build, since it changes files of targets alone.
module _ (g : Graph) (t u : Tree) (sources : (p : Path) → rule_at g t p ≡ None → t p ≡ u p) where
  same_copy_of_file : (p q : Path) (o : Option Path) → g.source_of q ≡ o → declared_rule g.rules q ≡ None →
      copy_of_file p q (t q) o ≡ copy_of_file p q (u q) o
  same_copy_of_file p q None e none =
      ap (λ c. copy_of_file p q c None) (sources q (ap (or_copy g t q) none ∙ ap (copy_at g t q) e))
  same_copy_of_file p q (Some o) e none = deeper (t q) ∙ sym (deeper (u q))
    where
      deeper : (c : Content) → copy_of_file p q c (Some o) ≡ None
      deeper None = refl
      deeper (Some bytes) = refl

  same_copy_of_source : (p q : Path) (o : Option Rule) → declared_rule g.rules q ≡ o → copy_of_source g t p q o ≡ copy_of_source g u p q o
  same_copy_of_source p q (Some r) e = refl
  same_copy_of_source p q None e = same_copy_of_file p q (g.source_of q) refl e

  same_copy_at : (p : Path) (o : Option Path) → copy_at g t p o ≡ copy_at g u p o
  same_copy_at p None = refl
  same_copy_at p (Some q) = same_copy_of_source p q (declared_rule g.rules q) refl

  same_or_copy : (p : Path) (o : Option Rule) → or_copy g t p o ≡ or_copy g u p o
  same_or_copy p (Some r) = refl
  same_or_copy p None = same_copy_at p (g.source_of p)

  same_rule_at : rule_at g t ≡ rule_at g u
  same_rule_at = λ i p. same_or_copy p (declared_rule g.rules p) i

  same_setting : setting g t ≡ setting g u
  same_setting =
      ap (λ f. record {
        rule_of = f;
        includes = g.includes;
        act = g.act;
        digest = g.digest;
        hash = g.hash;
        is_due = g.is_due;
        limit = g.limit;
      }) same_rule_at

  same_source : (p : Path) (o : Option Rule) (f : Rule → Option Content) → rule_at g t p ≡ o →
      by_rule o (source_content (t p)) f ≡ by_rule o (source_content (u p)) f
  same_source p None f none = ap source_content (sources p none)
  same_source p (Some r) f e = refl

  same_clean_at : (h : ℕ) → clean (setting g t) t h ≡ clean (setting g t) u h
  same_clean_at zero = λ i p. same_source p (rule_at g t p) (λ r. None) refl i
  same_clean_at (suc h) = λ i p.
      (same_source p (rule_at g t p) (λ r. made (setting g t) (clean (setting g t) t h) r p) refl
      ∙ ap (λ v. by_rule (rule_at g t p) (source_content (u p)) (λ r. made (setting g t) v r p)) (same_clean_at h)) i

  pub same_clean_build : clean_build g t ≡ clean_build g u
  same_clean_build =
      same_clean_at (2 * length g.rules + 1) ∙ ap (λ s. clean s u (2 * length g.rules + 1)) same_setting

again_cases : {t : Tree} {m : Path → Option Record} {r : Rule} {now : Record} → ((p : Path) → Among p r.targets → m p ≡ Some now) →
    IsStale t m r now → (r.always ≡ true) ⊎ ((p : Path) × Among p r.targets × (t p ≡ None))
again_cases has (IsStale.is_always e) = inl e
again_cases has (IsStale.no_file p m e) = inr (p, m, e)
again_cases has (IsStale.no_record p m e) = none_some (sym e ∙ has p m)
again_cases has (IsStale.other_record p old m e differs) = absurd (differs (some_same (sym e ∙ has p m)))

module _ (g : Graph) (b c : Build) (sources : (p : Path) → rule_at g b.before p ≡ None → b.before p ≡ b.after p) (again : IsAgain g b c) where
  same_set : setting g b.before ≡ setting g c.before
  same_set = same_setting g b.before b.after sources ∙ ap (setting g) (sym again.tree)

  same_view : clean_build g b.before ≡ clean_build g c.before
  same_view = same_clean_build g b.before b.after sources ∙ ap (clean_build g) (sym again.tree)

  same_needed : {r : Rule} → IsNeeded g c r → IsNeeded g b r
  same_needed {r} needed =
      subst (λ s. NeededIn s b (clean_build g b.before) r) (sym same_set)
      (subst (λ v. NeededIn (setting g c.before) b v r) (sym same_view)
      (by_request needed))
    where
      by_request : NeededIn (setting g c.before) c (clean_build g c.before) r → NeededIn (setting g c.before) b (clean_build g c.before) r
      by_request n = subst (λ l. NeededOf l) again.requested n
        where
          NeededOf : List Path → Type 0
          NeededOf l = NeededIn (setting g c.before) (record c { requested = l }) (clean_build g c.before) r

  same_record_again : (r : Rule) → clean_record g b r ≡ clean_record g c r
  same_record_again r =
      ap (λ s. record_of s r (clean_build g b.before) no_stamps) same_set
      ∙ ap (λ v. record_of (setting g c.before) r v no_stamps) same_view

  pub again_little : (r : Rule) → IsNeeded g c r → IsStaleBefore g c r →
      (r.always ≡ true) ⊎ ((p : Path) × Among p r.targets × (b.after p ≡ None))
  again_little r needed is_stale =
      subst (λ t. (r.always ≡ true) ⊎ ((p : Path) × Among p r.targets × (t p ≡ None))) again.tree
      (again_cases (λ p m. again.records r (same_needed needed) p m ∙ ap Some (same_record_again r)) is_stale)
