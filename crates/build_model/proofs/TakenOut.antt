-- With paths taken out nothing more is needed than by what was found, where each dependency that waits is taken out; and
-- what was found has them taken out.
use Rattle.std.proofs.Common.{◌≡◌, List, [], Option, Some, None, refl, sym, ap, ◌∙◌, inl, inr, ◌⊎◌}
use Rattle.build_model.specs.Rules.{Path, Content, Rule, Setting, Among}
use Rattle.build_model.specs.Reach.{IsScanned, scans_source, scans_found, Reaches, is_declared, is_scanned}
use Rattle.build_model.specs.Needs.{Found, Needs, as_required, as_dependency, NeedsThrough, directly, through, Needed, is_requested, is_needed}
use Rattle.build_model.specs.Contents.{View, in_tree, found_in, includes_of}
use Rattle.build_model.specs.Steps.{Build, IsReady, is_source, IsMissing}
use Rattle.build_model.proofs.Lists.{among_same}
use Rattle.build_model.proofs.Ready.{Agrees}

module _ (s : Setting) (b : Build) (view : View) (rules : List Rule) (agrees : Agrees s b rules view)
    (stuck : (p : Path) → IsMissing s b.after p → view p ≡ None) (found : Found)
    (whole : (r : Rule) (p : Path) → (IsReady s b.after rules p × (found r p ≡ found_in s (in_tree b.after) r p))
    ⊎ ((IsReady s b.after rules p → ⊥) × (found r p ≡ [])))
    (IsOut : Path → Type 0)
    (hindered : (r : Rule) (p : Path) (x : Rule) → Needed s.rule_of found b.requested r → Reaches (found r) r p → s.rule_of p ≡ Some x →
    (IsReady s b.after rules p → ⊥) → IsOut p) where
  abbrev IsNeeded : Rule → Type 0
  IsNeeded r = Needed s.rule_of found b.requested r

  unready_source : (r : Rule) (p : Path) (c : Content) → s.rule_of p ≡ None → b.after p ≡ c → (IsReady s b.after rules p → ⊥) →
      found_in s view r p ≡ []
  unready_source r p (Some bytes) none is unready = absurd (unready (is_source bytes none is))
  unready_source r p None none is unready =
      ap (includes_of (s.includes r p)) (stuck p (record { no_rule = none; no_file = is }))

  unready_includes : (r : Rule) (p : Path) → IsNeeded r → Reaches (found r) r p → (o : Option Rule) → s.rule_of p ≡ o →
      (IsReady s b.after rules p → ⊥) → IsOut p ⊎ (found_in s view r p ≡ [])
  unready_includes r p needed reached None none unready = inr (unready_source r p (b.after p) none refl unready)
  unready_includes r p needed reached (Some x) e unready = inl (hindered r p x needed reached e unready)

  none_included : {p q : Path} {l more : List Path} → (IsOut p → ⊥) → IsOut p ⊎ (l ≡ []) → Among q l → Among q more
  none_included in_it (inl o) m = absurd (in_it o)
  none_included in_it (inr e) m = elim (among_same e m) [ ]

  in_found : {r : Rule} {p q : Path} → IsNeeded r → Reaches (found r) r p → (IsOut p → ⊥) →
      (IsReady s b.after rules p × (found r p ≡ found_in s (in_tree b.after) r p)) ⊎ ((IsReady s b.after rules p → ⊥) × (found r p ≡ [])) →
      Among q (found_in s view r p) → Among q (found r p)
  in_found {r} {p} needed reached in_it (inl h) m = among_same (ap (includes_of (s.includes r p)) (agrees p h.0) ∙ sym h.1) m
  in_found {r} {p} needed reached in_it (inr h) m =
      none_included in_it (unready_includes r p needed reached (s.rule_of p) refl h.0) m

  module _ (inside : (p : Path) → IsReady s b.after rules p → IsOut p → ⊥) (made : (p : Path) → s.rule_of p ≡ None → IsOut p → ⊥) where
    out_or_none : (r : Rule) (p : Path) → IsNeeded r → Reaches (found r) r p → (o : Option Rule) → s.rule_of p ≡ o →
        (IsReady s b.after rules p → ⊥) × (found r p ≡ []) →
        (IsOut p × (found r p ≡ [])) ⊎ ((IsOut p → ⊥) × (found r p ≡ found_in s view r p))
    out_or_none r p needed reached None none h =
        inr (made p none, h.1 ∙ sym (unready_source r p (b.after p) none refl h.0))
    out_or_none r p needed reached (Some x) e h = inl (hindered r p x needed reached e h.0, h.1)

    found_cases : (r : Rule) (p : Path) → IsNeeded r → Reaches (found r) r p →
        (IsReady s b.after rules p × (found r p ≡ found_in s (in_tree b.after) r p)) ⊎ ((IsReady s b.after rules p → ⊥) × (found r p ≡ [])) →
        (IsOut p × (found r p ≡ [])) ⊎ ((IsOut p → ⊥) × (found r p ≡ found_in s view r p))
    found_cases r p needed reached (inl h) =
        inr (inside p h.0, h.1 ∙ ap (includes_of (s.includes r p)) (sym (agrees p h.0)))
    found_cases r p needed reached (inr h) = out_or_none r p needed reached (s.rule_of p) refl h

    -- what was found has taken out what waits
    pub found_taken_out : (r : Rule) (p : Path) → IsNeeded r → Reaches (found r) r p →
        (IsOut p × (found r p ≡ [])) ⊎ ((IsOut p → ⊥) × (found r p ≡ found_in s view r p))
    found_taken_out r p needed reached = found_cases r p needed reached (whole r p)

  module _ (taken : Found) (out : (r : Rule) (p : Path) → Needed s.rule_of taken b.requested r → Reaches (taken r) r p →
      (IsOut p × (taken r p ≡ [])) ⊎ ((IsOut p → ⊥) × (taken r p ≡ found_in s view r p))) where
    abbrev IsNeededSo : Rule → Type 0
    IsNeededSo r = Needed s.rule_of taken b.requested r

    found_too : {r : Rule} {p q : Path} → IsNeeded r → Reaches (found r) r p →
        (IsOut p × (taken r p ≡ [])) ⊎ ((IsOut p → ⊥) × (taken r p ≡ found_in s view r p)) → Among q (taken r p) → Among q (found r p)
    found_too needed reached (inl h) m = elim (among_same h.1 m) [ ]
    found_too {r} {p} needed reached (inr h) m = in_found needed reached h.0 (whole r p) (among_same h.1 m)

    scanned_too : {r : Rule} {p : Path} → IsNeeded r → IsNeededSo r → IsScanned (taken r) r p → IsScanned (found r) r p
    scanned_too needed so (scans_source m) = scans_source m
    scanned_too {r} needed so (scans_found q h m left) =
        let found_so = scanned_too needed so h in
        scans_found q found_so (found_too needed (is_scanned found_so) (out r q so (is_scanned h)) m) left

    reached_too : {r : Rule} {p : Path} → IsNeeded r → IsNeededSo r → Reaches (taken r) r p → Reaches (found r) r p
    reached_too needed so (is_declared m) = is_declared m
    reached_too needed so (is_scanned h) = is_scanned (scanned_too needed so h)

    needs_too : {r q : Rule} → IsNeeded r → IsNeededSo r → Needs s.rule_of taken r q → Needs s.rule_of found r q
    needs_too needed so (as_required p m e) = as_required p m e
    needs_too needed so (as_dependency p reached e) = as_dependency p (reached_too needed so reached) e

    pub needed_too : {r : Rule} → IsNeededSo r → IsNeeded r
    needed_too (is_requested p m e) = is_requested p m e
    needed_too (is_needed q h needs) = let needed = needed_too h in is_needed q needed (needs_too needed h needs)

    pub through_too : {r q : Rule} → IsNeeded r → IsNeededSo r → NeedsThrough s.rule_of taken r q → NeedsThrough s.rule_of found r q
    through_too needed so (directly needs) = directly (needs_too needed so needs)
    through_too {r} needed so (through x needs more) =
        let first = needs_too needed so needs in through x first (through_too (is_needed r needed first) (is_needed r so needs) more)
