-- What a rule that may be decided stands on: its files wait for nothing, and all that it needs is settled.
use Rattle.std.proofs.Common.{◌≡◌, ◌<◌, List, [], length, Some, refl, sym, subst, ap, ◌∙◌, inl, inr, ◌⊎◌}
use Rattle.build_model.specs.Rules.{Path, Tree, Rule, Setting, Among}
use Rattle.build_model.specs.Needs.{RuleOf, Found, Needs, as_required, as_dependency, Needed, is_requested, is_needed}
use Rattle.build_model.specs.Contents.{View, in_tree, found_in, includes_of, dependencies, scanned_files}
use Rattle.build_model.specs.Records.{record_of}
use Rattle.build_model.specs.Steps.{Build, IsReady, is_source, is_made, IsWanted, IsPrepared, present_dependencies, present_record}
use Rattle.build_model.specs.Laws.{NeededIn, NeedsIn}
use Rattle.build_model.proofs.Lists.{none_some, some_same, among_same}
use Rattle.build_model.proofs.Whole.{reaches_in, reaches_more}
use Rattle.build_model.proofs.Agree.{same_dependencies, same_record, same_scanned}

abbrev pub Within : List Rule → List Rule → Type 0
Within rules more = (r : Rule) → Among r rules → Among r more

pub ready_more : {s : Setting} {t : Tree} {rules more : List Rule} {p : Path} → Within rules more → IsReady s t rules p → IsReady s t more p
ready_more w (is_source bytes none file) = is_source bytes none file
ready_more w (is_made r e m) = is_made r e (w r m)

found_more_cases : {s : Setting} {t : Tree} {rules more : List Rule} (found : Found) (r : Rule) (p : Path) → Within rules more →
    (found r p ≡ []) ⊎ (IsReady s t rules p × (found r p ≡ found_in s (in_tree t) r p)) →
    (found r p ≡ []) ⊎ (IsReady s t more p × (found r p ≡ found_in s (in_tree t) r p))
found_more_cases found r p w (inl e) = inl e
found_more_cases found r p w (inr h) = inr (ready_more w h.0, h.1)

pub wanted_more : {s : Setting} {b : Build} {rules more : List Rule} {r : Rule} → Within rules more → IsWanted s b rules r → IsWanted s b more r
wanted_more w h = record {
  found = h.found;
  is_found = λ q p. found_more_cases h.found q p w (h.is_found q p);
  is_needed = h.is_needed;
}

pub prepared_more : {s : Setting} {b : Build} {rules more : List Rule} {r : Rule} → Within rules more →
    IsPrepared s b rules r → IsPrepared s b more r
prepared_more w h = record {
  wanted = wanted_more w h.wanted;
  whole = h.whole;
  dependencies = λ p m. ready_more w (h.dependencies p m);
  required = λ p q m e. w q (h.required p q m e);
}

-- where what is needed includes more, more is needed
pub needs_more : {rule_of : RuleOf} {f g : Found} {r q : Rule} → ((x : Rule) (p y : Path) → Among y (f x p) → Among y (g x p)) →
    Needs rule_of f r q → Needs rule_of g r q
needs_more h (as_required p m e) = as_required p m e
needs_more {r = r} h (as_dependency p reached e) = as_dependency p (reaches_more (h r) reached) e

pub needed_more : {rule_of : RuleOf} {f g : Found} {requested : List Path} {r : Rule} →
    ((x : Rule) (p y : Path) → Among y (f x p) → Among y (g x p)) → Needed rule_of f requested r → Needed rule_of g requested r
needed_more h (is_requested p m e) = is_requested p m e
needed_more h (is_needed q needed needs) = is_needed q (needed_more h needed) (needs_more h needs)

-- a needed rule makes something
needs_place : {rule_of : RuleOf} {f : Found} {r q : Rule} → Needs rule_of f r q → (p : Path) × (rule_of p ≡ Some q)
needs_place (as_required p m e) = (p, e)
needs_place (as_dependency p reached e) = (p, e)

pub needed_place : {rule_of : RuleOf} {f : Found} {requested : List Path} {r : Rule} → Needed rule_of f requested r →
    (p : Path) × (rule_of p ≡ Some r)
needed_place (is_requested p m e) = (p, e)
needed_place (is_needed q needed needs) = needs_place needs

module _ (s : Setting) (b : Build) where
  -- contents that are as at the end wherever a path waits for nothing
  abbrev pub Agrees : List Rule → View → Type 0
  Agrees rules view = (p : Path) → IsReady s b.after rules p → view p ≡ Some (b.after p)

  pub tree_agrees : (rules : List Rule) → Agrees rules (in_tree b.after)
  tree_agrees rules p h = refl

  pub agrees_less : {rules more : List Rule} {view : View} → Within rules more → Agrees more view → Agrees rules view
  agrees_less w h p ready = h p (ready_more w ready)

  module _ {rules : List Rule} (r : Rule) (prepared : IsPrepared s b rules r) (view : View) (agrees : Agrees rules view) where
    pub prepared_agrees : (p : Path) → Among p (present_dependencies s b r) → in_tree b.after p ≡ view p
    prepared_agrees p m = sym (agrees p (prepared.dependencies p m))

    pub prepared_dependencies : dependencies s view r ≡ present_dependencies s b r
    prepared_dependencies = same_dependencies s r (in_tree b.after) view prepared_agrees

    -- the list of files that are scanned isn't cut short
    pub prepared_short : length (scanned_files s view r) < s.limit
    prepared_short =
        subst (λ l. length l < s.limit) (sym (same_scanned s r (in_tree b.after) view prepared_agrees)) prepared.whole

    pub prepared_record : record_of s r view b.stamps_after ≡ present_record s b r
    prepared_record = same_record s r (in_tree b.after) view prepared_agrees b.stamps_after

    made_among : {p : Path} {q : Rule} → s.rule_of p ≡ Some q → IsReady s b.after rules p → Among q rules
    made_among e (is_source bytes none file) = none_some (sym none ∙ e)
    made_among e (is_made x is m) = subst (λ y. Among y rules) (some_same (sym is ∙ e)) m

    -- all that the rule needs is settled
    pub needs_among : {q : Rule} → NeedsIn s view r q → Among q rules
    needs_among {q} (as_required p m e) = prepared.required p q m e
    needs_among (as_dependency p reached e) =
        made_among e (prepared.dependencies p (among_same prepared_dependencies
        (reaches_in (found_in s view r) s.limit prepared_short reached)))

  found_there : {rules : List Rule} (view : View) (found : Found) (x : Rule) (p : Path) {y : Path} → Agrees rules view →
      (found x p ≡ []) ⊎ (IsReady s b.after rules p × (found x p ≡ found_in s (in_tree b.after) x p)) →
      Among y (found x p) → Among y (found_in s view x p)
  found_there view found x p agrees (inl none) m = elim (among_same none m) [ ]
  found_there view found x p agrees (inr h) m =
      among_same (h.1 ∙ ap (λ k. includes_of (s.includes x p) k) (sym (agrees p h.0))) m

  -- what is needed by what was found so far is needed
  pub wanted_needed : {rules : List Rule} {view : View} {r : Rule} → IsWanted s b rules r → Agrees rules view → NeededIn s b view r
  wanted_needed {view = view} h agrees =
      needed_more (λ x p y m. found_there view h.found x p agrees (h.is_found x p) m) h.is_needed
