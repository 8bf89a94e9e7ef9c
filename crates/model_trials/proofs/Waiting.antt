-- Numbers that lead to themselves, and rules that wait for themselves.
use Rattle.std.proofs.Common.{◌≡◌, ◌<◌, ℕ, zero, suc, List, [], ◌∷◌, Option, None, map, length, get_or, refl, sym, ap, subst, ◌∙◌, arith, ◌⊎◌, inl, inr, ⊎_elim}
use Rattle.std.specs.List.{slice_get}
use Rattle.build_model.specs.Rules.{Path, Rule, Among, here, there}
use Rattle.build_model.specs.Reach.{unseen, breadth_first}
use Rattle.build_model.specs.Graphs.{declared_rule}
use Rattle.build_model.specs.Needs.{rules_at, needs_in_order}
use Rattle.model_trials.specs.declared.reach.PlainRule.{PlainRule}
use Rattle.model_trials.specs.Plain.{as_rule, number}
use Rattle.model_trials.specs.Orders.{AreNumbered, no_rule, rule_or, numbered, found_by, numbers_needed}
use Rattle.model_trials.specs.Loops.{IsLed, is_root, follows, LeadsTo, AreLed}
use Rattle.model_trials.specs.Cyclic.{IsBelow, begins, goes_on, IsCyclic}
use Rattle.model_trials.proofs.Naming.{own_number, rules_back, are_named}

among_map : {A B : Type 0} (f : A → B) {x : A} {xs : List A} → Among x xs → Among (f x) (map f xs)
among_map f here = here
among_map f (there m) = there (among_map f m)

head_or_later : {A : Type 0} {y x : A} {xs : List A} → Among y (x ∷ xs) → (y ≡ x) ⊎ Among y xs
head_or_later here = inl refl
head_or_later (there m) = inr m

-- a thing of the list has this image
record HasImage {A B : Type 0} (f : A → B) (xs : List A) (y : B) : Type 0 where
  thing : A
  stands_there : Among thing xs
  is : y ≡ f thing

image_later : {A B : Type 0} (f : A → B) {x : A} {xs : List A} {y : B} → HasImage f xs y → HasImage f (x ∷ xs) y
image_later f h = record { thing = h.thing; stands_there = there h.stands_there; is = h.is }

image_of : {A B : Type 0} (f : A → B) (xs : List A) {y : B} → Among y (map f xs) → HasImage f xs y
image_of f [] m = elim m [ ]
image_of f (x ∷ xs) m = ⊎_elim (λ e. record { thing = x; stands_there = here; is = e }) (λ later. image_later f (image_of f xs later)) (head_or_later m)

place_or_none : {A : Type 0} (xs : List A) (n : ℕ) → (n < length xs) ⊎ (slice_get xs n ≡ None)
place_or_none [] zero = inr refl
place_or_none [] (suc n) = inr refl
place_or_none (x ∷ xs) zero = inl (omega arith)
place_or_none (x ∷ xs) (suc n) = ⊎_elim (λ below. inl (omega (arith, below))) (λ e. inr e) (place_or_none xs n)

below_map : {A B : Type 0} (f : A → B) (xs : List A) (n : ℕ) → n < length xs → n < length (map f xs)
below_map f [] n below = absurd (omega (arith, below))
below_map f (x ∷ xs) zero below = omega arith
below_map f (x ∷ xs) (suc n) below = let b = below_map f xs n (omega (arith, below)) in omega (arith, b)

none_beyond : {A B : Type 0} (f : A → List B) (xs : List A) (n : ℕ) → slice_get xs n ≡ None → get_or (map f xs) n [] ≡ []
none_beyond f [] zero e = refl
none_beyond f [] (suc n) e = refl
none_beyond f (x ∷ xs) zero e = cc e
none_beyond f (x ∷ xs) (suc n) e = none_beyond f xs n e

no_files : (f : Path → List Path) (limit : ℕ) → breadth_first f limit [] [] ≡ []
no_files f zero = refl
no_files f (suc limit) = refl

module _ (rules : List PlainRule) (fit : AreNumbered rules) (limit : ℕ) where
  needs_nothing : (n : ℕ) → needs_in_order (declared_rule (map as_rule rules)) limit (found_by rules) (no_rule n) ≡ []
  needs_nothing n = ap (λ (l : List Path). rules_at (declared_rule (map as_rule rules)) (unseen [] l)) (no_files (found_by rules (no_rule n)) limit)

  -- each number has the needs of its rule, and one without a rule has none
  needs_of : (n : ℕ) → needs_in_order (declared_rule (map as_rule rules)) limit (found_by rules) (numbered rules n)
      ≡ map (numbered rules) (get_or (map (numbers_needed (declared_rule (map as_rule rules)) limit) rules) n [])
  needs_of n = ⊎_elim
      (λ below. (are_named rules fit limit).needed n (below_map (numbers_needed (declared_rule (map as_rule rules)) limit) rules n below))
      (λ none. ap (λ (o : Option PlainRule). needs_in_order (declared_rule (map as_rule rules)) limit (found_by rules) (rule_or n o)) none
      ∙ (needs_nothing n ∙ ap (map (numbered rules)) (sym (none_beyond (numbers_needed (declared_rule (map as_rule rules)) limit) rules n none))))
      (place_or_none rules n)

  -- what numbers lead to, and what their rules do
  led_below : {roots : List ℕ} {m : ℕ} → IsLed (map (numbers_needed (declared_rule (map as_rule rules)) limit) rules) roots m →
      IsBelow (needs_in_order (declared_rule (map as_rule rules)) limit (found_by rules)) (map (numbered rules) roots) (numbered rules m)
  led_below (is_root at) = begins (among_map (numbered rules) at)
  led_below {roots} {m} (follows k led at) = goes_on (numbered rules k) (led_below led)
      (subst (λ (l : List Rule). Among (numbered rules m) l) (sym (needs_of k)) (among_map (numbered rules) at))

  -- a rule that is led to, by its number
  record HasLed (roots : List ℕ) (q : Rule) : Type 0 where
    at : ℕ
    led : IsLed (map (numbers_needed (declared_rule (map as_rule rules)) limit) rules) roots at
    is : q ≡ numbered rules at

  below_led : (roots : List ℕ) {q : Rule} →
      IsBelow (needs_in_order (declared_rule (map as_rule rules)) limit (found_by rules)) (map (numbered rules) roots) q → HasLed roots q
  below_led roots (begins m) = let h = image_of (numbered rules) roots m in record { at = h.thing; led = is_root h.stands_there; is = h.is }
  below_led roots {q} (goes_on r below m) =
      let h = below_led roots below in
      let there_too : Among q (needs_in_order (declared_rule (map as_rule rules)) limit (found_by rules) (numbered rules h.at)) =
      subst (λ (x : Rule). Among q (needs_in_order (declared_rule (map as_rule rules)) limit (found_by rules) x)) h.is m in
      let s = image_of (numbered rules) (get_or (map (numbers_needed (declared_rule (map as_rule rules)) limit) rules) h.at [])
      (subst (λ (l : List Rule). Among q l) (needs_of h.at) there_too) in
      record { at = s.thing; led = follows h.at h.led s.stands_there; is = s.is }

  roots_back : {roots : List ℕ} (requested : List Path) → roots ≡ map number (rules_at (declared_rule (map as_rule rules)) requested) →
      map (numbered rules) roots ≡ rules_at (declared_rule (map as_rule rules)) requested
  roots_back requested from = ap (map (numbered rules)) from ∙ rules_back rules fit requested

  -- a number that leads to itself is a rule that waits for itself
  pub cyclic : {roots all given : List ℕ} {lists : List (List ℕ)} (requested : List Path) →
      lists ≡ map (numbers_needed (declared_rule (map as_rule rules)) limit) rules →
      roots ≡ map number (rules_at (declared_rule (map as_rule rules)) requested) → AreLed lists roots all → given ≡ all →
      (n : ℕ) × (Among n given × LeadsTo lists n n) → IsCyclic (declared_rule (map as_rule rules)) limit (found_by rules) requested
  cyclic {roots = roots} {all = all} requested lists_are from led_all given_is loop =
      let n = loop.0 in
      let led = led_all.only n (subst (λ (l : List ℕ). Among n l) given_is loop.1.0) in
      record {
        rule = numbered rules n;
        needed = subst (λ (l : List Rule). IsBelow (needs_in_order (declared_rule (map as_rule rules)) limit (found_by rules)) l (numbered rules n))
            (roots_back requested from) (led_below (subst (λ (l : List (List ℕ)). IsLed l roots n) lists_are led));
        waits = subst (λ (l : List Rule). IsBelow (needs_in_order (declared_rule (map as_rule rules)) limit (found_by rules)) l (numbered rules n))
            (sym (needs_of n)) (led_below (subst (λ (l : List (List ℕ)). LeadsTo l n n) lists_are loop.1.1));
      }

  -- where no number does, no rule does
  pub acyclic : {roots all given : List ℕ} {lists : List (List ℕ)} (requested : List Path) →
      lists ≡ map (numbers_needed (declared_rule (map as_rule rules)) limit) rules →
      roots ≡ map number (rules_at (declared_rule (map as_rule rules)) requested) → AreLed lists roots all → given ≡ all →
      ((n : ℕ) → Among n given → LeadsTo lists n n → ⊥) →
      IsCyclic (declared_rule (map as_rule rules)) limit (found_by rules) requested → ⊥
  acyclic {roots = roots} {all = all} {lists = lists} requested lists_are from led_all given_is none cycle =
      let h = below_led roots (subst (λ (l : List Rule). IsBelow (needs_in_order (declared_rule (map as_rule rules)) limit (found_by rules)) l cycle.rule)
      (sym (roots_back requested from)) cycle.needed) in
      let n = h.at in
      let waits : IsBelow (needs_in_order (declared_rule (map as_rule rules)) limit (found_by rules))
      (map (numbered rules) (get_or (map (numbers_needed (declared_rule (map as_rule rules)) limit) rules) n [])) cycle.rule =
      subst (λ (l : List Rule). IsBelow (needs_in_order (declared_rule (map as_rule rules)) limit (found_by rules)) l cycle.rule) (needs_of n)
      (subst (λ (x : Rule). IsBelow (needs_in_order (declared_rule (map as_rule rules)) limit (found_by rules))
      (needs_in_order (declared_rule (map as_rule rules)) limit (found_by rules) x) cycle.rule) h.is cycle.waits) in
      let b = below_led (get_or (map (numbers_needed (declared_rule (map as_rule rules)) limit) rules) n []) waits in
      let same : b.at ≡ n = sym (own_number rules fit b.at) ∙ (ap number (sym b.is ∙ h.is) ∙ own_number rules fit n) in
      let leads : LeadsTo lists n n = subst (λ (l : List (List ℕ)). LeadsTo l n n) (sym lists_are)
      (subst (λ (k : ℕ). LeadsTo (map (numbers_needed (declared_rule (map as_rule rules)) limit) rules) n k) same b.led) in
      none n (subst (λ (l : List ℕ). Among n l) (sym given_is) (led_all.whole n (subst (λ (l : List (List ℕ)). IsLed l roots n) (sym lists_are) h.led))) leads
