-- Rules that are numbered by their places: each number stands for its rule.
use Rattle.std.proofs.Common.{◌≡◌, ◌<◌, ℕ, zero, suc, Bool, true, false, if◌then◌else◌, List, [], ◌∷◌, ◌++◌, Option, Some, None, Result, Ok, Err, Vec, Global, IfOk, IfSome, map, length, get_or, refl, sym, ap, subst, ◌∙◌, arith}
use Rattle.std.specs.List.{slice_get}
use Rattle.build_model.specs.Rules.{Path, Rule}
use Rattle.build_model.specs.Reach.{has, reach}
use Rattle.build_model.specs.Graphs.{declared_rule}
use Rattle.build_model.specs.Needs.{RuleOf, with_rule, rules_at, needs_in_order, Visits, IsBuildOrder}
use Rattle.model_trials.specs.declared.reach.PlainRule.{PlainRule}
use Rattle.model_trials.specs.Plain.{as_rule, number, included}
use Rattle.model_trials.specs.Orders.{AreNumbered, AreNamed, IsWalked, rule_or, scans_or, numbered, numbers_needed, found_by}

none_some : {A : Type 0} {B : Type 0} {x : A} → None ≡ Some x → B
none_some e = cc e

some_or : {A : Type 0} → A → Option A → A
some_or x None = x
some_or x (Some y) = y

some_same : {A : Type 0} {x y : A} → Some x ≡ Some y → x ≡ y
unfolding some_or
some_same {A} {x} e = ap (some_or x) e

-- a rule stands at this place
record IsPlaced (rules : List PlainRule) (q : Rule) : Type 0 where
  place : ℕ
  rule : PlainRule
  there : slice_get rules place ≡ Some rule
  is : q ≡ as_rule rule

placed_later : {rules : List PlainRule} {r : PlainRule} {q : Rule} → IsPlaced rules q → IsPlaced (r ∷ rules) q
placed_later h = record { place = suc h.place; rule = h.rule; there = h.there; is = h.is }

placed_here : {rules : List PlainRule} {r : PlainRule} {q : Rule} (b : Bool) (later : Option Rule) →
    (if b then Some (as_rule r) else later) ≡ Some q → (later ≡ Some q → IsPlaced rules q) → IsPlaced (r ∷ rules) q
placed_here {r = r} true later e f = record { place = 0; rule = r; there = refl; is = sym (some_same e) }
placed_here false later e f = placed_later (f e)

-- a declared rule stands somewhere
placed : (rules : List PlainRule) (p : Path) {q : Rule} → declared_rule (map as_rule rules) p ≡ Some q → IsPlaced rules q
placed [] p e = none_some e
placed (r ∷ rules) p e = placed_here (has p r.targets.items) (declared_rule (map as_rule rules) p) e (λ later. placed rules p later)

own_or : (n : ℕ) (o : Option PlainRule) → ((r : PlainRule) → o ≡ Some r → r.number ≡ n) → number (rule_or n o) ≡ n
own_or n None f = refl
own_or n (Some r) f = f r refl

module _ (rules : List PlainRule) (fit : AreNumbered rules) where
  pub own_number : (n : ℕ) → number (numbered rules n) ≡ n
  own_number n = own_or n (slice_get rules n) (fit n)

  rule_there : (n : ℕ) (r : PlainRule) → slice_get rules n ≡ Some r → numbered rules n ≡ as_rule r
  rule_there n r e = ap (rule_or n) e

  rule_back : (p : Path) {q : Rule} → declared_rule (map as_rule rules) p ≡ Some q → numbered rules (number q) ≡ q
  rule_back p e =
      let h = placed rules p e in
      let at : number (as_rule h.rule) ≡ h.place = fit h.place h.rule h.there in
      ap (λ (x : Rule). numbered rules (number x)) h.is ∙ (ap (numbered rules) at ∙ (rule_there h.place h.rule h.there ∙ sym h.is))

  with_back : (o : Option Rule) (found : List Rule) → ((q : Rule) → o ≡ Some q → numbered rules (number q) ≡ q) →
      map (numbered rules) (map number found) ≡ found →
      map (numbered rules) (map number (with_rule o found)) ≡ with_rule o found
  with_back None found f e = e
  with_back (Some q) found f e = ap (λ (x : Rule). x ∷ map (numbered rules) (map number found)) (f q refl) ∙ ap (λ l. q ∷ l) e

  -- the rules of some paths, by way of their numbers
  pub rules_back : (paths : List Path) →
      map (numbered rules) (map number (rules_at (declared_rule (map as_rule rules)) paths)) ≡ rules_at (declared_rule (map as_rule rules)) paths
  rules_back [] = refl
  rules_back (p ∷ paths) =
      with_back (declared_rule (map as_rule rules) p) (rules_at (declared_rule (map as_rule rules)) paths) (λ q e. rule_back p e) (rules_back paths)

  needs_there : (limit : ℕ) (r : PlainRule) → slice_get rules r.number ≡ Some r →
      needs_in_order (declared_rule (map as_rule rules)) limit (found_by rules) (as_rule r)
      ≡ needs_in_order (declared_rule (map as_rule rules)) limit (λ _. included r.scans.items) (as_rule r)
  needs_there limit r e =
      ap (λ (o : Option PlainRule). rules_at (declared_rule (map as_rule rules)) (r.required.items ++ reach limit (λ p. included (scans_or o) p) (as_rule r))) e

  get_map : {A B : Type 0} (f : A → B) (xs : List A) (n : ℕ) (d : B) → n < length (map f xs) → (x : A) × ((slice_get xs n ≡ Some x) × (get_or (map f xs) n d ≡ f x))
  get_map f [] n d below = absurd (omega arith)
  get_map f (x ∷ xs) zero d below = (x, (refl, refl))
  get_map f (x ∷ xs) (suc n) d below = get_map f xs n d (omega arith)

  needed_there : (limit n : ℕ) → n < length (map (numbers_needed (declared_rule (map as_rule rules)) limit) rules) →
      needs_in_order (declared_rule (map as_rule rules)) limit (found_by rules) (numbered rules n)
      ≡ map (numbered rules) (get_or (map (numbers_needed (declared_rule (map as_rule rules)) limit) rules) n [])
  needed_there limit n below =
      let h = get_map (numbers_needed (declared_rule (map as_rule rules)) limit) rules n [] below in
      let r = h.0 in
      let at : slice_get rules r.number ≡ Some r = subst (λ (k : ℕ). slice_get rules k ≡ Some r) (sym (fit n r h.1.0)) h.1.0 in
      ap (needs_in_order (declared_rule (map as_rule rules)) limit (found_by rules)) (rule_there n r h.1.0)
      ∙ (needs_there limit r at
      ∙ (sym (rules_back (r.required.items ++ reach limit (included r.scans.items) (as_rule r)))
      ∙ ap (map (numbered rules)) (sym h.1.1)))

  pub are_named : (limit : ℕ) → AreNamed (numbered rules) (needs_in_order (declared_rule (map as_rule rules)) limit (found_by rules))
      (map (numbers_needed (declared_rule (map as_rule rules)) limit) rules)
  are_named limit = record { own_number = own_number; needed = needed_there limit }

  -- a walk from the rules of the requested paths is the build order
  pub walk_orders : (limit : ℕ) (requested : List Path) (needs : List (List ℕ)) (roots order : List ℕ) →
      needs ≡ map (numbers_needed (declared_rule (map as_rule rules)) limit) rules →
      roots ≡ map number (rules_at (declared_rule (map as_rule rules)) requested) →
      ((name : ℕ → Rule) (needs_of : Rule → List Rule) → AreNamed name needs_of needs → IsWalked name needs_of roots order) →
      IsBuildOrder (declared_rule (map as_rule rules)) limit (found_by rules) requested (map (numbered rules) order)
  walk_orders limit requested needs roots order same from walked =
      let rule_of : RuleOf = declared_rule (map as_rule rules) in
      let w = walked (numbered rules) (needs_in_order rule_of limit (found_by rules))
      (subst (λ (l : List (List ℕ)). AreNamed (numbered rules) (needs_in_order rule_of limit (found_by rules)) l) (sym same) (are_named limit)) in
      let back : map (numbered rules) roots ≡ rules_at rule_of requested = ap (map (numbered rules)) from ∙ rules_back requested in
      record {
        met = map (numbered rules) w.met;
        visits = subst (λ (l : List Rule). Visits (needs_in_order rule_of limit (found_by rules)) [] l (map (numbered rules) w.met) (map (numbered rules) order)) back w.visits;
      }

  -- what a walk answers is the build order
  pub answers_order : {E : Type 0} (limit : ℕ) (requested : List Path) (needs : List (List ℕ)) (roots : List ℕ) (r : Result (Option (Vec ℕ Global)) E) →
      needs ≡ map (numbers_needed (declared_rule (map as_rule rules)) limit) rules →
      roots ≡ map number (rules_at (declared_rule (map as_rule rules)) requested) →
      IfOk r (λ answer. IfSome answer (λ order. (name : ℕ → Rule) (needs_of : Rule → List Rule) → AreNamed name needs_of needs →
      IsWalked name needs_of roots order.items)) →
      IfOk r (λ answer. IfSome answer (λ order.
      IsBuildOrder (declared_rule (map as_rule rules)) limit (found_by rules) requested (map (numbered rules) order.items)))
  answers_order limit requested needs roots (Ok None) same from h = tt
  answers_order limit requested needs roots (Ok (Some order)) same from h = walk_orders limit requested needs roots order.items same from h
  answers_order limit requested needs roots (Err e) same from h = tt

-- what is put into an empty list
pub put_first : {X : Type 0} {first put given all : List X} → first ≡ [] → put ≡ first ++ all → given ≡ put → given ≡ all
put_first {all = all} none e is = is ∙ (e ∙ ap (λ l. l ++ all) none)
