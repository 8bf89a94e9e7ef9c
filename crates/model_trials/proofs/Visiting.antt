-- Steps of a walk depth first over the rules of numbers.
use Rattle.std.proofs.Common.{◌≡◌, ◌<◌, ◌+◌, ℕ, zero, suc, Bool, true, false, List, [], ◌∷◌, ◌++◌, map, length, drop, get_or, refl, sym, ap, subst, ◌∙◌, ◌≤◌, arith, nat_eq, append_assoc, append-nil, add-one, drop-cons, drop_of_length-le, ◌||◌, ◌⊎◌, inl, inr, ⊎_elim}
use Rattle.std.proofs.lemmas.Bool.{eqb-true, eq-eqb}
use Rattle.std.proofs.lemmas.List.{map-append}
use Rattle.std.specs.List.{list_any}
use Rattle.build_model.specs.Rules.{Rule, Among, here, there}
use Rattle.build_model.specs.Needs.{Visits, nothing_left, met_again, met_first}
use Rattle.model_trials.specs.Orders.{IsVisited}

-- A walk that has some numbers before it: what is visited from there on completes it.
pub record IsWithin (name : ℕ → Rule) (needs_of : Rule → List Rule) (begun numbers left met order longer : List ℕ) : Type 0 where
  pub added : List ℕ
  pub longer_is : longer ≡ order ++ added
  pub goes_on : (after behind : List Rule) → Visits needs_of (map name met) (map name left) after behind →
      Visits needs_of (map name begun) (map name numbers) after (map name added ++ behind)

module _ (name : ℕ → Rule) (needs_of : Rule → List Rule) where
  -- before the first number
  pub begins : (numbers met order : List ℕ) → IsWithin name needs_of met numbers numbers met order order
  begins numbers met order = record { added = []; longer_is = sym (append-nil order); goes_on = λ after behind v. v }

  -- behind the last one
  pub ends : {begun numbers met order longer : List ℕ} → IsWithin name needs_of begun numbers [] met order longer →
      IsVisited name needs_of begun numbers met order longer
  ends {begun} {numbers} {met} w = record {
    added = w.added;
    longer_is = w.longer_is;
    visits = subst (λ l. Visits needs_of (map name begun) (map name numbers) (map name met) l) (append-nil (map name w.added))
        (w.goes_on (map name met) [] nothing_left);
  }

  then_visits : {met between after : List Rule} {r : Rule} {rules below behind : List Rule} → Visits needs_of met (r ∷ []) between below →
      Visits needs_of between rules after behind → Visits needs_of met (r ∷ rules) after (below ++ behind)
  then_visits (met_again m nothing_left) v = met_again m v
  then_visits {met} {after} {rules} {behind} (met_first {below = low} {r = r} out inner nothing_left) v =
      subst (λ (l : List Rule). Visits needs_of met (r ∷ rules) after l) (sym (append_assoc low (r ∷ []) behind)) (met_first out inner v)

  -- one number more
  pub passes : {begun numbers left met between order longer later : List ℕ} {n : ℕ} →
      IsVisited name needs_of met (n ∷ []) between longer later →
      IsWithin name needs_of begun numbers (n ∷ left) met order longer → IsWithin name needs_of begun numbers left between order later
  passes {begun} {numbers} {order = order} one w = record {
    added = w.added ++ one.added;
    longer_is = one.longer_is ∙ (ap (λ l. l ++ one.added) w.longer_is ∙ append_assoc order w.added one.added);
    goes_on = λ after behind v.
        subst (λ l. Visits needs_of (map name begun) (map name numbers) after l)
        (sym (append_assoc (map name w.added) (map name one.added) behind) ∙ ap (λ l. l ++ behind) (sym (map-append name w.added one.added)))
        (w.goes_on after (map name one.added ++ behind) (then_visits one.visits v));
  }

  -- the number at a place, where those from it on are left
  pub passes_at : {begun numbers met between order longer later : List ℕ} (rules : List ℕ) (i d : ℕ) → i < length rules →
      IsVisited name needs_of met (get_or rules i d ∷ []) between longer later →
      IsWithin name needs_of begun numbers (drop i rules) met order longer →
      IsWithin name needs_of begun numbers (drop (i + 1) rules) between order later
  passes_at {begun = begun} {numbers = numbers} {met = met} {order = order} {longer = longer} rules i d below one w =
      let first : drop i rules ≡ get_or rules i d ∷ drop (i + 1) rules =
      drop-cons rules i d below ∙ ap (λ (k : ℕ). get_or rules i d ∷ drop k rules) (sym (add-one i)) in
      passes one (subst (λ (l : List ℕ). IsWithin name needs_of begun numbers l met order longer) first w)

  -- nothing is left behind the last place
  pub ends_at : {begun numbers met order longer : List ℕ} (rules : List ℕ) (i : ℕ) → length rules ≤ i →
      IsWithin name needs_of begun numbers (drop i rules) met order longer → IsVisited name needs_of begun numbers met order longer
  ends_at {begun = begun} {numbers = numbers} {met = met} {order = order} {longer = longer} rules i past w =
      ends (subst (λ (l : List ℕ). IsWithin name needs_of begun numbers l met order longer) (drop_of_length-le rules past) w)

  -- a number whose rule was met
  pub stays : {met : List ℕ} {n : ℕ} (order : List ℕ) → Among (name n) (map name met) → IsVisited name needs_of met (n ∷ []) met order order
  stays order m = record { added = []; longer_is = sym (append-nil order); visits = met_again m nothing_left }

  -- a number whose rule wasn't: all that it needs comes before it
  pub enters : {met between order later : List ℕ} {n : ℕ} (below : List ℕ) → (Among (name n) (map name met) → ⊥) →
      needs_of (name n) ≡ map name below → IsVisited name needs_of (n ∷ met) below between order later →
      IsVisited name needs_of met (n ∷ []) between order (later ++ n ∷ [])
  enters {met} {between} {order} {n = n} below out needed inner = record {
    added = inner.added ++ n ∷ [];
    longer_is = ap (λ l. l ++ n ∷ []) inner.longer_is ∙ append_assoc order inner.added (n ∷ []);
    visits = subst (λ l. Visits needs_of (map name met) (name n ∷ []) (map name between) l) (sym (map-append name inner.added (n ∷ [])))
        (met_first out (subst (λ l. Visits needs_of (name n ∷ map name met) l (map name between) (map name inner.added)) (sym needed) inner.visits) nothing_left);
  }

-- a number that stands in a list, and its rule
here_or_there : (name : ℕ → Rule) {n m : ℕ} (met : List ℕ) (b : Bool) → (b ≡ true → m ≡ n) → (b || list_any (λ y. nat_eq y n) met) ≡ true →
    (list_any (λ y. nat_eq y n) met ≡ true → Among (name n) (map name met)) → Among (name n) (map name (m ∷ met))
here_or_there name {n} {m} met true same e f = subst (λ k. Among (name n) (name k ∷ map name met)) (sym (same refl)) here
here_or_there name met false same e f = there (f e)

pub among_map : (name : ℕ → Rule) (n : ℕ) (met : List ℕ) → list_any (λ y. nat_eq y n) met ≡ true → Among (name n) (map name met)
among_map name n [] e = cc e
among_map name n (m ∷ met) e = here_or_there name met (nat_eq m n) (λ t. eqb-true m n t) e (among_map name n met)

or_false : {a b : Bool} → (a || b) ≡ false → (a ≡ false) × (b ≡ false)
or_false {a = true} e = cc e
or_false {a = false} e = (refl, e)

same_head : {x y : Rule} {xs : List Rule} → Among x (y ∷ xs) → (x ≡ y) ⊎ Among x xs
same_head here = inl refl
same_head (there m) = inr m

pub not_among_map : (name : ℕ → Rule) → ((k : ℕ) → (name k).work ≡ k) → (n : ℕ) (met : List ℕ) → list_any (λ y. nat_eq y n) met ≡ false →
    Among (name n) (map name met) → ⊥
not_among_map name own n [] e m = elim m [ ]
not_among_map name own n (k ∷ met) e m =
    let both = or_false {a = nat_eq k n} {b = list_any (λ y. nat_eq y n) met} e in
    ⊎_elim
    (λ s. let x : true ≡ false = sym (eq-eqb k n (sym (own k) ∙ (ap (λ (r : Rule). r.work) (sym s) ∙ own n))) ∙ both.0 in cc x)
    (λ t. not_among_map name own n met both.1 t) (same_head m)

-- what stands at a place, whatever would be read behind the last one
pub read_at : (needs : List (List ℕ)) (n : ℕ) (d e : List ℕ) → n < length needs → get_or needs n d ≡ get_or needs n e
read_at [] n d e below = absurd (omega arith)
read_at (x ∷ needs) zero d e below = refl
read_at (x ∷ needs) (suc n) d e below = read_at needs n d e (omega arith)

-- a number that wasn't met, where the lists are named
pub enters_at : (name : ℕ → Rule) (needs_of : Rule → List Rule) {met inserted between order later longer : List ℕ} {n : ℕ} (below : List ℕ) →
    ((k : ℕ) → (name k).work ≡ k) → list_any (λ y. nat_eq y n) met ≡ false → needs_of (name n) ≡ map name below →
    inserted ≡ n ∷ met → longer ≡ later ++ n ∷ [] → IsVisited name needs_of inserted below between order later →
    IsVisited name needs_of met (n ∷ []) between order longer
enters_at name needs_of {met = met} {between = between} {order = order} {later = later} {n = n} below own out needed put pushed inner =
    subst (λ (l : List ℕ). IsVisited name needs_of met (n ∷ []) between order l) (sym pushed)
    (enters name needs_of below (not_among_map name own n met out) needed
    (subst (λ (l : List ℕ). IsVisited name needs_of l below between order later) put inner))
