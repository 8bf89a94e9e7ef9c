-- A walk over all that some numbers lead to.
use Rattle.std.proofs.Common.{◌≡◌, ◌<◌, ◌+◌, ◌≤◌, ℕ, zero, suc, Bool, true, false, List, [], ◌∷◌, ◌++◌, length, drop, get_or, Option, Some, None, Result, Ok, Err, refl, sym, ap, subst, ◌∙◌, arith, nat_eq, ◌||◌, ◌⊎◌, inl, inr, ⊎_elim, add-one, drop-cons, drop_of_length-le}
use Rattle.std.proofs.lemmas.Bool.{eqb-true, eq-eqb}
use Rattle.std.specs.List.{list_any}
use Rattle.build_model.specs.Rules.{Among, here, there}
use Rattle.model_trials.specs.Loops.{IsLed, is_root, follows, LeadsTo, AreLed, IsUnderWay}

none_among : {A : Type 0} {n : ℕ} → Among n [] → A
none_among m = elim m [ ]

head_or_later : {n m : ℕ} {xs : List ℕ} → Among n (m ∷ xs) → (n ≡ m) ⊎ Among n xs
head_or_later here = inl refl
head_or_later (there m) = inr m

in_front : {n : ℕ} {xs : List ℕ} (ys : List ℕ) → Among n xs → Among n (xs ++ ys)
in_front ys here = here
in_front ys (there m) = there (in_front ys m)

behind : {n : ℕ} (xs : List ℕ) {ys : List ℕ} → Among n ys → Among n (xs ++ ys)
behind [] m = m
behind (x ∷ xs) m = there (behind xs m)

either : {n : ℕ} (xs : List ℕ) {ys : List ℕ} → Among n (xs ++ ys) → Among n xs ⊎ Among n ys
either [] m = inr m
either (x ∷ xs) {ys} m = ⊎_elim
    (λ e. inl (subst (λ (k : ℕ). Among k (x ∷ xs)) (sym e) here))
    (λ later. ⊎_elim (λ f. inl (there f)) (λ b. inr b) (either xs {ys = ys} later))
    (head_or_later m)

found_head : {n m : ℕ} (xs : List ℕ) (b : Bool) → (b ≡ true → m ≡ n) → (b || list_any (λ y. nat_eq y n) xs) ≡ true →
    (list_any (λ y. nat_eq y n) xs ≡ true → Among n xs) → Among n (m ∷ xs)
found_head {n} {m} xs true same e f = subst (λ (k : ℕ). Among n (k ∷ xs)) (sym (same refl)) here
found_head xs false same e f = there (f e)

-- what is found in a list stands there
pub found_among : (n : ℕ) (xs : List ℕ) → list_any (λ y. nat_eq y n) xs ≡ true → Among n xs
found_among n [] e = cc e
found_among n (m ∷ xs) e = found_head xs (nat_eq m n) (λ t. eqb-true m n t) e (found_among n xs)

or_false : {a b : Bool} → (a || b) ≡ false → (a ≡ false) × (b ≡ false)
or_false {a = true} e = cc e
or_false {a = false} e = (refl, e)

-- what isn't found doesn't
pub not_found_among : (n : ℕ) (xs : List ℕ) → list_any (λ y. nat_eq y n) xs ≡ false → Among n xs → ⊥
not_found_among n [] e m = none_among m
not_found_among n (k ∷ xs) e m =
    let both = or_false {a = nat_eq k n} {b = list_any (λ y. nat_eq y n) xs} e in
    ⊎_elim (λ s. let x : true ≡ false = sym (eq-eqb k n (sym s)) ∙ both.0 in cc x) (λ t. not_found_among n xs both.1 t) (head_or_later m)

module _ (needs : List (List ℕ)) (roots : List ℕ) where
  -- as a walk begins the roots wait
  pub begins : IsUnderWay needs roots [] roots
  begins = record {
    met_only = λ n m. none_among m;
    waiting_only = λ n w. is_root w;
    roots_in = λ n r. inr r;
    needs_in = λ n m met need. none_among met;
  }

  -- one that waits and was met before is passed over
  pub passes : {met : List ℕ} (rest : List ℕ) (n : ℕ) → Among n met → IsUnderWay needs roots met (rest ++ n ∷ []) → IsUnderWay needs roots met rest
  passes {met} rest n seen w =
      let drops : (k : ℕ) → Among k met ⊎ Among k (rest ++ n ∷ []) → Among k met ⊎ Among k rest =
      λ k at. ⊎_elim (λ m. inl m) (λ later. ⊎_elim (λ r. inr r)
      (λ l. ⊎_elim (λ e. inl (subst (λ (j : ℕ). Among j met) (sym e) seen)) (λ none. none_among none) (head_or_later l)) (either rest later)) at in
      record {
        met_only = w.met_only;
        waiting_only = λ k at. w.waiting_only k (in_front (n ∷ []) at);
        roots_in = λ k r. drops k (w.roots_in k r);
        needs_in = λ k m met_m need. drops k (w.needs_in k m met_m need);
      }

  -- one that wasn't is met, and what it needs waits
  pub meets : {met : List ℕ} (rest : List ℕ) (n : ℕ) → IsUnderWay needs roots met (rest ++ n ∷ []) →
      IsUnderWay needs roots (met ++ n ∷ []) (rest ++ get_or needs n [])
  meets {met} rest n w =
      let list = get_or needs n [] in
      let led : IsLed needs roots n = w.waiting_only n (behind rest here) in
      let moves : (k : ℕ) → Among k met ⊎ Among k (rest ++ n ∷ []) → Among k (met ++ n ∷ []) ⊎ Among k (rest ++ list) =
      λ k at. ⊎_elim (λ m. inl (in_front (n ∷ []) m)) (λ later. ⊎_elim (λ r. inr (in_front list r)) (λ l. inl (behind met l)) (either rest later)) at in
      record {
        met_only = λ k at. ⊎_elim (λ m. w.met_only k m)
            (λ l. ⊎_elim (λ e. subst (λ (j : ℕ). IsLed needs roots j) (sym e) led) (λ none. none_among none) (head_or_later l)) (either met at);
        waiting_only = λ k at. ⊎_elim (λ r. w.waiting_only k (in_front (n ∷ []) r)) (λ l. follows n led l) (either rest at);
        roots_in = λ k r. moves k (w.roots_in k r);
        needs_in = λ k m at need. ⊎_elim (λ before. moves k (w.needs_in k m before need))
            (λ l. ⊎_elim (λ e. inr (behind rest (subst (λ (j : ℕ). Among k (get_or needs j [])) e need))) (λ none. none_among none) (head_or_later l))
            (either met at);
      }

  -- the same, for lists that are known to be these
  pub passes_at : {met before : List ℕ} (rest : List ℕ) (n : ℕ) → list_any (λ y. nat_eq y n) met ≡ true → before ≡ rest ++ n ∷ [] →
      IsUnderWay needs roots met before → IsUnderWay needs roots met rest
  passes_at {met} rest n seen popped w =
      passes rest n (found_among n met seen) (subst (λ (l : List ℕ). IsUnderWay needs roots met l) popped w)

  pub meets_at : {met before met_too longer list : List ℕ} (rest : List ℕ) (n : ℕ) → before ≡ rest ++ n ∷ [] → met_too ≡ met ++ n ∷ [] →
      list ≡ get_or needs n [] → longer ≡ rest ++ list → IsUnderWay needs roots met before → IsUnderWay needs roots met_too longer
  meets_at {met} {before} {met_too} {longer} {list} rest n popped pushed is extended w =
      let at_list : longer ≡ rest ++ get_or needs n [] = extended ∙ ap (λ (l : List ℕ). rest ++ l) is in
      subst (λ (l : List ℕ). IsUnderWay needs roots l longer) (sym pushed)
      (subst (λ (l : List ℕ). IsUnderWay needs roots (met ++ n ∷ []) l) (sym at_list)
      (meets rest n (subst (λ (l : List ℕ). IsUnderWay needs roots met l) popped w)))

  whole_of : {met : List ℕ} → IsUnderWay needs roots met [] → (n : ℕ) → IsLed needs roots n → Among n met
  whole_of w n (is_root r) = ⊎_elim (λ m. m) (λ none. none_among none) (w.roots_in n r)
  whole_of w n (follows m led need) = ⊎_elim (λ at. at) (λ none. none_among none) (w.needs_in n m (whole_of w m led) need)

  pub begins_at : {met waiting : List ℕ} → met ≡ [] → waiting ≡ roots → IsUnderWay needs roots met waiting
  begins_at {met} {waiting} none all =
      subst (λ (l : List ℕ). IsUnderWay needs roots l waiting) (sym none) (subst (λ (l : List ℕ). IsUnderWay needs roots [] l) (sym all) begins)

  nothing : (xs : List ℕ) → length xs ≡ 0 → xs ≡ []
  nothing [] none = refl
  nothing (x ∷ xs) none = absurd (omega arith)

  -- where nothing waits any more all is met
  pub ends : {met waiting : List ℕ} → length waiting ≡ 0 → IsUnderWay needs roots met waiting → AreLed needs roots met
  ends {met} {waiting} none w =
      let v : IsUnderWay needs roots met [] = subst (λ (l : List ℕ). IsUnderWay needs roots met l) (nothing waiting none) w in
      record { only = v.met_only; whole = whole_of v }

-- No number before this place leads to itself.
abbrev pub NoneBefore : List (List ℕ) → List ℕ → List ℕ → Type 0
NoneBefore needs numbers left = (n : ℕ) → Among n numbers → LeadsTo needs n n → Among n left

pub none_first : (needs : List (List ℕ)) (numbers : List ℕ) → NoneBefore needs numbers numbers
none_first needs numbers n at leads = at

-- one number more that doesn't
pub none_more : (needs : List (List ℕ)) (numbers : List ℕ) (i : ℕ) (d : ℕ) → i < length numbers →
    (LeadsTo needs (get_or numbers i d) (get_or numbers i d) → ⊥) →
    NoneBefore needs numbers (drop i numbers) → NoneBefore needs numbers (drop (i + 1) numbers)
none_more needs numbers i d below never before n at leads =
    let first : drop i numbers ≡ get_or numbers i d ∷ drop (i + 1) numbers =
    drop-cons numbers i d below ∙ ap (λ (k : ℕ). get_or numbers i d ∷ drop k numbers) (sym (add-one i)) in
    let here_or : Among n (get_or numbers i d ∷ drop (i + 1) numbers) = subst (λ (l : List ℕ). Among n l) first (before n at leads) in
    ⊎_elim (λ e. absurd (never (subst (λ (k : ℕ). LeadsTo needs k k) e leads))) (λ later. later) (head_or_later here_or)

-- behind the last place there is none
pub none_at_end : (needs : List (List ℕ)) (numbers : List ℕ) (i : ℕ) → length numbers ≤ i →
    NoneBefore needs numbers (drop i numbers) → (n : ℕ) → Among n numbers → LeadsTo needs n n → ⊥
none_at_end needs numbers i past before n at leads =
    none_among (subst (λ (l : List ℕ). Among n l) (drop_of_length-le numbers past) (before n at leads))

pub at_place : (numbers : List ℕ) (i d : ℕ) → i < length numbers → Among (get_or numbers i d) numbers
at_place [] i d below = absurd (omega arith)
at_place (x ∷ xs) zero d below = here
at_place (x ∷ xs) (suc i) d below = there (at_place xs i d (omega arith))

-- what an answer says, if it says anything
abbrev pub said_by : {E : Type 0} → Result (Option Bool) E → Bool
said_by (Err e) = false
said_by (Ok None) = false
said_by (Ok (Some b)) = b

-- a number that was met on the way from what it needs
pub led_back : (needs : List (List ℕ)) {roots all : List ℕ} {n : ℕ} {b : Bool} → roots ≡ get_or needs n [] →
    AreLed needs roots all → b ≡ true → list_any (λ y. nat_eq y n) all ≡ b → LeadsTo needs n n
led_back needs {roots} {all} {n} is led met found =
    subst (λ (l : List ℕ). IsLed needs l n) is (led.only n (found_among n all (found ∙ met)))

-- one that wasn't
pub never_back : (needs : List (List ℕ)) {roots all : List ℕ} {n : ℕ} {b : Bool} → roots ≡ get_or needs n [] →
    AreLed needs roots all → b ≡ false → list_any (λ y. nat_eq y n) all ≡ b → LeadsTo needs n n → ⊥
never_back needs {roots} {all} {n} is led unmet found leads =
    not_found_among n all (found ∙ unmet) (led.whole n (subst (λ (l : List ℕ). IsLed needs l n) (sym is) leads))
