-- In the build order each rule stands once, and behind what it needs; and there is one build order alone.
use Rattle.std.proofs.Common.{arith, ◌≡◌, ◌<◌, ◌∙◌, ◌⊎◌, inl, inr, ⊎_elim, ℕ, List, [], ◌∷◌, ◌++◌, Bool, true, false, ap, sym, refl, subst, length}
use Rattle.scons_base.specs.declared.ids.RuleId.{RuleId}
use Rattle.task_plan.specs.Settled.{Kept}
use Rattle.task_plan.specs.Orders.{is_among, needed_of, Visits, nothing_left, met_again, not_known, met_first, IsOrder, is_root, is_needed, NeedsThrough, AreBehind, HasNeedsFirst}
use Rattle.task_plan.specs.declared.files.Origin.{Origin}
use Rattle.task_plan.proofs.PlanLemmas.{true_false}
use Rattle.task_plan.proofs.ReachedLemmas.{first_or, first, later, below_or, none_among, Visited, visited}

-- these rules, the last of them first, in front of others
abbrev onto : List RuleId → List RuleId → List RuleId
onto [] before = before
onto (rule ∷ rules) before = onto rules (rule ∷ before)

onto_or : (x : ℕ) (rules before : List RuleId) → is_among x (onto rules before) ≡ true → (is_among x rules ≡ true) ⊎ (is_among x before ≡ true)
onto_or x [] before h = inr h
onto_or x (rule ∷ rules) before h =
    ⊎_elim (λ m. inl (later x rule rules m)) (λ m. ⊎_elim (λ e. inl (first x rule rules e)) (λ k. inr k) (first_or x rule before m)) (onto_or x rules (rule ∷ before) h)

onto_before : (x : ℕ) (rules before : List RuleId) → is_among x before ≡ true → is_among x (onto rules before) ≡ true
onto_before x [] before h = h
onto_before x (rule ∷ rules) before h = onto_before x rules (rule ∷ before) (later x rule before h)

onto_these : (x : ℕ) (rules before : List RuleId) → is_among x rules ≡ true → is_among x (onto rules before) ≡ true
onto_these x [] before h = none_among x h
onto_these x (rule ∷ rules) before h =
    ⊎_elim (λ e. onto_before x rules (rule ∷ before) (first x rule before e)) (λ m. onto_these x rules (rule ∷ before) m) (first_or x rule rules h)

false_by : (b : Bool) → (b ≡ true → ⊥) → b ≡ false
false_by true f = absurd (f refl)
false_by false f = refl

module _ (count : ℕ) (needed : ℕ → List RuleId) where
  behind_append : {before xs ys : List RuleId} → AreBehind count needed before xs → AreBehind count needed (onto xs before) ys → AreBehind count needed before (xs ++ ys)
  behind_append AreBehind.nothing b = b
  behind_append (AreBehind.more rule new f a) b = AreBehind.more rule new f (behind_append a b)

  -- what was met doesn't come into the order again
  visits_new : {met rules after order : List RuleId} → Visits count needed met rules after order → (x : ℕ) → is_among x order ≡ true → is_among x met ≡ true → ⊥
  visits_new nothing_left x h m = none_among x h
  visits_new (met_again k v) x h m = visits_new v x h m
  visits_new (not_known le v) x h m = visits_new v x h m
  visits_new (met_first {met = met} {below = below} {behind = behind} {rule = rule} lt out v w) x h m =
      ⊎_elim (λ k. visits_new v x k (later x rule met m))
      (λ k. ⊎_elim (λ e. true_false (is_among x met) m (ap (λ y. is_among y met) (sym e) ∙ out)) (λ n. visits_new w x n ((visited count needed v).stays x (later x rule met m))) k)
      (below_or x below rule behind h)

  -- a rule that was met stands before these, or needs each of them, directly or through others
  abbrev IsOnWay : List RuleId → List RuleId → ℕ → Type 0
  IsOnWay before rules x = (is_among x before ≡ true) ⊎ ((z : ℕ) → is_among z rules ≡ true → NeedsThrough needed x z)

  fewer_left : (before rules : List RuleId) (rule : RuleId) (x : ℕ) → IsOnWay before (rule ∷ rules) x → IsOnWay before rules x
  fewer_left before rules rule x (inl b) = inl b
  fewer_left before rules rule x (inr leads) = inr (λ z n. leads z (later z rule rules n))

  -- a rule is met for the first time, where these stand before it
  module _ (before met between rules below : List RuleId) (rule : RuleId) (out : is_among rule.0 met ≡ false) (t : Visited count needed (rule ∷ met) (needed rule.0) between below)
      (new_below : (x : ℕ) → is_among x below ≡ true → is_among x (rule ∷ met) ≡ true → ⊥) (inside : (x : ℕ) → is_among x before ≡ true → is_among x met ≡ true)
      (way : (x : ℕ) → is_among x met ≡ true → IsOnWay before (rule ∷ rules) x) where
    down : (x : ℕ) → IsOnWay before (rule ∷ rules) x → IsOnWay before (needed rule.0) x
    down x (inl b) = inl b
    down x (inr leads) = inr (λ z n. is_needed rule.0 (leads rule.0 (first rule.0 rule rules refl)) n)

    way_down : (x : ℕ) → is_among x (rule ∷ met) ≡ true → IsOnWay before (needed rule.0) x
    way_down x h = ⊎_elim (λ e. inr (λ z n. is_root (ap (λ y. is_among z (needed y)) (sym e) ∙ n))) (λ m. down x (way x m)) (first_or x rule met h)

    not_before : is_among rule.0 (onto below before) ≡ false
    not_before =
        false_by (is_among rule.0 (onto below before))
        (λ h. ⊎_elim (λ m. new_below rule.0 m (first rule.0 rule met refl)) (λ m. true_false (is_among rule.0 met) (inside rule.0 m) out) (onto_or rule.0 below before h))

    itself : (other : ℕ) → rule.0 ≡ other → is_among other (needed rule.0) ≡ true → NeedsThrough needed other rule.0
    itself other e n = is_root (ap (λ y. is_among rule.0 (needed y)) (sym e) ∙ ap (λ y. is_among y (needed rule.0)) e ∙ n)

    on_way : (other : ℕ) → IsOnWay before (rule ∷ rules) other → (is_among other (onto below before) ≡ true) ⊎ NeedsThrough needed other rule.0
    on_way other (inl b) = inl (onto_before other below before b)
    on_way other (inr leads) = inr (leads rule.0 (first rule.0 rule rules refl))

    need_by : (other : ℕ) → is_among other (needed rule.0) ≡ true → (is_among other (rule ∷ met) ≡ true) ⊎ (is_among other below ≡ true)
        → (is_among other (onto below before) ≡ true) ⊎ NeedsThrough needed other rule.0
    need_by other n (inl h) = ⊎_elim (λ e. inr (itself other e n)) (λ m. on_way other (way other m)) (first_or other rule met h)
    need_by other n (inr h) = inl (onto_these other below before h)

    needs_before : (other : ℕ) → is_among other (needed rule.0) ≡ true → other < count → (is_among other (onto below before) ≡ true) ⊎ NeedsThrough needed other rule.0
    needs_before other n k = need_by other n (t.further other (t.all other n k))

    inside_by : (x : ℕ) → (is_among x below ≡ true) ⊎ (is_among x before ≡ true) → is_among x between ≡ true
    inside_by x (inl m) = t.ordered x m
    inside_by x (inr m) = t.stays x (later x rule met (inside x m))

    inside_behind : (x : ℕ) → is_among x (rule ∷ onto below before) ≡ true → is_among x between ≡ true
    inside_behind x h = ⊎_elim (λ e. t.stays x (first x rule met e)) (λ m. inside_by x (onto_or x below before m)) (first_or x rule (onto below before) h)

    way_on : (x : ℕ) → IsOnWay before (rule ∷ rules) x → IsOnWay (rule ∷ onto below before) rules x
    way_on x (inl b) = inl (later x rule (onto below before) (onto_before x below before b))
    way_on x (inr leads) = inr (λ z n. leads z (later z rule rules n))

    way_by : (x : ℕ) → (is_among x (rule ∷ met) ≡ true) ⊎ (is_among x below ≡ true) → IsOnWay (rule ∷ onto below before) rules x
    way_by x (inl h) = ⊎_elim (λ e. inl (first x rule (onto below before) e)) (λ m. way_on x (way x m)) (first_or x rule met h)
    way_by x (inr h) = inl (later x rule (onto below before) (onto_these x below before h))

    way_behind : (x : ℕ) → is_among x between ≡ true → IsOnWay (rule ∷ onto below before) rules x
    way_behind x h = way_by x (t.further x h)

  behind_visits : {met rules after order : List RuleId} (before : List RuleId) → Visits count needed met rules after order → ((x : ℕ) → is_among x before ≡ true → is_among x met ≡ true)
      → ((x : ℕ) → is_among x met ≡ true → IsOnWay before rules x) → AreBehind count needed before order
  behind_visits before nothing_left inside way = AreBehind.nothing
  behind_visits before (met_again {rules = rules} {rule = rule} m v) inside way = behind_visits before v inside (λ x h. fewer_left before rules rule x (way x h))
  behind_visits before (not_known {rules = rules} {rule = rule} le v) inside way = behind_visits before v inside (λ x h. fewer_left before rules rule x (way x h))
  behind_visits before (met_first {met = met} {between = between} {rules = rules} {below = below} {rule = rule} lt out v w) inside way =
      let t = visited count needed v in
      let new_below = visits_new v in
      let low = behind_visits before v (λ x h. later x rule met (inside x h)) (way_down before met between rules below rule out t new_below inside way) in
      let high =
      behind_visits (rule ∷ onto below before) w (inside_behind before met between rules below rule out t new_below inside way)
      (way_behind before met between rules below rule out t new_below inside way) in
      behind_append low
      (AreBehind.more rule (not_before before met between rules below rule out t new_below inside way) (needs_before before met between rules below rule out t new_below inside way) high)

  -- a visit comes to one end alone
  visits_one : {met rules after order later_on other : List RuleId} → Visits count needed met rules after order → Visits count needed met rules later_on other → (later_on ≡ after) × (other ≡ order)
  visits_one nothing_left nothing_left = (refl, refl)
  visits_one (met_again m v) (met_again n w) = visits_one v w
  visits_one (met_again m v) (not_known le w) = visits_one v w
  visits_one (met_again {met = met} {rule = rule} m v) (met_first lt out a b) = absurd (true_false (is_among rule.0 met) m out)
  visits_one (not_known le v) (met_again m w) = visits_one v w
  visits_one (not_known le v) (not_known lo w) = visits_one v w
  visits_one (not_known le v) (met_first lt out a b) = absurd (omega arith)
  visits_one (met_first {met = met} {rule = rule} lt out a b) (met_again m w) = absurd (true_false (is_among rule.0 met) m out)
  visits_one (met_first lt out a b) (not_known le w) = absurd (omega arith)
  visits_one (met_first {rules = rules} {below = low} {behind = high} {rule = rule} lt out a b) (met_first {after = after} {below = other_low} {behind = other_high} lo new c d) =
      let first_part = visits_one a c in
      let second_part = visits_one b (subst (λ (m : List RuleId). Visits count needed m rules after other_high) first_part.0 d) in
      (second_part.0, ap (λ l. l ++ rule ∷ other_high) first_part.1 ∙ ap (λ l. low ++ rule ∷ l) second_part.1)

-- in the build order each rule stands once, and behind what it needs
pub order_behind : (rules : List Kept) (origins : List Origin) (roots order : List RuleId) → IsOrder rules origins roots order → HasNeedsFirst rules origins order
order_behind rules origins roots order o = behind_visits (length rules) (needed_of rules origins) [] o.visits (λ x h. none_among x h) (λ x h. none_among x h)

-- there is no other build order
pub order_only : (rules : List Kept) (origins : List Origin) (roots order other : List RuleId) → IsOrder rules origins roots order → IsOrder rules origins roots other → other ≡ order
order_only rules origins roots order other o p = (visits_one (length rules) (needed_of rules origins) o.visits p.visits).1
