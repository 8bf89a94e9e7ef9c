-- What is left of a visit where some rules are passed over; that rules are visited in one way alone, and each once.
use Rattle.std.proofs.Common.{arith, ◌≡◌, ◌<◌, ◌≤◌, ◌∙◌, ◌⊎◌, inl, inr, ⊎_elim, ℕ, List, [], ◌∷◌, ◌++◌, Bool, true, false, ◌||◌, ap, sym, refl, subst}
use Rattle.std.specs.Prelude.{nat_eq, cond}
use Rattle.std.specs.List.{filter}
use Rattle.std.proofs.lemmas.List.Elements.{filter-append}
use Rattle.std.proofs.lemmas.List.Folds.{list_any-append}
use Rattle.scons_base.specs.declared.ids.RuleId.{RuleId}
use Rattle.task_plan.specs.Orders.{is_among, Visits, nothing_left, met_again, not_known, met_first}
use Rattle.task_plan.proofs.PlanLemmas.{true_false}
use Rattle.task_plan.proofs.ReachedLemmas.{visited, none_among, first, later, first_or, below_or, same_number}

-- the rules that pass a test
abbrev pub kept_by : (ℕ → Bool) → List RuleId → List RuleId
kept_by p rules = filter (λ r. p r.0) rules

or_none : (a b : Bool) → a ≡ false → b ≡ (a || b)
or_none true b e = absurd (cc)
or_none false b e = refl

neither : (a b : Bool) → a ≡ false → b ≡ false → (a || b) ≡ false
neither true b e f = absurd (cc)
neither false b e f = f

pub not_true : (b : Bool) → (b ≡ true → ⊥) → b ≡ false
not_true true f = absurd (f refl)
not_true false f = refl

other_number : (p : ℕ → Bool) (m n : ℕ) (b : Bool) → nat_eq m n ≡ b → p m ≡ false → p n ≡ true → nat_eq m n ≡ false
other_number p m n true e f g = absurd (true_false (p n) g (ap p (sym (same_number m n e)) ∙ f))
other_number p m n false e f g = e

among_at : (b : Bool) (p : ℕ → Bool) (x : ℕ) (r : RuleId) (rs : List RuleId) → p x ≡ true → p r.0 ≡ b → is_among x (kept_by p rs) ≡ is_among x rs
    → is_among x (cond b (r ∷ kept_by p rs) (kept_by p rs)) ≡ (nat_eq r.0 x || is_among x rs)
among_at true p x r rs e h i = ap (λ b. nat_eq r.0 x || b) i
among_at false p x r rs e h i = i ∙ or_none (nat_eq r.0 x) (is_among x rs) (other_number p r.0 x (nat_eq r.0 x) refl h e)

-- a rule that passes the test stands among those that do where it stands at all
pub among_kept : (p : ℕ → Bool) (x : ℕ) (xs : List RuleId) → p x ≡ true → is_among x (kept_by p xs) ≡ is_among x xs
among_kept p x [] e = refl
among_kept p x (r ∷ rs) e = among_at (p r.0) p x r rs e refl (among_kept p x rs e)

passes_at : (b : Bool) (p : ℕ → Bool) (x : ℕ) (r : RuleId) (rs : List RuleId) → p r.0 ≡ b → (is_among x (kept_by p rs) ≡ true → p x ≡ true)
    → is_among x (cond b (r ∷ kept_by p rs) (kept_by p rs)) ≡ true → p x ≡ true
passes_at true p x r rs e i h = ⊎_elim (λ s. ap p (sym s) ∙ e) i (first_or x r (kept_by p rs) h)
passes_at false p x r rs e i h = i h

-- what is kept passes the test
pub kept_passes : (p : ℕ → Bool) (x : ℕ) (xs : List RuleId) → is_among x (kept_by p xs) ≡ true → p x ≡ true
kept_passes p x [] h = none_among x h
kept_passes p x (r ∷ rs) h = passes_at (p r.0) p x r rs refl (kept_passes p x rs) h

pub kept_append : (p : ℕ → Bool) (xs ys : List RuleId) → kept_by p (xs ++ ys) ≡ kept_by p xs ++ kept_by p ys
kept_append p xs ys = filter-append (λ (r : RuleId). p r.0) xs ys

-- a rule comes for the first time: what it needs is visited, and then the others
pub record GoesInto (count : ℕ) (needed : ℕ → List RuleId) (met : List RuleId) (rule : RuleId) (rules after order : List RuleId) : Type 0 where
  pub between : List RuleId
  pub below : List RuleId
  pub behind : List RuleId
  pub inner : Visits count needed (rule ∷ met) (needed rule.0) between below
  pub outer : Visits count needed between rules after behind
  pub is : order ≡ below ++ rule ∷ behind

module _ (count : ℕ) (needed : ℕ → List RuleId) where
  -- of no rules nothing comes
  pub stops : {met after order : List RuleId} → Visits count needed met [] after order → (met ≡ after) × (order ≡ [])
  stops nothing_left = (refl, refl)

  -- a rule that was met, or isn't known, is passed over
  pub passes_over : {met rules after order : List RuleId} {rule : RuleId} → (is_among rule.0 met ≡ true) ⊎ (count ≤ rule.0) → Visits count needed met (rule ∷ rules) after order
      → Visits count needed met rules after order
  passes_over o (met_again m v) = v
  passes_over o (not_known le v) = v
  passes_over {met = met} (inl m) (met_first {rule = rule} lt out v w) = absurd (true_false (is_among rule.0 met) m out)
  passes_over (inr le) (met_first lt out v w) = absurd (omega arith)

  pub goes_into : {met rules after order : List RuleId} {rule : RuleId} → rule.0 < count → is_among rule.0 met ≡ false → Visits count needed met (rule ∷ rules) after order
      → GoesInto count needed met rule rules after order
  goes_into {met = met} {rule = rule} lt out (met_again m v) = absurd (true_false (is_among rule.0 met) m out)
  goes_into lt out (not_known le v) = absurd (omega arith)
  goes_into lt out (met_first {between = between} {below = below} {behind = behind} l o v w) = record { between = between; below = below; behind = behind; inner = v; outer = w; is = refl }

  -- a visit comes to one end alone, in one order
  pub one_way : {met rules after order later behind : List RuleId} → Visits count needed met rules after order → Visits count needed met rules later behind → (after ≡ later) × (order ≡ behind)
  one_way nothing_left w = let s = stops w in (s.0, sym s.1)
  one_way (met_again m v) w = one_way v (passes_over (inl m) w)
  one_way (not_known le v) w = one_way v (passes_over (inr le) w)
  one_way {later = end} (met_first {rules = rules} {after = after} {below = below} {behind = behind} {rule = rule} lt out v w) u =
      let g = goes_into lt out u in
      let i = one_way v g.inner in
      let o = one_way w (subst (λ (l : List RuleId). Visits count needed l rules end g.behind) (sym i.0) g.outer) in
      (o.0, ap (λ l. l ++ rule ∷ behind) i.1 ∙ ap (λ l. g.below ++ rule ∷ l) o.1 ∙ sym g.is)

  -- what comes wasn't met before
  pub comes_new : {met rules after order : List RuleId} → Visits count needed met rules after order → (x : ℕ) → is_among x order ≡ true → is_among x met ≡ true → ⊥
  comes_new nothing_left x h m = none_among x h
  comes_new (met_again n v) x h m = comes_new v x h m
  comes_new (not_known le v) x h m = comes_new v x h m
  comes_new (met_first {met = met} {below = below} {behind = behind} {rule = rule} lt out v w) x h m =
      ⊎_elim (λ k. comes_new v x k (later x rule met m))
      (λ k. ⊎_elim (λ e. true_false (is_among rule.0 met) (ap (λ y. is_among y met) e ∙ m) out) (λ j. comes_new w x j ((visited count needed v).stays x (later x rule met m))) k)
      (below_or x below rule behind h)

-- each rule stands once
abbrev pub Distinct : List RuleId → Type 0
Distinct [] = Unit {0}
Distinct (rule ∷ rules) = (is_among rule.0 rules ≡ false) × Distinct rules

among_neither : (x : ℕ) (xs ys : List RuleId) → is_among x xs ≡ false → is_among x ys ≡ false → is_among x (xs ++ ys) ≡ false
among_neither x xs ys e f = list_any-append (λ r. nat_eq r.0 x) xs ys ∙ neither (is_among x xs) (is_among x ys) e f

distinct_append : (xs ys : List RuleId) → Distinct xs → Distinct ys → ((x : ℕ) → is_among x xs ≡ true → is_among x ys ≡ false) → Distinct (xs ++ ys)
distinct_append [] ys d e f = e
distinct_append (x ∷ xs) ys d e f = (among_neither x.0 xs ys d.0 (f x.0 (first x.0 x xs refl)), distinct_append xs ys d.1 e (λ y h. f y (later y x xs h)))

module _ (count : ℕ) (needed : ℕ → List RuleId) where
  -- each rule comes once
  pub comes_once : {met rules after order : List RuleId} → Visits count needed met rules after order → Distinct order
  comes_once nothing_left = tt
  comes_once (met_again m v) = comes_once v
  comes_once (not_known le v) = comes_once v
  comes_once (met_first {met = met} {below = below} {behind = behind} {rule = rule} lt out v w) =
      let in' = visited count needed v in
      let not_behind = not_true (is_among rule.0 behind) (λ k. comes_new count needed w rule.0 k (in'.stays rule.0 (first rule.0 rule met refl))) in
      distinct_append below (rule ∷ behind) (comes_once v) (not_behind, comes_once w)
      (λ x h. not_true (is_among x (rule ∷ behind))
      (λ k. ⊎_elim (λ e. comes_new count needed v x h (first x rule met e)) (λ j. comes_new count needed w x j (in'.ordered x h)) (first_or x rule behind k)))

-- Where a rule that fails the test needs only rules that do, what passes is visited in the same way without the others.
module _ (count : ℕ) (needed : ℕ → List RuleId) (p : ℕ → Bool) (closed : (r : ℕ) → p r ≡ false → kept_by p (needed r) ≡ []) where
  kept_again : (b : Bool) (met rules after order : List RuleId) (rule : RuleId) → p rule.0 ≡ b → is_among rule.0 met ≡ true
      → Visits count (λ r. kept_by p (needed r)) (kept_by p met) (kept_by p rules) (kept_by p after) (kept_by p order)
      → Visits count (λ r. kept_by p (needed r)) (kept_by p met) (cond b (rule ∷ kept_by p rules) (kept_by p rules)) (kept_by p after) (kept_by p order)
  kept_again true met rules after order rule e m v = met_again (among_kept p rule.0 met e ∙ m) v
  kept_again false met rules after order rule e m v = v

  kept_not : (b : Bool) (met rules after order : List RuleId) (rule : RuleId) → count ≤ rule.0
      → Visits count (λ r. kept_by p (needed r)) (kept_by p met) (kept_by p rules) (kept_by p after) (kept_by p order)
      → Visits count (λ r. kept_by p (needed r)) (kept_by p met) (cond b (rule ∷ kept_by p rules) (kept_by p rules)) (kept_by p after) (kept_by p order)
  kept_not true met rules after order rule le v = not_known le v
  kept_not false met rules after order rule le v = v

  kept_first : (b : Bool) (met between rules after below behind : List RuleId) (rule : RuleId) → p rule.0 ≡ b → rule.0 < count → is_among rule.0 met ≡ false
      → Visits count (λ r. kept_by p (needed r)) (cond b (rule ∷ kept_by p met) (kept_by p met)) (kept_by p (needed rule.0)) (kept_by p between) (kept_by p below)
      → Visits count (λ r. kept_by p (needed r)) (kept_by p between) (kept_by p rules) (kept_by p after) (kept_by p behind)
      → Visits count (λ r. kept_by p (needed r)) (kept_by p met) (cond b (rule ∷ kept_by p rules) (kept_by p rules)) (kept_by p after)
      (kept_by p below ++ cond b (rule ∷ kept_by p behind) (kept_by p behind))
  kept_first true met between rules after below behind rule e lt out v w = met_first lt (among_kept p rule.0 met e ∙ out) v w
  kept_first false met between rules after below behind rule e lt out v w =
      let none = subst (λ (l : List RuleId). Visits count (λ r. kept_by p (needed r)) (kept_by p met) l (kept_by p between) (kept_by p below)) (closed rule.0 e) v in
      let s = stops count (λ r. kept_by p (needed r)) none in
      subst (λ (l : List RuleId). Visits count (λ r. kept_by p (needed r)) (kept_by p met) (kept_by p rules) (kept_by p after) (l ++ kept_by p behind)) (sym s.1)
      (subst (λ (l : List RuleId). Visits count (λ r. kept_by p (needed r)) l (kept_by p rules) (kept_by p after) (kept_by p behind)) (sym s.0) w)

  pub project : {met rules after order : List RuleId} → Visits count needed met rules after order
      → Visits count (λ r. kept_by p (needed r)) (kept_by p met) (kept_by p rules) (kept_by p after) (kept_by p order)
  project nothing_left = nothing_left
  project (met_again {met = met} {rules = rules} {after = after} {order = order} {rule = rule} m v) = kept_again (p rule.0) met rules after order rule refl m (project v)
  project (not_known {met = met} {rules = rules} {after = after} {order = order} {rule = rule} le v) = kept_not (p rule.0) met rules after order rule le (project v)
  project (met_first {met = met} {between = between} {rules = rules} {after = after} {below = below} {behind = behind} {rule = rule} lt out v w) =
      subst (λ (l : List RuleId). Visits count (λ r. kept_by p (needed r)) (kept_by p met) (kept_by p (rule ∷ rules)) (kept_by p after) l) (sym (kept_append p below (rule ∷ behind)))
      (kept_first (p rule.0) met between rules after below behind rule refl lt out (project v) (project w))

-- Where the rules that are visited, and with each all that it needs, are such that both say the same of what they need, they are visited alike.
module _ (count more : ℕ) (needed needs : ℕ → List RuleId) (P : ℕ → Type 0) (same : (r : ℕ) → P r → needed r ≡ needs r) (next : (r s : ℕ) → P r → is_among s (needed r) ≡ true → P s)
    (known : (r : ℕ) → P r → r < count → r < more) (unknown : (r : ℕ) → P r → count ≤ r → more ≤ r) where
  pub alike : {met rules after order : List RuleId} → ((r : ℕ) → is_among r rules ≡ true → P r) → Visits count needed met rules after order → Visits more needs met rules after order
  alike f nothing_left = nothing_left
  alike f (met_again {rules = rules} {rule = rule} m v) = met_again m (alike (λ r h. f r (later r rule rules h)) v)
  alike f (not_known {rules = rules} {rule = rule} le v) = not_known (unknown rule.0 (f rule.0 (first rule.0 rule rules refl)) le) (alike (λ r h. f r (later r rule rules h)) v)
  alike f (met_first {met = met} {between = between} {rules = rules} {below = below} {rule = rule} lt out v w) =
      let this = f rule.0 (first rule.0 rule rules refl) in
      met_first (known rule.0 this lt) out
      (subst (λ (l : List RuleId). Visits more needs (rule ∷ met) l between below) (same rule.0 this) (alike (λ s h. next rule.0 s this h) v))
      (alike (λ r h. f r (later r rule rules h)) w)

kept_twice_at : (b c : Bool) (p q : ℕ → Bool) (r : RuleId) (rs : List RuleId) → p r.0 ≡ b → q r.0 ≡ c → (p r.0 ≡ true → q r.0 ≡ true) → kept_by p (kept_by q rs) ≡ kept_by p rs
    → kept_by p (cond c (r ∷ kept_by q rs) (kept_by q rs)) ≡ cond b (r ∷ kept_by p rs) (kept_by p rs)
kept_twice_at b true p q r rs e h f i = ap (λ x. cond x (r ∷ kept_by p (kept_by q rs)) (kept_by p (kept_by q rs))) e ∙ ap (λ l. cond b (r ∷ l) l) i
kept_twice_at true false p q r rs e h f i = absurd (true_false (q r.0) (f e) h)
kept_twice_at false false p q r rs e h f i = i

-- of those that pass a wider test, those that pass the narrower one
pub kept_twice : (p q : ℕ → Bool) → ((x : ℕ) → p x ≡ true → q x ≡ true) → (xs : List RuleId) → kept_by p (kept_by q xs) ≡ kept_by p xs
kept_twice p q f [] = refl
kept_twice p q f (r ∷ rs) = kept_twice_at (p r.0) (q r.0) p q r rs refl refl (f r.0) (kept_twice p q f rs)

-- tests that agree keep the same
pub kept_alike : (p q : ℕ → Bool) → ((x : ℕ) → p x ≡ q x) → (xs : List RuleId) → kept_by p xs ≡ kept_by q xs
kept_alike p q f [] = refl
kept_alike p q f (r ∷ rs) = ap (λ b. cond b (r ∷ kept_by p rs) (kept_by p rs)) (f r.0) ∙ ap (λ l. cond (q r.0) (r ∷ l) l) (kept_alike p q f rs)
