-- A rule may need more, behind all else: where that stands before it in the order already, the order stays.
use Rattle.std.proofs.Common.{arith, ◌≡◌, ◌≢◌, ◌<◌, ◌∙◌, ◌⊎◌, inl, inr, ⊎_elim, ℕ, zero, suc, Some, List, [], ◌∷◌, ◌++◌, Bool, true, false, ap, sym, refl, subst, append_assoc}
use Rattle.std.specs.Prelude.{nat_eq, cond, slice_get}
use Rattle.std.proofs.lemmas.Bool.Decides.{nat_tests}
use Rattle.scons_base.specs.declared.ids.RuleId.{RuleId}
use Rattle.task_plan.specs.Orders.{is_among, Visits, nothing_left, met_again, not_known, met_first}
use Rattle.std.proofs.lemmas.Option.{same_Some, none-some}
use Rattle.task_plan.proofs.PlanLemmas.{true_false}
use Rattle.task_plan.proofs.ProjectLemmas.{kept_by, among_kept, Distinct}
use Rattle.task_plan.proofs.KeptLemmas.{among_by, once_behind}
use Rattle.task_plan.proofs.ReachedLemmas.{visited, first, later, below_or, same_number}

-- a rule stands before each place of another
pub record StandsBefore (order : List RuleId) (x rule : ℕ) : Type 0 where
  pub each : (before behind : List RuleId) (r : RuleId) → r.0 ≡ rule → order ≡ before ++ r ∷ behind → is_among x before ≡ true

module _ (count : ℕ) (needed : ℕ → List RuleId) where
  all_again : (met rules : List RuleId) → ((x : ℕ) → is_among x rules ≡ true → is_among x met ≡ true) → Visits count needed met rules met []
  all_again met [] f = nothing_left
  all_again met (r ∷ rules) f = met_again (f r.0 (first r.0 r rules refl)) (all_again met rules (λ x h. f x (later x r rules h)))

  -- rules that are met by the end may come behind
  again : {met rules after order : List RuleId} (more : List RuleId) → ((x : ℕ) → is_among x more ≡ true → is_among x after ≡ true) → Visits count needed met rules after order → Visits count needed met (rules ++ more) after order
  again more f (nothing_left {met = met}) = all_again met more f
  again more f (met_again m v) = met_again m (again more f v)
  again more f (not_known le v) = not_known le (again more f v)
  again more f (met_first lt out v w) = met_first lt out v (again more f w)

module _ (count : ℕ) (needed needs : ℕ → List RuleId) (rule : ℕ) (more : List RuleId) (this : (r : ℕ) → r ≡ rule → needs r ≡ needed r ++ more) (others : (r : ℕ) → r ≢ rule → needs r ≡ needed r) where
  -- what comes to the needs was met, or stands before the rule
  Before : List RuleId → List RuleId → Type 0
  Before met order = (x : ℕ) → is_among x more ≡ true → (is_among x met ≡ true) ⊎ StandsBefore order x rule

  module _ (met between below behind : List RuleId) (r : RuleId) (stays : (x : ℕ) → is_among x (r ∷ met) ≡ true → is_among x between ≡ true) (into : (x : ℕ) → is_among x below ≡ true → is_among x between ≡ true)
      (b : (x : ℕ) → is_among x more ≡ true → (is_among x met ≡ true) ⊎ StandsBefore (below ++ r ∷ behind) x rule) where
    before_below : (x : ℕ) → is_among x more ≡ true → (is_among x (r ∷ met) ≡ true) ⊎ StandsBefore below x rule
    before_below x h =
        ⊎_elim (λ m. inl (later x r met m))
        (λ s. inr (record { each = λ front rest q e split. s.each front (rest ++ r ∷ behind) q e (ap (λ l. l ++ r ∷ behind) split ∙ append_assoc front (q ∷ rest) (r ∷ behind)) })) (b x h)

    before_behind : (x : ℕ) → is_among x more ≡ true → (is_among x between ≡ true) ⊎ StandsBefore behind x rule
    before_behind x h = by (is_among x between) refl (b x h)
      where
        by : (d : Bool) → is_among x between ≡ d → (is_among x met ≡ true) ⊎ StandsBefore (below ++ r ∷ behind) x rule → (is_among x between ≡ true) ⊎ StandsBefore behind x rule
        by true e s = inl e
        by false e (inl m) = inl (stays x (later x r met m))
        by false e (inr s) = inr (record {
          each = λ front rest q same split.
              let there = s.each (below ++ r ∷ front) rest q same (ap (λ l. below ++ r ∷ l) split ∙ sym (append_assoc below (r ∷ front) (q ∷ rest))) in
              ⊎_elim (λ k. absurd (true_false (is_among x between) (into x k) e))
              (λ k. ⊎_elim (λ n. absurd (true_false (is_among x between) (stays x (first x r met n)) e)) (λ j. j) k) (below_or x below r front there);
        })

    met_below : r.0 ≡ rule → (x : ℕ) → is_among x more ≡ true → is_among x between ≡ true
    met_below same x h = ⊎_elim (λ m. stays x (later x r met m)) (λ s. into x (s.each below behind r same refl)) (b x h)

  rule_or : (r : ℕ) → (r ≡ rule) ⊎ (r ≢ rule)
  rule_or r = by (nat_eq r rule) refl
    where
      by : (d : Bool) → nat_eq r rule ≡ d → (r ≡ rule) ⊎ (r ≢ rule)
      by true e = inl (same_number r rule e)
      by false e = inr (λ s. true_false (nat_eq r rule) (ap (nat_eq r) (sym s) ∙ this_one r) e)
        where
          this_one : (n : ℕ) → nat_eq n n ≡ true
          this_one n = grind (arith, nat_tests)

  inner_by : (met between below : List RuleId) (r : RuleId) → (r.0 ≡ rule) ⊎ (r.0 ≢ rule) → (r.0 ≡ rule → (x : ℕ) → is_among x more ≡ true → is_among x between ≡ true) → Visits count needs (r ∷ met) (needed r.0) between below
      → Visits count needs (r ∷ met) (needs r.0) between below
  inner_by met between below r (inl e) f v = subst (λ (l : List RuleId). Visits count needs (r ∷ met) l between below) (sym (this r.0 e)) (again count needs more (f e) v)
  inner_by met between below r (inr ne) f v = subst (λ (l : List RuleId). Visits count needs (r ∷ met) l between below) (sym (others r.0 ne)) v

  pub extend : {met rules after order : List RuleId} → Visits count needed met rules after order → ((x : ℕ) → is_among x more ≡ true → (is_among x met ≡ true) ⊎ StandsBefore order x rule) → Visits count needs met rules after order
  extend nothing_left b = nothing_left
  extend (met_again m v) b = met_again m (extend v b)
  extend (not_known le v) b = not_known le (extend v b)
  extend (met_first {met = met} {between = between} {below = below} {behind = behind} {rule = r} lt out v w) b =
      let in' = visited count needed v in
      met_first lt out
      (inner_by met between below r (rule_or r.0) (λ e. met_below met between below behind r in'.stays in'.ordered b e) (extend v (before_below met between below behind r in'.stays in'.ordered b)))
      (extend w (before_behind met between below behind r in'.stays in'.ordered b))

abbrev rest_of : List RuleId → List RuleId
rest_of [] = []
rest_of (x ∷ xs) = xs

abbrev head_or : RuleId → List RuleId → RuleId
head_or r [] = r
head_or r (x ∷ xs) = x

before_here : (q : ℕ → Bool) (r s : RuleId) (ys front rest : List RuleId) (z : RuleId) → z.0 ≡ s.0 → is_among s.0 (kept_by q ys) ≡ true → is_among r.0 (kept_by q ys) ≡ false → r.0 ≢ s.0 → r ∷ kept_by q ys ≡ front ++ z ∷ rest → is_among r.0 front ≡ true
before_here q r s ys [] rest z e h n ne split = absurd (ne (ap (λ l. (head_or r l).0) split ∙ e))
before_here q r s ys (f ∷ front) rest z e h n ne split = first r.0 f front (sym (ap (λ l. (head_or r l).0) split))

before_later : (q : ℕ → Bool) (y s : RuleId) (ys front rest : List RuleId) (z : RuleId) (x : ℕ) → z.0 ≡ s.0 → is_among s.0 (kept_by q ys) ≡ true → is_among y.0 (kept_by q ys) ≡ false → StandsBefore (kept_by q ys) x s.0
    → y ∷ kept_by q ys ≡ front ++ z ∷ rest → is_among x front ≡ true
before_later q y s ys [] rest z x e h n b split = absurd (true_false (is_among s.0 (kept_by q ys)) h (ap (λ k. is_among k (kept_by q ys)) (sym (ap (λ l. (head_or y l).0) split ∙ e)) ∙ n))
before_later q y s ys (f ∷ front) rest z x e h n b split = later x f front (b.each front rest z e (ap rest_of split))

before_by : (c : Bool) (q : ℕ → Bool) (y s : RuleId) (ys : List RuleId) (x : ℕ) → is_among s.0 (kept_by q ys) ≡ true → Distinct (cond c (y ∷ kept_by q ys) (kept_by q ys)) → StandsBefore (kept_by q ys) x s.0
    → StandsBefore (cond c (y ∷ kept_by q ys) (kept_by q ys)) x s.0
before_by true q y s ys x h d b = record { each = λ front rest z e split. before_later q y s ys front rest z x e h d.0 b split }
before_by false q y s ys x h d b = b

before_first : (c : Bool) (q : ℕ → Bool) (r s : RuleId) (ys : List RuleId) → c ≡ true → is_among s.0 (kept_by q ys) ≡ true → Distinct (cond c (r ∷ kept_by q ys) (kept_by q ys)) → StandsBefore (cond c (r ∷ kept_by q ys) (kept_by q ys)) r.0 s.0
before_first true q r s ys t h d =
    record { each = λ front rest z e split. before_here q r s ys front rest z e h d.0 (λ same. true_false (is_among s.0 (kept_by q ys)) h (ap (λ k. is_among k (kept_by q ys)) (sym same) ∙ d.0)) split }
before_first false q r s ys t h d = absurd (cc)

-- a rule that stands at an earlier place stands before the other among those that pass a test, where both do and each stands once
pub before_kept : (q : ℕ → Bool) (xs : List RuleId) (k m : ℕ) (r s : RuleId) → k < m → slice_get xs k ≡ Some r → slice_get xs m ≡ Some s → q r.0 ≡ true → q s.0 ≡ true → Distinct (kept_by q xs) → StandsBefore (kept_by q xs) r.0 s.0
before_kept q [] k m r s lt f g h i d = absurd (none-some r f)
before_kept q (y ∷ ys) zero zero r s lt f g h i d = absurd (omega arith)
before_kept q (y ∷ ys) zero (suc m) r s lt f g h i d =
    let same : y ≡ r = same_Some y r f in
    let passes : q y.0 ≡ true = ap (λ (z : RuleId). q z.0) same ∙ h in
    let there : is_among s.0 (kept_by q ys) ≡ true = among_kept q s.0 ys i ∙ among_by ys m s g in
    subst (λ (z : RuleId). StandsBefore (kept_by q (y ∷ ys)) z.0 s.0) same (before_first (q y.0) q y s ys passes there d)
before_kept q (y ∷ ys) (suc k) zero r s lt f g h i d = absurd (omega arith)
before_kept q (y ∷ ys) (suc k) (suc m) r s lt f g h i d =
    let there : is_among s.0 (kept_by q ys) ≡ true = among_kept q s.0 ys i ∙ among_by ys m s g in
    before_by (q y.0) q y s ys r.0 there d (before_kept q ys k m r s (omega arith) f g h i (once_behind (q y.0) q y ys d))
