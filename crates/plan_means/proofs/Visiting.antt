-- There is a build order of each plan: a walk over the rules comes to an end.
use Rattle.std.proofs.Common.{◌≡◌, ◌<◌, ◌≤◌, ℕ, zero, suc, Bool, true, false, List, [], ◌∷◌, ◌++◌, length, refl, sym, ap, ◌∙◌, inl, inr, ◌⊎◌, arith}
use Rattle.std.specs.Prelude.{if◌then◌else◌}
use Rattle.scons_base.specs.declared.ids.RuleId.{RuleId}
use Rattle.task_plan.specs.Settled.{Kept}
use Rattle.task_plan.specs.Orders.{is_among, needed_of, Visits, nothing_left, met_again, not_known, met_first, IsOrder}
use Rattle.task_plan.specs.declared.files.Origin.{Origin}
use Rattle.task_plan.proofs.ReachedLemmas.{first, later, visited}
use Rattle.task_plan.proofs.WalkLemmas.{within_or}
use Rattle.build_model.proofs.Lists.{true_false}

-- how many of the rules below a number weren't met
unmet : ℕ → List RuleId → ℕ
unmet zero met = 0
unmet (suc k) met = if is_among k met then unmet k met else suc (unmet k met)

less_by : (m n : ℕ) (b c : Bool) → (b ≡ true → c ≡ true) → m ≤ n → (if c then m else suc m) ≤ (if b then n else suc n)
less_by m n true true f le = le
less_by m n true false f le = true_false (sym (f refl))
less_by m n false true f le = omega arith
less_by m n false false f le = omega arith

unmet_less : (k : ℕ) (met more : List RuleId) → ((x : ℕ) → is_among x met ≡ true → is_among x more ≡ true) →
    unmet k more ≤ unmet k met
unfolding unmet
unmet_less zero met more f = omega arith
unmet_less (suc k) met more f = less_by (unmet k more) (unmet k met) (is_among k met) (is_among k more) (f k)
    (unmet_less k met more f)

here_less : (m n : ℕ) (b c : Bool) → b ≡ false → c ≡ true → m ≤ n →
    suc (if c then m else suc m) ≤ (if b then n else suc n)
here_less m n true c e f le = true_false e
here_less m n false true e f le = omega arith
here_less m n false false e f le = true_false (sym f)

later_less : (m n : ℕ) (b c : Bool) → (b ≡ true → c ≡ true) → suc m ≤ n →
    suc (if c then m else suc m) ≤ (if b then n else suc n)
later_less m n true true f le = le
later_less m n true false f le = true_false (sym (f refl))
later_less m n false true f le = omega arith
later_less m n false false f le = omega arith

next_by : (k : ℕ) (rule : RuleId) (met : List RuleId) → is_among rule.0 met ≡ false →
    (rule.0 < k → suc (unmet k (rule ∷ met)) ≤ unmet k met) → rule.0 < suc k →
    (rule.0 < k) ⊎ (k ≤ rule.0) →
    suc (if is_among k (rule ∷ met) then unmet k (rule ∷ met) else suc (unmet k (rule ∷ met))) ≤ (if is_among k met
    then unmet k met else suc (unmet k met))
next_by k rule met out next lt (inl less) =
    later_less (unmet k (rule ∷ met)) (unmet k met) (is_among k met) (is_among k (rule ∷ met)) (later k rule met)
    (next less)
next_by k rule met out next lt (inr past) =
    let same : rule.0 ≡ k = omega arith in
    here_less (unmet k (rule ∷ met)) (unmet k met) (is_among k met) (is_among k (rule ∷ met))
    (ap (λ x. is_among x met) (sym same) ∙ out)
    (first k rule met same) (unmet_less k met (rule ∷ met) (λ x h. later x rule met h))

unmet_next : (k : ℕ) (rule : RuleId) (met : List RuleId) → rule.0 < k → is_among rule.0 met ≡ false →
    suc (unmet k (rule ∷ met)) ≤ unmet k met
unfolding unmet
unmet_next zero rule met lt out = absurd (omega arith)
unmet_next (suc k) rule met lt out = next_by k rule met out (λ less. unmet_next k rule met less out) lt
    (within_or rule.0 k)

module _ (count : ℕ) (needed : ℕ → List RuleId) where
  -- a walk over these rules that comes to an end
  record Ends (met rules : List RuleId) : Type 0 where
    after : List RuleId
    order : List RuleId
    visits : Visits count needed met rules after order

  again : (met rules : List RuleId) (rule : RuleId) → is_among rule.0 met ≡ true → Ends met rules →
      Ends met (rule ∷ rules)
  again met rules rule m e = record { after = e.after; order = e.order; visits = met_again m e.visits }

  unknown : (met rules : List RuleId) (rule : RuleId) → count ≤ rule.0 → Ends met rules → Ends met (rule ∷ rules)
  unknown met rules rule le e = record { after = e.after; order = e.order; visits = not_known le e.visits }

  into : (met rules : List RuleId) (rule : RuleId) → rule.0 < count → is_among rule.0 met ≡ false →
      (v : Ends (rule ∷ met) (needed rule.0)) →
      Ends v.after rules → Ends met (rule ∷ rules)
  into met rules rule lt out v w =
      record { after = w.after; order = v.order ++ rule ∷ w.order; visits = met_first lt out v.visits w.visits }

  still_few : (n : ℕ) (met : List RuleId) (rule : RuleId) (v : Ends (rule ∷ met) (needed rule.0)) →
      unmet count met ≤ n → unmet count v.after ≤ n
  still_few n met rule v le =
      let less =
      unmet_less count met v.after (λ x h. (visited count needed v.visits).stays x (later x rule met h)) in omega
      arith

  walk_by : (n : ℕ) (met rules : List RuleId) (rule : RuleId) →
      ((m r : List RuleId) → suc (unmet count m) ≤ n → Ends m r) →
      ((m : List RuleId) → unmet count m ≤ n → Ends m rules) →
      unmet count met ≤ n → (c : Bool) → is_among rule.0 met ≡ c → (rule.0 < count) ⊎ (count ≤ rule.0) →
      Ends met (rule ∷ rules)
  walk_by n met rules rule deeper rest le true e h = again met rules rule e (rest met le)
  walk_by n met rules rule deeper rest le false e (inr past) = unknown met rules rule past (rest met le)
  walk_by n met rules rule deeper rest le false e (inl lt) =
      let less = unmet_next count rule met lt e in
      let v = deeper (rule ∷ met) (needed rule.0) (omega arith) in
      into met rules rule lt e v (rest v.after (still_few n met rule v le))

  walk : (n : ℕ) → ((met rules : List RuleId) → suc (unmet count met) ≤ n → Ends met rules) →
      (rules met : List RuleId) → unmet count met ≤ n → Ends met rules
  walk n deeper [] met le = record { after = met; order = []; visits = nothing_left }
  walk n deeper (rule ∷ rules) met le = walk_by n met rules rule deeper (λ m few. walk n deeper rules m few) le
      (is_among rule.0 met) refl (within_or rule.0 count)

  ends : (n : ℕ) (met rules : List RuleId) → unmet count met ≤ n → Ends met rules
  ends zero met rules le = walk 0 (λ m r lt. absurd (let no : suc (unmet count m) ≤ 0 = lt in omega arith)) rules met le
  ends (suc n) met rules le =
      walk (suc n) (λ m r lt. ends n m r (let k : suc (unmet count m) ≤ suc n = lt in omega arith)) rules met le

-- the order
pub record HasOrder (rules : List Kept) (origins : List Origin) (roots : List RuleId) : Type 0 where
  pub order : List RuleId
  pub is : IsOrder rules origins roots order

pub has_order : (rules : List Kept) (origins : List Origin) (roots : List RuleId) → HasOrder rules origins roots
has_order rules origins roots =
    let e = ends (length rules) (needed_of rules origins) (unmet (length rules) []) [] roots (omega arith) in
    record { order = e.order; is = record { met = e.after; visits = e.visits } }
