-- The build order has the rules that are reached from its roots.
use Rattle.std.proofs.Common.{arith, ◌≡◌, ◌<◌, ◌≤◌, ◌∙◌, ◌⊎◌, inl, inr, ⊎_elim, ℕ, List, [], ◌∷◌, ◌++◌, Bool, true, false, ◌||◌, Option, None, ap, sym, refl, subst, length}
use Rattle.std.specs.Prelude.{nat_eq, slice_get}
use Rattle.std.proofs.lemmas.Bool.Decides.{nat_tests}
use Rattle.std.proofs.lemmas.List.Folds.{list_any-append}
use Rattle.std.proofs.lemmas.Option.{slice_get_past}
use Rattle.scons_base.specs.declared.ids.RuleId.{RuleId}
use Rattle.task_plan.specs.Settled.{Kept}
use Rattle.task_plan.specs.Orders.{is_among, needed_in, needed_of, Visits, nothing_left, met_again, not_known, met_first, IsOrder, IsReached, is_root, is_needed, HasReached}
use Rattle.task_plan.specs.declared.files.Origin.{Origin}

either : (a b : Bool) → (a || b) ≡ true → (a ≡ true) ⊎ (b ≡ true)
either true b h = inl refl
either false b h = inr h

or_first : (a b : Bool) → a ≡ true → (a || b) ≡ true
or_first true b h = refl
or_first false b h = absurd (cc)

or_second : (a b : Bool) → b ≡ true → (a || b) ≡ true
or_second true b h = refl
or_second false b h = h

pub same_number : (m n : ℕ) → nat_eq m n ≡ true → m ≡ n
same_number m n h = grind (arith, nat_tests)

this_number : (n : ℕ) → nat_eq n n ≡ true
this_number n = grind (arith, nat_tests)

-- among a rule and others
pub first_or : (x : ℕ) (rule : RuleId) (rules : List RuleId) → is_among x (rule ∷ rules) ≡ true → (rule.0 ≡ x) ⊎ (is_among x rules ≡ true)
first_or x rule rules h = ⊎_elim (λ e. inl (same_number rule.0 x e)) (λ m. inr m) (either (nat_eq rule.0 x) (is_among x rules) h)

pub first : (x : ℕ) (rule : RuleId) (rules : List RuleId) → rule.0 ≡ x → is_among x (rule ∷ rules) ≡ true
first x rule rules e = or_first (nat_eq rule.0 x) (is_among x rules) (ap (nat_eq rule.0) (sym e) ∙ this_number rule.0)

pub later : (x : ℕ) (rule : RuleId) (rules : List RuleId) → is_among x rules ≡ true → is_among x (rule ∷ rules) ≡ true
later x rule rules m = or_second (nat_eq rule.0 x) (is_among x rules) m

-- among those below a rule, the rule and those behind it
pub below_or : (x : ℕ) (below : List RuleId) (rule : RuleId) (behind : List RuleId) → is_among x (below ++ rule ∷ behind) ≡ true
    → (is_among x below ≡ true) ⊎ ((rule.0 ≡ x) ⊎ (is_among x behind ≡ true))
below_or x below rule behind h =
    let parts = sym (list_any-append (λ r. nat_eq r.0 x) below (rule ∷ behind)) ∙ h in
    ⊎_elim (λ m. inl m) (λ m. inr (first_or x rule behind m)) (either (is_among x below) (is_among x (rule ∷ behind)) parts)

below_it : (x : ℕ) (below rest : List RuleId) → is_among x below ≡ true → is_among x (below ++ rest) ≡ true
below_it x below rest m = list_any-append (λ r. nat_eq r.0 x) below rest ∙ or_first (is_among x below) (is_among x rest) m

behind_it : (x : ℕ) (below rest : List RuleId) → is_among x rest ≡ true → is_among x (below ++ rest) ≡ true
behind_it x below rest m = list_any-append (λ r. nat_eq r.0 x) below rest ∙ or_second (is_among x below) (is_among x rest) m

pub none_among : {A : Type 0} (x : ℕ) → is_among x [] ≡ true → A
none_among x h = absurd (let no : false ≡ true = h in cc)

-- What a visit comes to: what was met stays so, and what is met further stands in the order; the rules that it goes over are met, and all that those
-- in the order need, as far as they are known.
pub record Visited (count : ℕ) (needed : ℕ → List RuleId) (met rules after order : List RuleId) : Type 0 where
  pub stays : (x : ℕ) → is_among x met ≡ true → is_among x after ≡ true
  pub further : (x : ℕ) → is_among x after ≡ true → (is_among x met ≡ true) ⊎ (is_among x order ≡ true)
  pub ordered : (x : ℕ) → is_among x order ≡ true → is_among x after ≡ true
  pub known : (x : ℕ) → is_among x order ≡ true → x < count
  pub all : (x : ℕ) → is_among x rules ≡ true → x < count → is_among x after ≡ true
  pub closed : (x y : ℕ) → is_among x order ≡ true → is_among y (needed x) ≡ true → y < count → is_among y after ≡ true

module _ (count : ℕ) (needed : ℕ → List RuleId) where
  visited_again : {met rules after order : List RuleId} (rule : RuleId) → is_among rule.0 met ≡ true → Visited count needed met rules after order → Visited count needed met (rule ∷ rules) after order
  visited_again {met = met} {rules = rules} {after = after} rule m v = record {
    stays = v.stays;
    further = v.further;
    ordered = v.ordered;
    known = v.known;
    all = λ x h lt. ⊎_elim (λ e. ap (λ y. is_among y after) (sym e) ∙ v.stays rule.0 m) (λ k. v.all x k lt) (first_or x rule rules h);
    closed = v.closed;
  }

  visited_not : {met rules after order : List RuleId} (rule : RuleId) → count ≤ rule.0 → Visited count needed met rules after order → Visited count needed met (rule ∷ rules) after order
  visited_not {rules = rules} {after = after} rule le v = record {
    stays = v.stays;
    further = v.further;
    ordered = v.ordered;
    known = v.known;
    all = λ x h lt. ⊎_elim (λ e. absurd (omega (arith, e))) (λ k. v.all x k lt) (first_or x rule rules h);
    closed = v.closed;
  }

  module _ (met between rules after below behind : List RuleId) (rule : RuleId) (lt : rule.0 < count) (v : Visited count needed (rule ∷ met) (needed rule.0) between below)
      (w : Visited count needed between rules after behind) where
    this_met : (x : ℕ) → rule.0 ≡ x → is_among x after ≡ true
    this_met x e = w.stays x (v.stays x (first x rule met e))

    further_below : (x : ℕ) → (is_among x (rule ∷ met) ≡ true) ⊎ (is_among x below ≡ true) → (is_among x met ≡ true) ⊎ (is_among x (below ++ rule ∷ behind) ≡ true)
    further_below x (inl h) = ⊎_elim (λ e. inr (behind_it x below (rule ∷ behind) (first x rule behind e))) (λ m. inl m) (first_or x rule met h)
    further_below x (inr h) = inr (below_it x below (rule ∷ behind) h)

    further_by : (x : ℕ) → (is_among x between ≡ true) ⊎ (is_among x behind ≡ true) → (is_among x met ≡ true) ⊎ (is_among x (below ++ rule ∷ behind) ≡ true)
    further_by x (inl h) = further_below x (v.further x h)
    further_by x (inr h) = inr (behind_it x below (rule ∷ behind) (later x rule behind h))

    ordered_by : (x : ℕ) → (is_among x below ≡ true) ⊎ ((rule.0 ≡ x) ⊎ (is_among x behind ≡ true)) → is_among x after ≡ true
    ordered_by x (inl h) = w.stays x (v.ordered x h)
    ordered_by x (inr (inl e)) = this_met x e
    ordered_by x (inr (inr h)) = w.ordered x h

    known_by : (x : ℕ) → (is_among x below ≡ true) ⊎ ((rule.0 ≡ x) ⊎ (is_among x behind ≡ true)) → x < count
    known_by x (inl h) = v.known x h
    known_by x (inr (inl e)) = omega (arith, e)
    known_by x (inr (inr h)) = w.known x h

    closed_by : (x y : ℕ) → (is_among x below ≡ true) ⊎ ((rule.0 ≡ x) ⊎ (is_among x behind ≡ true)) → is_among y (needed x) ≡ true → y < count → is_among y after ≡ true
    closed_by x y (inl h) n k = w.stays y (v.closed x y h n k)
    closed_by x y (inr (inl e)) n k = w.stays y (v.all y (ap (λ z. is_among y (needed z)) e ∙ n) k)
    closed_by x y (inr (inr h)) n k = w.closed x y h n k

    visited_first : Visited count needed met (rule ∷ rules) after (below ++ rule ∷ behind)
    visited_first = record {
      stays = λ x h. w.stays x (v.stays x (later x rule met h));
      further = λ x h. further_by x (w.further x h);
      ordered = λ x h. ordered_by x (below_or x below rule behind h);
      known = λ x h. known_by x (below_or x below rule behind h);
      all = λ x h k. ⊎_elim (λ e. this_met x e) (λ m. w.all x m k) (first_or x rule rules h);
      closed = λ x y h n k. closed_by x y (below_or x below rule behind h) n k;
    }

  pub visited : {met rules after order : List RuleId} → Visits count needed met rules after order → Visited count needed met rules after order
  visited nothing_left = record {
    stays = λ x h. h;
    further = λ x h. inl h;
    ordered = λ x h. none_among x h;
    known = λ x h. none_among x h;
    all = λ x h lt. none_among x h;
    closed = λ x y h n lt. none_among x h;
  }
  visited (met_again {rule = rule} m v) = visited_again rule m (visited v)
  visited (not_known {rule = rule} le v) = visited_not rule le (visited v)
  visited (met_first {met = met} {between = between} {rules = rules} {after = after} {below = below} {behind = behind} {rule = rule} lt out v w) =
      visited_first met between rules after below behind rule lt (visited v) (visited w)

  -- what is true of the rules that a visit goes over, and with each rule of all that it needs, is true of each rule in the order
  each_visited : {met rules after order : List RuleId} (P : ℕ → Type 0) → ((x y : ℕ) → P x → is_among y (needed x) ≡ true → P y) → ((x : ℕ) → is_among x rules ≡ true → P x)
      → Visits count needed met rules after order → (x : ℕ) → is_among x order ≡ true → P x
  each_visited P step f nothing_left x h = none_among x h
  each_visited P step f (met_again {rules = rules} {rule = rule} m v) x h = each_visited P step (λ y k. f y (later y rule rules k)) v x h
  each_visited P step f (not_known {rules = rules} {rule = rule} le v) x h = each_visited P step (λ y k. f y (later y rule rules k)) v x h
  each_visited P step f (met_first {rules = rules} {below = below} {behind = behind} {rule = rule} lt out v w) x h =
      let this = f rule.0 (first rule.0 rule rules refl) in
      ⊎_elim (λ m. each_visited P step (λ y n. step rule.0 y this n) v x m)
      (λ m. ⊎_elim (λ e. subst P e this) (λ k. each_visited P step (λ y n. f y (later y rule rules n)) w x k) m)
      (below_or x below rule behind h)

  module _ (roots met order : List RuleId) (v : Visits count needed [] roots met order) (unknown : (x y : ℕ) → count ≤ x → is_among y (needed x) ≡ true → ⊥) where
    in_order : (x : ℕ) → is_among x met ≡ true → is_among x order ≡ true
    in_order x h = ⊎_elim (λ m. none_among x m) (λ m. m) ((visited v).further x h)

    reached_by : (x y : ℕ) → (x < count) ⊎ (count ≤ x) → (x < count → is_among x order ≡ true) → is_among y (needed x) ≡ true → y < count → is_among y order ≡ true
    reached_by x y (inl lt) f n k = in_order y ((visited v).closed x y (f lt) n k)
    reached_by x y (inr le) f n k = absurd (unknown x y le n)

    within_or : (n m : ℕ) → (n < m) ⊎ (m ≤ n)
    within_or n m = grind arith

    pub all_reached : {x : ℕ} → IsReached needed roots x → x < count → is_among x order ≡ true
    all_reached {x} (is_root h) lt = in_order x ((visited v).all x h lt)
    all_reached {x} (is_needed other r n) lt = reached_by other x (within_or other count) (λ k. all_reached r k) n lt

    pub only_reached : (x : ℕ) → is_among x order ≡ true → IsReached needed roots x
    only_reached x h = each_visited (IsReached needed roots) (λ y z r n. is_needed y r n) (λ y m. is_root m) v x h

nothing_needed : (origins : List Origin) (kept : Option Kept) (y : ℕ) → kept ≡ None → is_among y (needed_in origins kept) ≡ true → ⊥
nothing_needed origins kept y e h = none_among y (ap (λ k. is_among y (needed_in origins k)) (sym e) ∙ h)

-- the build order has what is reached
pub order_reached : (rules : List Kept) (origins : List Origin) (roots order : List RuleId) → IsOrder rules origins roots order → HasReached rules origins roots order
order_reached rules origins roots order o =
    let count = length rules in
    let needed = needed_of rules origins in
    let unknown = λ (x y : ℕ) (le : count ≤ x) (h : is_among y (needed x) ≡ true). nothing_needed origins (slice_get rules x) y (slice_get_past rules x le) h in
    record {
      all = λ x r lt. all_reached count needed roots o.met order o.visits unknown r lt;
      only = λ x h. only_reached count needed roots o.met order o.visits unknown x h;
      known = λ x h. (visited count needed o.visits).known x h;
    }
