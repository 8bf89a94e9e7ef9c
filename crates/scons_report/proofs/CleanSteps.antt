-- A walk depth first leaves the rules in the order in which cleaning goes over them.
use Rattle.std.proofs.Common.{arith, ◌≡◌, ◌≢◌, ◌<◌, ◌≤◌, ◌∙◌, ◌⊎◌, inl, inr, ℕ, List, [], ◌∷◌, ◌++◌, Bool, true, false, ◌||◌, ap, sym, refl, subst, length, set, replicate, append_assoc, append-nil, length-set, get_or-set_same, get_or-set_other}
use Rattle.std.specs.Prelude.{map, reverse, nat_eq}
use Rattle.std.proofs.lemmas.Bool.Decides.{nat_tests}
use Rattle.std.proofs.lemmas.List.{get_or-replicate, get_or_past, length-replicate, reverse-append, set-get_or}
use Rattle.scons_base.specs.declared.ids.RuleId.{RuleId}
use Rattle.task_plan.specs.Orders.{is_among, Visits, nothing_left, met_again, not_known, met_first}
use Rattle.scons_report.specs.Cleans.{with_entered, is_seen, steps_after}
use Rattle.scons_report.specs.declared.clean.Step.{Step}
use Rattle.scons_report.specs.declared.clean.Step.TheVariants.{Enter, Leave}
use Rattle.task_plan.proofs.MarkLemmas.{apart}
use Rattle.task_plan.proofs.PlanLemmas.{true_false}

reverse_push : {X : Type 0} (xs : List X) (x : X) → reverse (xs ++ x ∷ []) ≡ x ∷ reverse xs
reverse_push xs x = reverse-append xs (x ∷ [])

-- the steps from the top on, where rules are entered before others
reverse_entered : (steps : List Step) (rules : List RuleId) → reverse (with_entered steps rules) ≡ map (λ r. Enter r) rules ++ reverse steps
reverse_entered steps [] = refl
reverse_entered steps (rule ∷ rules) = reverse_push (with_entered steps rules) (Enter rule) ∙ ap (λ s. Enter rule ∷ s) (reverse_entered steps rules)

-- These steps, the first of them first, lead from the rules that were met before to those that were met after, and leave rules in this
-- order: what is visited from a rule that is entered, and then the rest.
pub data Finishes (count : ℕ) (needed : ℕ → List RuleId) : List RuleId → List Step → List RuleId → List RuleId → Type 0 where
  done : {met : List RuleId} → Finishes count needed met [] met []
  enters : {met between after below behind : List RuleId} {steps : List Step} {rule : RuleId} → Visits count needed met (rule ∷ []) between below
      → Finishes count needed between steps after behind → Finishes count needed met (Enter rule ∷ steps) after (below ++ behind)
  leaves : {met after behind : List RuleId} {steps : List Step} {rule : RuleId} → Finishes count needed met steps after behind
      → Finishes count needed met (Leave rule ∷ steps) after (rule ∷ behind)

-- rules are visited, and then the steps go on
record Splits (count : ℕ) (needed : ℕ → List RuleId) (met rules : List RuleId) (steps : List Step) (after order : List RuleId) : Type 0 where
  between : List RuleId
  below : List RuleId
  behind : List RuleId
  visits : Visits count needed met rules between below
  rest : Finishes count needed between steps after behind
  is : order ≡ below ++ behind

-- a rule comes first, and then the steps go on
record GoesFirst (count : ℕ) (needed : ℕ → List RuleId) (met : List RuleId) (rule : RuleId) (steps : List Step) (after order : List RuleId) : Type 0 where
  behind : List RuleId
  rest : Finishes count needed met steps after behind
  is : order ≡ rule ∷ behind

-- the walk stands where this leaves it: the steps that are left finish what is visited from the roots on, and seen are the rules that were met
pub record IsOnWay (count : ℕ) (needed : ℕ → List RuleId) (roots : List RuleId) (seen : List Bool) (steps : List Step) (order : List RuleId) : Type 0 where
  pub met : List RuleId
  pub size : length seen ≡ count
  pub same : (rule : ℕ) → rule < count → is_seen seen rule ≡ is_among rule met
  pub goes_on : (after behind : List RuleId) → Finishes count needed met (reverse steps) after behind → Visits count needed [] roots after (order ++ behind)

within_or : (n m : ℕ) → (n < m) ⊎ (m ≤ n)
within_or n m = grind arith

eq_true : (m n : ℕ) → m ≡ n → nat_eq m n ≡ true
eq_true m n e = grind (arith, nat_tests)

eq_false : (m n : ℕ) → m ≢ n → nat_eq m n ≡ false
eq_false m n e = grind (arith, nat_tests)

or_first : (a b : Bool) → a ≡ true → true ≡ (a || b)
or_first true b e = refl
or_first false b e = absurd (cc)

or_second : (a b : Bool) → a ≡ false → b ≡ (a || b)
or_second true b e = absurd (cc)
or_second false b e = refl

module _ (count : ℕ) (needed : ℕ → List RuleId) where
  visits_then : {met between after below behind rules : List RuleId} {rule : RuleId} → Visits count needed met (rule ∷ []) between below
      → Visits count needed between rules after behind → Visits count needed met (rule ∷ rules) after (below ++ behind)
  visits_then (met_again m nothing_left) v = met_again m v
  visits_then (not_known le nothing_left) v = not_known le v
  visits_then {met = met} {after = after} {behind = behind} {rules = rules} {rule = rule} (met_first {below = low} lt out inner nothing_left) v =
      subst (λ (l : List RuleId). Visits count needed met (rule ∷ rules) after l) (sym (append_assoc low (rule ∷ []) behind)) (met_first lt out inner v)

  entered : {met after order : List RuleId} {steps : List Step} {rule : RuleId} → Finishes count needed met (Enter rule ∷ steps) after order
      → Splits count needed met (rule ∷ []) steps after order
  entered (enters {between = between} {below = low} {behind = high} v f) = record { between = between; below = low; behind = high; visits = v; rest = f; is = refl }

  left : {met after order : List RuleId} {steps : List Step} {rule : RuleId} → Finishes count needed met (Leave rule ∷ steps) after order
      → GoesFirst count needed met rule steps after order
  left (leaves {behind = high} f) = record { behind = high; rest = f; is = refl }

  ended : {met after order : List RuleId} → Finishes count needed met [] after order → (met ≡ after) × (order ≡ [])
  ended done = (refl, refl)

  -- steps that begin with entering some rules
  split : (rules : List RuleId) (steps : List Step) (met after order : List RuleId) → Finishes count needed met (map (λ r. Enter r) rules ++ steps) after order
      → Splits count needed met rules steps after order
  split [] steps met after order f = record { between = met; below = []; behind = order; visits = nothing_left; rest = f; is = refl }
  split (rule ∷ rules) steps met after order f =
      let e = entered f in
      let s = split rules steps e.between after e.behind e.rest in
      record {
        between = s.between;
        below = e.below ++ s.below;
        behind = s.behind;
        visits = visits_then e.visits s.visits;
        rest = s.rest;
        is = e.is ∙ ap (λ l. e.below ++ l) s.is ∙ sym (append_assoc e.below s.below s.behind);
      }

  all_visited : (roots after order : List RuleId) → Finishes count needed [] (map (λ r. Enter r) roots ++ []) after order → Visits count needed [] roots after order
  all_visited roots after order f =
      let s = split roots [] [] after order f in
      let e = ended s.rest in
      let same : s.below ≡ order = sym (s.is ∙ ap (λ l. s.below ++ l) e.1 ∙ append-nil s.below) in
      subst (λ (l : List RuleId). Visits count needed [] roots l order) e.0 (subst (λ (l : List RuleId). Visits count needed [] roots s.between l) same s.visits)

  -- the roots are to be entered, and none was seen
  pub begins : (roots : List RuleId) (seen : List Bool) (steps : List Step) (order : List RuleId) → seen ≡ replicate count false → steps ≡ with_entered [] roots → order ≡ []
      → IsOnWay count needed roots seen steps order
  begins roots seen steps order e s n = record {
    met = [];
    size = ap length e ∙ length-replicate count false;
    same = λ rule lt. ap (λ l. is_seen l rule) e ∙ get_or-replicate count rule false true lt;
    goes_on = λ after behind f.
        let from_top : reverse steps ≡ map (λ r. Enter r) roots ++ [] = ap reverse s ∙ reverse_entered [] roots in
        let all = all_visited roots after behind (subst (λ (l : List Step). Finishes count needed [] l after behind) from_top f) in
        subst (λ (l : List RuleId). Visits count needed [] roots after (l ++ behind)) (sym n) all;
  }

  -- no step is left
  pub ends : (roots : List RuleId) (seen : List Bool) (steps : List Step) (order : List RuleId) (w : IsOnWay count needed roots seen steps order) → steps ≡ []
      → Visits count needed [] roots w.met order
  ends roots seen steps order w e =
      let last = subst (λ (l : List Step). Finishes count needed w.met (reverse l) w.met []) (sym e) done in
      subst (λ (l : List RuleId). Visits count needed [] roots w.met l) (append-nil order) (w.goes_on w.met [] last)

  -- a rule is left
  pub leaves_on : (roots : List RuleId) (seen : List Bool) (old new : List Step) (order longer : List RuleId) (rule : RuleId) → IsOnWay count needed roots seen old order
      → old ≡ new ++ Leave rule ∷ [] → longer ≡ order ++ rule ∷ [] → IsOnWay count needed roots seen new longer
  leaves_on roots seen old new order longer rule w e p = record {
    met = w.met;
    size = w.size;
    same = w.same;
    goes_on = λ after behind f.
        let top : reverse old ≡ Leave rule ∷ reverse new = ap reverse e ∙ reverse_push new (Leave rule) in
        let before = w.goes_on after (rule ∷ behind) (subst (λ (l : List Step). Finishes count needed w.met l after (rule ∷ behind)) (sym top) (leaves f)) in
        subst (λ (l : List RuleId). Visits count needed [] roots after l) (sym (ap (λ l. l ++ behind) p ∙ append_assoc order (rule ∷ []) behind)) before;
  }

  passed_over : (seen : List Bool) (met : List RuleId) (rule : RuleId) → ((r : ℕ) → r < count → is_seen seen r ≡ is_among r met) → is_seen seen rule.0 ≡ true
      → (rule.0 < count) ⊎ (count ≤ rule.0) → Visits count needed met (rule ∷ []) met []
  passed_over seen met rule same e (inl lt) = met_again (sym (same rule.0 lt) ∙ e) nothing_left
  passed_over seen met rule same e (inr le) = not_known le nothing_left

  -- a rule that was seen is passed over
  enters_seen : (roots : List RuleId) (seen : List Bool) (old new : List Step) (order : List RuleId) (rule : RuleId) → IsOnWay count needed roots seen old order
      → old ≡ new ++ Enter rule ∷ [] → is_seen seen rule.0 ≡ true → IsOnWay count needed roots (set seen rule.0 true) new order
  enters_seen roots seen old new order rule w e b =
      let still : set seen rule.0 true ≡ seen = ap (set seen rule.0) (sym b) ∙ set-get_or seen rule.0 true in
      subst (λ (l : List Bool). IsOnWay count needed roots l new order) (sym still) (record {
        met = w.met;
        size = w.size;
        same = w.same;
        goes_on = λ after behind f.
            let top : reverse old ≡ Enter rule ∷ reverse new = ap reverse e ∙ reverse_push new (Enter rule) in
            let over = passed_over seen w.met rule w.same b (within_or rule.0 count) in
            w.goes_on after behind (subst (λ (l : List Step). Finishes count needed w.met l after behind) (sym top) (enters over f));
      })

  known_by : (seen : List Bool) (rule : ℕ) → length seen ≡ count → is_seen seen rule ≡ false → (rule < count) ⊎ (count ≤ rule) → rule < count
  known_by seen rule size b (inl lt) = lt
  known_by seen rule size b (inr le) = absurd (true_false (is_seen seen rule) (get_or_past seen rule true (omega arith)) b)

  seen_by : (seen : List Bool) (met : List RuleId) (rule : RuleId) → ((r : ℕ) → r < count → is_seen seen r ≡ is_among r met) → length seen ≡ count → (r : ℕ) → r < count
      → (r ≡ rule.0) ⊎ (r ≢ rule.0) → is_seen (set seen rule.0 true) r ≡ is_among r (rule ∷ met)
  seen_by seen met rule same size r lt (inl this) =
      let here : is_seen (set seen rule.0 true) rule.0 ≡ true = get_or-set_same seen rule.0 true true (omega arith) in
      ap (is_seen (set seen rule.0 true)) this ∙ here ∙ or_first (nat_eq rule.0 r) (is_among r met) (eq_true rule.0 r (sym this))
  seen_by seen met rule same size r lt (inr ne) =
      get_or-set_other seen rule.0 r true true ne ∙ same r lt ∙ or_second (nat_eq rule.0 r) (is_among r met) (eq_false rule.0 r (λ e. ne (sym e)))

  -- a rule that wasn't seen: all that it needs is entered, and then it is left
  enters_new : (roots : List RuleId) (seen : List Bool) (old new : List Step) (order : List RuleId) (rule : RuleId) → IsOnWay count needed roots seen old order
      → old ≡ new ++ Enter rule ∷ [] → is_seen seen rule.0 ≡ false → IsOnWay count needed roots (set seen rule.0 true) (with_entered (new ++ Leave rule ∷ []) (needed rule.0)) order
  enters_new roots seen old new order rule w e b =
      let known = known_by seen rule.0 w.size b (within_or rule.0 count) in
      record {
        met = rule ∷ w.met;
        size = length-set seen rule.0 true ∙ w.size;
        same = λ r lt. seen_by seen w.met rule w.same w.size r lt (apart r rule.0);
        goes_on = λ after behind f.
            let top : reverse old ≡ Enter rule ∷ reverse new = ap reverse e ∙ reverse_push new (Enter rule) in
            let from_top : reverse (with_entered (new ++ Leave rule ∷ []) (needed rule.0)) ≡ map (λ r. Enter r) (needed rule.0) ++ (Leave rule ∷ reverse new) =
            reverse_entered (new ++ Leave rule ∷ []) (needed rule.0) ∙ ap (λ l. map (λ r. Enter r) (needed rule.0) ++ l) (reverse_push new (Leave rule)) in
            let s =
            split (needed rule.0) (Leave rule ∷ reverse new) (rule ∷ w.met) after behind
            (subst (λ (l : List Step). Finishes count needed (rule ∷ w.met) l after behind) from_top f) in
            let last = left s.rest in
            let new_one : is_among rule.0 w.met ≡ false = sym (w.same rule.0 known) ∙ b in
            let this = met_first known new_one s.visits nothing_left in
            let same : (s.below ++ rule ∷ []) ++ last.behind ≡ behind = append_assoc s.below (rule ∷ []) last.behind ∙ sym (s.is ∙ ap (λ l. s.below ++ l) last.is) in
            let all = subst (λ (l : List RuleId). Finishes count needed w.met (Enter rule ∷ reverse new) after l) same (enters this last.rest) in
            w.goes_on after behind (subst (λ (l : List Step). Finishes count needed w.met l after behind) (sym top) all);
      }

  enters_by : (b : Bool) (roots : List RuleId) (seen : List Bool) (old new : List Step) (order : List RuleId) (rule : RuleId) → IsOnWay count needed roots seen old order
      → old ≡ new ++ Enter rule ∷ [] → is_seen seen rule.0 ≡ b → IsOnWay count needed roots (set seen rule.0 true) (steps_after b rule (needed rule.0) new) order
  enters_by true roots seen old new order rule w e b = enters_seen roots seen old new order rule w e b
  enters_by false roots seen old new order rule w e b = enters_new roots seen old new order rule w e b

  -- a rule is entered
  pub enters_on : (roots : List RuleId) (seen later : List Bool) (old new further : List Step) (order : List RuleId) (rule : RuleId) → IsOnWay count needed roots seen old order
      → old ≡ new ++ Enter rule ∷ [] → later ≡ set seen rule.0 true → further ≡ steps_after (is_seen seen rule.0) rule (needed rule.0) new
      → IsOnWay count needed roots later further order
  enters_on roots seen later old new further order rule w e l f = rw (l, f) (enters_by (is_seen seen rule.0) roots seen old new order rule w e refl)
