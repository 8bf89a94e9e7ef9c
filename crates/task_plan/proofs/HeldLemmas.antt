-- What walks from the rules at fault find, and that it is what those hold.
use Rattle.std.proofs.Common.{arith, ◌≡◌, ◌≢◌, ◌<◌, ◌≤◌, ◌∙◌, ◌⊎◌, inl, inr, ℕ, zero, suc, ◌+◌, List, [], ◌∷◌, ◌++◌, Bool, true, false, ◌||◌, not, Option, Some, None, ap, sym, refl, subst, length, set, get_or, take, get_or-set_other, length-set, length-append, replicate}
use Rattle.std.specs.Prelude.{slice_get, map, nat_eq}
use Rattle.std.specs.List.{list_any, IsDistinct}
use Rattle.std.specs.Option.{option_map}
use Rattle.std.specs.Cmp.{nat_eq_equiv}
use Rattle.std.proofs.lemmas.Bool.Decides.{nat_tests}
use Rattle.std.proofs.lemmas.List.{get_or_past, get_or-replicate, length-replicate, map-append, set-get_or, take_all, take_more}
use Rattle.std.proofs.lemmas.List.Folds.{list_any-append}
use Rattle.std.proofs.lemmas.Map.Keys.{IsDistinct-push}
use Rattle.std.proofs.lemmas.Option.{same_Some, none-some, slice_get_within, slice_get-get_or, get_or_from_slice_get}
use Rattle.scons_base.specs.declared.ids.NodeId.{NodeId}
use Rattle.scons_base.specs.declared.ids.RuleId.{RuleId}
use Rattle.task_plan.specs.Named.{stands}
use Rattle.task_plan.specs.Noted.{waiters_of}
use Rattle.task_plan.specs.Settled.{Kept}
use Rattle.task_plan.specs.Admits.{queues}
use Rattle.task_plan.specs.Orders.{is_among}
use Rattle.task_plan.specs.Walks.{is_seen}
use Rattle.task_plan.specs.Watched.{targets_at}
use Rattle.task_plan.specs.Held.{waits_for, WaitsOn, IsHeldBy, AreHeld, firsts, HasAllHeld, HasEachOnce, IsFirstFault, HaveFirstFaults}
use Rattle.task_plan.specs.Holding.{IsToldOf, IsWaiter, IsFollowed, Finds, IsBlankHeld, AreAllSeen, WalksTo}
use Rattle.task_plan.specs.declared.held.Held.{Held}
use Rattle.task_plan.specs.declared.states.RuleState.{RuleState}
use Rattle.task_plan.proofs.MarkLemmas.{apart}
use Rattle.task_plan.proofs.PlanLemmas.{true_false}
use Rattle.task_plan.proofs.ListLemmas.{get-front, get-last, none_past}
use Rattle.task_plan.proofs.KeptLemmas.{among_by}
use Rattle.task_plan.proofs.RestLemmas.{place_in}
use Rattle.task_plan.proofs.NextLemmas.{place_of_stands}
use Rattle.task_plan.proofs.WatchLemmas.{stands_there}

or_first : (a b : Bool) → a ≡ true → (a || b) ≡ true
or_first true b h = refl
or_first false b h = absurd (cc)

or_second : (a b : Bool) → b ≡ true → (a || b) ≡ true
or_second true b h = refl
or_second false b h = h

or_only : (a b : Bool) → a ≡ false → (a || b) ≡ true → b ≡ true
or_only true b e h = absurd (cc)
or_only false b e h = h

or_neither : (a b : Bool) → (a || b) ≡ false → b ≡ false
or_neither true b h = absurd (cc)
or_neither false b h = h

or_nothing : (a : Bool) → (a || false) ≡ a
or_nothing true = refl
or_nothing false = refl

false_by : (b : Bool) → (b ≡ true → ⊥) → b ≡ false
false_by true f = absurd (f refl)
false_by false f = refl

within_or : (n m : ℕ) → (n < m) ⊎ (m ≤ n)
within_or n m = grind arith

this_number : (n : ℕ) → nat_eq n n ≡ true
this_number n = grind (arith, nat_tests)

other_number : (m n : ℕ) → m ≢ n → nat_eq n m ≡ false
other_number m n e = grind (arith, nat_tests)

turned : (m n : ℕ) → nat_eq m n ≡ nat_eq n m
turned m n = grind (arith, nat_tests)

-- a rule that was noted is seen, and so is each that was
seen_now : (seen : List Bool) (rule : ℕ) → is_seen (set seen rule true) rule ≡ true
seen_now [] rule = refl
seen_now (b ∷ seen) zero = refl
seen_now (b ∷ seen) (suc rule) = seen_now seen rule

seen_by : (seen : List Bool) (rule x : ℕ) → (x ≡ rule) ⊎ (x ≢ rule) → is_seen seen x ≡ true → is_seen (set seen rule true) x ≡ true
seen_by seen rule x (inl e) h = ap (is_seen (set seen rule true)) e ∙ seen_now seen rule
seen_by seen rule x (inr ne) h = get_or-set_other seen rule x true true ne ∙ h

seen_on : (seen : List Bool) (rule x : ℕ) → is_seen seen x ≡ true → is_seen (set seen rule true) x ≡ true
seen_on seen rule x h = seen_by seen rule x (apart x rule) h

-- a rule that wasn't seen has a place
pub unseen_within : (seen : List Bool) (rule : ℕ) → is_seen seen rule ≡ false → rule < length seen
unseen_within seen rule h = by (within_or rule (length seen))
  where
    by : (rule < length seen) ⊎ (length seen ≤ rule) → rule < length seen
    by (inl lt) = lt
    by (inr le) = absurd (true_false (is_seen seen rule) (get_or_past seen rule true le) h)

-- among the rules that stand first in pairs and one more
firsts_more : (pairs : List (RuleId × RuleId)) (rule fault : RuleId) (x : ℕ) → is_among x (firsts (pairs ++ (rule, fault) ∷ [])) ≡ (is_among x (firsts pairs) || (nat_eq rule.0 x || false))
firsts_more pairs rule fault x = ap (is_among x) (map-append (λ (pair : RuleId × RuleId). pair.0) pairs ((rule, fault) ∷ [])) ∙ list_any-append (λ r. nat_eq r.0 x) (firsts pairs) (rule ∷ [])

firsts_last : (pairs : List (RuleId × RuleId)) (rule fault : RuleId) → is_among rule.0 (firsts (pairs ++ (rule, fault) ∷ [])) ≡ true
firsts_last pairs rule fault = firsts_more pairs rule fault rule.0 ∙ or_second (is_among rule.0 (firsts pairs)) (nat_eq rule.0 rule.0 || false) (or_first (nat_eq rule.0 rule.0) false (this_number rule.0))

firsts_other : (pairs : List (RuleId × RuleId)) (rule fault : RuleId) (x : ℕ) → x ≢ rule.0 → is_among x (firsts (pairs ++ (rule, fault) ∷ [])) ≡ is_among x (firsts pairs)
firsts_other pairs rule fault x ne =
    firsts_more pairs rule fault x ∙ ap (λ b. is_among x (firsts pairs) || (b || false)) (other_number x rule.0 ne) ∙ or_nothing (is_among x (firsts pairs))

-- a pair in which a rule stands first
record StandsFirst (pairs : List (RuleId × RuleId)) (x : ℕ) : Type 0 where
  place : ℕ
  pair : RuleId × RuleId
  at : slice_get pairs place ≡ Some pair
  is : pair.0.0 ≡ x

stands_first : (pairs : List (RuleId × RuleId)) (x : ℕ) → is_among x (firsts pairs) ≡ true → StandsFirst pairs x
stands_first [] x h = absurd (let no : false ≡ true = h in cc)
stands_first (p ∷ pairs) x h = by (nat_eq p.0.0 x) refl h (stands_first pairs x)
  where
    same_number : (m n : ℕ) → nat_eq m n ≡ true → m ≡ n
    same_number m n e = grind (arith, nat_tests)

    by : (b : Bool) → nat_eq p.0.0 x ≡ b → (b || is_among x (firsts pairs)) ≡ true → (is_among x (firsts pairs) ≡ true → StandsFirst pairs x) → StandsFirst (p ∷ pairs) x
    by true e s f = record { place = 0; pair = p; at = refl; is = same_number p.0.0 x e }
    by false e s f = let k = f s in record { place = suc k.place; pair = k.pair; at = k.at; is = k.is }

numbers_among : (pairs : List (RuleId × RuleId)) (x : ℕ) → list_any (nat_eq x) (map (λ pair. pair.0.0) pairs) ≡ is_among x (firsts pairs)
numbers_among [] x = refl
numbers_among (p ∷ pairs) x =
    ap (λ b. b || list_any (nat_eq x) (map (λ (pair : RuleId × RuleId). pair.0.0) pairs)) (turned x p.0.0) ∙ ap (λ b. nat_eq p.0.0 x || b) (numbers_among pairs x)

once_none : IsDistinct nat_eq []
unfolding IsDistinct
once_none = tt

once_more : (pairs : List (RuleId × RuleId)) (rule fault : RuleId) → HasEachOnce pairs → is_among rule.0 (firsts pairs) ≡ false → HasEachOnce (pairs ++ (rule, fault) ∷ [])
once_more pairs rule fault o h =
    let numbers = map (λ (pair : RuleId × RuleId). pair.0.0) pairs in
    subst (IsDistinct nat_eq) (sym (map-append (λ (pair : RuleId × RuleId). pair.0.0) pairs ((rule, fault) ∷ [])))
    (IsDistinct-push nat_eq_equiv numbers rule.0 o (numbers_among pairs rule.0 ∙ h))

module _ (Kind : ℕ → Type 0) (fault : RuleId) (seen : List Bool) (pairs : List (RuleId × RuleId)) where
  pub seen_still : (later : List Bool) (found : List (RuleId × RuleId)) → Finds Kind fault seen pairs later found → (x : ℕ) → is_seen seen x ≡ true → is_seen later x ≡ true
  seen_still later found Finds.nothing x h = h
  seen_still later found (Finds.one_more {later = l} {found = p} rule k un f) x h = seen_on l rule.0 x (seen_still l p f x h)

  pub unseen_before : (later : List Bool) (found : List (RuleId × RuleId)) → Finds Kind fault seen pairs later found → (x : ℕ) → is_seen later x ≡ false → is_seen seen x ≡ false
  unseen_before later found f x h = false_by (is_seen seen x) (λ e. true_false (is_seen later x) (seen_still later found f x e) h)

  -- what was found then stands behind that
  pub finds_then : (later : List Bool) (found : List (RuleId × RuleId)) (last : List Bool) (more : List (RuleId × RuleId)) → Finds Kind fault seen pairs later found → Finds Kind fault later found last more
      → Finds Kind fault seen pairs last more
  finds_then later found last more f Finds.nothing = f
  finds_then later found last more f (Finds.one_more {later = l} {found = p} rule k un g) = Finds.one_more rule k un (finds_then later found l p f g)

  pub found_longer : (later : List Bool) (found : List (RuleId × RuleId)) → Finds Kind fault seen pairs later found → length pairs ≤ length found
  found_longer later found Finds.nothing = omega arith
  found_longer later found (Finds.one_more {later = l} {found = p} rule k un f) =
      let le = found_longer l p f in
      let n = length-append p ((rule, fault) ∷ []) in
      omega arith

  found_front : (later : List Bool) (found : List (RuleId × RuleId)) → Finds Kind fault seen pairs later found → (n : ℕ) (pair : RuleId × RuleId) → slice_get pairs n ≡ Some pair → slice_get found n ≡ Some pair
  found_front later found Finds.nothing n pair e = e
  found_front later found (Finds.one_more {later = l} {found = p} rule k un f) n pair e = get-front p ((rule, fault) ∷ []) n pair (found_front l p f n pair e)

  -- a pair that stands before those that were found then
  pub found_back : (later : List Bool) (found : List (RuleId × RuleId)) → Finds Kind fault seen pairs later found → (n : ℕ) (pair : RuleId × RuleId) → n < length pairs → slice_get found n ≡ Some pair
      → slice_get pairs n ≡ Some pair
  found_back later found f n pair lt e =
      let old = get_or pairs n pair in
      let there : slice_get pairs n ≡ Some old = slice_get-get_or pairs n pair lt in
      there ∙ sym (found_front later found f n old there) ∙ e

  -- what was found then is of the kind
  pub found_kind : (later : List Bool) (found : List (RuleId × RuleId)) → Finds Kind fault seen pairs later found → (n : ℕ) (pair : RuleId × RuleId) → length pairs ≤ n → slice_get found n ≡ Some pair → Kind pair.0.0
  found_kind later found Finds.nothing n pair le e = absurd (let lt = slice_get_within pairs n pair e in omega arith)
  found_kind later found (Finds.one_more {later = l} {found = p} rule k un f) n pair le e = by (found_kind l p f n pair le) (get-last p (rule, fault) n pair e)
    where
      by : (slice_get p n ≡ Some pair → Kind pair.0.0) → (slice_get p n ≡ Some pair) ⊎ (pair ≡ (rule, fault)) → Kind pair.0.0
      by g (inl h) = g h
      by g (inr h) = subst (λ (x : RuleId × RuleId). Kind x.0.0) (sym h) k

  -- what was found of one kind is of another one, where rules of the one that weren't seen are
  pub finds_as : (Other : ℕ → Type 0) → ((x : ℕ) → Kind x → is_seen seen x ≡ false → Other x) → (later : List Bool) (found : List (RuleId × RuleId)) → Finds Kind fault seen pairs later found
      → Finds Other fault seen pairs later found
  finds_as Other g later found Finds.nothing = Finds.nothing
  finds_as Other g later found (Finds.one_more {later = l} {found = p} rule k un f) = Finds.one_more rule (g rule.0 k (unseen_before l p f rule.0 un)) un (finds_as Other g l p f)

pub not_false : (b : Bool) → false ≡ not b → b ≡ true
not_false true e = refl
not_false false e = absurd (cc)

pub not_true : (b : Bool) → true ≡ not b → b ≡ false
not_true true e = absurd (cc)
not_true false e = refl

-- no rule is added that was seen, and one that wasn't is
pub finds_none : (fault rule : RuleId) (seen later : List Bool) (pairs : List (RuleId × RuleId)) → later ≡ set seen rule.0 true → is_seen seen rule.0 ≡ true → Finds (λ r. r ≡ rule.0) fault seen pairs later pairs
finds_none fault rule seen later pairs e h =
    let still : later ≡ seen = e ∙ ap (set seen rule.0) (sym h) ∙ set-get_or seen rule.0 true in
    subst (λ (l : List Bool). Finds (λ r. r ≡ rule.0) fault seen pairs l pairs) (sym still) Finds.nothing

pub finds_one : (fault rule : RuleId) (seen later : List Bool) (pairs found : List (RuleId × RuleId)) → later ≡ set seen rule.0 true → found ≡ pairs ++ (rule, fault) ∷ [] → is_seen seen rule.0 ≡ false
    → Finds (λ r. r ≡ rule.0) fault seen pairs later found
finds_one fault rule seen later pairs found e f h = rw (e, f) (Finds.one_more rule refl h Finds.nothing)

pub seen_added : (rule : RuleId) (seen later : List Bool) → later ≡ set seen rule.0 true → is_seen later rule.0 ≡ true
seen_added rule seen later e = ap (λ l. is_seen l rule.0) e ∙ seen_now seen rule.0

-- what is so of the first so many of a list, and of the next one
pub each_next : {X : Type 0} (P Q : X → Type 0) (xs : List X) (i : ℕ) (d : X) → ((n : ℕ) (x : X) → n < i → slice_get xs n ≡ Some x → P x) → ((x : X) → P x → Q x) → Q (get_or xs i d)
    → (n : ℕ) (x : X) → n < i + 1 → slice_get xs n ≡ Some x → Q x
each_next P Q xs i d f g q n x lt e = by (apart n i)
  where
    by : (n ≡ i) ⊎ (n ≢ i) → Q x
    by (inl same) = subst Q (get_or_from_slice_get xs i x d (ap (slice_get xs) (sym same) ∙ e)) q
    by (inr ne) = g x (f n x (omega arith) e)

-- one more of the rules that are told of a file was added where it waits
module _ (states : List RuleState) (rules : List Kept) (told : List RuleId) (file : NodeId) where
  pub added_next : (i : ℕ) (d fault : RuleId) (seen now later : List Bool) (pairs found more : List (RuleId × RuleId)) → i < length told → Finds (IsToldOf states rules told file) fault seen pairs now found
      → Finds (IsWaiter states rules file (get_or told i d).0) fault now found later more → Finds (IsToldOf states rules told file) fault seen pairs later more
  added_next i d fault seen now later pairs found more lt f g =
      let this = among_by told i (get_or told i d) (slice_get-get_or told i d lt) in
      finds_then (IsToldOf states rules told file) fault seen pairs now found later more f
      (finds_as (IsWaiter states rules file (get_or told i d).0) fault now found (IsToldOf states rules told file)
      (λ x w un. record { stands = ap (queues told) w.is ∙ this; waits = ap (λ y. waits_for states rules y file) w.is ∙ w.waits }) later more g)

  pub all_added : (i : ℕ) (seen : List Bool) → length told ≤ i → ((n : ℕ) (r : RuleId) → n < i → slice_get told n ≡ Some r → waits_for states rules r.0 file ≡ true → is_seen seen r.0 ≡ true) → (x : ℕ) → IsToldOf states rules told file x
      → is_seen seen x ≡ true
  all_added i seen le f x h =
      let r : RuleId = record { 0 = x } in
      let p = place_in told r h.stands in
      let lt = slice_get_within told p.0 r p.1 in
      f p.0 r (omega arith) p.1 h.waits

-- none is added where it doesn't
module _ (states : List RuleState) (rules : List Kept) (file : NodeId) where
  pub no_waiter : (fault rule : RuleId) (seen : List Bool) (pairs : List (RuleId × RuleId)) → Finds (IsWaiter states rules file rule.0) fault seen pairs seen pairs
  no_waiter fault rule seen pairs = Finds.nothing

  pub one_waiter : (fault rule : RuleId) (seen later : List Bool) (pairs more : List (RuleId × RuleId)) → waits_for states rules rule.0 file ≡ true → Finds (λ r. r ≡ rule.0) fault seen pairs later more
      → Finds (IsWaiter states rules file rule.0) fault seen pairs later more
  one_waiter fault rule seen later pairs more w f = finds_as (λ r. r ≡ rule.0) fault seen pairs (IsWaiter states rules file rule.0) (λ x e un. record { is = e; waits = w }) later more f

-- of so many rules the first so many of those at fault were seen
blank_by : (met : List RuleId) (rule : RuleId) (seen : List Bool) (x : ℕ) → is_seen seen x ≡ is_among x met → (x ≡ rule.0) ⊎ (x ≢ rule.0) → is_seen (set seen rule.0 true) x ≡ (is_among x met || (nat_eq rule.0 x || false))
blank_by met rule seen x f (inl same) =
    let there : nat_eq rule.0 x ≡ true = ap (nat_eq rule.0) same ∙ this_number rule.0 in
    ap (is_seen (set seen rule.0 true)) same ∙ seen_now seen rule.0 ∙ sym (or_second (is_among x met) (nat_eq rule.0 x || false) (or_first (nat_eq rule.0 x) false there))
blank_by met rule seen x f (inr ne) =
    get_or-set_other seen rule.0 x true true ne ∙ f ∙ sym (ap (λ b. is_among x met || (b || false)) (other_number x rule.0 ne) ∙ or_nothing (is_among x met))

pub blank_next : (faulty : List RuleId) (i : ℕ) (d : RuleId) (seen later : List Bool) (count : ℕ) → i < length faulty → ((x : ℕ) → x < count → is_seen seen x ≡ is_among x (take i faulty))
    → later ≡ set seen (get_or faulty i d).0 true → (x : ℕ) → x < count → is_seen later x ≡ is_among x (take (i + 1) faulty)
blank_next faulty i d seen later count lt f e x known =
    let rule = get_or faulty i d in
    let more : is_among x (take (i + 1) faulty) ≡ (is_among x (take i faulty) || (nat_eq rule.0 x || false)) = ap (is_among x) (take_more faulty i d lt) ∙ list_any-append (λ r. nat_eq r.0 x) (take i faulty) (rule ∷ []) in
    ap (λ l. is_seen l x) e ∙ blank_by (take i faulty) rule seen x (f x known) (apart x rule.0) ∙ sym more

-- all were, and none was found
pub blank : (count : ℕ) (faulty : List RuleId) (i : ℕ) (held : Held) → length held.seen.items ≡ count → ((x : ℕ) → x < count → is_seen held.seen.items x ≡ is_among x (take i faulty)) → length faulty ≤ i
    → held.pairs.items ≡ [] → IsBlankHeld count faulty held
blank count faulty i held size f le none = record { size = size; same = λ x lt. f x lt ∙ ap (is_among x) (take_all i faulty le); none = none }

-- none was seen
pub none_seen : (seen : List Bool) (count : ℕ) → seen ≡ replicate count false → (length seen ≡ count) × ((x : ℕ) → x < count → is_seen seen x ≡ false)
none_seen seen count e = (ap length e ∙ length-replicate count false, λ x lt. ap (λ l. is_seen l x) e ∙ get_or-replicate count x false true lt)

-- the pair at a place, by the rule that stands first in it
pub record IsPairAt (pairs : List (RuleId × RuleId)) (place : ℕ) (rule : RuleId) : Type 0 where
  pub pair : RuleId × RuleId
  pub at : slice_get pairs place ≡ Some pair
  pub is : pair.0 ≡ rule

pub pair_at : (pairs : List (RuleId × RuleId)) (place : ℕ) (rule : RuleId) → Some rule ≡ option_map (λ pair. pair.0) (slice_get pairs place) → IsPairAt pairs place rule
pair_at pairs place rule e = by (slice_get pairs place) refl e
  where
    by : (o : Option (RuleId × RuleId)) → slice_get pairs place ≡ o → Some rule ≡ option_map (λ pair. pair.0) o → IsPairAt pairs place rule
    by None g h = absurd (none-some rule (sym h))
    by (Some pair) g h = record { pair = pair; at = g; is = sym (same_Some rule pair.0 h) }

pub no_pair_at : (pairs : List (RuleId × RuleId)) (place : ℕ) → None ≡ option_map (λ (pair : RuleId × RuleId). pair.0) (slice_get pairs place) → length pairs ≤ place
no_pair_at pairs place e = none_past pairs place (by (slice_get pairs place) e)
  where
    by : (o : Option (RuleId × RuleId)) → None ≡ option_map (λ (pair : RuleId × RuleId). pair.0) o → o ≡ None
    by None h = refl
    by (Some pair) h = absurd (none-some pair.0 h)

module _ (states : List RuleState) (rules : List Kept) (waiters : List (List RuleId)) where
  pub followed_still : (seen later : List Bool) (other : ℕ) → ((x : ℕ) → is_seen seen x ≡ true → is_seen later x ≡ true) → IsFollowed states rules waiters seen other → IsFollowed states rules waiters later other
  followed_still seen later other f i = record { all = λ rule w. f rule (i.all rule w) }

  -- one more target of a rule was gone over
  pub waiting_next : (rule : ℕ) (targets : List NodeId) (i : ℕ) (d : NodeId) (fault : RuleId) (seen now later : List Bool) (pairs found more : List (RuleId × RuleId)) → targets ≡ targets_at rules rule → i < length targets
      → Finds (λ r. WaitsOn states rules waiters r rule) fault seen pairs now found → Finds (IsToldOf states rules (waiters_of waiters (get_or targets i d).0) (get_or targets i d)) fault now found later more
      → Finds (λ r. WaitsOn states rules waiters r rule) fault seen pairs later more
  waiting_next rule targets i d fault seen now later pairs found more e lt f g =
      let target = get_or targets i d in
      let made : stands (targets_at rules rule) target ≡ true = ap (λ xs. stands xs target) (sym e) ∙ stands_there targets i target (slice_get-get_or targets i d lt) in
      finds_then (λ r. WaitsOn states rules waiters r rule) fault seen pairs now found later more f
      (finds_as (IsToldOf states rules (waiters_of waiters target.0) target) fault now found (λ r. WaitsOn states rules waiters r rule)
      (λ x h un. record { target = target; made = made; told = h.stands; needs = h.waits }) later more g)

  -- all were
  pub all_waiting : (rule : ℕ) (targets : List NodeId) (i : ℕ) (seen : List Bool) → targets ≡ targets_at rules rule → length targets ≤ i
      → ((n : ℕ) (target : NodeId) → n < i → slice_get targets n ≡ Some target → (x : ℕ) → IsToldOf states rules (waiters_of waiters target.0) target x → is_seen seen x ≡ true) → IsFollowed states rules waiters seen rule
  all_waiting rule targets i seen e le f = record {
    all = λ x w.
        let p = place_of_stands targets w.target (ap (λ xs. stands xs w.target) e ∙ w.made) in
        let lt = slice_get_within targets p.0 w.target p.1 in
        f p.0 w.target (omega arith) p.1 x (record { stands = w.told; waits = w.needs });
  }

  -- a rule that wasn't seen isn't at fault, and has a place
  unseen_free : (faulty : List RuleId) (seen : List Bool) → AreAllSeen rules faulty seen → (x : ℕ) → is_seen seen x ≡ false → is_among x faulty ≡ false
  unseen_free faulty seen s x h = false_by (is_among x faulty) (λ e. true_false (is_seen seen x) (s.each x e) h)

  unseen_known : (faulty : List RuleId) (seen : List Bool) → AreAllSeen rules faulty seen → (x : ℕ) → is_seen seen x ≡ false → x < length rules
  unseen_known faulty seen s x h = let lt = unseen_within seen x h in let e = s.size in omega arith

  module _ (fault : RuleId) (old : Held) where
    -- whatever waits for the rule at fault was found
    pub walk_first : (new : Held) (place : ℕ) → place ≤ length old.pairs.items → Finds (λ r. WaitsOn states rules waiters r fault.0) fault old.seen.items old.pairs.items new.seen.items new.pairs.items → IsFollowed states rules waiters new.seen.items fault.0
        → WalksTo states rules waiters fault old new place
    walk_first new place most f i = record {
      finds = λ faulty s.
          finds_as (λ r. WaitsOn states rules waiters r fault.0) fault old.seen.items old.pairs.items (IsHeldBy states rules waiters faulty fault.0)
          (λ x w h. IsHeldBy.directly (unseen_free faulty old.seen.items s x h) (unseen_known faulty old.seen.items s x h) w) new.seen.items new.pairs.items f;
      first = i;
      others = λ n pair le lt e. absurd (omega arith);
    }

    -- and whatever waits for the next rule that was found
    module _ (now new : Held) (place : ℕ) (pair : RuleId × RuleId) (w : WalksTo states rules waiters fault old now place) (le : length old.pairs.items ≤ place) (at : slice_get now.pairs.items place ≡ Some pair)
        (f : Finds (λ r. WaitsOn states rules waiters r pair.0.0) fault now.seen.items now.pairs.items new.seen.items new.pairs.items) (i : IsFollowed states rules waiters new.seen.items pair.0.0) where
      still : (x : ℕ) → is_seen now.seen.items x ≡ true → is_seen new.seen.items x ≡ true
      still x h = seen_still (λ r. WaitsOn states rules waiters r pair.0.0) fault now.seen.items now.pairs.items new.seen.items new.pairs.items f x h

      finds_next : (faulty : List RuleId) → AreAllSeen rules faulty old.seen.items → Finds (IsHeldBy states rules waiters faulty fault.0) fault old.seen.items old.pairs.items new.seen.items new.pairs.items
      finds_next faulty s =
          let Kind = IsHeldBy states rules waiters faulty fault.0 in
          let g = w.finds faulty s in
          let before = unseen_before Kind fault old.seen.items old.pairs.items now.seen.items now.pairs.items g in
          let held = found_kind Kind fault old.seen.items old.pairs.items now.seen.items now.pairs.items g place pair le at in
          finds_then Kind fault old.seen.items old.pairs.items now.seen.items now.pairs.items new.seen.items new.pairs.items g
          (finds_as (λ r. WaitsOn states rules waiters r pair.0.0) fault now.seen.items now.pairs.items Kind
          (λ x v h. IsHeldBy.in_turn pair.0.0 (unseen_free faulty old.seen.items s x (before x h)) (unseen_known faulty old.seen.items s x (before x h)) v held) new.seen.items new.pairs.items f)

      others_next : (n : ℕ) (other : RuleId × RuleId) → length old.pairs.items ≤ n → n < place + 1 → slice_get now.pairs.items n ≡ Some other → (n ≡ place) ⊎ (n ≢ place) → IsFollowed states rules waiters new.seen.items other.0.0
      others_next n other lo hi e (inl same) =
          let this : pair ≡ other = same_Some pair other (sym at ∙ ap (slice_get now.pairs.items) (sym same) ∙ e) in
          subst (λ (x : RuleId × RuleId). IsFollowed states rules waiters new.seen.items x.0.0) this i
      others_next n other lo hi e (inr ne) = followed_still now.seen.items new.seen.items other.0.0 still (w.others n other lo (omega arith) e)

      pub walk_next : WalksTo states rules waiters fault old new (place + 1)
      walk_next = record {
        finds = finds_next;
        first = followed_still now.seen.items new.seen.items fault.0 still w.first;
        others = λ n other lo hi e.
            let within = slice_get_within now.pairs.items place pair at in
            let back = found_back (λ r. WaitsOn states rules waiters r pair.0.0) fault now.seen.items now.pairs.items new.seen.items new.pairs.items f n other (omega arith) e in
            others_next n other lo hi back (apart n place);
      }

    -- no rule is left
    pub walk_end : (now : Held) (place : ℕ) → WalksTo states rules waiters fault old now place → length now.pairs.items ≤ place → WalksTo states rules waiters fault old now (length now.pairs.items)
    walk_end now place w le = record { finds = w.finds; first = w.first; others = λ n pair lo hi e. w.others n pair lo (omega arith) e }

  module _ (faulty : List RuleId) where
    -- Seen are the rules at fault and those that were found, and no others. Each of these was found once, with the first that holds it.
    pub record AreFound (seen : List Bool) (pairs : List (RuleId × RuleId)) : Type 0 where
      pub size : length seen ≡ length rules
      pub same : (rule : ℕ) → rule < length rules → is_seen seen rule ≡ (is_among rule faulty || is_among rule (firsts pairs))
      pub held : AreHeld states rules waiters faulty pairs
      pub once : HasEachOnce pairs
      pub first : HaveFirstFaults states rules waiters faulty pairs

    module _ (seen : List Bool) (pairs : List (RuleId × RuleId)) (rule fault : RuleId) (a : AreFound seen pairs) (h : IsHeldBy states rules waiters faulty fault.0 rule.0) (i : IsFirstFault states rules waiters faulty rule.0 fault)
        (un : is_seen seen rule.0 ≡ false) where
      same_by : (x : ℕ) → x < length rules → (x ≡ rule.0) ⊎ (x ≢ rule.0) → is_seen (set seen rule.0 true) x ≡ (is_among x faulty || is_among x (firsts (pairs ++ (rule, fault) ∷ [])))
      same_by x lt (inl e) =
          let there : is_among x (firsts (pairs ++ (rule, fault) ∷ [])) ≡ true = ap (λ y. is_among y (firsts (pairs ++ (rule, fault) ∷ []))) e ∙ firsts_last pairs rule fault in
          ap (is_seen (set seen rule.0 true)) e ∙ seen_now seen rule.0 ∙ sym (or_second (is_among x faulty) (is_among x (firsts (pairs ++ (rule, fault) ∷ []))) there)
      same_by x lt (inr ne) = get_or-set_other seen rule.0 x true true ne ∙ a.same x lt ∙ ap (λ b. is_among x faulty || b) (sym (firsts_other pairs rule fault x ne))

      fault_by : (n : ℕ) (pair : RuleId × RuleId) → (slice_get pairs n ≡ Some pair) ⊎ (pair ≡ (rule, fault)) → is_among pair.1.0 faulty ≡ true
      fault_by n pair (inl e) = a.held.fault n pair e
      fault_by n pair (inr e) = ap (λ (x : RuleId × RuleId). is_among x.1.0 faulty) e ∙ among_by faulty i.place fault i.at

      held_by : (n : ℕ) (pair : RuleId × RuleId) → (slice_get pairs n ≡ Some pair) ⊎ (pair ≡ (rule, fault)) → IsHeldBy states rules waiters faulty pair.1.0 pair.0.0
      held_by n pair (inl e) = a.held.held n pair e
      held_by n pair (inr e) = subst (λ (x : RuleId × RuleId). IsHeldBy states rules waiters faulty x.1.0 x.0.0) (sym e) h

      first_by : (n : ℕ) (pair : RuleId × RuleId) → (slice_get pairs n ≡ Some pair) ⊎ (pair ≡ (rule, fault)) → IsFirstFault states rules waiters faulty pair.0.0 pair.1
      first_by n pair (inl e) = a.first.each n pair e
      first_by n pair (inr e) = subst (λ (x : RuleId × RuleId). IsFirstFault states rules waiters faulty x.0.0 x.1) (sym e) i

      new_one : is_among rule.0 (firsts pairs) ≡ false
      new_one =
          let lt = unseen_within seen rule.0 un in
          let s = a.size in
          or_neither (is_among rule.0 faulty) (is_among rule.0 (firsts pairs)) (sym (a.same rule.0 (omega arith)) ∙ un)

      found_more : AreFound (set seen rule.0 true) (pairs ++ (rule, fault) ∷ [])
      found_more = record {
        size = length-set seen rule.0 true ∙ a.size;
        same = λ x lt. same_by x lt (apart x rule.0);
        held = record { fault = λ n pair e. fault_by n pair (get-last pairs (rule, fault) n pair e); held = λ n pair e. held_by n pair (get-last pairs (rule, fault) n pair e) };
        once = once_more pairs rule fault a.once new_one;
        first = record { each = λ n pair e. first_by n pair (get-last pairs (rule, fault) n pair e) };
      }

    -- what a walk finds was found, where no rule at fault that comes before holds it
    found_all : (fault : RuleId) (seen : List Bool) (pairs : List (RuleId × RuleId)) (later : List Bool) (found : List (RuleId × RuleId)) → Finds (IsHeldBy states rules waiters faulty fault.0) fault seen pairs later found → AreFound seen pairs
        → ((x : ℕ) → is_seen seen x ≡ false → IsFirstFault states rules waiters faulty x fault) → AreFound later found
    found_all fault seen pairs later found Finds.nothing a g = a
    found_all fault seen pairs later found (Finds.one_more {later = l} {found = p} rule k un f) a g =
        found_more l p rule fault (found_all fault seen pairs l p f a g) k (g rule.0 (unseen_before (IsHeldBy states rules waiters faulty fault.0) fault seen pairs l p f rule.0 un)) un

    -- the first so many of the rules at fault were followed, and whatever was found
    pub record AreFoundTo (count : ℕ) (seen : List Bool) (pairs : List (RuleId × RuleId)) : Type 0 where
      pub found : AreFound seen pairs
      pub faults : (n : ℕ) (fault : RuleId) → n < count → slice_get faulty n ≡ Some fault → IsFollowed states rules waiters seen fault.0
      pub others : (n : ℕ) (pair : RuleId × RuleId) → slice_get pairs n ≡ Some pair → IsFollowed states rules waiters seen pair.0.0

    module _ (count : ℕ) (seen : List Bool) (pairs : List (RuleId × RuleId)) (a : AreFoundTo count seen pairs) where
      -- a rule that was seen, and isn't at fault, was found
      seen_found : (rule : ℕ) → is_among rule faulty ≡ false → rule < length rules → is_seen seen rule ≡ true → is_among rule (firsts pairs) ≡ true
      seen_found rule out lt h = or_only (is_among rule faulty) (is_among rule (firsts pairs)) out (sym (a.found.same rule lt) ∙ h)

      -- so is whatever they hold
      held_found : (n : ℕ) (fault : RuleId) → n < count → slice_get faulty n ≡ Some fault → (rule : ℕ) → IsHeldBy states rules waiters faulty fault.0 rule → is_among rule (firsts pairs) ≡ true
      held_found n fault lt at rule (IsHeldBy.directly out known w) = seen_found rule out known ((a.faults n fault lt at).all rule w)
      held_found n fault lt at rule (IsHeldBy.in_turn other out known w h) =
          let s = stands_first pairs other (held_found n fault lt at other h) in
          let followed = subst (IsFollowed states rules waiters seen) s.is (a.others s.place s.pair s.at) in
          seen_found rule out known (followed.all rule w)

      all_seen : AreAllSeen rules faulty seen
      all_seen = record { size = a.found.size; each = λ rule h. by rule h (within_or rule (length rules)) }
        where
          by : (rule : ℕ) → is_among rule faulty ≡ true → (rule < length rules) ⊎ (length rules ≤ rule) → is_seen seen rule ≡ true
          by rule h (inl lt) = a.found.same rule lt ∙ or_first (is_among rule faulty) (is_among rule (firsts pairs)) h
          by rule h (inr le) = get_or_past seen rule true (let s = a.found.size in omega arith)

      -- no rule that wasn't seen is held by one of them
      none_before : (rule : ℕ) → is_seen seen rule ≡ false → (n : ℕ) (other : RuleId) → n < count → slice_get faulty n ≡ Some other → IsHeldBy states rules waiters faulty other.0 rule → ⊥
      none_before rule un n other lt at h =
          let known = unseen_known faulty seen all_seen rule un in
          let found = held_found n other lt at rule h in
          true_false (is_seen seen rule) (a.found.same rule known ∙ or_second (is_among rule faulty) (is_among rule (firsts pairs)) found) un

      pub all_found : length faulty ≤ count → HasAllHeld states rules waiters faulty pairs
      all_found le = record {
        all = λ rule fault h i.
            let r : RuleId = record { 0 = fault } in
            let p = place_in faulty r h in
            let lt = slice_get_within faulty p.0 r p.1 in
            held_found p.0 r (omega arith) p.1 rule i;
      }

    -- the next rule at fault was followed
    module _ (count : ℕ) (fault : RuleId) (old new : Held) (at : slice_get faulty count ≡ Some fault) (a : AreFoundTo count old.seen.items old.pairs.items) (w : WalksTo states rules waiters fault old new (length new.pairs.items)) where
      walked : Finds (IsHeldBy states rules waiters faulty fault.0) fault old.seen.items old.pairs.items new.seen.items new.pairs.items
      walked = w.finds faulty (all_seen count old.seen.items old.pairs.items a)

      seen_on_walk : (x : ℕ) → is_seen old.seen.items x ≡ true → is_seen new.seen.items x ≡ true
      seen_on_walk x h = seen_still (IsHeldBy states rules waiters faulty fault.0) fault old.seen.items old.pairs.items new.seen.items new.pairs.items walked x h

      faults_by : (n : ℕ) (other : RuleId) → n < count + 1 → slice_get faulty n ≡ Some other → (n ≡ count) ⊎ (n ≢ count) → IsFollowed states rules waiters new.seen.items other.0
      faults_by n other lt e (inl same) =
          let this : fault ≡ other = same_Some fault other (sym at ∙ ap (slice_get faulty) (sym same) ∙ e) in
          subst (λ (x : RuleId). IsFollowed states rules waiters new.seen.items x.0) this w.first
      faults_by n other lt e (inr ne) = followed_still old.seen.items new.seen.items other.0 seen_on_walk (a.faults n other (omega arith) e)

      others_by : (n : ℕ) (pair : RuleId × RuleId) → slice_get new.pairs.items n ≡ Some pair → (n < length old.pairs.items) ⊎ (length old.pairs.items ≤ n) → IsFollowed states rules waiters new.seen.items pair.0.0
      others_by n pair e (inl lt) =
          let back = found_back (IsHeldBy states rules waiters faulty fault.0) fault old.seen.items old.pairs.items new.seen.items new.pairs.items walked n pair lt e in
          followed_still old.seen.items new.seen.items pair.0.0 seen_on_walk (a.others n pair back)
      others_by n pair e (inr le) = w.others n pair le (slice_get_within new.pairs.items n pair e) e

      pub found_next : AreFoundTo (count + 1) new.seen.items new.pairs.items
      found_next = record {
        found = found_all fault old.seen.items old.pairs.items new.seen.items new.pairs.items walked a.found
            (λ x un. record { place = count; at = at; none = λ n other lt e h. none_before count old.seen.items old.pairs.items a x un n other lt e h });
        faults = λ n other lt e. faults_by n other lt e (apart n count);
        others = λ n pair e. others_by n pair e (within_or n (length old.pairs.items));
      }

    pub found_at : (count : ℕ) (d : RuleId) (old new : Held) → count < length faulty → AreFoundTo count old.seen.items old.pairs.items → WalksTo states rules waiters (get_or faulty count d) old new (length new.pairs.items)
        → AreFoundTo (count + 1) new.seen.items new.pairs.items
    found_at count d old new lt a w = found_next count (get_or faulty count d) old new (slice_get-get_or faulty count d lt) a w

    -- nothing was found yet
    pub found_nothing : (held : Held) → IsBlankHeld (length rules) faulty held → AreFoundTo 0 held.seen.items held.pairs.items
    found_nothing held b = record {
      found = record {
        size = b.size;
        same = λ rule lt. b.same rule lt ∙ sym (ap (λ (p : List (RuleId × RuleId)). is_among rule faulty || is_among rule (firsts p)) b.none ∙ or_nothing (is_among rule faulty));
        held = record { fault = λ n pair e. absurd (nowhere n pair e); held = λ n pair e. absurd (nowhere n pair e) };
        once = subst HasEachOnce (sym b.none) once_none;
        first = record { each = λ n pair e. absurd (nowhere n pair e) };
      };
      faults = λ n fault lt e. absurd (omega arith);
      others = λ n pair e. absurd (nowhere n pair e);
    }
      where
        nowhere : (n : ℕ) (pair : RuleId × RuleId) → slice_get held.pairs.items n ≡ Some pair → ⊥
        nowhere n pair e = none-some pair (ap (λ (p : List (RuleId × RuleId)). slice_get p n) (sym b.none) ∙ e)
