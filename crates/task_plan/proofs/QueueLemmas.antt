-- What a write to a queue changes, and which open rule is the first.
use Rattle.std.proofs.Common.{arith, ◌≡◌, ◌≢◌, ◌<◌, ◌≤◌, ◌∙◌, ◌⊎◌, inl, inr, ℕ, ◌+◌, List, [], ◌∷◌, ◌++◌, Bool, true, false, ◌&&◌, ◌||◌, take, subst, ap, sym, refl, length, set, get_or, Option, Some, None, get_or-set_other, get_or-set_same, length-set, replicate}
use Rattle.std.specs.Prelude.{slice_get, nat_eq, nat_lt, ltb, IfSome, IfNone, cond}
use Rattle.std.specs.List.{position, position_or_len, list_any}
use Rattle.std.proofs.lemmas.List.Sums.{fails_before_first}
use Rattle.std.proofs.lemmas.Bool.{lt-ltb, le-ltb, ltb-false, ltb-true}
use Rattle.std.proofs.lemmas.List.{get_or-replicate, get_or_past, length-replicate, take_more, take_all}
use Rattle.std.proofs.lemmas.List.Folds.{list_any-append}
use Rattle.std.proofs.lemmas.Bool.Decides.{nat_tests}
use Rattle.std.proofs.lemmas.Option.{slice_get_within, get_or_from_slice_get}
use Rattle.std.proofs.lemmas.List.Quantifiers.{position-Some}
use Rattle.scons_base.specs.declared.ids.RuleId.{RuleId}
use Rattle.task_plan.specs.Queues.{unnumbered, is_placed, AreNumbers, ArePlaced, IsQueue, IsFirst}
use Rattle.task_plan.specs.Ordered.{AreAtPlaces, Precedes}
use Rattle.task_plan.proofs.MarkLemmas.{apart}

opened_put : (order : List RuleId) (numbers : List ℕ) (opens : List Bool) (r n m : ℕ) (v : Bool) → IsQueue order numbers opens
    → get_or numbers r unnumbered ≡ n → n < length order → (m ≡ n) ⊎ (m ≢ n) → get_or (set opens n v) m false ≡ true
    → (rule : RuleId) × (slice_get order m ≡ Some rule) × (get_or numbers rule.0 unnumbered ≡ m)
opened_put order numbers opens r n m v q e lt (inl same) o = (record { 0 = r }, rw same (q.numbered.stands r n e lt), e ∙ sym same)
opened_put order numbers opens r n m v q e lt (inr ne) o = q.opened m (sym (get_or-set_other opens n m v false ne) ∙ o)

pub queue_put : (order : List RuleId) (numbers : List ℕ) (opens : List Bool) (r n : ℕ) (v : Bool) → IsQueue order numbers opens
    → get_or numbers r unnumbered ≡ n → n < length order → IsQueue order numbers (set opens n v)
queue_put order numbers opens r n v q e lt = record {
  numbered = q.numbered;
  opened = λ m o. opened_put order numbers opens r n m v q e lt (apart m n) o;
  room = let l = q.room in rw (length-set opens n v) l;
}

and_true : (v : Bool) → v ≡ (v && true)
and_true true = refl
and_true false = refl

and_false : (v : Bool) → false ≡ (v && false)
and_false true = refl
and_false false = refl

false_by : (b : Bool) → (b ≡ true → ⊥) → b ≡ false
false_by true f = absurd (f refl)
false_by false f = refl

pub this_put : (order : List RuleId) (numbers : List ℕ) (opens : List Bool) (r n : ℕ) (v : Bool) → IsQueue order numbers opens
    → get_or numbers r unnumbered ≡ n → n < length order
    → get_or (set opens n v) (get_or numbers r unnumbered) false ≡ (v && nat_lt (get_or numbers r unnumbered) (length order))
this_put order numbers opens r n v q e lt =
    let l = q.room in
    let within : n < length opens = omega arith in
    rw (e, get_or-set_same opens n v false within, lt-ltb n (length order) lt) (and_true v)

-- what has no place isn't open
pub closed_past : (order : List RuleId) (numbers : List ℕ) (opens : List Bool) (n : ℕ) → IsQueue order numbers opens → length order ≤ n → get_or opens n false ≡ false
closed_past order numbers opens n q le = false_by (get_or opens n false) (λ o.
    let f = q.opened n o in
    let w : n < length order = slice_get_within order n f.0 f.1 in
    omega arith)

pub this_past : (order : List RuleId) (numbers : List ℕ) (opens : List Bool) (r n : ℕ) (v : Bool) → IsQueue order numbers opens
    → get_or numbers r unnumbered ≡ n → length order ≤ n
    → get_or opens (get_or numbers r unnumbered) false ≡ (v && nat_lt (get_or numbers r unnumbered) (length order))
this_past order numbers opens r n v q e le =
    rw (e, closed_past order numbers opens n q le, le-ltb n (length order) le) (and_false v)

abbrev rule_or : Option RuleId → ℕ
rule_or None = 0
rule_or (Some rule) = rule.0

some_rule : (x r : ℕ) → Some (let y : RuleId = record { 0 = x } in y) ≡ Some (let y : RuleId = record { 0 = r } in y) → x ≡ r
some_rule x r e = ap rule_or e

others_at : (order : List RuleId) (numbers : List ℕ) (opens : List Bool) (r n x m : ℕ) (v : Bool) → IsQueue order numbers opens
    → get_or numbers r unnumbered ≡ n → n < length order → x ≢ r → get_or numbers x unnumbered ≡ m → (m ≡ n) ⊎ (m ≢ n)
    → get_or (set opens n v) m false ≡ get_or opens m false
others_at order numbers opens r n x m v q e lt ne f (inl same) =
    let a : slice_get order n ≡ Some (record { 0 = r }) = q.numbered.stands r n e lt in
    let b : slice_get order n ≡ Some (record { 0 = x }) = q.numbered.stands x n (f ∙ same) lt in
    absurd (ne (some_rule x r (sym b ∙ a)))
others_at order numbers opens r n x m v q e lt ne f (inr other) = get_or-set_other opens n m v false other

pub others_put : (order : List RuleId) (numbers : List ℕ) (opens : List Bool) (r n x : ℕ) (v : Bool) → IsQueue order numbers opens
    → get_or numbers r unnumbered ≡ n → n < length order → x ≢ r
    → get_or (set opens n v) (get_or numbers x unnumbered) false ≡ get_or opens (get_or numbers x unnumbered) false
others_put order numbers opens r n x v q e lt ne =
    others_at order numbers opens r n x (get_or numbers x unnumbered) v q e lt ne refl (apart (get_or numbers x unnumbered) n)

least : (opens : List Bool) (n m : ℕ) → ((k : ℕ) → k < n → get_or opens k false ≡ false) → get_or opens m false ≡ true → n ≤ m
least opens n m none is = grind (arith, none m)

-- the rule at the first open place is the first open one
pub first_open : (order : List RuleId) (numbers : List ℕ) (opens : List Bool) (n : ℕ) (rule : RuleId) → IsQueue order numbers opens
    → position (λ mark. mark) opens ≡ Some n → slice_get order n ≡ Some rule → IsFirst (record { order = order; numbers = numbers; opens = opens }) rule.0
first_open order numbers opens n rule q p s =
    let f = position-Some (λ mark. mark) opens n false p in
    let o = q.opened n f.1 in
    let same : o.0 ≡ rule = cc in
    let number : get_or numbers rule.0 unnumbered ≡ n = rw (sym same) o.2 in
    record {
      opened = rw number f.1;
      first = λ other is. rw number (least opens n (get_or numbers other unnumbered) f.2 is);
    }

-- the places of the rules before a place
pub record AreNumbersTo (order : List RuleId) (place : ℕ) (numbers : List ℕ) : Type 0 where
  pub stands : (rule n : ℕ) → get_or numbers rule unnumbered ≡ n → n < length order → (n < place) × (slice_get order n ≡ Some (record { 0 = rule }))

no_number : (count rule : ℕ) → get_or (replicate count unnumbered) rule unnumbered ≡ unnumbered
no_number count rule = elim (ltb rule count) as (λ b. ltb rule count ≡ b → get_or (replicate count unnumbered) rule unnumbered ≡ unnumbered) [
  | true ↦ λ e. get_or-replicate count rule unnumbered unnumbered (ltb-true rule count e)
  | false ↦ λ e. get_or_past (replicate count unnumbered) rule unnumbered (let m = length-replicate count unnumbered in let b = ltb-false rule count e in omega arith)
] refl

at_this : (order : List RuleId) (place r n : ℕ) (numbers : List ℕ) → AreNumbersTo order place numbers
    → slice_get order place ≡ Some (record { 0 = r }) → (b : Bool) → ltb r (length numbers) ≡ b → get_or (set numbers r place) r unnumbered ≡ n → n < length order
    → (n < place + 1) × (slice_get order n ≡ Some (record { 0 = r }))
at_this order place r n numbers a at true lt e in_order =
    let f : get_or (set numbers r place) r unnumbered ≡ place = get_or-set_same numbers r place unnumbered (ltb-true r (length numbers) lt) in
    let m : n ≡ place = sym e ∙ f in
    (omega arith, rw m at)
at_this order place r n numbers a at false lt e in_order =
    let past = ltb-false r (length numbers) lt in
    let same = length-set numbers r place in
    let f : get_or (set numbers r place) r unnumbered ≡ unnumbered = get_or_past (set numbers r place) r unnumbered (omega arith) in
    let g : get_or numbers r unnumbered ≡ unnumbered = get_or_past numbers r unnumbered past in
    let b = a.stands r n (g ∙ sym f ∙ e) in_order in
    (omega (arith, b.0), b.1)

more_at : (order : List RuleId) (place r rule n : ℕ) (numbers : List ℕ) → AreNumbersTo order place numbers
    → slice_get order place ≡ Some (record { 0 = r }) → (rule ≡ r) ⊎ (rule ≢ r) → get_or (set numbers r place) rule unnumbered ≡ n → n < length order
    → (n < place + 1) × (slice_get order n ≡ Some (record { 0 = rule }))
more_at order place r rule n numbers a at (inl same) e in_order =
    let f : get_or (set numbers r place) r unnumbered ≡ n = ap (λ x. get_or (set numbers r place) x unnumbered) (sym same) ∙ e in
    let b = at_this order place r n numbers a at (ltb r (length numbers)) refl f in_order in
    (b.0, rw same b.1)
more_at order place r rule n numbers a at (inr ne) e in_order =
    let b = a.stands rule n (sym (get_or-set_other numbers r rule place unnumbered ne) ∙ e) in_order in
    (omega (arith, b.0), b.1)

pub no_numbers : (order : List RuleId) (count : ℕ) → length order < unnumbered → AreNumbersTo order 0 (replicate count unnumbered)
no_numbers order count few = record { stands = λ rule n e lt. let f = no_number count rule in absurd (omega arith) }

pub numbers_more : (order : List RuleId) (place r : ℕ) (numbers : List ℕ) → AreNumbersTo order place numbers
    → slice_get order place ≡ Some (record { 0 = r }) → AreNumbersTo order (place + 1) (set numbers r place)
numbers_more order place r numbers a at = record { stands = λ rule n e in_order. more_at order place r rule n numbers a at (apart rule r) e in_order }

pub numbers_all : (order : List RuleId) (place : ℕ) (numbers : List ℕ) → AreNumbersTo order place numbers → AreNumbers order numbers
numbers_all order place numbers a = record { stands = λ rule n e lt. (a.stands rule n e lt).1 }

none_before : (xs : List Bool) (k : ℕ) (b : Bool) → ltb k (position_or_len (λ mark. mark) xs) ≡ b → length xs ≤ position_or_len (λ mark. mark) xs → get_or xs k false ≡ false
none_before xs k true h le = fails_before_first (λ mark. mark) xs k false (ltb-true k (position_or_len (λ mark. mark) xs) h)
none_before xs k false h le = let past = ltb-false k (position_or_len (λ mark. mark) xs) h in get_or_past xs k false (omega arith)

pub none_by : (xs : List Bool) (k : ℕ) (b : Bool) → ltb (position_or_len (λ mark. mark) xs) (length xs) ≡ b → cond b (Some (position_or_len (λ mark. mark) xs)) None ≡ None → get_or xs k false ≡ false
none_by xs k true h e = absurd (cc)
none_by xs k false h e = none_before xs k (ltb k (position_or_len (λ mark. mark) xs)) refl (ltb-false (position_or_len (λ mark. mark) xs) (length xs) h)

-- without a first member there is none
pub none_open : (order : List RuleId) (numbers : List ℕ) (opens : List Bool) → position (λ mark. mark) opens ≡ None → (rule : ℕ) → get_or opens (get_or numbers rule unnumbered) false ≡ false
none_open order numbers opens e rule = none_by opens (get_or numbers rule unnumbered) (ltb (position_or_len (λ mark. mark) opens) (length opens)) refl e

pub first_some : (order : List RuleId) (numbers : List ℕ) (opens : List Bool) (n : ℕ) (r : Option RuleId) → IsQueue order numbers opens
    → position (λ mark. mark) opens ≡ Some n → r ≡ slice_get order n
    → IfSome r (λ rule. IsFirst (record { order = order; numbers = numbers; opens = opens }) rule.0)
first_some order numbers opens n None q p e = tt
first_some order numbers opens n (Some rule) q p e = first_open order numbers opens n rule q p (sym e)

pub first_none : (order : List RuleId) (numbers : List ℕ) (opens : List Bool) (n : ℕ) (r : Option RuleId) (P : Type 0) → IsQueue order numbers opens
    → position (λ mark. mark) opens ≡ Some n → r ≡ slice_get order n → IfNone r P
first_none order numbers opens n None P q p e =
    let f = position-Some (λ mark. mark) opens n false p in
    let o = q.opened n f.1 in
    let no : Some o.0 ≡ None = sym o.1 ∙ sym e in
    absurd (cc)
first_none order numbers opens n (Some rule) P q p e = tt

pub none_placed : (rules : List RuleId) (count : ℕ) (numbers : List ℕ) → numbers ≡ replicate count unnumbered → ArePlaced count (take 0 rules) numbers 0
none_placed rules count numbers e = record { size = ap length e ∙ length-replicate count unnumbered; each = λ rule lt h. absurd (let none : false ≡ true = h in cc) }

same_or_more : (x y : Bool) → (x || (y || false)) ≡ true → (y ≡ true) ⊎ (x ≡ true)
same_or_more x true h = inl refl
same_or_more true false h = inr refl
same_or_more false false h = absurd (cc)

pub same_number : (m n : ℕ) → nat_eq m n ≡ true → n ≡ m
same_number m n h = grind (arith, nat_tests)

placed_at : (rules : List RuleId) (count place r rule : ℕ) (numbers : List ℕ) → ArePlaced count rules numbers place → rule < count → (rule ≡ r) ⊎ (rule ≢ r) → (nat_eq r rule ≡ true) ⊎ (list_any (λ q. nat_eq q.0 rule) rules ≡ true)
    → get_or (set numbers r place) rule unnumbered < place + 1
placed_at rules count place r rule numbers a lt (inl same) h =
    let n = a.size in
    let within : r < length numbers = let l : r < count = rw (sym same) lt in omega arith in
    let e : get_or (set numbers r place) rule unnumbered ≡ place = ap (λ x. get_or (set numbers r place) x unnumbered) same ∙ get_or-set_same numbers r place unnumbered within in
    omega arith
placed_at rules count place r rule numbers a lt (inr ne) (inl h) = absurd (ne (same_number r rule h))
placed_at rules count place r rule numbers a lt (inr ne) (inr h) =
    let e : get_or (set numbers r place) rule unnumbered ≡ get_or numbers rule unnumbered = get_or-set_other numbers r rule place unnumbered ne in
    let l = a.each rule lt h in
    omega arith

-- one rule more has a place
pub placed_more : (order : List RuleId) (count place : ℕ) (rule : RuleId) (numbers : List ℕ) → ArePlaced count (take place order) numbers place → slice_get order place ≡ Some rule
    → ArePlaced count (take (place + 1) order) (set numbers rule.0 place) (place + 1)
placed_more order count place rule numbers a at = record {
  size = length-set numbers rule.0 place ∙ a.size;
  each = λ r lt h.
      let more : take (place + 1) order ≡ take place order ++ rule ∷ [] =
      take_more order place rule (slice_get_within order place rule at) ∙ ap (λ y. take place order ++ y ∷ []) (get_or_from_slice_get order place rule rule at) in
      let both = sym (list_any-append (λ q. nat_eq q.0 r) (take place order) (rule ∷ [])) ∙ ap (list_any (λ q. nat_eq q.0 r)) (sym more) ∙ h in
      placed_at (take place order) count place rule.0 r numbers a lt (apart r rule.0) (same_or_more (list_any (λ q. nat_eq q.0 r) (take place order)) (nat_eq rule.0 r) both);
}

pub placed_all : (order : List RuleId) (count place : ℕ) (numbers : List ℕ) → length order ≤ place → place ≤ length order → ArePlaced count (take place order) numbers place → ArePlaced count order numbers (length order)
placed_all order count place numbers le ge a =
    let same : place ≡ length order = omega arith in
    record { size = a.size; each = λ r lt h. subst (λ n. get_or numbers r unnumbered < n) same (a.each r lt (ap (list_any (λ q. nat_eq q.0 r)) (take_all place order le) ∙ h)) }

placed_in : (order : List RuleId) (numbers : List ℕ) (opens : List Bool) (r : ℕ) → get_or numbers r unnumbered < length order → is_placed (record { order = order; numbers = numbers; opens = opens }) r ≡ true
placed_in order numbers opens r lt = lt-ltb (get_or numbers r unnumbered) (length order) lt

-- each has a place in the order
pub queue_placed : (order : List RuleId) (numbers : List ℕ) (opens : List Bool) (count : ℕ) → ArePlaced count order numbers (length order)
    → (r : ℕ) → r < count → list_any (λ q. nat_eq q.0 r) order ≡ true → is_placed (record { order = order; numbers = numbers; opens = opens }) r ≡ true
queue_placed order numbers opens count a r lt h = placed_in order numbers opens r (a.each r lt h)

-- an open rule stands at its place
pub at_places : (order : List RuleId) (numbers : List ℕ) (opens : List Bool) → IsQueue order numbers opens → AreAtPlaces (record { order = order; numbers = numbers; opens = opens })
at_places order numbers opens q = record {
  each = λ rule o.
      let f = q.opened (get_or numbers rule unnumbered) o in
      q.numbered.stands rule (get_or numbers rule unnumbered) refl (slice_get_within order (get_or numbers rule unnumbered) f.0 f.1);
}

-- a rule with a smaller number stands before the other
pub precedes_by : (order : List RuleId) (numbers : List ℕ) (opens : List Bool) (rule other : ℕ) → IsQueue order numbers opens → get_or numbers rule unnumbered < get_or numbers other unnumbered → get_or numbers other unnumbered < length order
    → Precedes order rule other
precedes_by order numbers opens rule other q lt in_order = record {
  place = get_or numbers rule unnumbered;
  further = get_or numbers other unnumbered;
  before = lt;
  at = q.numbered.stands rule (get_or numbers rule unnumbered) refl (omega arith);
  behind = q.numbered.stands other (get_or numbers other unnumbered) refl in_order;
}
