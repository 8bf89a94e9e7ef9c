-- What is watched where the order is made anew, and where a rule is opened.
use Rattle.std.proofs.Common.{arith, ◌≡◌, ◌≢◌, ◌<◌, ◌≤◌, ◌∙◌, ◌⊎◌, inl, inr, ℕ, ◌+◌, List, [], Bool, true, false, ap, sym, refl, length, get_or, Option, Some, None, nat_eq}
use Rattle.std.specs.Prelude.{slice_get, ltb, is_some}
use Rattle.std.specs.List.{position}
use Rattle.std.proofs.lemmas.Bool.{ltb-true}
use Rattle.std.proofs.lemmas.Option.{same_Some}
use Rattle.std.proofs.lemmas.List.Quantifiers.{position-Some}
use Rattle.scons_base.specs.declared.ids.RuleId.{RuleId}
use Rattle.task_plan.specs.States.{state_of}
use Rattle.task_plan.specs.Queues.{is_placed, number_of, AreNumbers}
use Rattle.task_plan.specs.Plans.{Planned}
use Rattle.task_plan.specs.Admits.{none}
use Rattle.task_plan.specs.Watched.{every, AreWatched, IsOffered, AreQueued, IsInOrder, HasNotes, IsComplete}
use Rattle.task_plan.specs.Watching.{Offers, Orders}
use Rattle.task_plan.specs.declared.states.RuleState.TheVariants.{Waiting}
use Rattle.task_plan.proofs.MarkLemmas.{apart}
use Rattle.task_plan.proofs.PlanLemmas.{true_false}
use Rattle.task_plan.proofs.ListLemmas.{none_past}
use Rattle.task_plan.proofs.QueueLemmas.{same_number}
use Rattle.task_plan.proofs.WatchLemmas.{watched_still, hears_same, offered_still}

-- a rule that is open where it can be decided stays so where others are opened
pub offered_on : (a b : Planned) (rule r : ℕ) → Offers a b rule → (r ≡ rule → is_placed a.queue rule ≡ true) → IsOffered a r → IsOffered b r
offered_on a b rule r o placed k = by (apart r rule)
  where
    by : (r ≡ rule) ⊎ (r ≢ rule) → IsOffered b r
    by (inl same) = rw same (o.this (placed same))
    by (inr ne) =
        offered_still a b r (λ w. sym (ap (λ x. state_of x.states r) o.rest) ∙ w) (λ _. ap (λ x. slice_get x.rules r) o.rest) (λ _. ap (λ x. slice_get x.notes.places r) o.rest) (λ h. o.others r ne ∙ h) k

-- the rules before a place of the order are open where they can be decided
pub record Offering (a b : Planned) (place : ℕ) : Type 0 where
  pub rest : b ≡ record a { queue = b.queue }
  pub order : b.queue.order ≡ a.queue.order
  pub numbers : b.queue.numbers ≡ a.queue.numbers
  pub offers : (r : ℕ) → is_placed a.queue r ≡ true → number_of a.queue r < place → IsOffered b r

pub placed_still : (a b : Planned) (place : ℕ) → Offering a b place → (r : ℕ) → is_placed b.queue r ≡ is_placed a.queue r
placed_still a b place k r = ap (λ x. ltb (number_of x r) (length b.queue.order)) (same_queue) ∙ ap (λ ys. ltb (number_of a.queue r) (length ys)) k.order
  where
    same_queue : record b.queue { opens = []; order = [] } ≡ record a.queue { opens = []; order = [] }
    same_queue = ap (λ ns. record { order = []; numbers = ns; opens = [] }) k.numbers

pub offering_none : (a : Planned) → Offering a a 0
offering_none a = record { rest = refl; order = refl; numbers = refl; offers = λ r p lt. absurd (omega arith) }

pub offering_more : (a b c : Planned) (place : ℕ) (rule : RuleId) → AreNumbers a.queue.order a.queue.numbers → Some rule ≡ slice_get b.queue.order place → Offering a b place → Offers b c rule.0 → Offering a c (place + 1)
offering_more a b c place rule numbered e k o = record {
  rest = o.rest ∙ ap (λ (x : Planned). record x { queue = c.queue }) k.rest;
  order = o.order ∙ k.order;
  numbers = o.numbers ∙ k.numbers;
  offers = λ r p lt. by r p lt (apart (number_of a.queue r) place);
}
  where
    at : slice_get a.queue.order place ≡ Some rule
    at = ap (λ x. slice_get x place) (sym k.order) ∙ sym e

    by : (r : ℕ) → is_placed a.queue r ≡ true → number_of a.queue r < place + 1 → (number_of a.queue r ≡ place) ⊎ (number_of a.queue r ≢ place) → IsOffered c r
    by r p lt (inl same) =
        let within = ltb-true (number_of a.queue r) (length a.queue.order) p in
        let here : slice_get a.queue.order (number_of a.queue r) ≡ Some (record { 0 = r }) = numbered.stands r (number_of a.queue r) refl within in
        let one : rule ≡ (let x : RuleId = record { 0 = r } in x) = same_Some rule (record { 0 = r }) (sym at ∙ ap (slice_get a.queue.order) (sym same) ∙ here) in
        let rule_is : r ≡ rule.0 = ap (λ (x : RuleId). x.0) (sym one) in
        rw rule_is (o.this (placed_still a b place k rule.0 ∙ ap (is_placed a.queue) (sym rule_is) ∙ p))
    by r p lt (inr ne) = offered_on b c rule.0 r o (λ same. placed_still a b place k rule.0 ∙ ap (is_placed a.queue) (sym same) ∙ p) (k.offers r p (omega arith))

pub offering_past : (a b : Planned) (place : ℕ) → None ≡ slice_get b.queue.order place → Offering a b place → Offering a b (place + 1)
offering_past a b place e k = record {
  rest = k.rest;
  order = k.order;
  numbers = k.numbers;
  offers = λ r p lt.
      let past : length a.queue.order ≤ place = none_past a.queue.order place (ap (λ x. slice_get x place) (sym k.order) ∙ sym e) in
      let within = ltb-true (number_of a.queue r) (length a.queue.order) p in
      k.offers r p (omega arith);
}

pub offering_end : (a b : Planned) (place : ℕ) → length a.queue.order ≤ place → Offering a b place → (r : ℕ) → is_placed a.queue r ≡ true → IsOffered b r
offering_end a b place le k r p = let within = ltb-true (number_of a.queue r) (length a.queue.order) p in k.offers r p (omega arith)

-- where some rule is marked, not all are unmarked
pub some_marked : (m : List Bool) → is_some (position (λ mark. mark) m) ≡ true → ((r : ℕ) → get_or m r false ≡ false) → ⊥
some_marked m e f = by (position (λ mark. mark) m) refl e
  where
    by : (o : Option ℕ) → position (λ mark. mark) m ≡ o → is_some o ≡ true → ⊥
    by None p h = let bad : false ≡ true = h in cc
    by (Some r) p h = true_false (get_or m r false) (position-Some (λ mark. mark) m r false p).1 (f r)

pub orders_same : (a : Planned) → IsInOrder a → Orders a a
orders_same a i = record { watched = λ s w. w; queued = λ s q. q; ordered = i; room = λ h. h }

-- the order was made anew, and each rule was opened that can be decided
pub ordered_anew : (a b d : Planned) → b ≡ record a { queue = b.queue } → d ≡ record b { queue = d.queue } → ((r : ℕ) → state_of a.states r ≡ Waiting → is_placed b.queue r ≡ true) → ((r : ℕ) → is_placed d.queue r ≡ is_placed b.queue r)
    → ((r : ℕ) → is_placed b.queue r ≡ true → IsOffered d r) → Orders a (record d { notes = record d.notes { is_ordered = true } })
ordered_anew a b d e f placed same offers = record {
  watched = λ s w. record {
    each = λ r h.
        watched_still a last every every r
        (record { states = λ x. sym (ap (λ y. state_of y.states r) both) ∙ x; rules = λ _. ap (λ y. slice_get y.rules r) both; places = λ _. ap (λ y. slice_get y.notes.places r) both; marks = λ x. ap (λ y. get_or y.marks r false) both ∙ x })
        (hears_same a last every r (ap (λ y. y.states) both) (ap (λ y. y.origins) both) (ap (λ y. y.notes.waiters) both)) (w.each r h);
  };
  queued = λ s q. record {
    placed = λ ok r w. stands r w;
    opened = λ ok r _. record { opened = λ kept at w k g n h. (offers r (sym (same r) ∙ stands r w)).opened kept at w k g n h };
  };
  ordered = record { fits = λ unmarked. refl };
  room = λ h. record {
    marks = let m = ap (λ y. length y.marks) both in let n = ap (λ y. length y.rules) both in let w = h.marks in omega arith;
    waiters = let m = ap (λ y. length y.origins) both in let n = ap (λ y. length y.notes.waiters) both in let w = h.waiters in omega arith;
  };
}
  where
    last : Planned
    last = record d { notes = record d.notes { is_ordered = true } }

    both : d ≡ record a { queue = d.queue }
    both = f ∙ ap (λ (x : Planned). record x { queue = d.queue }) e

    stands : (r : ℕ) → state_of d.states r ≡ Waiting → is_placed d.queue r ≡ true
    stands r w = same r ∙ placed r (sym (ap (λ y. state_of y.states r) both) ∙ w)

-- the order is seen to, and then a rule is opened
pub looked_on : (a b c : Planned) (rule : ℕ) → Orders a b → Offers b c rule → HasNotes a → AreWatched a every none → AreQueued a (nat_eq rule) → IsComplete c
looked_on a b c rule o f h w q =
    let watched = o.watched none w in
    let queued = o.queued (nat_eq rule) q in
    let room = o.room h in
    record {
      watched = record {
        each = λ r _.
            watched_still b c every every r
            (record { states = λ x. sym (ap (λ y. state_of y.states r) f.rest) ∙ x; rules = λ _. ap (λ y. slice_get y.rules r) f.rest; places = λ _. ap (λ y. slice_get y.notes.places r) f.rest; marks = λ x. ap (λ y. get_or y.marks r false) f.rest ∙ x })
            (hears_same b c every r (ap (λ y. y.states) f.rest) (ap (λ y. y.origins) f.rest) (ap (λ y. y.notes.waiters) f.rest)) (watched.each r refl);
      };
      queued = record {
        placed = λ ok r x. f.placed r ∙ queued.placed (before ok) r (sym (ap (λ y. state_of y.states r) f.rest) ∙ x);
        opened = λ ok r _. offered ok r (apart r rule);
      };
      ordered = record { fits = λ unmarked. ap (λ y. y.notes.is_ordered) f.rest ∙ o.ordered.fits (λ r. sym (ap (λ y. get_or y.marks r false) f.rest) ∙ unmarked r) };
      room = record {
        marks = let m = ap (λ y. length y.marks) f.rest in let n = ap (λ y. length y.rules) f.rest in let x = room.marks in omega arith;
        waiters = let m = ap (λ y. length y.origins) f.rest in let n = ap (λ y. length y.notes.waiters) f.rest in let x = room.waiters in omega arith;
      };
    }
  where
    before : c.notes.is_ordered ≡ true → b.notes.is_ordered ≡ true
    before ok = sym (ap (λ y. y.notes.is_ordered) f.rest) ∙ ok

    offered : c.notes.is_ordered ≡ true → (r : ℕ) → (r ≡ rule) ⊎ (r ≢ rule) → IsOffered c r
    offered ok r (inl same) =
        rw same (record {
          opened = λ kept at x k g n h.
              (f.this ((o.queued (nat_eq rule) q).placed (before ok) rule (sym (ap (λ y. state_of y.states rule) f.rest) ∙ x))).opened kept at x k g n h;
        })
    offered ok r (inr ne) = offered_on b c rule r f (λ same. absurd (ne same)) ((o.queued (nat_eq rule) q).opened (before ok) r (other_rule rule r ne))
      where
        other_rule : (m n : ℕ) → n ≢ m → nat_eq m n ≡ false
        other_rule m n ne = by (nat_eq m n) refl
          where
            by : (x : Bool) → nat_eq m n ≡ x → nat_eq m n ≡ false
            by true e = absurd (ne (same_number m n e))
            by false e = e
