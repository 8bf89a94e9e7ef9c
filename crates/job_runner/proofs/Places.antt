-- Each slip that was handed in stands in one place of a board that a history comes to.
use Rattle.std.proofs.Common.{◌≡◌, ◌≢◌, ℕ, zero, suc, ◌+◌, ◌<◌, ◌≤◌, Bool, true, false, cond, ltb, eqb, List, [], ◌∷◌, ◌++◌, map, length, get_or, Option, Some, None, refl, sym, ap, subst, ◌∙◌, eq-eqb, ne_eqb, eqb-true, lt-ltb, le-ltb, arith, inl, inr}
use Rattle.std.specs.Option.{option_map}
use Rattle.std.specs.Prelude.{◌&&◌, ◌⊎◌}
use Rattle.std.proofs.lemmas.Bool.{cases_order, and_parts}
use Rattle.job_runner.specs.Seats.{Seats, End, times, times_ended, places_of, EachOnce, no_slips, outcome_eq}
use Rattle.job_runner.specs.Replay.{behind, without, behind_end, after, after_some, replay_on, replay_of}
use Rattle.job_runner.specs.declared.entry.Numbered as taken
use Rattle.job_runner.specs.declared.change.Change.{Change}
use Rattle.job_runner.specs.declared.change.Change.TheVariants.{HandedIn, Taken, Ended, Picked}

abbrev hit : ℕ → ℕ → ℕ
hit x n = cond (eqb x n) 1 0

times_snoc : (n : ℕ) (xs : List ℕ) (x : ℕ) → times n (xs ++ x ∷ []) ≡ times n xs + hit x n
times_snoc n [] x = omega arith
times_snoc n (y ∷ xs) x = let later = times_snoc n xs x in omega arith

times_ended_snoc : (n : ℕ) (xs : List End) (x : End) → times_ended n (xs ++ x ∷ []) ≡ times_ended n xs + hit x.0 n
times_ended_snoc n [] x = omega arith
times_ended_snoc n (y ∷ xs) x = let later = times_ended_snoc n xs x in omega arith

taken_front : (b : Bool) (xs ys : List ℕ) → cond b (Some xs) None ≡ Some ys → (b ≡ true) × (xs ≡ ys)
taken_front true xs ys e = (refl, cc)
taken_front false xs ys e = absurd cc

taken_front_end : (b : Bool) (xs ys : List End) → cond b (Some xs) None ≡ Some ys → (b ≡ true) × (xs ≡ ys)
taken_front_end true xs ys e = (refl, cc)
taken_front_end false xs ys e = absurd cc

behind_times : (n m : ℕ) (xs ys : List ℕ) → behind n xs ≡ Some ys → times m xs ≡ hit n m + times m ys
behind_times n m [] ys e = absurd cc
behind_times n m (x ∷ xs) ys e =
    let parts = taken_front (eqb x n) xs ys e in
    rw (eqb-true x n parts.0, parts.1) refl

behind_end_times : (end : End) (m : ℕ) (xs ys : List End) → behind_end end xs ≡ Some ys → times_ended m xs ≡ hit end.0 m + times_ended m ys
behind_end_times end m [] ys e = absurd cc
behind_end_times end m (x ∷ xs) ys e =
    let parts = taken_front_end (eqb x.0 end.0 && outcome_eq x.1 end.1) xs ys e in
    rw (eqb-true x.0 end.0 (and_parts (eqb x.0 end.0) (outcome_eq x.1 end.1) parts.0).0, parts.1) refl

mapped : {A B : Type 0} (f : A → B) (o : Option A) (y : B) → option_map f o ≡ Some y → (x : A) × (o ≡ Some x) × (f x ≡ y)
mapped f None y e = absurd cc
mapped f (Some x) y e = (x, refl, cc)

-- either the first one goes, or a later one
without_case : (b : Bool) (x : ℕ) (xs : List ℕ) (o : Option (List ℕ)) (ys : List ℕ) → cond b (Some xs) (option_map (λ others. x ∷ others) o) ≡ Some ys
    → ((b ≡ true) × (xs ≡ ys)) ⊎ ((rest : List ℕ) × (o ≡ Some rest) × (x ∷ rest ≡ ys))
without_case true x xs o ys e = inl (refl, cc)
without_case false x xs o ys e = inr (mapped (λ others. x ∷ others) o ys e)

without_times : (n m : ℕ) (xs ys : List ℕ) → without n xs ≡ Some ys → times m xs ≡ hit n m + times m ys
without_times n m [] ys e = absurd cc
without_times n m (x ∷ xs) ys e =
    elim (without_case (eqb x n) x xs (without n xs) ys e) [
      | inl parts ↦ rw (eqb-true x n parts.0, parts.1) refl
      | inr parts ↦ let later = without_times n m xs parts.0 parts.1 in rw (sym parts.2) (omega arith)
    ]

below_more : (m h : ℕ) → cond (ltb m (h + 1)) 1 0 ≡ cond (ltb m h) 1 0 + hit h m
below_more m h =
    elim (cases_order m h) [
      | inl same ↦ rw (lt-ltb m (h + 1) (omega arith), le-ltb m h (omega arith), eq-eqb h m (sym same)) refl
      | inr apart ↦ elim apart [
        | inl less ↦ rw (lt-ltb m (h + 1) (omega arith), lt-ltb m h less, ne_eqb h m (omega arith)) refl
        | inr more ↦ rw (le-ltb m (h + 1) (omega arith), le-ltb m h (omega arith), ne_eqb h m (omega arith)) refl
      ]
    ]

at_most_one : (b : Bool) → cond b 1 0 ≤ 1
at_most_one true = omega arith
at_most_one false = omega arith

handed_in : (b : Bool) (s t : Seats) → cond b (Some s) None ≡ Some t → (b ≡ true) × (s ≡ t)
handed_in true s t e = (refl, cc)
handed_in false s t e = absurd cc

after_once : (c : Change) (s t : Seats) → EachOnce s → after c s ≡ Some t → EachOnce t
unfolding places_of
after_once (HandedIn n) s t once e =
    let next : Seats = record s { handed_in = s.handed_in + 1; waiting = s.waiting ++ n ∷ [] } in
    let parts = handed_in (eqb n s.handed_in) next t e in
    let same = eqb-true n s.handed_in parts.0 in
    subst EachOnce parts.1
    (λ m. let was = once m in let more = times_snoc m s.waiting n in let bound = below_more m s.handed_in in
    let hits : hit n m ≡ hit s.handed_in m = ap (λ k. hit k m) same in omega arith)
after_once (Taken n) s t once e =
    let parts = mapped (λ rest. record s { waiting = rest; taken = s.taken ++ n ∷ [] }) (behind n s.waiting) t e in
    subst EachOnce parts.2
    (λ m. let was = once m in let less = behind_times n m s.waiting parts.0 parts.1 in let more = times_snoc m s.taken n in omega arith)
after_once (Ended n o) s t once e =
    let parts = mapped (λ rest. record s { taken = rest; ended = s.ended ++ (n, o) ∷ [] }) (without n s.taken) t e in
    subst EachOnce parts.2
    (λ m. let was = once m in let less = without_times n m s.taken parts.0 parts.1 in let more = times_ended_snoc m s.ended (n, o) in omega arith)
after_once (Picked n o) s t once e =
    let parts = mapped (λ rest. record s { ended = rest; picked = s.picked ++ (n, o) ∷ [] }) (behind_end (n, o) s.ended) t e in
    subst EachOnce parts.2
    (λ m. let was = once m in let less = behind_end_times (n, o) m s.ended parts.0 parts.1 in let more = times_ended_snoc m s.picked (n, o) in omega arith)

replay_none : (cs : List Change) → replay_on None cs ≡ None
replay_none [] = refl
replay_none (c ∷ cs) = replay_none cs

none_some : (s : Seats) {A : Type 0} (o : Option Seats) → o ≡ None → o ≡ Some s → A
none_some s o e f = absurd cc

replay_once : (cs : List Change) (o : Option Seats) (t : Seats) → ((s : Seats) → o ≡ Some s → EachOnce s) → replay_on o cs ≡ Some t → EachOnce t
replay_once [] o t once e = once t e
replay_once (c ∷ cs) None t once e = none_some t (replay_on None cs) (replay_none cs) e
replay_once (c ∷ cs) (Some s) t once e = replay_once cs (after c s) t (λ u f. after_once c s u (once s refl) f) e

pub each_once : (cs : List Change) (t : Seats) → replay_of cs ≡ Some t → EachOnce t
unfolding places_of replay_of
each_once cs t e = replay_once cs (Some no_slips) t (λ s f. let empty : no_slips ≡ s = cc in subst EachOnce empty (λ m. rw (le-ltb m 0 (omega arith)) refl)) e

abbrev numbers_of : List taken.Numbered → List ℕ
numbers_of t = map (λ (x : taken.Numbered). x.number) t

stands : (n : ℕ) (t : List taken.Numbered) (k : ℕ) (d : taken.Numbered) → k < length t → (get_or t k d).number ≡ n → 0 < times n (numbers_of t)
stands n [] k d inside at = absurd (omega arith)
stands n (x ∷ t) zero d inside at = rw (eq-eqb x.number n at) (omega arith)
stands n (x ∷ t) (suc k) d inside at = let later = stands n t k d (omega arith) at in omega arith

-- a number that stands in a list once at most has one place there
pub one_place : (n : ℕ) (t : List taken.Numbered) (j k : ℕ) (d : taken.Numbered) → times n (numbers_of t) ≤ 1 → j < length t → k < length t
    → (get_or t j d).number ≡ n → (get_or t k d).number ≡ n → j ≡ k
one_place n [] j k d few in_j in_k at_j at_k = absurd (omega arith)
one_place n (x ∷ t) zero zero d few in_j in_k at_j at_k = refl
one_place n (x ∷ t) zero (suc k) d few in_j in_k at_j at_k =
    let here : hit x.number n ≡ 1 = rw (eq-eqb x.number n at_j) refl in
    let there = stands n t k d (omega arith) at_k in
    absurd (omega arith)
one_place n (x ∷ t) (suc j) zero d few in_j in_k at_j at_k =
    let here : hit x.number n ≡ 1 = rw (eq-eqb x.number n at_k) refl in
    let there = stands n t j d (omega arith) at_j in
    absurd (omega arith)
one_place n (x ∷ t) (suc j) (suc k) d few in_j in_k at_j at_k =
    let same = one_place n t j k d (omega arith) (omega arith) (omega arith) at_j at_k in omega arith

pub one_taken : (s : Seats) (n : ℕ) → EachOnce s → times n s.taken ≤ 1
unfolding places_of
one_taken s n once = let all = once n in let at_most = at_most_one (ltb n s.handed_in) in omega arith
