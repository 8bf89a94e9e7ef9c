-- Where a taken slip is found, and where it is not.
use Rattle.std.proofs.Common.{◌≡◌, ◌≢◌, ℕ, zero, suc, ◌+◌, ◌<◌, ◌≤◌, Bool, true, false, cond, ltb, not, List, [], ◌∷◌, map, length, get_or, Option, Some, None, refl, sym, ap, subst, ◌∙◌, ltb-false, arith}
use Rattle.std.specs.Prelude.{Contains, IfNone, position, slice_get, slice_index_or, nat_eq}
use Rattle.std.specs.List.{remove, position_or_len}
use Rattle.std.specs.Arc.{arc_value}
use Rattle.std.specs.Option.{unwrap_or}
use Rattle.std.proofs.lemmas.Bool.{eqb-false}
use Rattle.job_runner.specs.Seats.{times}
use Rattle.job_runner.specs.Slips.{slip_of}
use Rattle.job_runner.specs.Answers.{Answer, Gives}
use Rattle.job_runner.specs.Lists.{Lists, IsFirst, Picks}
use Rattle.job_runner.specs.Outs.{IsFirstOut, IsFirstNotOut, PicksOut, ReturnsAt}
use Rattle.job_runner.specs.declared.slip.Slip.{Slip}
use Rattle.job_runner.specs.declared.slip.Ending.{Ending}
use Rattle.job_runner.specs.declared.entry.Numbered.{Numbered}
use Rattle.job_runner.specs.declared.entry.Ended.{Ended}
use Rattle.job_runner.proofs.Places.{one_place}

abbrev numbers_of : List Numbered → List ℕ
numbers_of t = map (λ (x : Numbered). x.number) t

pub map_remove : {A B : Type 0} (f : A → B) (xs : List A) (i : ℕ) → map f (remove xs i) ≡ remove (map f xs) i
map_remove f [] zero = refl
map_remove f [] (suc i) = refl
map_remove f (x ∷ xs) zero = refl
map_remove f (x ∷ xs) (suc i) = ap (λ ys. f x ∷ ys) (map_remove f xs i)

pub own_at : (t : List Numbered) (place n : ℕ) (s : Slip) (d : Numbered) → place < length t → (get_or t place d).number ≡ n → arc_value (get_or t place d).slip ≡ s
    → slice_get (map slip_of t) place ≡ Some (n, s)
own_at [] place n s d inside at is = absurd (omega arith)
own_at (x ∷ t) zero n s d inside at is = rw (at, is) refl
own_at (x ∷ t) (suc k) n s d inside at is = own_at t k n s d (omega arith) at is

pub number_at : (t : List Numbered) (place n : ℕ) (s : Slip) (d : Numbered) → slice_get (map slip_of t) place ≡ Some (n, s) → (get_or t place d).number ≡ n
number_at [] place n s d at = absurd cc
number_at (x ∷ t) zero n s d at = ap (λ (o : Option (ℕ × Slip)). (unwrap_or o (n, s)).0) at
number_at (x ∷ t) (suc k) n s d at = number_at t k n s d at

contained_at : (t : List Numbered) (k n : ℕ) (s : Slip) (d : Numbered) → k < length (map slip_of t) → slice_index_or (map slip_of t) k (n, s) ≡ (n, s)
    → (k < length t) × ((get_or t k d).number ≡ n) × (arc_value (get_or t k d).slip ≡ s)
contained_at [] k n s d inside is = absurd (omega arith)
contained_at (x ∷ t) zero n s d inside is = (omega arith, ap (λ p. p.0) is, ap (λ p. p.1) is)
contained_at (x ∷ t) (suc k) n s d inside is = let later = contained_at t k n s d (omega arith) is in (omega arith, later.1, later.2)

-- no slip has the number
pub absent : (t : List Numbered) (n : ℕ) (s : Slip) → ((k : ℕ) (d : Numbered) → k < length t → (get_or t k d).number ≢ n) → Contains (map slip_of t) (n, s) → ⊥
absent [] n s none (k, inside, is) = omega arith
absent (x ∷ t) n s none (k, inside, is) = let found = contained_at (x ∷ t) k n s x inside is in none k x found.0 found.1

-- the one slip that has the number is another
pub other : (t : List Numbered) (place n : ℕ) (s : Slip) (d : Numbered) → times n (numbers_of t) ≤ 1 → place < length t → (get_or t place d).number ≡ n
    → arc_value (get_or t place d).slip ≢ s → Contains (map slip_of t) (n, s) → ⊥
other t place n s d few inside at is_other (k, within, is) =
    let found = contained_at t k n s d within is in
    let same = one_place n t k place d few found.0 inside found.1 at in
    is_other (subst (λ j. arc_value (get_or t j d).slip ≡ s) same found.2)

pub none_before : (t : List Numbered) (place n : ℕ) (d : Numbered) → times n (numbers_of t) ≤ 1 → place < length t → (get_or t place d).number ≡ n
    → (k : ℕ) → k < place → (get_or t k d).number ≢ n
none_before t place n d few inside at k before same = let one = one_place n t k place d few (omega arith) inside same at in omega arith

abbrev pub has : ℕ → Numbered → Bool
has n entry = nat_eq entry.number n

step : (b : Bool) (m len : ℕ) → suc len ≤ cond (not b) (1 + m) 0 → (b ≡ false) × (len ≤ m)
step true m len past = absurd (omega arith)
step false m len past = (refl, omega arith)

none_found : (n : ℕ) (t : List Numbered) → length t ≤ position_or_len (has n) t → (k : ℕ) (d : Numbered) → k < length t → (get_or t k d).number ≢ n
none_found n [] past k d inside same = omega arith
none_found n (x ∷ t) past zero d inside same = eqb-false x.number n (step (has n x) (position_or_len (has n) t) (length t) past).0 same
none_found n (x ∷ t) past (suc k) d inside same = none_found n t (step (has n x) (position_or_len (has n) t) (length t) past).1 k d (omega arith) same

gone : (b : Bool) (i : ℕ) → cond b (Some i) None ≡ None → b ≡ false
gone true i e = absurd cc
gone false i e = refl

pub none_at : (n : ℕ) (t : List Numbered) → position (has n) t ≡ None → (k : ℕ) (d : Numbered) → k < length t → (get_or t k d).number ≢ n
none_at n t none = none_found n t (ltb-false (position_or_len (has n) t) (length t) (gone (ltb (position_or_len (has n) t) (length t)) _ none))

pub if_none : {A : Type 0} (o : Option A) (P : Type 0) → P → IfNone o P
if_none None P p = p
if_none (Some x) P p = tt

-- the first of these endings
pub first_is : (items : List Ended) (x : Ended) → 0 < length items → x ≡ slice_index_or items 0 x
    → slice_get {X = ℕ × Ending} (map (λ (entry : Ended). (entry.number, entry.ending)) items) 0 ≡ Some (x.number, x.ending)
first_is [] x some is = absurd (omega arith)
first_is (y ∷ items) x some is = ap (λ (entry : Ended). let end : ℕ × Ending = (entry.number, entry.ending) in Some end) (sym is)

abbrev head_or : ℕ × Ending → Option (ℕ × Ending) → ℕ × Ending
head_or end None = end
head_or end (Some other) = other

-- the slip of the oldest has no place
pub first_not_out : (place : Option ℕ) (ended : List (ℕ × Ending)) (out : List (ℕ × Slip)) (number : ℕ) (slip : Slip) → IsFirst number slip ended → IfNone place (Contains out (number, slip) → ⊥)
    → IfNone place (IsFirstNotOut ended out)
first_not_out (Some place) ended out number slip is none = tt
first_not_out None ended out number slip is none = λ number' ending first there.
    let same : (is.ending, number) ≡ (ending, number') = ap (λ (o : Option (ℕ × Ending)). let end = head_or (number, is.ending) o in (end.1, end.0)) (sym is.first ∙ first) in
    none (subst (Contains out) (ap (λ (p : Ending × ℕ). let end : ℕ × Slip = (p.1, arc_value p.0.slip) in end) (sym same) ∙ ap (λ (s : Slip). let end : ℕ × Slip = (number, s) in end) is.own) there)

-- the oldest ending is picked, and its slip comes off the list
pub picked_out : (place number : ℕ) (ending : Ending) (old new : Lists) (before after : List Numbered) → IsFirstOut place old.ended (map slip_of before)
    → Picks number ending old new → after ≡ remove before place → PicksOut place ending old new (map slip_of before) (map slip_of after)
picked_out place number ending old new before after found picks rest =
    let is : (found.number, found.ending) ≡ (number, ending) = ap (head_or (number, ending)) (sym found.first ∙ ap (λ (ended : List (ℕ × Ending)). slice_get ended 0) picks.oldest) in
    record {
      number = number;
      board = picks;
      own = found.own ∙ ap (λ (end : ℕ × Ending). Some (end.0, arc_value end.1.slip)) is;
      rest = ap (map slip_of) rest ∙ map_remove slip_of before place;
    }

-- what was picked is found
pub found_out : (told : Slip → Option Answer) (gave : Ending → Bool) (place : ℕ) (ending : Ending) (old new : Lists) (out out' : List (ℕ × Slip)) → PicksOut place ending old new out out' → Gives told gave ending
    → ReturnsAt place ending out out' × Gives told gave ending
found_out told gave place ending old new out out' picks own = (record { number = picks.number; own = picks.own; rest = picks.rest }, own)
