-- What running jobs keep to themselves, after one job more and one job fewer.
use Rattle.std.proofs.Common.{◌≡◌, ◌≢◌, ◌∙◌, ◌⊎◌, ◌<◌, ◌≤◌, ◌+◌, ◌==◌, sym, refl, ℕ, suc, zero, List, [], ◌∷◌, ◌++◌, ap, subst, map, length, get_or, inl, inr, arith, Contains, Bool, true, false, cond, not, Some, None}
use Rattle.std.specs.List.{position, position_or_len, remove}
use Rattle.std.proofs.lemmas.Bool.{eqb-true, cases_lt}
use Rattle.std.proofs.lemmas.List.{get_or_default}
use Rattle.std.proofs.lemmas.List.Quantifiers.{position-Some}
use Rattle.std.proofs.lemmas.Bool.Decides.{nat_tests}
use Rattle.std.proofs.lemmas.List.Elements.{Contains-push_cases, Contains-append_right}
use Rattle.build_run.specs.Holds.{AreApart, Busy, without}
use Rattle.build_run.specs.declared.tickets.Hold.{Hold}

pub at_front : {X : Type 0} (xs : List X) (x : X) → Contains (x ∷ xs) x
at_front xs x = (0, omega arith, refl)

pub further : {X : Type 0} (xs : List X) (x y : X) → Contains xs y → Contains (x ∷ xs) y
further xs x y h = (suc h.0, omega (arith, h.1), h.2)

pub in_front : {X : Type 0} (xs : List X) (x y : X) → Contains (x ∷ xs) y → (x ≡ y) ⊎ Contains xs y
in_front xs x y (zero, lt, is) = inl is
in_front xs x y (suc k, lt, is) = inr (k, omega (arith, lt), is)

equal_to_itself : (n : ℕ) → (n == n) ≡ true
equal_to_itself n = grind (arith, nat_tests)

not_equal : (n m : ℕ) → n ≢ m → (n == m) ≡ false
not_equal n m h = grind (arith, nat_tests)

left_by : (b : Bool) (holds rest : List Hold) (hold x : Hold) → ((y : Hold) → Contains rest y → Contains holds y) → Contains (cond b holds (hold ∷ rest)) x → Contains (hold ∷ holds) x
left_by true holds rest hold x so h = further holds hold x h
left_by false holds rest hold x so h = elim (in_front rest hold x h) [
  | inl same ↦ subst (Contains (hold ∷ holds)) same (at_front holds hold)
  | inr more ↦ further holds hold x (so x more)
]

pub left_in : (id : ℕ) (holds : List Hold) (x : Hold) → Contains (without id holds) x → Contains holds x
left_in id [] x h = h
left_in id (hold ∷ holds) x h = left_by (hold.rule.0 == id) holds (without id holds) hold x (left_in id holds) h

apart_by : (b : Bool) (holds rest : List Hold) (hold : Hold) → ((y : Hold) → Contains rest y → Contains holds y) → AreApart (hold ∷ holds) → AreApart rest → AreApart (cond b holds (hold ∷ rest))
apart_by true holds rest hold so apart left = apart.1
apart_by false holds rest hold so apart left = ((λ other h. apart.0 other (so other h)), left)

pub apart_without : (id : ℕ) (holds : List Hold) → AreApart holds → AreApart (without id holds)
apart_without id [] apart = apart
apart_without id (hold ∷ holds) apart = apart_by (hold.rule.0 == id) holds (without id holds) hold (left_in id holds) apart (apart_without id holds apart.1)

pub in_pushed : {X : Type 0} (xs : List X) (x other : X) → Contains (xs ++ x ∷ []) other → Contains xs other ⊎ (x ≡ other)
in_pushed xs x other h = Contains-push_cases xs x other h

pub apart_push : (holds : List Hold) (x : Hold) → AreApart holds → ((hold : Hold) → Contains holds hold → hold.rule.0 ≢ x.rule.0) → AreApart (holds ++ x ∷ [])
apart_push [] x apart new = ((λ other h. absurd (omega (arith, h.1))), tt)
apart_push (hold ∷ holds) x apart new = (
  (λ other h e. elim (in_pushed holds x other h) [
    | inl before ↦ apart.0 other before e
    | inr same ↦ new hold (at_front holds hold) (sym e ∙ ap (λ (y : Hold). y.rule.0) (sym same))
  ]),
  apart_push holds x apart.1 (λ y h. new y (further holds hold y h)),
)

pub without_middle : (front back : List Hold) (x : Hold) → AreApart (front ++ x ∷ back) → without x.rule.0 (front ++ x ∷ back) ≡ front ++ back
without_middle [] back x apart = ap (λ b. cond b back (x ∷ without x.rule.0 back)) (equal_to_itself x.rule.0)
without_middle (hold ∷ front) back x apart =
    let other : x.rule.0 ≢ hold.rule.0 = apart.0 x (Contains-append_right front (x ∷ back) x (at_front back x)) in
    let differs : (hold.rule.0 == x.rule.0) ≡ false = not_equal (hold.rule.0) (x.rule.0) (λ e. other (sym e)) in
    ap (λ b. cond b (front ++ x ∷ back) (hold ∷ without x.rule.0 (front ++ x ∷ back))) differs ∙ ap (λ ys. hold ∷ ys) (without_middle front back x apart.1)

abbrev pub of_busy : Busy → Hold
of_busy b = b.hold

pub taken_out : (id : ℕ) (bs : List Busy) (i : ℕ) (d : Busy) → i < length bs → ((get_or bs i d).hold.rule.0 == id) ≡ true → ((k : ℕ) → k < i → ((get_or bs k d).hold.rule.0 == id) ≡ false) → map of_busy (remove bs i) ≡ without id (map of_busy bs)
taken_out id [] i d lt at before = absurd (omega arith)
taken_out id (b ∷ bs) zero d lt at before = ap (λ t. cond t (map of_busy bs) (b.hold ∷ without id (map of_busy bs))) (sym at)
taken_out id (b ∷ bs) (suc i) d lt at before =
    ap (λ hs. b.hold ∷ hs) (taken_out id bs i d (omega arith) at (λ k h. before (suc k) (omega arith)))
    ∙ ap (λ t. cond t (map of_busy bs) (b.hold ∷ without id (map of_busy bs))) (sym (before 0 (omega arith)))

not_there_by : (t : Bool) (id : ℕ) (b : Busy) (bs : List Busy) → (length (b ∷ bs) ≤ cond (not t) (1 + position_or_len (λ (b : Busy). b.hold.rule.0 == id) bs) 0) → (length bs ≤ position_or_len (λ (b : Busy). b.hold.rule.0 == id) bs → without id (map of_busy bs) ≡ map of_busy bs) → cond t (map of_busy bs) (b.hold ∷ without id (map of_busy bs)) ≡ b.hold ∷ map of_busy bs
not_there_by true id b bs far so = absurd (omega (arith, far))
not_there_by false id b bs far so = ap (λ hs. b.hold ∷ hs) (so (omega (arith, far)))

pub not_there : (id : ℕ) (bs : List Busy) → length bs ≤ position_or_len (λ (b : Busy). b.hold.rule.0 == id) bs → without id (map of_busy bs) ≡ map of_busy bs
not_there id [] far = refl
not_there id (b ∷ bs) far = not_there_by (b.hold.rule.0 == id) id b bs far (not_there id bs)

abbrev pub has_id : ℕ → Busy → Bool
has_id id b = b.hold.rule.0 == id

pub found_id : (id : ℕ) (bs : List Busy) (i : ℕ) (d : Busy) → position (has_id id) bs ≡ Some i → (get_or bs i d).hold.rule.0 ≡ id
found_id id bs i d is = eqb-true _ _ (position-Some (has_id id) bs i d is).1

some_busy : (bs : List Busy) (i : ℕ) → i < length bs → Busy
some_busy [] i lt = absurd (omega arith)
some_busy (b ∷ bs) i lt = b

-- a place is given only within the list
pub within : (id : ℕ) (bs : List Busy) (i : ℕ) → position (has_id id) bs ≡ Some i → i < length bs
within id bs i is = grind (arith, nat_tests)

pub taken_at : (id : ℕ) (bs : List Busy) (i : ℕ) → position (has_id id) bs ≡ Some i → map of_busy (remove bs i) ≡ without id (map of_busy bs)
taken_at id bs i is =
    let lt = within id bs i is in
    let d = some_busy bs i lt in
    let at = position-Some (has_id id) bs i d is in
    taken_out id bs i d lt at.1 at.2

-- where no place is given none has the number
pub none_there : (id : ℕ) (bs : List Busy) → position (has_id id) bs ≡ None → without id (map of_busy bs) ≡ map of_busy bs
none_there id bs is =
    let far : length bs ≤ position_or_len (has_id id) bs = grind (arith, nat_tests) in
    not_there id bs far

pub below_one_more : (P : Hold → Type 0) (bs : List Busy) (i : ℕ) (b : Busy) → i < length bs → b ≡ get_or bs i b → ((k : ℕ) (d : Busy) → k < i → P (get_or bs k d).hold) → P b.hold → (k : ℕ) (d : Busy) → k < i + 1 → P (get_or bs k d).hold
below_one_more P bs i b lt is below here k d h = elim (cases_lt k i) [
  | inl before ↦ below k d before
  | inr after ↦
      let same : k ≡ i = omega (arith, h, after) in
      subst (λ n. P (get_or bs n d).hold) (sym same) (subst (λ (x : Busy). P x.hold) (is ∙ get_or_default bs i b d lt) here)
]

pub each_mapped : (P : Hold → Type 0) (bs : List Busy) → ((k : ℕ) (d : Busy) → k < length bs → P (get_or bs k d).hold) → (hold : Hold) → Contains (map of_busy bs) hold → P hold
each_mapped P [] each hold h = absurd (omega (arith, h.1))
each_mapped P (b ∷ bs) each hold h = elim (in_front (map of_busy bs) b.hold hold h) [
  | inl same ↦ subst P same (each 0 b (omega arith))
  | inr more ↦ each_mapped P bs (λ k d lt. each (suc k) d (omega (arith, lt))) hold more
]

no_more_by : (b : Bool) (holds rest : List Hold) (hold : Hold) → length rest ≤ length holds → length (cond b holds (hold ∷ rest)) ≤ length (hold ∷ holds)
no_more_by true holds rest hold le = omega arith
no_more_by false holds rest hold le = omega (arith, le)

pub no_more : (id : ℕ) (holds : List Hold) → length (without id holds) ≤ length holds
no_more id [] = omega arith
no_more id (hold ∷ holds) = no_more_by (hold.rule.0 == id) holds (without id holds) hold (no_more id holds)
