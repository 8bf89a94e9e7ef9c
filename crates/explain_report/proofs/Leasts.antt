-- The least of two reasons, and of some answers.
use Rattle.std.proofs.Common.{◌≡◌, ℕ, zero, suc, ◌<◌, ◌≤◌, Bool, true, false, cond, List, [], ◌∷◌, Option, Some, None, refl, sym, subst, ap, ◌∙◌, inl, inr, ◌⊎◌, arith}
use Rattle.std.specs.Prelude.{slice_get, nat_lt, nat_eq, ◌&&◌, ◌++◌}
use Rattle.std.specs.Bool.{Decides}
use Rattle.std.proofs.lemmas.Bool.{cases_lt}
use Rattle.std.proofs.lemmas.Bool.Decides.{Decides-or, Decides-and, Decides-ltb, Decides-eqb}
use Rattle.build_means.proofs.Lists.{true_false, none_some, some_same}
use Rattle.explain_report.specs.declared.reason.Reason.{Reason}
use Rattle.explain_report.specs.Order.{number, place_of, is_before, least}
use Rattle.explain_report.specs.Rules.{IsBefore, least_with, least_of}

before_decides : (a b : Reason) → Decides (is_before a b) (IsBefore a b)
before_decides a b =
    Decides-or (nat_lt (number a) (number b)) (nat_eq (number a) (number b) && nat_lt (place_of a) (place_of b)) (Decides-ltb (number a) (number b))
    (Decides-and (nat_eq (number a) (number b)) (nat_lt (place_of a) (place_of b)) (Decides-eqb (number a) (number b)) (Decides-ltb (place_of a) (place_of b)))

irreflexive : (a : Reason) → IsBefore a a → ⊥
irreflexive a (inl lt) = omega (arith, lt)
irreflexive a (inr h) = omega (arith, h.1)

asymmetric : (a b : Reason) → IsBefore a b → IsBefore b a → ⊥
asymmetric a b (inl lt) (inl gt) = omega (arith, lt, gt)
asymmetric a b (inl lt) (inr h) = omega (arith, lt, h.0)
asymmetric a b (inr h) (inl gt) = omega (arith, gt, h.0)
asymmetric a b (inr h) (inr k) = omega (arith, h.1, k.1)

-- what isn't before the one that isn't before another isn't before that
pub not_before : (c a b : Reason) → (IsBefore c a → ⊥) → (IsBefore a b → ⊥) → IsBefore c b → ⊥
not_before c a b m n (inl lt) = by (cases_lt (number a) (number b))
  where
    by : (number a < number b) ⊎ (number b ≤ number a) → ⊥
    by (inl less) = n (inl less)
    by (inr more) = m (inl (omega (arith, lt, more)))
not_before c a b m n (inr h) = by (cases_lt (number a) (number b)) (cases_lt (number b) (number a)) (cases_lt (place_of a) (place_of b))
  where
    by : (number a < number b) ⊎ (number b ≤ number a) → (number b < number a) ⊎ (number a ≤ number b) → (place_of a < place_of b) ⊎ (place_of b ≤ place_of a) → ⊥
    by (inl less) y z = n (inl less)
    by (inr more) (inl greater) z = m (inl (omega (arith, h.0, greater)))
    by (inr more) (inr less) (inl early) = n (inr (omega (arith, more, less), early))
    by (inr more) (inr less) (inr late) = m (inr (omega (arith, h.0, more, less), omega (arith, h.1, late)))

pub record IsLeast (a b c : Reason) : Type 0 where
  pub from : (c ≡ a) ⊎ (c ≡ b)
  pub first : IsBefore a c → ⊥
  pub second : IsBefore b c → ⊥

least_by : (a b : Reason) (test : Bool) → is_before b a ≡ test → IsLeast a b (cond test b a)
least_by a b true e = record { from = inr refl; first = asymmetric b a ((before_decides b a).0 e); second = irreflexive b }
least_by a b false e = record { from = inl refl; first = irreflexive a; second = λ h. true_false (sym ((before_decides b a).1 h) ∙ e) }

pub is_least : (a b : Reason) → IsLeast a b (least a b)
is_least a b = least_by a b (is_before b a) refl

-- no reason among the answers is before the least of them, which is one of them
pub record IsLeastOf (answers : List (Option Reason)) (reason : Reason) : Type 0 where
  pub place : ℕ
  pub stands : slice_get answers place ≡ Some (Some reason)
  pub first : (i : ℕ) (a : Reason) → slice_get answers i ≡ Some (Some a) → IsBefore a reason → ⊥

abbrev HasNone : List (Option Reason) → Type 0
HasNone answers = (i : ℕ) (a : Reason) → slice_get answers i ≡ Some (Some a) → ⊥

abbrev pub Told : List (Option Reason) → Option Reason → Type 0
Told answers None = HasNone answers
Told answers (Some reason) = IsLeastOf answers reason

skipped : (answers : List (Option Reason)) → HasNone answers → HasNone (None ∷ answers)
skipped answers none zero a e = none_some (some_same e)
skipped answers none (suc i) a e = none i a e

skips : (answers : List (Option Reason)) (m : Option Reason) → Told answers m → Told (None ∷ answers) m
skips answers None none = skipped answers none
skips answers (Some reason) is = record { place = suc is.place; stands = is.stands; first = later }
  where
    later : (i : ℕ) (a : Reason) → slice_get (None ∷ answers) i ≡ Some (Some a) → IsBefore a reason → ⊥
    later zero a e h = none_some (some_same e)
    later (suc i) a e h = is.first i a e h

adds : (b : Reason) (answers : List (Option Reason)) (m : Option Reason) → Told answers m → Told (Some b ∷ answers) (least_with b m)
adds b answers None none = record { place = zero; stands = refl; first = only }
  where
    only : (i : ℕ) (a : Reason) → slice_get (Some b ∷ answers) i ≡ Some (Some a) → IsBefore a b → ⊥
    only zero a e h = irreflexive b (subst (λ x. IsBefore x b) (sym (some_same (some_same e))) h)
    only (suc i) a e h = none i a e
adds b answers (Some reason) is = record { place = (stood l.from).0; stands = (stood l.from).1; first = each }
  where
    l : IsLeast b reason (least b reason)
    l = is_least b reason

    stood : (least b reason ≡ b) ⊎ (least b reason ≡ reason) → (i : ℕ) × (slice_get (Some b ∷ answers) i ≡ Some (Some (least b reason)))
    stood (inl e) = (zero, ap (λ x. Some (Some x)) (sym e))
    stood (inr e) = (suc is.place, is.stands ∙ ap (λ x. Some (Some x)) (sym e))

    each : (i : ℕ) (a : Reason) → slice_get (Some b ∷ answers) i ≡ Some (Some a) → IsBefore a (least b reason) → ⊥
    each zero a e h = l.first (subst (λ x. IsBefore x (least b reason)) (sym (some_same (some_same e))) h)
    each (suc i) a e h = not_before a reason (least b reason) (is.first i a e) l.second h

pub told : (answers : List (Option Reason)) → Told answers (least_of answers)
told [] = λ i a e. none_some e
told (None ∷ answers) = skips answers (least_of answers) (told answers)
told (Some b ∷ answers) = adds b answers (least_of answers) (told answers)

-- ---- one answer after another

before_on : (a b c : Reason) → IsBefore a b → IsBefore b c → IsBefore a c
before_on a b c (inl lt) (inl less) = inl (omega (arith, lt, less))
before_on a b c (inl lt) (inr h) = inl (omega (arith, lt, h.0))
before_on a b c (inr h) (inl less) = inl (omega (arith, h.0, less))
before_on a b c (inr h) (inr k) = inr (omega (arith, h.0, k.0), omega (arith, h.1, k.1))

not_so : (a b : Reason) → is_before a b ≡ false → IsBefore a b → ⊥
not_so a b e h = true_false (sym ((before_decides a b).1 h) ∙ e)

-- the least of three, whichever two are taken first
least_joined : (a b c : Reason) → least a (least b c) ≡ least (least a b) c
least_joined a b c = by (is_before c b) (is_before b a) (is_before c a) refl refl refl
  where
    by : (x y z : Bool) → is_before c b ≡ x → is_before b a ≡ y → is_before c a ≡ z → least a (least b c) ≡ least (least a b) c
    by true y true e f g =
        ap (λ t. least a (cond t c b)) e ∙ (ap (λ t. cond t c a) g ∙ sym (right y f))
      where
        right : (t : Bool) → is_before b a ≡ t → least (least a b) c ≡ c
        right true h = ap (λ t. least (cond t b a) c) h ∙ ap (λ t. cond t c b) e
        right false h = ap (λ t. least (cond t b a) c) h ∙ ap (λ t. cond t c a) g
    by true true false e f g = absurd (not_so c a g (before_on c b a ((before_decides c b).0 e) ((before_decides b a).0 f)))
    by true false false e f g = ap (λ t. least a (cond t c b)) e ∙ sym (ap (λ t. least (cond t b a) c) f)
    by false true z e f g =
        ap (λ t. least a (cond t c b)) e ∙ (ap (λ t. cond t b a) f ∙ sym (ap (λ t. least (cond t b a) c) f ∙ ap (λ t. cond t c b) e))
    by false false true e f g = absurd (not_before c b a (not_so c b e) (not_so b a f) ((before_decides c a).0 g))
    by false false false e f g =
        ap (λ t. least a (cond t c b)) e ∙ (ap (λ t. cond t b a) f ∙ sym (ap (λ t. least (cond t b a) c) f ∙ ap (λ t. cond t c a) g))

least_beside : (reason : Reason) (m found : Option Reason) → least_with reason (least_of (m ∷ found ∷ [])) ≡ least_of (least_with reason m ∷ found ∷ [])
least_beside reason None found = refl
least_beside reason (Some a) None = refl
least_beside reason (Some a) (Some b) = ap Some (least_joined reason a b)

-- one answer more
pub least_more : (answers : List (Option Reason)) (found : Option Reason) → least_of (answers ++ found ∷ []) ≡ least_of (least_of answers ∷ found ∷ [])
least_more [] found = refl
least_more (None ∷ answers) found = least_more answers found
least_more (Some reason ∷ answers) found = ap (least_with reason) (least_more answers found) ∙ least_beside reason (least_of answers) found
