-- The value of digits, read one after another.
use Rattle.std.proofs.Common.{inl, inr, ◌≡◌, ℕ, ◌+◌, ◌*◌, ◌<◌, ◌≤◌, Bool, true, false, ◌&&◌, nat_le, List, None, Some, length, take, get_or, refl, arith, ap, sym, ◌∙◌}
use Rattle.std.specs.List.{list_all}
use Rattle.std.specs.Char.{is_digit, digit_value}
use Rattle.std.specs.Str.Parse.{digits_value}
use Rattle.std.proofs.lemmas.List.Folds.{list_all_at, list_all_more}
use Rattle.std.proofs.lemmas.Int.Digits.{digits_value_more}
use Rattle.std.proofs.lemmas.Str.Parse.{digits_value-take-le}
use Rattle.std.specs.Prelude.{if◌then◌else◌, ◌⊎◌}
use Rattle.std.proofs.lemmas.Bool.Decides.{nat_tests}
use Rattle.py_lex.specs.Numbers.{value_in, with_digit}

-- the first digits make a value that isn't too large
pub record IsRead (base : ℕ) (ds : List ℕ) (i value : ℕ) : Type 0 where
  pub digits : list_all (λ d. is_digit d base) (take i ds) ≡ true
  pub value_is : value ≡ digits_value base (take i ds)
  pub fits : nat_le value 0x7FFF_FFFF_FFFF_FFFF ≡ true

either_fails : (b c : Bool) (x : ℕ) → (if b && c then Some x else None) ≡ None → (b ≡ false) ⊎ (c ≡ false)
either_fails true true x e = cc
either_fails true false x e = inr refl
either_fails false c x e = inl refl

both_pass : (b c : Bool) (x y : ℕ) → (if b && c then Some x else None) ≡ Some y → (b ≡ true) × (c ≡ true) × (x ≡ y)
both_pass true true x y e = (refl, refl, cc)
both_pass true false x y e = cc
both_pass false c x y e = cc

none_if : (a b c : Bool) (x : ℕ) → (b ≡ false) ⊎ (c ≡ false) → (if a && (b && c) then Some x else None) ≡ None
none_if false b c x e = refl
none_if true false c x e = refl
none_if true true false x e = refl
none_if true true true x (inl e) = cc
none_if true true true x (inr e) = cc

value_after : (base : ℕ) (ds : List ℕ) (i value : ℕ) → IsRead base ds i value → i < length ds → digits_value base (take (i + 1) ds) ≡ value * base + digit_value (get_or ds i 0)
value_after base ds i value r h = digits_value_more base ds i h ∙ ap (λ v. v * base + digit_value (get_or ds i 0)) (sym r.value_is)

larger : (m n : ℕ) → m ≤ n → nat_le m 0x7FFF_FFFF_FFFF_FFFF ≡ false → nat_le n 0x7FFF_FFFF_FFFF_FFFF ≡ false
larger m n h e = grind (arith, nat_tests)

pub no_value : (base : ℕ) (ds : List ℕ) (i value : ℕ) → 2 ≤ base → IsRead base ds i value → i < length ds → with_digit value base (get_or ds i 0) ≡ None → value_in base ds ≡ None
no_value base ds i value low r h none =
    let why : (is_digit (get_or ds i 0) base ≡ false) ⊎ (nat_le (value * base + digit_value (get_or ds i 0)) 0x7FFF_FFFF_FFFF_FFFF ≡ false) = either_fails _ _ _ none in
    none_if _ _ _ _ (elim why [
      | inl e ↦ inl (list_all_at (λ d. is_digit d base) ds i 0 h e)
      | inr e ↦ inr (larger _ _ (digits_value-take-le base ds (i + 1) (omega arith)) (ap (λ v. nat_le v 0x7FFF_FFFF_FFFF_FFFF) (value_after base ds i value r h) ∙ e))
    ])

and_true : (b c : Bool) → b ≡ true → c ≡ true → (b && c) ≡ true
and_true b c e f = cc

pub more_read : (base : ℕ) (ds : List ℕ) (i value next : ℕ) → IsRead base ds i value → i < length ds → with_digit value base (get_or ds i 0) ≡ Some next → IsRead base ds (i + 1) next
more_read base ds i value next r h some =
    let p = both_pass _ _ _ _ some in record {
      digits = list_all_more (λ d. is_digit d base) ds i 0 h ∙ and_true _ _ r.digits p.0;
      value_is = sym p.2 ∙ sym (value_after base ds i value r h);
      fits = ap (λ v. nat_le v 0x7FFF_FFFF_FFFF_FFFF) (sym p.2) ∙ p.1;
    }
