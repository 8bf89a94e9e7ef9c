-- Numbers read from texts.
use Rattle.std.proofs.Common.{arith, ◌≡◌, ◌<◌, ◌^◌, ◌==◌, ℕ, List, [], ◌∷◌, Bool, true, false, not, Err, refl, sym, length, ltb}
use Rattle.std.specs.Prelude.{ℤ, pos, negsuc}
use Rattle.std.specs.Char.{is_ascii_digit, digit_value}
use Rattle.std.specs.List.{list_all}
use Rattle.std.specs.Str.Parse.{AllDigits, IsNumeral, without_leading_sign, signed_digits_value}
use Rattle.std.proofs.lemmas.Bool.{and_parts, ltb-true, not-true, eqb-false}
use Rattle.std.proofs.lemmas.Bool.Decides.{nat_tests}
use mir.Val.{SFits}
use mir.Syntax.{w64}
use Rattle.py_text.specs.declared.fault.IntFault.TheVariants.{Overflow}
use Rattle.py_text.specs.Numbers.{is_decimal, in_64_bits, int_of}

digit_below : (c : ℕ) → is_ascii_digit c ≡ true → digit_value c < 10
digit_below c h = grind (arith, nat_tests)

digits_hold : (ds : List ℕ) → list_all is_ascii_digit ds ≡ true → AllDigits 10 ds
digits_hold [] h = tt
digits_hold (c ∷ cs) h = let k = and_parts (is_ascii_digit c) (list_all is_ascii_digit cs) h in (digit_below c k.0, digits_hold cs k.1)

numeral : (text : List ℕ) → is_decimal text ≡ true → IsNumeral 10 (without_leading_sign text)
numeral text h =
    let ds = without_leading_sign text in
    let k = and_parts (not (length ds == 0)) (list_all is_ascii_digit ds) h in
    let some : length ds ≡ 0 → ⊥ = eqb-false (length ds) 0 (not-true (length ds == 0) k.0) in
    (omega arith, digits_hold ds k.1)

too_large : (z : ℤ) → (SFits w64 z → ⊥) → in_64_bits z ≡ Err Overflow
too_large (pos n) h = by (ltb n (2 ^ 63)) refl
  where
    by : (b : Bool) → ltb n (2 ^ 63) ≡ b → in_64_bits (pos n) ≡ Err Overflow
    by true e = absurd (h (record { sfits = ltb-true n (2 ^ 63) e }))
    by false e = rw e refl
too_large (negsuc n) h = by (ltb n (2 ^ 63)) refl
  where
    by : (b : Bool) → ltb n (2 ^ 63) ≡ b → in_64_bits (negsuc n) ≡ Err Overflow
    by true e = absurd (h (record { sfits = ltb-true n (2 ^ 63) e }))
    by false e = rw e refl

pub int_overflow : (text : List ℕ) → is_decimal text ≡ true → (IsNumeral 10 (without_leading_sign text) × SFits w64 (signed_digits_value 10 text) → ⊥) → Err Overflow ≡ int_of text
int_overflow text h refused = rw h (sym (too_large (signed_digits_value 10 text) (λ f. refused (numeral text h, f))))
