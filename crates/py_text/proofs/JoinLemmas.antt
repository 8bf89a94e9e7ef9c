-- Texts in a row, and how long they are.
use Rattle.std.proofs.Common.{arith, ◌≡◌, ◌<◌, ◌+◌, ◌-◌, ◌*◌, ◌^◌, ◌∙◌, ℕ, zero, suc, List, [], ◌∷◌, ◌++◌, ap, sym, refl, length, map, encode_utf8, encode_utf8_all, flat_map}
use Rattle.std.specs.Prelude.{min}
use Rattle.std.specs.List.{join_by, repeat}
use Rattle.std.proofs.lemmas.List.{length-append, flat_map_more}
use denote.Ref.{Bor}
use Rattle.py_text.specs.Joining.{joined, repeated}
use Rattle.py_text.specs.Sizes.{saturated}

-- adding to a length that was told
pub saturated_add : (n a b : ℕ) → n ≡ saturated a → min (n + b) (2 ^ 64 - 1) ≡ saturated (a + b)
saturated_add n a b e = omega arith

flat_map_now : (sep : List ℕ) (xs : List (Bor (List ℕ))) → flat_map (λ x. sep ++ x.now) xs ≡ flat_map (λ x. sep ++ x) (map (λ x. x.now) xs)
flat_map_now sep [] = refl
flat_map_now sep (x ∷ xs) = ap (λ l. sep ++ x.now ++ l) (flat_map_now sep xs)

pub joined_now : (sep : List ℕ) (xs : List (Bor (List ℕ))) → join_by (λ x. x.now) sep xs ≡ joined sep (map (λ x. x.now) xs)
joined_now sep [] = refl
joined_now sep (x ∷ xs) = ap (λ l. x.now ++ l) (flat_map_now sep xs)

pub one_part_more : (sep part before : List ℕ) (parts : List (List ℕ)) (n m k : ℕ) → n ≡ saturated (length (before ++ flat_map (λ y. sep ++ y) parts))
    → m ≡ min (n + length sep) (2 ^ 64 - 1) → k ≡ min (m + length part) (2 ^ 64 - 1) → k ≡ saturated (length (before ++ flat_map (λ y. sep ++ y) (parts ++ part ∷ [])))
one_part_more sep part before parts n m k told with_sep with_part =
    let made = before ++ flat_map (λ y. sep ++ y) parts in
    let first : m ≡ saturated (length made + length sep) = with_sep ∙ saturated_add n (length made) (length sep) told in
    let second : k ≡ saturated (length made + length sep + length part) = with_part ∙ saturated_add m (length made + length sep) (length part) first in
    let whole : length (before ++ flat_map (λ y. sep ++ y) (parts ++ part ∷ [])) ≡ length made + length sep + length part =
    ap length (sym (flat_map_more (λ y. sep ++ y) before parts part)) ∙ omega (arith, length-append made (sep ++ part), length-append sep part) in
    rw whole second

pub length-repeated : (text : List ℕ) (n : ℕ) → length (repeated text n) ≡ length text * n
length-repeated text zero = omega arith
length-repeated text (suc n) = by (length-repeated text n)
  where
    by : length (repeat n text) ≡ length text * n → length (text ++ repeat n text) ≡ length text * suc n
    by h = omega (arith, length-append text (repeat n text))

pub length-interspersed : (new : List ℕ) (cs : List ℕ) → length (flat_map (λ c. new ++ encode_utf8 c) cs) ≡ length cs * length new + length (encode_utf8_all cs)
length-interspersed new [] = omega arith
length-interspersed new (c ∷ cs) = by (length-interspersed new cs)
  where
    by : length (flat_map (λ x. new ++ encode_utf8 x) cs) ≡ length cs * length new + length (encode_utf8_all cs)
        → length (new ++ encode_utf8 c ++ flat_map (λ x. new ++ encode_utf8 x) cs) ≡ suc (length cs) * length new + length (encode_utf8 c ++ encode_utf8_all cs)
    by h = omega (
      arith,
      length-append (new ++ encode_utf8 c) (flat_map (λ x. new ++ encode_utf8 x) cs),
      length-append new (encode_utf8 c),
      length-append (encode_utf8 c) (encode_utf8_all cs),
    )

pub two_more : (made before new : List ℕ) (n m k : ℕ) → n ≡ saturated (length made) → m ≡ min (n + length before) (2 ^ 64 - 1) → k ≡ min (m + length new) (2 ^ 64 - 1)
    → k ≡ saturated (length (made ++ before ++ new))
two_more made before new n m k told first second =
    let a : m ≡ saturated (length made + length before) = first ∙ saturated_add n (length made) (length before) told in
    let b : k ≡ saturated (length made + length before + length new) = second ∙ saturated_add m (length made + length before) (length new) a in
    let whole : length (made ++ before ++ new) ≡ length made + length before + length new = omega (arith, length-append (made ++ before) new, length-append made before) in
    rw whole b

pub one_more : (made more : List ℕ) (n m : ℕ) → n ≡ saturated (length made) → m ≡ min (n + length more) (2 ^ 64 - 1) → m ≡ saturated (length (made ++ more))
one_more made more n m told e = rw (length-append made more) (e ∙ saturated_add n (length made) (length more) told)

pub saturated_short : (n : ℕ) → n < 2 ^ 64 → n ≡ saturated n
saturated_short n l = omega arith
