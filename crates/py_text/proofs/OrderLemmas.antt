-- UTF-8 keeps the order of characters.
use Rattle.std.proofs.Common.{arith, ◌≡◌, ◌<◌, ◌≤◌, ◌+◌, ◌/◌, ◌%◌, ◌∙◌, ℕ, List, [], ◌∷◌, ◌++◌, ap, sym, refl, length, encode_utf8_all, ⊎_elim}
use Rattle.std.specs.declared.cmp.Ordering.TheVariants.{Less, Equal, Greater}
use Rattle.std.specs.Ordering.{nat_cmp, ordering_then, ordering_reverse}
use Rattle.std.specs.Cmp.Lexicographic.{slice_cmp}
use Rattle.std.proofs.lemmas.Bool.{lt-ltb, le-ltb, eq-eqb, cases_lt, cases_order}
use Rattle.std.proofs.lemmas.List.{length-append}
use Rattle.std.proofs.lemmas.Cmp.{nat_list_cmp_total}
use Rattle.std.proofs.lemmas.Str.{length-encode, len_utf8_bounds}
use lib.Utf8.{encode}

below : (x y : ℕ) → x < y → nat_cmp x y ≡ Less
below x y l = rw (lt-ltb x y l) refl

same : (x y : ℕ) → x ≡ y → nat_cmp x y ≡ Equal
same x y e = rw (le-ltb x y (omega arith), eq-eqb x y e) refl

first_below : (x y : ℕ) (xs ys : List ℕ) → x < y → slice_cmp nat_cmp (x ∷ xs) (y ∷ ys) ≡ Less
first_below x y xs ys l = ap (λ o. ordering_then o (slice_cmp nat_cmp xs ys)) (below x y l)

-- where the first items don't decide, the others do
first_at_most : (x y : ℕ) (xs ys : List ℕ) → x ≤ y → (x ≡ y → slice_cmp nat_cmp xs ys ≡ Less) → slice_cmp nat_cmp (x ∷ xs) (y ∷ ys) ≡ Less
first_at_most x y xs ys l later = ⊎_elim
    (λ e. ap (λ o. ordering_then o (slice_cmp nat_cmp xs ys)) (same x y e) ∙ later e)
    (λ other. ⊎_elim (λ b. first_below x y xs ys b) (λ b. absurd (omega arith)) other)
    (cases_order x y)

pub data Shape (c : ℕ) : List ℕ → Type 0 where
  one : c < 128 → Shape c (c ∷ [])
  two : 128 ≤ c → c < 2048 → Shape c ((192 + c / 64) ∷ (128 + c % 64) ∷ [])
  three : 2048 ≤ c → c < 65536 → Shape c ((224 + c / 4096) ∷ (128 + c / 64 % 64) ∷ (128 + c % 64) ∷ [])
  four : 65536 ≤ c → Shape c ((240 + c / 262144) ∷ (128 + c / 4096 % 64) ∷ (128 + c / 64 % 64) ∷ (128 + c % 64) ∷ [])

shape : (c : ℕ) → Shape c (encode c)
unfolding encode
shape c = ⊎_elim
    (λ l. rw (lt-ltb c 128 l) (one l))
    (λ a. rw (le-ltb c 128 a) (⊎_elim
    (λ l. rw (lt-ltb c 2048 l) (two a l))
    (λ b. rw (le-ltb c 2048 b) (⊎_elim
    (λ l. rw (lt-ltb c 65536 l) (three b l))
    (λ d. rw (le-ltb c 65536 d) (four d))
    (cases_lt c 65536)))
    (cases_lt c 2048)))
    (cases_lt c 128)

shapes : (c d : ℕ) (xs ys r t : List ℕ) → c < d → Shape c xs → Shape d ys → slice_cmp nat_cmp (xs ++ r) (ys ++ t) ≡ Less
shapes c d xs ys r t l (one a) (one b) = first_below c d r t (omega arith)
shapes c d xs ys r t l (one a) (two b b') = first_below c (192 + d / 64) r ((128 + d % 64) ∷ t) (omega arith)
shapes c d xs ys r t l (one a) (three b b') = first_below c (224 + d / 4096) r ((128 + d / 64 % 64) ∷ (128 + d % 64) ∷ t) (omega arith)
shapes c d xs ys r t l (one a) (four b) = first_below c (240 + d / 262144) r ((128 + d / 4096 % 64) ∷ (128 + d / 64 % 64) ∷ (128 + d % 64) ∷ t) (omega arith)
shapes c d xs ys r t l (two a a') (one b) = absurd (omega arith)
shapes c d xs ys r t l (two a a') (two b b') =
    first_at_most (192 + c / 64) (192 + d / 64) ((128 + c % 64) ∷ r) ((128 + d % 64) ∷ t) (omega arith) (λ e. first_below (128 + c % 64) (128 + d % 64) r t (omega arith))
shapes c d xs ys r t l (two a a') (three b b') = first_below (192 + c / 64) (224 + d / 4096) ((128 + c % 64) ∷ r) ((128 + d / 64 % 64) ∷ (128 + d % 64) ∷ t) (omega arith)
shapes c d xs ys r t l (two a a') (four b) = first_below (192 + c / 64) (240 + d / 262144) ((128 + c % 64) ∷ r) ((128 + d / 4096 % 64) ∷ (128 + d / 64 % 64) ∷ (128 + d % 64) ∷ t) (omega arith)
shapes c d xs ys r t l (three a a') (one b) = absurd (omega arith)
shapes c d xs ys r t l (three a a') (two b b') = absurd (omega arith)
shapes c d xs ys r t l (three a a') (three b b') =
    first_at_most (224 + c / 4096) (224 + d / 4096) ((128 + c / 64 % 64) ∷ (128 + c % 64) ∷ r) ((128 + d / 64 % 64) ∷ (128 + d % 64) ∷ t) (omega arith) (λ e. first_at_most (128 + c / 64 % 64) (128 + d / 64 % 64) ((128 + c % 64) ∷ r) ((128 + d % 64) ∷ t) (omega arith) (λ f. first_below (128 + c % 64) (128 + d % 64) r t (omega arith)))
shapes c d xs ys r t l (three a a') (four b) = first_below (224 + c / 4096) (240 + d / 262144) ((128 + c / 64 % 64) ∷ (128 + c % 64) ∷ r) ((128 + d / 4096 % 64) ∷ (128 + d / 64 % 64) ∷ (128 + d % 64) ∷ t) (omega arith)
shapes c d xs ys r t l (four a) (one b) = absurd (omega arith)
shapes c d xs ys r t l (four a) (two b b') = absurd (omega arith)
shapes c d xs ys r t l (four a) (three b b') = absurd (omega arith)
shapes c d xs ys r t l (four a) (four b) =
    first_at_most (240 + c / 262144) (240 + d / 262144) ((128 + c / 4096 % 64) ∷ (128 + c / 64 % 64) ∷ (128 + c % 64) ∷ r) ((128 + d / 4096 % 64) ∷ (128 + d / 64 % 64) ∷ (128 + d % 64) ∷ t) (omega arith) (λ e. first_at_most (128 + c / 4096 % 64) (128 + d / 4096 % 64) ((128 + c / 64 % 64) ∷ (128 + c % 64) ∷ r) ((128 + d / 64 % 64) ∷ (128 + d % 64) ∷ t) (omega arith) (λ f. first_at_most (128 + c / 64 % 64) (128 + d / 64 % 64) ((128 + c % 64) ∷ r) ((128 + d % 64) ∷ t) (omega arith) (λ g. first_below (128 + c % 64) (128 + d % 64) r t (omega arith))))

less : (c d : ℕ) (r t : List ℕ) → c < d → slice_cmp nat_cmp (encode c ++ r) (encode d ++ t) ≡ Less
less c d r t l = shapes c d (encode c) (encode d) r t l (shape c) (shape d)

common_front : (front xs ys : List ℕ) → slice_cmp nat_cmp (front ++ xs) (front ++ ys) ≡ slice_cmp nat_cmp xs ys
common_front [] xs ys = refl
common_front (x ∷ front) xs ys = ap (λ o. ordering_then o (slice_cmp nat_cmp (front ++ xs) (front ++ ys))) (same x x refl) ∙ common_front front xs ys

empty_less : (xs : List ℕ) → 0 < length xs → slice_cmp nat_cmp [] xs ≡ Less
empty_less [] l = absurd (omega arith)
empty_less (x ∷ xs) l = refl

empty_greater : (xs : List ℕ) → 0 < length xs → slice_cmp nat_cmp xs [] ≡ Greater
empty_greater [] l = absurd (omega arith)
empty_greater (x ∷ xs) l = refl

encoded_long : (c : ℕ) (r : List ℕ) → 0 < length (encode c ++ r)
encoded_long c r = omega (arith, length-append (encode c) r, length-encode c, (len_utf8_bounds c).0)

-- how two texts compare by their bytes is how they compare by their characters
pub order_kept : (cs ds : List ℕ) → slice_cmp nat_cmp (encode_utf8_all cs) (encode_utf8_all ds) ≡ slice_cmp nat_cmp cs ds
order_kept [] [] = refl
order_kept [] (d ∷ ds) = empty_less (encode d ++ encode_utf8_all ds) (encoded_long d (encode_utf8_all ds))
order_kept (c ∷ cs) [] = empty_greater (encode c ++ encode_utf8_all cs) (encoded_long c (encode_utf8_all cs))
order_kept (c ∷ cs) (d ∷ ds) = by (order_kept cs ds)
  where
    alike : slice_cmp nat_cmp (encode_utf8_all cs) (encode_utf8_all ds) ≡ slice_cmp nat_cmp cs ds → c ≡ d → slice_cmp nat_cmp (encode c ++ encode_utf8_all cs) (encode d ++ encode_utf8_all ds) ≡ slice_cmp nat_cmp (c ∷ cs) (d ∷ ds)
    alike later e = rw (← e) (common_front (encode c) (encode_utf8_all cs) (encode_utf8_all ds) ∙ later ∙ sym (ap (λ o. ordering_then o (slice_cmp nat_cmp cs ds)) (same c c refl)))

    above : d < c → slice_cmp nat_cmp (encode c ++ encode_utf8_all cs) (encode d ++ encode_utf8_all ds) ≡ slice_cmp nat_cmp (c ∷ cs) (d ∷ ds)
    above l =
        nat_list_cmp_total.antisymm (encode c ++ encode_utf8_all cs) (encode d ++ encode_utf8_all ds) ∙ ap ordering_reverse (less d c (encode_utf8_all ds) (encode_utf8_all cs) l)
        ∙ sym (nat_list_cmp_total.antisymm (c ∷ cs) (d ∷ ds) ∙ ap ordering_reverse (first_below d c ds cs l))

    by : slice_cmp nat_cmp (encode_utf8_all cs) (encode_utf8_all ds) ≡ slice_cmp nat_cmp cs ds → slice_cmp nat_cmp (encode c ++ encode_utf8_all cs) (encode d ++ encode_utf8_all ds) ≡ slice_cmp nat_cmp (c ∷ cs) (d ∷ ds)
    by later = ⊎_elim (alike later) (λ other. ⊎_elim (λ l. less c d (encode_utf8_all cs) (encode_utf8_all ds) l ∙ sym (first_below c d cs ds l)) above other) (cases_order c d)
