-- The value of digits, read one after another.
use Rattle.std.proofs.Common.{arith, ◌≡◌, ◌<◌, ◌≤◌, ◌+◌, ◌*◌, ◌∷◌, [], ℕ, suc, min, List, length, drop, get_or, drop-cons, drop_of_length-le, add-one, ◌∙◌}
use Rattle.std.specs.Char.{digit_value}
use Rattle.std.specs.Str.Parse.{digits_value_after}
use Rattle.env_text.specs.declared.number.TheConstants.{LARGEST}

-- what is above the largest number counts as that number, before further digits too
capped_after : (ds : List ℕ) (n m : ℕ) → min n LARGEST ≡ min m LARGEST → min (digits_value_after 10 n ds) LARGEST ≡ min (digits_value_after 10 m ds) LARGEST
capped_after [] n m e = e
capped_after (d ∷ ds) n m e = capped_after ds (n * 10 + digit_value d) (m * 10 + digit_value d) (omega arith)

pub digit_read : (ds : List ℕ) (i n m v : ℕ) → min (digits_value_after 10 n (drop i ds)) LARGEST ≡ v → i < length ds
    → m ≡ min (n * 10 + digit_value (get_or ds i 0)) LARGEST → min (digits_value_after 10 m (drop (i + 1) ds)) LARGEST ≡ v
digit_read ds i n m v before below is =
    let cut = drop-cons ds i 0 below in
    let next : min (digits_value_after 10 (n * 10 + digit_value (get_or ds i 0)) (drop (suc i) ds)) LARGEST ≡ v = rw cut at before in
    rw add-one (capped_after (drop (suc i) ds) m (n * 10 + digit_value (get_or ds i 0)) (omega arith) ∙ next)

pub digits_read : (ds : List ℕ) (i n v : ℕ) → min (digits_value_after 10 n (drop i ds)) LARGEST ≡ v → length ds ≤ i → n ≤ LARGEST → n ≡ v
digits_read ds i n v read over below =
    let over : drop i ds ≡ [] = drop_of_length-le ds over in
    let e : min n LARGEST ≡ v = rw over at read in
    omega arith
