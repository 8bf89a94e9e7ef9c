-- What is replaced up to the first place of a key, and where there is none.
use Rattle.std.proofs.Common.{◌≡◌, ℕ, zero, suc, ◌+◌, ◌-◌, Bool, true, false, List, [], ◌∷◌, ◌++◌, length, take, drop, get_or, refl, sym, ap, subst, ◌∙◌, append_assoc, arith}
use Rattle.std.specs.Prelude.{◌≢◌}
use Rattle.std.specs.Str.{bytes_eq}
use Rattle.std.proofs.lemmas.Slice.Eq.{bytes_eq-Decides}
use Rattle.std.proofs.lemmas.Grind.{same_number_lists}
use Rattle.std.proofs.lemmas.List.{length-append, length-take, length-drop, get_or-take, take_all}
use Rattle.memchr.specs.Find.{OccursAt, Nowhere}
use Rattle.world_api.specs.Replacing.{replaced_behind, replaced}

-- ---- the key in front

from_start : (bytes : List ℕ) (k : ℕ) → get_or bytes k 0 ≡ get_or bytes (0 + k) 0
from_start bytes k = ap (λ (n : ℕ). get_or bytes n 0) (let e : k ≡ 0 + k = omega arith in e)

in_front : (key bytes : List ℕ) → OccursAt bytes key 0 → bytes_eq (take (length key) bytes) key ≡ true
in_front key bytes at =
    let fits = at.fits in
    let len : length (take (length key) bytes) ≡ length key = omega (arith, length-take (length key) bytes, fits) in
    (bytes_eq-Decides (take (length key) bytes) key).1
    (same_number_lists (take (length key) bytes) key len (λ k lt. get_or-take (length key) bytes k 0 (omega (arith, lt, len)) ∙ from_start bytes k ∙ at.reads k (omega (arith, lt, len))))

stands : (key bytes : List ℕ) → bytes_eq (take (length key) bytes) key ≡ true → OccursAt bytes key 0
stands key bytes e =
    let is : take (length key) bytes ≡ key = (bytes_eq-Decides (take (length key) bytes) key).0 e in
    record {
      fits = omega (arith, ap length is, length-take (length key) bytes);
      reads = λ j lt. sym (from_start bytes j) ∙ sym (get_or-take (length key) bytes j 0 lt) ∙ ap (λ (x : List ℕ). get_or x j 0) is;
    }

not_in_front : (key bytes : List ℕ) → (OccursAt bytes key 0 → ⊥) → bytes_eq (take (length key) bytes) key ≡ false
not_in_front key bytes not = by (bytes_eq (take (length key) bytes) key) refl
  where
    by : (b : Bool) → bytes_eq (take (length key) bytes) key ≡ b → b ≡ false
    by true e = absurd (not (stands key bytes e))
    by false e = refl

-- ---- a byte further

later : (key bytes : List ℕ) (b place : ℕ) → OccursAt (b ∷ bytes) key (place + 1) → OccursAt bytes key place
later key bytes b place at = record {
  fits = let fits = at.fits in omega (arith, fits);
  reads = λ j lt. subst (λ (n : ℕ). get_or (b ∷ bytes) n 0 ≡ get_or key j 0) (let e : place + 1 + j ≡ suc (place + j) = omega arith in e) (at.reads j lt);
}

earlier : (key bytes : List ℕ) (b place : ℕ) → OccursAt bytes key place → OccursAt (b ∷ bytes) key (place + 1)
earlier key bytes b place at = record {
  fits = let fits = at.fits in omega (arith, fits);
  reads = λ j lt. subst (λ (n : ℕ). get_or (b ∷ bytes) n 0 ≡ get_or key j 0) (let e : suc (place + j) ≡ place + 1 + j = omega arith in e) (at.reads j lt);
}

none_later : (key bytes : List ℕ) (b place : ℕ) → Nowhere (OccursAt (b ∷ bytes) key) 0 (place + 1) → Nowhere (OccursAt bytes key) 0 place
none_later key bytes b place none k lo hi at = none (k + 1) (omega arith) (omega (arith, hi)) (earlier key bytes b k at)

-- ---- what is passed over

passed : (key value : List ℕ) (n : ℕ) (bytes : List ℕ) → replaced_behind key value n bytes ≡ replaced_behind key value 0 (drop n bytes)
unfolding replaced_behind
passed key value zero bytes = refl
passed key value (suc n) [] = refl
passed key value (suc n) (b ∷ bytes) = passed key value n bytes

behind_key : (key bytes : List ℕ) (b : ℕ) → length key ≢ 0 → drop (length key - 1) bytes ≡ drop (length key) (b ∷ bytes)
behind_key key bytes b some =
    let e : suc (length key - 1) ≡ length key = omega (arith, some) in
    ap (λ (n : ℕ). drop n (b ∷ bytes)) e

further : (key bytes : List ℕ) (b place : ℕ) → drop (place + length key) bytes ≡ drop (suc place + length key) (b ∷ bytes)
further key bytes b place =
    let e : suc (place + length key) ≡ suc place + length key = omega arith in
    ap (λ (n : ℕ). drop n (b ∷ bytes)) e

-- up to the first place of the key, the value there, and what is replaced behind it
pub up_to : (key value : List ℕ) (place : ℕ) (bytes : List ℕ) → length key ≢ 0 → OccursAt bytes key place → Nowhere (OccursAt bytes key) 0 place
    → replaced_behind key value 0 bytes ≡ take place bytes ++ (value ++ replaced_behind key value 0 (drop (place + length key) bytes))
unfolding replaced_behind
up_to key value place [] some at none = absurd (let fits = at.fits in omega (arith, fits, some))
up_to key value zero (b ∷ bytes) some at none =
    rw (in_front key (b ∷ bytes) at) (ap (λ (x : List ℕ). value ++ x) (passed key value (length key - 1) bytes ∙ ap (replaced_behind key value 0) (behind_key key bytes b some ∙ ap (λ (n : ℕ). drop n (b ∷ bytes)) (let e : length key ≡ 0 + length key = omega arith in e))))
up_to key value (suc place) (b ∷ bytes) some at none =
    let shift : suc place ≡ place + 1 = omega arith in
    let at_next : OccursAt (b ∷ bytes) key (place + 1) = subst (OccursAt (b ∷ bytes) key) shift at in
    let none_next : Nowhere (OccursAt (b ∷ bytes) key) 0 (place + 1) = subst (Nowhere (OccursAt (b ∷ bytes) key) 0) shift none in
    let not = not_in_front key (b ∷ bytes) (none 0 (omega arith) (omega arith)) in
    let rest = up_to key value place bytes some (later key bytes b place at_next) (none_later key bytes b place none_next) in
    rw not (ap (λ (x : List ℕ). b ∷ x) (rest ∙ ap (λ (x : List ℕ). take place bytes ++ (value ++ replaced_behind key value 0 x)) (further key bytes b place)))

-- where the key stands nowhere all stays
pub unchanged : (key value bytes : List ℕ) → Nowhere (OccursAt bytes key) 0 (length bytes + 1) → replaced_behind key value 0 bytes ≡ bytes
unfolding replaced_behind
unchanged key value [] none = refl
unchanged key value (b ∷ bytes) none =
    let shift : length (b ∷ bytes) + 1 ≡ length bytes + 1 + 1 = omega arith in
    let next : Nowhere (OccursAt (b ∷ bytes) key) 0 (length bytes + 1 + 1) = subst (Nowhere (OccursAt (b ∷ bytes) key) 0) shift none in
    rw (not_in_front key (b ∷ bytes) (none 0 (omega arith) (omega arith))) (ap (λ (x : List ℕ). b ∷ x) (unchanged key value bytes (none_later key bytes b (length bytes + 1) next)))

-- ---- the loop

-- a tail as a range gives it
pub tail : (bytes : List ℕ) (n : ℕ) → take (length bytes - n) (drop n bytes) ≡ drop n bytes
tail bytes n = take_all (length bytes - n) (drop n bytes) (omega (arith, length-drop n bytes))

pub goes_on : (key value : List ℕ) (place : ℕ) (rest made all : List ℕ) → length key ≢ 0 → OccursAt rest key place → Nowhere (OccursAt rest key) 0 place → made ++ replaced key value rest ≡ all
    → ((made ++ take place rest) ++ value) ++ replaced key value (drop (place + length key) rest) ≡ all
goes_on key value place rest made all some at none so_far =
    let tail = replaced key value (drop (place + length key) rest) in
    append_assoc (made ++ take place rest) value tail ∙ append_assoc made (take place rest) (value ++ tail) ∙ ap (λ (x : List ℕ). made ++ x) (sym (up_to key value place rest some at none)) ∙ so_far

pub grows : (key value : List ℕ) (place : ℕ) (rest : List ℕ) → length key ≢ 0 → OccursAt rest key place → Nowhere (OccursAt rest key) 0 place
    → length (replaced key value rest) ≡ place + length value + length (replaced key value (drop (place + length key) rest))
grows key value place rest some at none =
    let tail = replaced key value (drop (place + length key) rest) in
    let fits = at.fits in
    omega (arith, ap length (up_to key value place rest some at none), length-append (take place rest) (value ++ tail), length-append value tail, length-take place rest, fits)
