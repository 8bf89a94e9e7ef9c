-- Reading one item after the other, as a loop does.
use Rattle.std.proofs.Common.{◌≡◌, ℕ, suc, ◌-◌, ◌+◌, ◌≤◌, ◌<◌, List, [], ◌∷◌, ◌++◌, Option, Some, None, refl, sym, ap, ◌∙◌, append_assoc, arith}
use Rattle.std.proofs.lemmas.List.{append-nil}
use Rattle.deciders.specs.declared.unread.Unread.{Unread}
use Rattle.deciders.specs.declared.unread.Unread.TheVariants as unread
use Rattle.deciders.specs.Reading.{◌>>=◌, Fails, many}

-- what was read before, and what is still read
abbrev pub with_front : {A : Type 0} → List A → Option (List A × List ℕ) → Option (List A × List ℕ)
with_front front read = read >>= λ x. Some (front ++ x.0, x.1)

regroup : {A : Type 0} (front : List A) (item : A) (read : Option (List A × List ℕ)) → with_front front (read >>= λ x. Some (item ∷ x.0, x.1)) ≡ with_front (front ++ item ∷ []) read
regroup {A} front item (Some x) = ap (λ (items : List A). Some (items, x.1)) (simp append_assoc)
regroup front item None = refl

pub goes_on : {A : Type 0} (read : List ℕ → Option (A × List ℕ)) (front : List A) (count i : ℕ) (bytes : List ℕ) (item : A) (behind : List ℕ) (total : Option (List A × List ℕ)) → i < count → read bytes ≡ Some (item, behind)
    → with_front front (many read (count - i) bytes) ≡ total → with_front (front ++ item ∷ []) (many read (count - (i + 1)) behind) ≡ total
unfolding many
goes_on read front count i bytes item behind total lt h so_far =
    let k : count - i ≡ suc (count - (i + 1)) = omega arith in
    let one : with_front front (many read (count - i) bytes) ≡ with_front (front ++ item ∷ []) (many read (count - (i + 1)) behind) = rw (k, h) (regroup front item (many read (count - (i + 1)) behind)) in
    sym one ∙ so_far

pub ends : {A : Type 0} (read : List ℕ → Option (A × List ℕ)) (e : Unread) (front : List A) (count i : ℕ) (bytes : List ℕ) (total : Option (List A × List ℕ)) → i < count → Fails e (read bytes)
    → with_front front (many read (count - i) bytes) ≡ total → Fails e total
unfolding many
ends read unread.Memory front count i bytes total lt h so_far = tt
ends read unread.Malformed front count i bytes total lt h so_far =
    let k : count - i ≡ suc (count - (i + 1)) = omega arith in
    let one : with_front front (many read (count - i) bytes) ≡ None = rw (k, h) refl in
    sym so_far ∙ one

pub is_done : {A : Type 0} (read : List ℕ → Option (A × List ℕ)) (front : List A) (count i : ℕ) (bytes : List ℕ) (total : Option (List A × List ℕ)) → count ≤ i → with_front front (many read (count - i) bytes) ≡ total → total ≡ Some (front, bytes)
unfolding many
is_done {A} read front count i bytes total le so_far =
    let k : count - i ≡ 0 = omega arith in
    let one : with_front front (many read (count - i) bytes) ≡ Some (front, bytes) = rw k (ap (λ (items : List A). Some (items, bytes)) (append-nil front)) in
    sym so_far ∙ one
