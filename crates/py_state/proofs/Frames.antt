-- The names of comprehensions: the code has the innermost ones last.
use Rattle.std.proofs.Common.{arith, ◌≡◌, ◌∙◌, ◌+◌, ℕ, List, [], ◌∷◌, ◌++◌, length, take, get_or, set, reverse, ap, sym}
use Rattle.std.proofs.lemmas.List.{reverse-append, take_more, take_all, length-take-le, set_at}
use Rattle.py_heap.specs.declared.value.Value.{Value}
use Rattle.py_host.specs.Names.{Names, with_name}
use Rattle.py_meaning.specs.Lookup.{set_inner}

split_last : {A : Type 0} (xs : List A) (k : ℕ) (d : A) → length xs ≡ k + 1 → xs ≡ take k xs ++ get_or xs k d ∷ []
split_last xs k d e = sym (take_all (k + 1) xs (omega arith)) ∙ take_more xs k d (omega arith)

-- a name of the innermost ones
pub reverse_set : (xs : List Names) (k : ℕ) (d : Names) (n : List ℕ) (v : Value) → length xs ≡ k + 1 → reverse (set xs k (with_name (get_or xs k d) n v)) ≡ set_inner (reverse xs) n v
reverse_set xs k d n v e =
    let y = get_or xs k d in
    let s : xs ≡ take k xs ++ y ∷ [] = split_last xs k d e in
    let front : length (take k xs) ≡ k = length-take-le k xs (omega arith) in
    let changed : set xs k (with_name y n v) ≡ take k xs ++ with_name y n v ∷ [] =
    ap (λ ys. set ys k (with_name y n v)) s ∙ set_at (take k xs) y [] (with_name y n v) k front in
    let from : set_inner (reverse xs) n v ≡ with_name y n v ∷ reverse (take k xs) =
    ap (λ ys. set_inner (reverse ys) n v) s ∙ ap (λ ys. set_inner ys n v) (reverse-append (take k xs) (y ∷ [])) in
    ap reverse changed ∙ reverse-append (take k xs) (with_name y n v ∷ []) ∙ sym from
