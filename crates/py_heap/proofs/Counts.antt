-- Values made number after number.
use Rattle.std.proofs.Common.{arith, ◌≡◌, ◌∙◌, ◌<◌, ◌≤◌, ◌+◌, ◌-◌, ℕ, zero, suc, List, [], ◌∷◌, ◌++◌, refl, ap, sym}
use Rattle.std.proofs.lemmas.List.{append_assoc, append-nil}
use Rattle.py_heap.specs.declared.value.Value.{Value}
use Rattle.py_heap.specs.declared.value.Value.TheVariants as v
use Rattle.py_heap.specs.Many.{text_values, tuple_values}

texts_at : (n k : ℕ) → 0 < k → text_values n k ≡ v.Text (record { 0 = n }) ∷ text_values (n + 1) (k - 1)
texts_at n zero l = absurd (omega arith)
texts_at n (suc k) l =
    let e : suc k - 1 ≡ k = omega arith in
    let f : n + 1 ≡ suc n = omega arith in
    rw (e, f) refl

tuples_at : (n k : ℕ) → 0 < k → tuple_values n k ≡ v.Tuple (record { 0 = n }) ∷ tuple_values (n + 1) (k - 1)
tuples_at n zero l = absurd (omega arith)
tuples_at n (suc k) l =
    let e : suc k - 1 ≡ k = omega arith in
    let f : n + 1 ≡ suc n = omega arith in
    rw (e, f) refl

pub texts_more : (n end : ℕ) (made new all : List Value) → n < end → made ++ text_values n (end - n) ≡ all → new ≡ made ++ v.Text (record { 0 = n }) ∷ [] → new ++ text_values (n + 1) (end - (n + 1)) ≡ all
texts_more n end made new all l inv e =
    let less : end - (n + 1) ≡ end - n - 1 = omega arith in
    let here = texts_at n (end - n) (omega arith) in
    ap (λ xs. xs ++ text_values (n + 1) (end - (n + 1))) e ∙ append_assoc made (v.Text (record { 0 = n }) ∷ []) (text_values (n + 1) (end - (n + 1)))
    ∙ ap (λ k. made ++ (v.Text (record { 0 = n }) ∷ text_values (n + 1) k)) less ∙ ap (λ xs. made ++ xs) (sym here) ∙ inv

pub tuples_more : (n end : ℕ) (made new all : List Value) → n < end → made ++ tuple_values n (end - n) ≡ all → new ≡ made ++ v.Tuple (record { 0 = n }) ∷ [] → new ++ tuple_values (n + 1) (end - (n + 1)) ≡ all
tuples_more n end made new all l inv e =
    let less : end - (n + 1) ≡ end - n - 1 = omega arith in
    let here = tuples_at n (end - n) (omega arith) in
    ap (λ xs. xs ++ tuple_values (n + 1) (end - (n + 1))) e ∙ append_assoc made (v.Tuple (record { 0 = n }) ∷ []) (tuple_values (n + 1) (end - (n + 1)))
    ∙ ap (λ k. made ++ (v.Tuple (record { 0 = n }) ∷ tuple_values (n + 1) k)) less ∙ ap (λ xs. made ++ xs) (sym here) ∙ inv

pub texts_done : (n end : ℕ) (made all : List Value) → end ≤ n → made ++ text_values n (end - n) ≡ all → made ≡ all
texts_done n end made all l inv =
    let none : end - n ≡ 0 = omega arith in
    sym (append-nil made) ∙ ap (λ k. made ++ text_values n k) (sym none) ∙ inv

pub tuples_done : (n end : ℕ) (made all : List Value) → end ≤ n → made ++ tuple_values n (end - n) ≡ all → made ≡ all
tuples_done n end made all l inv =
    let none : end - n ≡ 0 = omega arith in
    sym (append-nil made) ∙ ap (λ k. made ++ tuple_values n k) (sym none) ∙ inv

pub ruleset counts = (texts_more, tuples_more, texts_done, tuples_done)
