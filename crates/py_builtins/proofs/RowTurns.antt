-- Rows made one after another.
use Rattle.std.proofs.Common.{arith, ◌≡◌, ◌∙◌, ◌<◌, ◌≤◌, ◌+◌, ◌-◌, ℕ, zero, suc, ℤ, pos, ◌+ℤ◌, List, [], ◌∷◌, ◌++◌, refl, ap, sym}
use Rattle.std.specs.Prelude.{slice_index_or}
use Rattle.std.proofs.lemmas.List.{append_assoc, append-nil}
use Rattle.std.proofs.lemmas.Option.{unwrap_or-slice_get}
use Rattle.std.proofs.lemmas.Int.{ints}
use Rattle.py_heap.specs.declared.value.Value.{Value}
use Rattle.py_heap.specs.declared.value.Value.TheVariants as v
use Rattle.py_heap.specs.Many.{text_values}
use Rattle.py_builtins.specs.Numbers.{counted}
use Rattle.py_builtins.specs.Rows.{row_at, rows_from}

rows_at : (place n : ℕ) (columns : List (List Value)) → 0 < n → rows_from place n columns ≡ row_at columns place ∷ rows_from (place + 1) (n - 1) columns
rows_at place zero columns l = absurd (omega arith)
rows_at place (suc n) columns l =
    let e : suc n - 1 ≡ n = omega arith in
    let f : place + 1 ≡ suc place = omega arith in
    rw (e, f) refl

pub rows_more : (place end : ℕ) (columns : List (List Value)) (row : List Value) (made new all : List (List Value)) → place < end → row ≡ row_at columns place → made ++ rows_from place (end - place) columns ≡ all → new ≡ made ++ row ∷ []
    → new ++ rows_from (place + 1) (end - (place + 1)) columns ≡ all
rows_more place end columns row made new all l r inv e =
    let less : end - (place + 1) ≡ end - place - 1 = omega arith in
    let here = rows_at place (end - place) columns (omega arith) in
    ap (λ xs. xs ++ rows_from (place + 1) (end - (place + 1)) columns) e ∙ append_assoc made (row ∷ []) (rows_from (place + 1) (end - (place + 1)) columns)
    ∙ ap (λ x. made ++ (x ∷ rows_from (place + 1) (end - (place + 1)) columns)) r ∙ ap (λ k. made ++ (row_at columns place ∷ rows_from (place + 1) k columns)) less ∙ ap (λ xs. made ++ xs) (sym here) ∙ inv

pub rows_done : (place end : ℕ) (columns : List (List Value)) (made all : List (List Value)) → end ≤ place → made ++ rows_from place (end - place) columns ≡ all → made ≡ all
rows_done place end columns made all l inv =
    let none : end - place ≡ 0 = omega arith in
    sym (append-nil made) ∙ ap (λ k. made ++ rows_from place k columns) (sym none) ∙ inv

pub counted_at : (n place : ℕ) (from : ℤ) → place < n → slice_index_or (counted n from) place v.Nil ≡ v.Int (from +ℤ pos place)
counted_at zero place from l = absurd (omega arith)
counted_at (suc n) zero from l = let e : from +ℤ pos 0 ≡ from = grind (arith, ints) in rw e refl
counted_at (suc n) (suc place) from l =
    let e : from +ℤ pos 1 +ℤ pos place ≡ from +ℤ pos (suc place) = grind (arith, ints) in
    counted_at n place (from +ℤ pos 1) (omega arith) ∙ ap v.Int e

pub texts_at : (n first place : ℕ) → place < n → slice_index_or (text_values first n) place v.Nil ≡ v.Text (record { 0 = first + place })
texts_at zero first place l = absurd (omega arith)
texts_at (suc n) first zero l = let e : first + 0 ≡ first = omega arith in rw e refl
texts_at (suc n) first (suc place) l =
    let e : suc first + place ≡ first + suc place = omega arith in
    texts_at n (suc first) place (omega arith) ∙ ap (λ k. v.Text (record { 0 = k })) e

pub texts_past : (n first place : ℕ) → n ≤ place → slice_index_or (text_values first n) place v.Nil ≡ v.Nil
texts_past zero first zero l = refl
texts_past zero first (suc place) l = refl
texts_past (suc n) first zero l = absurd (omega arith)
texts_past (suc n) first (suc place) l = texts_past n (suc first) place (omega arith)

pub ruleset row_turns = (rows_more, rows_done)

pub ruleset text_places = (texts_at, texts_past)

pub ruleset key_places = (unwrap_or-slice_get)
