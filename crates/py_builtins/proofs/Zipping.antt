-- What rows of the items of some values cost, and what is gathered from each value.
use Rattle.std.proofs.Common.{arith, ◌≡◌, ◌∙◌, ◌<◌, ◌≤◌, ◌+◌, ◌*◌, ◌^◌, ℕ, zero, suc, List, [], ◌∷◌, ◌++◌, length, Ok, Err, refl, ap, sym}
use Rattle.std.proofs.lemmas.List.{append_assoc}
use Rattle.py_heap.specs.declared.value.Value.{Value}
use Rattle.py_heap.specs.declared.fault.ValueFault.TheVariants as fault
use Rattle.py_heap.specs.Heap.{Objects}
use Rattle.py_heap.specs.Given.{next_list}
use Rattle.py_heap.specs.Many.{with_texts, with_tuple_list}
use Rattle.scons_base.specs.declared.limits.TheConstants.{LIST_LIMIT}
use Rattle.py_heap.specs.Units.{Units}
use Rattle.py_heap.proofs.Rooms.{limited_within, too_long_given}
use Rattle.py_compare.specs.Iterables.{iterable_texts, total_length}
use Rattle.py_builtins.specs.Rows.{rows_from, width_of, zip_texts, zip_columns, zip_cost, paid_zip, zipped}

pub width-none : (n width : ℕ) → n ≤ 0 → width_of n width ≤ LIST_LIMIT
width-none zero width l = omega arith
width-none (suc n) width l = absurd (omega arith)

pub width-few : (n width : ℕ) → width ≤ LIST_LIMIT → width_of n width ≤ LIST_LIMIT
width-few zero width l = omega arith
width-few (suc n) width l = l

width-some : (n width : ℕ) → 0 < n → width_of n width ≡ width
width-some zero width l = absurd (omega arith)
width-some (suc n) width l = refl

module _ (h : Objects) (xs : List Value) (n : ℕ) where
  pub zip_passes : LIST_LIMIT < n → n < 2 ^ 64 → zip_cost h xs n ≡ Err (fault.TooBig n)
  zip_passes l fits = rw (too_long_given LIST_LIMIT n n l fits) refl

  pub zip_too_wide : n ≤ LIST_LIMIT → 0 < n → LIST_LIMIT < length xs → length xs < 2 ^ 64 → zip_cost h xs n ≡ Err (fault.TooBig (length xs))
  zip_too_wide l some w fits =
      rw (limited_within LIST_LIMIT n n l, width-some n (length xs) some, too_long_given LIST_LIMIT (length xs) (n * (1 + length xs) + total_length (zip_texts h n xs)) w fits) refl

  pub zip_within : (cost : ℕ) → n ≤ LIST_LIMIT → width_of n (length xs) ≤ LIST_LIMIT → cost ≡ n * (1 + length xs) + total_length (zip_texts h n xs) → zip_cost h xs n ≡ Ok cost
  zip_within cost l w c =
      rw (limited_within LIST_LIMIT n n l, limited_within LIST_LIMIT (width_of n (length xs)) (n * (1 + length xs) + total_length (zip_texts h n xs)) w, c) refl

pub ruleset zip_costs = (zip_passes, zip_too_wide, zip_within, width-none, width-few)

total_length-append : (xs ys : List (List ℕ)) → total_length (xs ++ ys) ≡ total_length xs + total_length ys
total_length-append [] ys = omega arith
total_length-append (x ∷ xs) ys = omega (arith, total_length-append xs ys)

pub bytes_more : (h : Objects) (n : ℕ) (xs rest : List Value) (x : Value) (bytes more new all : ℕ) → xs ≡ x ∷ rest → bytes + total_length (zip_texts h n xs) ≡ all → more ≡ total_length (iterable_texts h n x) → new ≡ bytes + more
    → new + total_length (zip_texts h n rest) ≡ all
bytes_more h n xs rest x bytes more new all e inv m s =
    let here : total_length (zip_texts h n xs) ≡ total_length (iterable_texts h n x) + total_length (zip_texts h n rest) = ap (λ l. total_length (zip_texts h n l)) e ∙ total_length-append (iterable_texts h n x) (zip_texts h n rest) in
    omega arith

pub texts_more : (texts new first more all : List (List ℕ)) → texts ++ (first ++ more) ≡ all → new ≡ texts ++ first → new ++ more ≡ all
texts_more texts new first more all inv e = ap (λ xs. xs ++ more) e ∙ append_assoc texts first more ∙ inv

pub zip_made : (h : Objects) (u left : Units) (xs : List Value) (n : ℕ) (texts : List (List ℕ)) (rows : List (List Value)) (x : Value) (new : Objects) → paid_zip h u xs n ≡ Ok left → texts ≡ zip_texts h n xs
    → rows ≡ rows_from 0 n (zip_columns h (length h.texts) n xs) → x ≡ next_list h → new ≡ with_tuple_list (with_texts h texts) rows → zipped h u xs n ≡ Ok (x, new, left)
zip_made h u left xs n texts rows x new p t r l w = rw (p, l, w, t, r) refl

pub ruleset zip_turns = (texts_more)
