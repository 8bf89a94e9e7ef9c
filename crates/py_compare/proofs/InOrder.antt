-- What a stable sort by the order of all values gives, where the items can be sorted.
use Rattle.std.proofs.Common.{◌≡◌, ◌∙◌, Bool, true, false, cond, List, [], ◌∷◌, Ok, refl, ap}
use Rattle.std.specs.List.{AllByRecursion}
use Rattle.std.specs.List.Sorted.{IsSortedBy, IsStableBy}
use Rattle.py_heap.specs.declared.value.Value.{Value}
use Rattle.py_heap.specs.Heap.{Objects}
use Rattle.py_compare.specs.Outcomes.{mismatch}
use Rattle.py_compare.specs.Sorting.{sortable, sortable_beside, sortable_items, below, in_order, sorted_by}
use Rattle.py_compare.proofs.SortOrder.{in_front, in_front-order, in_front-below, Alike, alike_of, Alike-from_first}
use Rattle.py_compare.proofs.StableSorts.{stable_sort, sorted_alike}

all_alike : (first : Value) (xs : List Value) → sortable_beside first xs ≡ Ok tt → AllByRecursion (Alike first) xs
all_alike first [] e = tt
all_alike first (x ∷ xs) e = by (sortable first x) refl e (all_alike first xs)
  where
    by : (b : Bool) → sortable first x ≡ b → cond b (sortable_beside first xs) (mismatch first x) ≡ Ok tt → (sortable_beside first xs ≡ Ok tt → AllByRecursion (Alike first) xs)
        → Alike first x × AllByRecursion (Alike first) xs
    by true fits left rest = (alike_of first x fits, rest left)
    by false fits left rest = absurd (cc)

by_below : (h : Objects) (xs : List Value) → sortable_items xs ≡ Ok tt → sorted_by (in_front h) xs ≡ in_order h xs
by_below h [] e = refl
by_below h (x ∷ xs) e = sorted_alike (in_front h) (below h) (Alike x) (λ y z p q. in_front-below h (Alike-from_first p q)) (x ∷ xs) (all_alike x (x ∷ xs) e)

-- ys is what a stable sort makes of zs, which has the items xs
pub in_order-is : (h : Objects) (xs zs ys : List Value) → sortable_items xs ≡ Ok tt → zs ≡ xs → IsSortedBy (in_front h) ys → IsStableBy (in_front h) zs ys → ys ≡ in_order h xs
in_order-is h xs zs ys fits same up stable = stable_sort (in_front h) (in_front-order h) zs ys up stable ∙ ap (sorted_by (in_front h)) same ∙ by_below h xs fits
