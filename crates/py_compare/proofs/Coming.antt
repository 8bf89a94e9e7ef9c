-- A heap to which texts are to be added.
use Rattle.std.proofs.Common.{◌≡◌, ◌∙◌, ◌<◌, ◌≤◌, ◌-◌, ◌++◌, ℕ, List, [], Some, None, refl, ap, sym, length}
use Rattle.std.specs.Prelude.{slice_get, unwrap_or}
use Rattle.std.proofs.lemmas.List.{append-nil, get_or_append_left, get_or-append_right}
use Rattle.std.proofs.lemmas.Option.{get_or_from_slice_get, unwrap_or-slice_get}
use Rattle.py_heap.specs.Heap.{Objects, text_at}
use Rattle.py_heap.specs.Many.{with_texts}

pub no_texts : (h : Objects) → with_texts h [] ≡ h
no_texts h = ap (λ texts. record h { texts = texts }) (append-nil h.texts)

pub stands : (h : Objects) (texts : List (List ℕ)) (i : ℕ) → i < length h.texts → text_at h i ≡ text_at (with_texts h texts) i
stands h texts i l = sym (get_or_append_left h.texts texts [] i l)

pub comes : (h : Objects) (texts : List (List ℕ)) (i : ℕ) (text : List ℕ) → length h.texts ≤ i → slice_get texts (i - length h.texts) ≡ Some text → text ≡ text_at (with_texts h texts) i
comes h texts i text l at = sym (get_or_from_slice_get texts (i - length h.texts) text [] at) ∙ sym (get_or-append_right h.texts texts (length h.texts) i [] refl l)

pub past : (h : Objects) (texts : List (List ℕ)) (i : ℕ) → length h.texts ≤ i → slice_get texts (i - length h.texts) ≡ None → [] ≡ text_at (with_texts h texts) i
past h texts i l none =
    sym (ap (λ o. unwrap_or o []) none) ∙ unwrap_or-slice_get texts (i - length h.texts) [] ∙ sym (get_or-append_right h.texts texts (length h.texts) i [] refl l)

pub ruleset coming = (stands, comes, past)
