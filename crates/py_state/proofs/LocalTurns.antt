-- The names that lines bind, one line after another.
use Rattle.std.proofs.Common.{◌≡◌, ◌∙◌, ◌<◌, ◌+◌, ℕ, List, map, length, drop, get_or, ap, sym}
use Rattle.std.proofs.lemmas.List.{drop_more}
use Rattle.py_tree.specs.Tree.{Tree, cons, trees}
use Rattle.py_meaning.specs.LocalNames.{bound_names}

-- trees from a place on: the one there, and those from the next place on
pub trees_first : {A : Type 0} (f : A → Tree) (xs : List A) (i : ℕ) (x : A) → i < length xs → x ≡ get_or xs i x → trees (map f (drop i xs)) ≡ cons (f x) (trees (map f (drop (i + 1) xs)))
trees_first f xs i x l e =
    ap (λ ys. trees (map f ys)) (drop_more xs i x l) ∙ ap (λ y. cons (f y) (trees (map f (drop (i + 1) xs)))) (sym e)

pub bound_turn : {A : Type 0} (f : A → Tree) (xs : List A) (i : ℕ) (x : A) (names new whole : List (List ℕ)) → i < length xs → x ≡ get_or xs i x → bound_names names (trees (map f (drop i xs))) ≡ whole → new ≡ bound_names names (f x) → bound_names new (trees (map f (drop (i + 1) xs))) ≡ whole
bound_turn f xs i x names new whole l e w n =
    ap (λ ns. bound_names ns (trees (map f (drop (i + 1) xs)))) n ∙ ap (bound_names names) (sym (trees_first f xs i x l e)) ∙ w
