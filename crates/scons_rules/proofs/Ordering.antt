-- Paths that get numbers: which of several stand twice makes no difference.
use Rattle.std.proofs.Common.{◌≡◌, ◌∙◌, ℕ, List, [], ◌∷◌, ◌++◌, ◌||◌, Bool, true, false, ap, sym, refl}
use Rattle.std.specs.List.{list_any}
use Rattle.std.specs.Str.{bytes_eq}
use Rattle.std.proofs.lemmas.List.Sums.{fold_push}
use Rattle.node_tree.specs.Nodes.{with_path}
use Rattle.scons_rules.specs.Numbers.{each_once, with_paths, interned}
use Rattle.scons_rules.proofs.Numbering.{among_from, there, new_one}

or_true : (b : Bool) → (b || true) ≡ true
or_true true = refl
or_true false = refl

one_in : (nodes acc : List (List ℕ)) (p : List ℕ) → with_paths nodes (with_path acc p) ≡ with_path (with_paths nodes acc) p
one_in nodes acc p = by (list_any (bytes_eq p) acc) refl
  where
    by : (b : Bool) → list_any (bytes_eq p) acc ≡ b → with_paths nodes (with_path acc p) ≡ with_path (with_paths nodes acc) p
    by true e =
        let met : list_any (bytes_eq p) (with_paths nodes acc) ≡ true =
        among_from p nodes acc ∙ ap (λ b. list_any (bytes_eq p) nodes || b) e ∙ or_true (list_any (bytes_eq p) nodes) in
        ap (with_paths nodes) (there acc p e) ∙ sym (there (with_paths nodes acc) p met)
    by false e = ap (with_paths nodes) (new_one acc p e) ∙ fold_push with_path nodes acc p

once_in : (nodes acc paths : List (List ℕ)) → with_paths nodes (with_paths acc paths) ≡ with_paths (with_paths nodes acc) paths
once_in nodes acc [] = refl
once_in nodes acc (p ∷ paths) = once_in nodes (with_path acc p) paths ∙ ap (λ l. with_paths l paths) (one_in nodes acc p)

-- a path that stands twice gets one number
pub with_once : (nodes paths : List (List ℕ)) → with_paths nodes (each_once paths) ≡ with_paths nodes paths
with_once nodes paths = once_in nodes [] paths

pub once_once : (paths : List (List ℕ)) → each_once (each_once paths) ≡ each_once paths
once_once paths = with_once [] paths

pub interned_once : (nodes paths : List (List ℕ)) → interned nodes (each_once paths) ≡ interned nodes paths
unfolding interned
interned_once nodes paths = rw (once_once paths) refl
