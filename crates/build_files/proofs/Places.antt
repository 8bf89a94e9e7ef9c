-- Places in lists, and the numbers of paths.
use Rattle.std.proofs.Common.{◌≡◌, ◌≤◌, ◌∙◌, ap, sym, ℕ, zero, suc, List, [], ◌∷◌, length, Some, None, arith}
use Rattle.std.specs.Prelude.{slice_get}
use Rattle.std.specs.Str.{bytes_eq}
use Rattle.std.proofs.lemmas.Slice.Eq.{bytes_eq-Decides}
use Rattle.node_tree.specs.Nodes.{number_of}
use Rattle.build_model.specs.Rules.{Path}
use Rattle.build_means.proofs.Lists.{none_some, first_place}

-- nothing stands behind the end alone
pub past_end : {A : Type 0} (xs : List A) (i : ℕ) → slice_get xs i ≡ None → length xs ≤ i
past_end [] i e = omega arith
past_end (x ∷ xs) zero e = none_some (sym e)
past_end (x ∷ xs) (suc i) e = let k = past_end xs i e in omega arith

-- a path that has a number stands at it
pub numbered : (nodes : List Path) (node : ℕ) (path : Path) → number_of nodes path ≡ Some node → slice_get nodes node ≡ Some path
numbered nodes node path at =
    let place = first_place (bytes_eq path) nodes node at in
    place.1 ∙ ap Some (sym ((bytes_eq-Decides path place.0).0 place.2))
