-- How many rules run after one went to another state.
use Rattle.std.proofs.Common.{◌≡◌, ◌<◌, ℕ, ◌+◌, List, Bool, length, set, get_or}
use Rattle.std.specs.Prelude.{if◌then◌else◌}
use Rattle.std.specs.List.{count_by}
use Rattle.std.proofs.lemmas.List.Sums.{sum_by-set}

pub count_set : {X : Type 0} (p : X → Bool) (xs : List X) (i : ℕ) (y d : X) → i < length xs
    → count_by p (set xs i y) + (if p (get_or xs i d) then 1 else 0) ≡ count_by p xs + (if p y then 1 else 0)
count_set p xs i y d lt = sum_by-set (λ x. if p x then 1 else 0) xs i y d lt
