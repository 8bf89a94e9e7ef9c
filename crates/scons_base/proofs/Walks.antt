-- A walk, part by part.
use Rattle.std.proofs.Common.{◌≡◌, ◌==◌, ap, ℕ, List, Option, Some, None, Bor, lit<}
use Rattle.std.proofs.lemmas.List.Sums.{fails_before_first}
use Rattle.std.proofs.lemmas.List.Splits.{slice_split_first, slice_split_none}
use Rattle.std.proofs.lemmas.Str.Pattern.{IsSplitOnceResult, split_once_first}
use Rattle.scons_base.specs.Normal.{slash}
use Rattle.scons_base.specs.Resolve.{walk, enter, follow}

pub walk_first : (place : List (List ℕ)) (rest : List ℕ) (r : Option (Bor (List ℕ) × Bor (List ℕ))) (x : Bor (List ℕ) × Bor (List ℕ))
    → IsSplitOnceResult slash rest r → r ≡ Some x → walk place rest ≡ walk (enter place x.0.now) x.1.now
walk_first place rest r x h e =
    let k = split_once_first slash rest (Some x) (rw e at h) (lit< tt) in
    rw (k.1, k.2) (ap (follow place) (slice_split_first (λ b. b == slash) rest 0 k.0))

pub walk_last : (place : List (List ℕ)) (rest : List ℕ) (r : Option (Bor (List ℕ) × Bor (List ℕ)))
    → IsSplitOnceResult slash rest r → r ≡ None → walk place rest ≡ enter place rest
walk_last place rest r h e =
    let k = split_once_first slash rest None (rw e at h) (lit< tt) in
    ap (follow place) (slice_split_none (λ b. b == slash) rest (λ i d l. fails_before_first (λ b. b == slash) rest i d (rw k l)))
