-- A text, cut at its line feeds.
use Rattle.std.proofs.Common.{◌≡◌, ◌==◌, ◌∷◌, [], ℕ, List, Option, Some, None, Bor, lit<}
use Rattle.std.proofs.lemmas.List.Sums.{fails_before_first}
use Rattle.std.proofs.lemmas.List.Splits.{slice_split_first, slice_split_none}
use Rattle.std.proofs.lemmas.Str.Pattern.{IsSplitOnceResult, split_once_first}
use Rattle.scons_declare.specs.Owns.{lines_in}

pub first_line : (rest : List ℕ) (r : Option (Bor (List ℕ) × Bor (List ℕ))) (x : Bor (List ℕ) × Bor (List ℕ))
    → IsSplitOnceResult 10 rest r → r ≡ Some x → lines_in rest ≡ x.0.now ∷ lines_in x.1.now
first_line rest r x h e =
    let k = split_once_first 10 rest (Some x) (rw e at h) (lit< tt) in
    rw (k.1, k.2) (slice_split_first (λ b. b == 10) rest 0 k.0)

pub last_line : (rest : List ℕ) (r : Option (Bor (List ℕ) × Bor (List ℕ))) → IsSplitOnceResult 10 rest r → r ≡ None → lines_in rest ≡ rest ∷ []
last_line rest r h e =
    let k = split_once_first 10 rest None (rw e at h) (lit< tt) in
    slice_split_none (λ b. b == 10) rest (λ i d l. fails_before_first (λ b. b == 10) rest i d (rw k l))
