-- Where no script is named, there is none behind the first.
use Rattle.std.proofs.Common.{arith, ◌≡◌, ◌<◌, ℕ, List, [], ◌∷◌, length, refl}

pub none_named : (scripts : List (List ℕ)) → length scripts < 1 → scripts ≡ []
none_named [] few = refl
none_named (script ∷ scripts) few = absurd (omega arith)
