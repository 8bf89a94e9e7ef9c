-- Nodes: the list of the paths that have a number, in the order of their numbers.
use Rattle.std.specs.Prelude.{◌≡◌, ℕ, List, [], ◌∷◌, ◌++◌, Option, Some, position, length, slice_get, if◌then◌else◌, MatchOption}
use Rattle.std.specs.List.{list_any}
use Rattle.std.specs.Str.{bytes_eq}

-- the number of a path, if it has one
abbrev pub number_of : List (List ℕ) → List ℕ → Option ℕ
number_of paths path = position (bytes_eq path) paths

-- the paths with one more: behind the others, unless it is among them
abbrev pub with_path : List (List ℕ) → List ℕ → List (List ℕ)
with_path paths path = if list_any (bytes_eq path) paths then paths else paths ++ path ∷ []

-- a path keeps the number that it has, and a new one gets the next: the numbers of the others stay
abbrev pub Interns : List (List ℕ) → List ℕ → ℕ → List (List ℕ) → Type 0
Interns old path id new =
    MatchOption (number_of old path) ((id ≡ length old) × (new ≡ old ++ path ∷ [])) (λ number. (id ≡ number) × (new ≡ old))

-- no path has two numbers
abbrev pub AreApart : List (List ℕ) → Type 0
AreApart paths = (number : ℕ) (path : List ℕ) → slice_get paths number ≡ Some path → number_of paths path ≡ Some number
