-- Which sources of a rule are scanned for what they include, by their suffixes. The list is this project's own; SCons has
-- some more.
use Rattle.std.specs.Prelude.{ℕ, Bool, List, [], ◌∷◌, codes}
use Rattle.std.specs.List.{list_any}
use Rattle.std.specs.Str.{bytes_eq}

abbrev pub scanned_suffixes : List (List ℕ)
scanned_suffixes =
    codes ".c" ∷ codes ".C" ∷ codes ".cc" ∷ codes ".cpp" ∷ codes ".cxx" ∷ codes ".h" ∷ codes ".H" ∷ codes ".hh" ∷ codes ".hpp" ∷ codes ".hxx"
    ∷ codes ".m" ∷ codes ".mm" ∷ codes ".S" ∷ []

-- whether a source with this suffix is scanned
abbrev pub is_scanned_suffix : List ℕ → Bool
is_scanned_suffix suffix = list_any (λ s. bytes_eq suffix s) scanned_suffixes
