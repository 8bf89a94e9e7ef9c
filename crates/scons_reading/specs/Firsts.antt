-- Which script is read first. Where none is named it is the first of three names that is a file, as scons(1) says under `-f`.
use Rattle.std.specs.Prelude.{ℕ, Bool, List, [], ◌∷◌, codes, unwrap_or, is_some}
use Rattle.std.specs.List.{find}
use Rattle.scons_host.specs.Files.{Files}

-- whether a file stands at a path
abbrev pub is_file : Files → List ℕ → Bool
is_file f path = is_some (f.tree path)

-- the names that a first script may have where none is named
abbrev pub first_names : List (List ℕ)
first_names = codes "SConstruct" ∷ codes "Sconstruct" ∷ codes "sconstruct" ∷ []

-- the first of them that is a file, or the first of all where none is
abbrev pub standing : Files → List ℕ
standing f = unwrap_or (find (is_file f) first_names) (codes "SConstruct")

-- the first script, where these are named
abbrev pub first_of : Files → List (List ℕ) → List ℕ
first_of f [] = standing f
first_of f (path ∷ further) = path

-- the scripts that are read behind it
abbrev pub further_of : List (List ℕ) → List (List ℕ)
further_of [] = []
further_of (path ∷ further) = further
