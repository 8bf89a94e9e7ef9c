-- Path texts in normal form: one spelling for each path. The form is this project's own.
use Rattle.std.specs.Prelude.{ℕ, Bool, true, false, List, [], ◌∷◌, ◌==◌, ◌||◌, ◌&&◌, not, if◌then◌else◌}
use Rattle.std.specs.List.{slice_split, list_all}

abbrev pub slash : ℕ
slash = 47

abbrev pub dot : ℕ
dot = 46

-- a part between slashes that names something: neither empty nor `.` nor `..`
abbrev pub is_name : List ℕ → Bool
is_name [] = false
is_name (a ∷ []) = not (a == dot)
is_name (a ∷ b ∷ []) = not (a == dot && b == dot)
is_name (a ∷ b ∷ c ∷ rest) = true

-- what stands behind the slash in front of an absolute path
abbrev pub below_root : List ℕ → List ℕ
below_root [] = []
below_root (b ∷ bs) = if b == slash then bs else b ∷ bs

-- the parts round the slashes
abbrev pub parts_of : List ℕ → List (List ℕ)
parts_of path = slice_split (λ b. b == slash) (below_root path)

-- `.`
abbrev pub is_top : List ℕ → Bool
is_top [] = false
is_top (a ∷ []) = a == dot
is_top (a ∷ b ∷ rest) = false

-- `/`
abbrev pub is_root : List ℕ → Bool
is_root [] = false
is_root (a ∷ []) = a == slash
is_root (a ∷ b ∷ rest) = false

-- `.`, `/`, or names joined by single slashes, with a slash in front where the path is absolute
abbrev pub is_normal : List ℕ → Bool
is_normal path = is_top path || is_root path || list_all is_name (parts_of path)
