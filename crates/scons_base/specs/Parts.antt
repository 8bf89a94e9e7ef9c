-- The parts of a path: its name, suffix, base and directory, and the paths below a directory.
use Rattle.std.specs.Prelude.{ℕ, Bool, false, not, List, [], ◌∷◌, ◌++◌, ◌-◌, ◌+◌, ◌==◌, ◌&&◌, ◌||◌, nat_le, nat_eq, Option, Some, None, length, take, drop, if◌then◌else◌}
use Rattle.std.specs.List.{suffix_len, starts_with}
use Rattle.std.specs.Str.{bytes_eq}
use Rattle.scons_base.specs.declared.limits.TheConstants.{PATH_LIMIT}
use Rattle.scons_base.specs.Normal.{slash, dot, is_top, is_root}

-- an absolute path begins with a slash
abbrev pub is_absolute : List ℕ → Bool
is_absolute [] = false
is_absolute (b ∷ bs) = b == slash

-- the place behind the last such byte, 0 where there is none
abbrev pub behind_last : ℕ → List ℕ → ℕ
behind_last c bytes = length bytes - suffix_len (λ b. not (b == c)) bytes

-- the name: what stands behind the last slash
abbrev pub name_of : List ℕ → List ℕ
name_of path = drop (behind_last slash path) path

abbrev pub suffix_from : ℕ → List ℕ → List ℕ
suffix_from n name = if nat_le n 1 then [] else drop (n - 1) name

-- the suffix: the name from its last dot on, and none where there is no dot or that dot is the name's first byte
abbrev pub suffix_of : List ℕ → List ℕ
suffix_of path = suffix_from (behind_last dot (name_of path)) (name_of path)

-- the base: the path without its suffix
abbrev pub base_of : List ℕ → List ℕ
base_of path = take (length path - length (suffix_of path)) path

abbrev pub dir_to : ℕ → List ℕ → List ℕ
dir_to n path = if n == 0 then dot ∷ [] else (if n == 1 then slash ∷ [] else take (n - 1) path)

-- the directory: what stands in front of the last slash; the top directory where there is no slash, the root where it
-- is the first byte
abbrev pub dir_of : List ℕ → List ℕ
dir_of path = dir_to (behind_last slash path) path

-- a path lies below the top directory where it is relative and isn't `.`, below the root where it is absolute and
-- isn't `/`, and below another directory where it goes on behind that one's text with a slash
abbrev pub is_below : List ℕ → List ℕ → Bool
is_below path dir =
    if is_top dir then not (is_absolute path || is_top path)
    else (if is_root dir then is_absolute path && not (is_root path)
    else starts_with nat_eq path dir && is_absolute (drop (length dir) path))

-- a path lies in a directory that it is, or that it is below
abbrev pub lies_in : List ℕ → List ℕ → Bool
lies_in path dir = bytes_eq path dir || is_below path dir

-- what stands behind a directory in a path below it
abbrev pub rest_below : List ℕ → List ℕ → List ℕ
rest_below path dir =
    if is_top dir then path else (if is_root dir then drop 1 path else drop (length dir + 1) path)

-- a path below a directory, by what stands behind it
abbrev pub joined : List ℕ → List ℕ → List ℕ
joined dir rest =
    if is_top dir then rest else (if is_root dir then slash ∷ rest else dir ++ slash ∷ rest)

-- the text that lies in `to` as `path` lies in `from`
abbrev pub moved : List ℕ → List ℕ → List ℕ → List ℕ
moved path from to = if bytes_eq path from then to else joined to (rest_below path from)

-- and the path of that text: none where `path` doesn't lie in `from`, or the text is too long
abbrev pub moved_path : List ℕ → List ℕ → List ℕ → Option (List ℕ)
moved_path path from to =
    if lies_in path from && nat_le (length (moved path from to)) PATH_LIMIT then Some (moved path from to) else None
