-- How a path text is read from a directory. A place in the tree of directories is the list of the names that lead to it
-- from the root. The marks `#` and the choice of the normal form are this project's own.
use Rattle.std.specs.Prelude.{◌≡◌, ℕ, Bool, false, List, [], ◌∷◌, ◌++◌, ◌-◌, ◌==◌, ◌&&◌, nat_lt, Option, Some, None, length, take, drop, position, if◌then◌else◌}
use Rattle.std.specs.List.{slice_split, starts_with}
use Rattle.std.specs.Str.{bytes_eq}
use Rattle.scons_base.specs.declared.limits.TheConstants.{PATH_LIMIT}
use Rattle.scons_base.specs.declared.fault.PathFault.{PathFault}
use Rattle.scons_base.specs.declared.fault.PathFault.TheVariants.{Empty, BadByte, TooLong}
use Rattle.scons_base.specs.Normal.{slash, dot, is_name}
use Rattle.scons_base.specs.Parts.{is_absolute}

abbrev pub hash_mark : ℕ
hash_mark = 35

-- `..`
abbrev pub is_up : List ℕ → Bool
is_up [] = false
is_up (a ∷ []) = false
is_up (a ∷ b ∷ []) = a == dot && b == dot
is_up (a ∷ b ∷ c ∷ rest) = false

-- where a part leads: `..` to the parent, which is the root for the root itself, a name to what it names, `.` and an
-- empty part nowhere
abbrev pub enter : List (List ℕ) → List ℕ → List (List ℕ)
enter place part =
    if is_up part then take (length place - 1) place
    else (if is_name part then place ++ part ∷ [] else place)

-- where parts lead, one after another
abbrev pub follow : List (List ℕ) → List (List ℕ) → List (List ℕ)
follow place [] = place
follow place (part ∷ parts) = follow (enter place part) parts

-- where a text leads from a place
abbrev pub walk : List (List ℕ) → List ℕ → List (List ℕ)
walk place text = follow place (slice_split (λ b. b == slash) text)

-- a text that begins with `#` counts from the top directory
abbrev pub is_from_top : List ℕ → Bool
is_from_top [] = false
is_from_top (b ∷ bs) = b == hash_mark

-- the place of a directory: a relative one counts from the top directory
abbrev pub place_of : List ℕ → List ℕ → List (List ℕ)
place_of top dir = walk (if is_absolute dir then [] else walk [] top) dir

-- the place that a text leads to: from the top directory behind `#`, from the root where it is absolute, and else from
-- the directory
abbrev pub target : List ℕ → List ℕ → List ℕ → List (List ℕ)
target top dir text =
    if is_from_top text then walk (walk [] top) (drop 1 text)
    else walk (if is_absolute text then [] else place_of top dir) text

-- each name with a slash in front
abbrev pub steps : List (List ℕ) → List ℕ
steps [] = []
steps (name ∷ names) = slash ∷ (name ++ steps names)

-- the text of a place from the root, and of one from the top directory
abbrev pub absolute_text : List (List ℕ) → List ℕ
absolute_text [] = slash ∷ []
absolute_text (name ∷ names) = steps (name ∷ names)

abbrev pub relative_text : List (List ℕ) → List ℕ
relative_text [] = dot ∷ []
relative_text (name ∷ names) = name ++ steps names

-- the normal form of a place: relative at the top directory and below it, absolute elsewhere
abbrev pub spelled : List (List ℕ) → List (List ℕ) → List ℕ
spelled top place =
    if starts_with bytes_eq place top then relative_text (drop (length top) place) else absolute_text place

-- the one spelling of a path, where the top directory has the absolute path `top`
abbrev pub spelling : List ℕ → List ℕ → List ℕ
spelling top path = spelled (walk [] top) (place_of top path)

-- the path that a text names, read from the directory `dir`, where the top directory has the absolute path `top`
abbrev pub resolved : List ℕ → List ℕ → List ℕ → List ℕ
resolved top dir text = spelled (walk [] top) (target top dir text)

-- a path that `resolve` may give: it is its own one spelling, and, read as a text from the top directory, it names itself,
-- unless it begins with a `#`, which would count as the mark
pub record IsResolved (top path : List ℕ) : Type 0 where
  pub spelling : spelling top path ≡ path
  pub named : is_from_top path ≡ false → resolved top (dot ∷ []) path ≡ path

abbrev pub fault_of_length : List ℕ → Option PathFault
fault_of_length path = if nat_lt PATH_LIMIT (length path) then Some (TooLong (length path)) else None

abbrev pub fault_of_place : List ℕ → Option ℕ → Option PathFault
fault_of_place path (Some place) = Some (BadByte place)
fault_of_place path None = fault_of_length path

-- why a text names no path: it is empty; its first zero byte; the length of a normal form that is too long
abbrev pub resolve_fault : List ℕ → List ℕ → List ℕ → Option PathFault
resolve_fault top dir text =
    if length text == 0 then Some Empty
    else fault_of_place (resolved top dir text) (position (λ b. b == 0) text)
