-- What a write makes: its one signed text; or the contents of files, joined, with keys replaced by values.
use Rattle.std.specs.Prelude.{ℕ, ◌+◌, ◌-◌, ◌*◌, ◌^◌, Bool, ◌&&◌, ◌==◌, List, [], ◌∷◌, ◌++◌, length, take, map, Option, Some, None, is_some, nat_le, nat_lt, if◌then◌else◌}
use Rattle.std.specs.Option.{option_and_then, option_map}
use Rattle.std.specs.List.{flat_map, list_all}
use Rattle.world_api.specs.Replacing.{Pair, replaced_all}

abbrev is_digit : ℕ → Bool
is_digit byte = nat_le 48 byte && nat_le byte 57

-- a further digit behind a number of 32 bits
abbrev pub with_digit : ℕ → ℕ → Option ℕ
with_digit number byte =
    if is_digit byte && nat_lt (number * 10 + (byte - 48)) (2 ^ 32) then Some (number * 10 + (byte - 48)) else None

abbrev pub with_digits : ℕ → List ℕ → Option ℕ
with_digits number [] = Some number
with_digits number (byte ∷ bytes) = option_and_then (λ more. with_digits more bytes) (with_digit number byte)

-- the number of 32 bits that a text spells in decimal digits
abbrev pub number_in : List ℕ → Option ℕ
number_in [] = None
number_in (byte ∷ bytes) = with_digits 0 (byte ∷ bytes)

abbrev behind_pair : List ℕ → List ℕ → Option (List Pair) → Option (List Pair)
behind_pair key value pairs = if length key == 0 then None else option_map (λ more. (key, value) ∷ more) pairs

-- keys and values in turn, where each key has its value and none is empty
abbrev pub pairs_in : List (List ℕ) → Option (List Pair)
pairs_in [] = Some []
pairs_in (key ∷ []) = None
pairs_in (key ∷ value ∷ texts) = behind_pair key value (pairs_in texts)

-- what a file holds, and nothing where none stands
abbrev pub bytes_of : Option (List ℕ) → List ℕ
bytes_of None = []
bytes_of (Some bytes) = bytes

-- the first so many contents, where so many files are there
abbrev pub first_files : ℕ → List (Option (List ℕ)) → Option (List (List ℕ))
first_files count given =
    if nat_le count (length given) && list_all is_some (take count given) then Some (map bytes_of (take count given)) else None

-- the files that a write reads: the first, as many as this text says
abbrev pub files_read : List ℕ → List (Option (List ℕ)) → Option (List (List ℕ))
files_read count given = option_and_then (λ number. first_files number given) (number_in count)

-- one behind the other, with this between each and the next
abbrev pub joined_by : List ℕ → List (List ℕ) → List ℕ
joined_by between [] = []
joined_by between (bytes ∷ rest) = bytes ++ flat_map (λ next. between ++ next) rest

-- what is made of such files by such pairs, where there are both
abbrev pub made_of : List ℕ → Option (List (List ℕ)) → Option (List Pair) → Option (List ℕ)
made_of between (Some files) (Some pairs) = Some (replaced_all (joined_by between files) pairs)
made_of between (Some files) None = None
made_of between None pairs = None

-- One text is written as it is. Of more the first says how many of the given files are joined, the second what stands
-- between them, and the others are keys with their values.
abbrev pub written : List (List ℕ) → List (Option (List ℕ)) → Option (List ℕ)
written [] given = None
written (text ∷ []) given = Some text
written (count ∷ between ∷ texts) given = made_of between (files_read count given) (pairs_in texts)
