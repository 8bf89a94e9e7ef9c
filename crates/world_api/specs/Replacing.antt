-- Bytes in which keys are replaced by values.
use Rattle.std.specs.Prelude.{ℕ, zero, suc, ◌-◌, List, [], ◌∷◌, ◌++◌, length, take, if◌then◌else◌}
use Rattle.std.specs.Str.{bytes_eq}

-- so many bytes are passed over; then, where the key stands, the value takes its place, and else the byte stays
unfoldable pub replaced_behind : List ℕ → List ℕ → ℕ → List ℕ → List ℕ
replaced_behind key value skip [] = []
replaced_behind key value zero (byte ∷ bytes) =
    if bytes_eq (take (length key) (byte ∷ bytes)) key then value ++ replaced_behind key value (length key - 1) bytes
    else byte ∷ replaced_behind key value zero bytes
replaced_behind key value (suc skip) (byte ∷ bytes) = replaced_behind key value skip bytes

-- each place of the key, from the left, has the value; what was put in isn't searched
abbrev pub replaced : List ℕ → List ℕ → List ℕ → List ℕ
replaced key value bytes = replaced_behind key value 0 bytes

-- a key and its value
abbrev pub Pair : Type 0
Pair = List ℕ × List ℕ

-- the pairs in order, each on what the one before made
abbrev pub replaced_all : List ℕ → List Pair → List ℕ
replaced_all bytes [] = bytes
replaced_all bytes (pair ∷ pairs) = replaced_all (replaced pair.0 pair.1 bytes) pairs
