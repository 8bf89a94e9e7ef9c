-- Runs of bytes, and the bytes of names. A byte stands by its number: 95 is `_`.
use Rattle.std.specs.Prelude.{ℕ, Bool, ◌||◌, ◌==◌, List, take, drop}
use Rattle.std.specs.List.{prefix_len}
use Rattle.std.specs.Char.{is_ascii_alphanumeric}

-- what names are made of, in scripts and in texts of variables alike: `[A-Za-z0-9_]`
abbrev pub is_name_byte : ℕ → Bool
is_name_byte b = is_ascii_alphanumeric b || b == 95

-- the bytes in front that pass the test
abbrev pub front_run : (ℕ → Bool) → List ℕ → List ℕ
front_run p bytes = take (prefix_len p bytes) bytes

-- what follows the bytes in front that pass the test
abbrev pub after_run : (ℕ → Bool) → List ℕ → List ℕ
after_run p bytes = drop (prefix_len p bytes) bytes
