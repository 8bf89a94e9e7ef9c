-- `lower` and `upper` among the string methods of the Python library reference, of ASCII letters alone.
use Rattle.std.specs.Prelude.{ℕ, List, map}
use Rattle.std.specs.Char.{to_ascii_lowercase, to_ascii_uppercase}

abbrev pub lower : List ℕ → List ℕ
lower text = map to_ascii_lowercase text

abbrev pub upper : List ℕ → List ℕ
upper text = map to_ascii_uppercase text
