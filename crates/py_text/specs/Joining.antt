-- `join` among the string methods of the Python library reference, and section 6.7 of the language reference for `*`.
use Rattle.std.specs.Prelude.{ℕ, List}
use Rattle.std.specs.List.{join_by, repeat}

-- the parts in a row, with the separator between each two
abbrev pub joined : List ℕ → List (List ℕ) → List ℕ
joined separator parts = join_by (λ part. part) separator parts

-- a text so many times in a row
abbrev pub repeated : List ℕ → ℕ → List ℕ
repeated text times = repeat times text
