-- What stands between tokens: sections 2.1.2 to 2.1.9 of the Python language reference.
use Rattle.std.specs.Prelude.{ℕ, ◌==◌, List, [], ◌∷◌, Option, None, Some, if◌then◌else◌}
use Rattle.py_lex.specs.declared.gap.Gap.{Gap}
use Rattle.py_lex.specs.declared.gap.Gap.TheVariants.{Blanks, Comment, LineEnd, Joined, Nothing}
use Rattle.py_lex.specs.Bytes.{is_blank, is_comment_byte, after_line_end}
use Rattle.scons_base.specs.Runs.{after_run}

-- a backslash and a line end join the next line (2.1.5), where there is one
abbrev pub joined_or : List ℕ → Option (List ℕ) → Gap × List ℕ
joined_or bytes None = (Nothing, bytes)
joined_or bytes (Some []) = (Nothing, bytes)
joined_or bytes (Some (b ∷ rest)) = (Joined, b ∷ rest)

abbrev pub line_end_or : List ℕ → Option (List ℕ) → Gap × List ℕ
line_end_or bytes None = (Nothing, bytes)
line_end_or bytes (Some rest) = (LineEnd, rest)

-- the gap in front and what follows it: blanks (2.1.9), a comment up to the line's end (2.1.3), joined lines, a line
-- end (2.1.2)
abbrev pub gap_at : List ℕ → Gap × List ℕ
gap_at [] = (Nothing, [])
gap_at (b ∷ rest) =
    if is_blank b then (Blanks, after_run is_blank rest)
    else (if b == 35 then (Comment, after_run is_comment_byte rest)
    else (if b == 92 then joined_or (b ∷ rest) (after_line_end rest)
    else line_end_or (b ∷ rest) (after_line_end (b ∷ rest))))
