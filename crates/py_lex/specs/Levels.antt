-- Indentation: section 2.1.8 of the Python language reference. Indentations are compared as texts, where Python counts
-- columns: this rule is the project's own.
use Rattle.std.specs.Prelude.{ℕ, nat_eq, List, [], ◌∷◌, Option, None, Some, position, if◌then◌else◌}
use Rattle.std.specs.List.{starts_with}
use Rattle.std.specs.Cmp.Lexicographic.{pointwise}
use Rattle.py_lex.specs.declared.fault.LexKind.TheVariants.{Tab, Indent}
use Rattle.py_lex.specs.declared.levels.Level.{Level}
use Rattle.py_lex.specs.declared.levels.Level.TheVariants.{Closes, Opens, Refused}

-- the indentation of the innermost open level
abbrev pub innermost : List (List ℕ) → List ℕ
innermost [] = []
innermost (level ∷ levels) = level

-- how many levels close at an indentation that is that of an open level
abbrev pub closed_by : List (List ℕ) → List ℕ → Option ℕ
closed_by levels indentation = position (λ level. pointwise nat_eq level indentation) levels

abbrev level_or : List (List ℕ) → List ℕ → Option ℕ → Level
level_or levels indentation (Some count) = Closes count
level_or levels indentation None =
    if starts_with nat_eq indentation (innermost levels) then Opens
    else (if starts_with nat_eq (innermost levels) indentation then Refused Indent else Refused Tab)

-- equal to an open level, so that those within close; longer than the innermost, so that a level opens; else a fault,
-- which is `Tab` where neither text begins with the other
abbrev pub level_of : List (List ℕ) → List ℕ → Level
level_of levels indentation = level_or levels indentation (closed_by levels indentation)
