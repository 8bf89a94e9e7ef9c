-- What is left of a script is UTF-8 up to its mark.
use Rattle.std.specs.Prelude.{◌≡◌, ℕ, List, ◌∷◌, ◌++◌, ◌⊎◌}
use Rattle.std.specs.Str.{IsUtf8}
use Rattle.py_lex.specs.declared.bytes.TheConstants.{NO_TEXT}

-- UTF-8, and behind it nothing, or the mark and anything
pub record IsClean (bytes : List ℕ) : Type 0 where
  pub good : List ℕ
  pub more : List ℕ
  pub utf8 : IsUtf8 good
  pub parts : (bytes ≡ good) ⊎ (bytes ≡ good ++ NO_TEXT ∷ more)
