-- What stands in a text.
use Rattle.std.specs.Prelude.{ℕ, Bool, List, Option}
use Rattle.env_text.specs.declared.part.Selection.{Selection}

pub data PlainPart : Type 0 where
  -- characters that stand for themselves
  text : List ℕ → PlainPart
  -- the marks `$(` and `$)`
  begin : PlainPart
  end : PlainPart
  -- a variable, what is selected of its value, and an attribute
  variable : List ℕ → Selection → Option (List ℕ) → PlainPart
  -- `_concat` of the variables of a prefix, a list and a suffix, and whether the items are directories to be looked up
  concat : List ℕ → List ℕ → List ℕ → Bool → PlainPart
