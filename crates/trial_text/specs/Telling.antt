-- What trials tell, and what of it is refused.
use Rattle.std.specs.Prelude.{◌≡◌, ℕ, List, Bool, true, false, codes, ◌++◌, ◌<◌, ◌^◌}
use Rattle.std.specs.Str.Parse.{IsNumeral, digits_value, without_leading_plus}

-- what is told so far, as bytes, and whether the line that is told of is refused
pub record Telling : Type 0 where
  pub text : List ℕ
  pub is_refused : Bool

-- These bytes are told behind what was told before. Where they aren't, the line is refused, and a line that was refused stays so.
pub record Tells (old new : Telling) (bytes : List ℕ) : Type 0 where
  pub whole : new.is_refused ≡ false → new.text ≡ old.text ++ bytes
  pub stays : old.is_refused ≡ true → new.is_refused ≡ true

-- The refused line is told of as refused, behind what was told before, and is no longer told of.
abbrev pub TellsRefused : Telling → Telling → List ℕ → Type 0
TellsRefused old new line =
    Tells (record { text = old.text; is_refused = false }) new (codes "refused: " ++ line ++ codes "\n")

-- Nothing is told. This is so, or the line is refused, and a line that was refused stays so.
pub record Reads (old new : Telling) (P : Type 0) : Type 0 where
  pub told : new.text ≡ old.text
  pub so : new.is_refused ≡ false → P
  pub stays : old.is_refused ≡ true → new.is_refused ≡ true

-- A field is this number in decimal digits; a plus may stand before them.
pub record IsNumber (field : List ℕ) (number : ℕ) : Type 0 where
  pub numeral : IsNumeral 10 (without_leading_plus field)
  pub value : number ≡ digits_value 10 (without_leading_plus field)
  pub fits : number < 2 ^ 32
