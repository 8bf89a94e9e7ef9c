-- What stands in the braces of a reference is a list of words, with white space round them or not.
use Rattle.std.specs.Prelude.{ℕ, zero, suc, min, Bool, true, false, not, ◌&&◌, ◌==◌, List, [], ◌∷◌, if◌then◌else◌}
use Rattle.std.specs.List.{prefix_len}
use Rattle.std.specs.Char.{is_ascii_digit}
use Rattle.std.specs.Str.Parse.{digits_value}
use Rattle.env_text.specs.declared.part.Index.{Index}
use Rattle.env_text.specs.declared.part.Index.TheVariants.{FromFront, FromBack}
use Rattle.env_text.specs.declared.number.TheConstants.{LARGEST}
use Rattle.env_text.specs.Bytes.{is_white, is_name_first}
use Rattle.scons_base.specs.Runs.{is_name_byte, front_run}

pub data PlainWord : Type 0 where
  name : List ℕ → PlainWord
  number : Index → PlainWord
  -- any other byte
  sign : ℕ → PlainWord
  -- digits that are no number
  no_number : PlainWord

-- a number has a digit, and a zero in front only where it has no other digit
abbrev pub is_numeral : List ℕ → Bool
is_numeral [] = false
is_numeral (d ∷ []) = true
is_numeral (d ∷ e ∷ ds) = not (d == 48)

-- a number counts from the back where a `-` stands in front of it, but 0 always from the front
abbrev pub index_of : Bool → ℕ → Index
index_of minus n = if minus && not (n == 0) then FromBack n else FromFront n

-- the value of digits, or the largest one: no list and no text is as long
abbrev pub value_of : List ℕ → ℕ
value_of ds = min (digits_value 10 ds) LARGEST

abbrev pub number_of : Bool → List ℕ → PlainWord
number_of minus ds = if is_numeral ds then number (index_of minus (value_of ds)) else no_number

-- the word that this byte begins, and how many bytes more it has
abbrev pub word_at : ℕ → List ℕ → PlainWord × ℕ
word_at b bytes =
    if is_name_first b then (name (b ∷ front_run is_name_byte bytes), prefix_len is_name_byte bytes)
    else (if is_ascii_digit b then (number_of false (b ∷ front_run is_ascii_digit bytes), prefix_len is_ascii_digit bytes)
    else (if b == 45 then (number_of true (front_run is_ascii_digit bytes), prefix_len is_ascii_digit bytes)
    else (sign b, 0)))

-- the words behind so many bytes of the one in front
abbrev pub words_behind : ℕ → List ℕ → List PlainWord
words_behind skipped [] = []
words_behind (suc skipped) (b ∷ bytes) = words_behind skipped bytes
words_behind zero (b ∷ bytes) =
    if is_white b then words_behind zero bytes
    else (word_at b bytes).0 ∷ words_behind (word_at b bytes).1 bytes

abbrev pub words_of : List ℕ → List PlainWord
words_of bytes = words_behind 0 bytes
