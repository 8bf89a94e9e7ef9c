-- How a text shows within a list: `repr` in the Python library reference, with the escapes of section 2.4.1 of the language
-- reference. A character stands by its number: 9 is a tab, 10 a line feed, 13 a carriage return, 34 `"`, 39 `'`, 92 a
-- backslash, 110 `n`, 114 `r`, 116 `t` and 120 `x`.
use Rattle.std.specs.Prelude.{ℕ, ◌/◌, ◌%◌, not, ◌&&◌, ◌||◌, ◌==◌, nat_lt, List, [], ◌∷◌, ◌++◌, flat_map, if◌then◌else◌, chars, encode_utf8}
use Rattle.std.specs.List.{list_any}
use Rattle.std.specs.Char.{digit_char}

-- the quote around a text: `"` where it holds `'` and no `"`, else `'`
abbrev pub quote_of : List ℕ → ℕ
quote_of text = if list_any (λ b. b == 39) text && not (list_any (λ b. b == 34) text) then 34 else 39

-- `\xHH`
abbrev pub by_number : ℕ → List ℕ
by_number c = 92 ∷ 120 ∷ digit_char (c / 16) ∷ digit_char (c % 16) ∷ []

-- a character within those quotes
abbrev pub escaped : ℕ → ℕ → List ℕ
escaped quote c =
    if c == 92 || c == quote then 92 ∷ encode_utf8 c
    else (if c == 10 then 92 ∷ 110 ∷ []
    else (if c == 13 then 92 ∷ 114 ∷ []
    else (if c == 9 then 92 ∷ 116 ∷ []
    else (if nat_lt c 32 || c == 127 then by_number c
    else encode_utf8 c))))

-- a text in quotes
abbrev pub quoted : List ℕ → List ℕ
quoted text = quote_of text ∷ (flat_map (escaped (quote_of text)) (chars text) ++ quote_of text ∷ [])
