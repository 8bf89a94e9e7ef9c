-- Patterns of file names: `*` takes any run of characters, `?` any one, `[abc]` one of a set, in which `a-c` is a range, and
-- `[!abc]` one that isn't in it. The page on fnmatch of Python's library reference says so.
use Rattle.std.specs.Prelude.{ℕ, zero, suc, ◌+◌, ◌==◌, ◌&&◌, ◌||◌, nat_le, not, Bool, true, false, List, [], ◌∷◌, ◌++◌, Option, Some, None, length, take, drop, position, if◌then◌else◌}
use Rattle.std.specs.List.{list_any}
use Rattle.std.specs.Option.{option_map}
use Rattle.std.specs.Str.{chars}
use Rattle.scons_decls.specs.declared.pattern.Part.{Part}
use Rattle.scons_decls.specs.declared.pattern.Part.TheVariants.{One, Any, Run, Set}
use Rattle.scons_decls.specs.declared.pattern.Pattern.{Pattern}

abbrev pub star : ℕ
star = 42

abbrev pub question : ℕ
question = 63

abbrev pub opening : ℕ
opening = 91

abbrev pub closing : ℕ
closing = 93

abbrev pub bang : ℕ
bang = 33

abbrev pub dash : ℕ
dash = 45

abbrev pub dot : ℕ
dot = 46

-- what is read from a text whose first n characters are passed over, one item behind the other: a character begins an item,
-- and some of those behind it are the item's own
unfoldable pub items_of : {X : Type 0} → (ℕ → List ℕ → X × ℕ) → ℕ → List ℕ → List X
items_of begun n [] = []
items_of begun (suc n) (c ∷ text) = items_of begun n text
items_of begun zero (c ∷ text) = (begun c text).0 ∷ items_of begun (begun c text).1 text

-- the range that a character of a set begins: `a-c`, or the character alone
abbrev pub range : ℕ → List ℕ → (ℕ × ℕ) × ℕ
range a [] = ((a, a), 0)
range a (b ∷ []) = ((a, a), 0)
range a (b ∷ c ∷ more) = if b == dash then ((a, c), 2) else ((a, a), 0)

-- the characters of a set, in the text that begins with it: up to the first closing bracket that isn't its first character
abbrev pub set_in : List ℕ → Option (List ℕ)
set_in text = option_map (λ n. take (n + 1) text) (position (λ c. c == closing) (drop 1 text))

-- the part of an opening bracket, and how many characters behind it are its own. One that isn't closed stands for itself
abbrev pub closed : Bool → Option (List ℕ) → Part × ℕ
closed without None = (One opening, 0)
closed without (Some set) = (Set (items_of range 0 set) without, length set + (if without then 2 else 1))

abbrev pub bracketed : List ℕ → Part × ℕ
bracketed [] = (One opening, 0)
bracketed (c ∷ behind) = if c == bang then closed true (set_in behind) else closed false (set_in (c ∷ behind))

-- the part that a character begins, by what stands behind it, and how many characters behind it are the part's own
abbrev pub begun : ℕ → List ℕ → Part × ℕ
begun c behind =
    if c == star then (Run, 0)
    else (if c == question then (Any, 0)
    else (if c == opening then bracketed behind else (One c, 0)))

-- whether a part takes a character
abbrev pub takes : Part → ℕ → Bool
takes (One one) c = c == one
takes Any c = true
takes Run c = true
takes (Set ranges without) c =
    if without then not (list_any (λ r. nat_le r.0 c && nat_le c r.1) ranges)
    else list_any (λ r. nat_le r.0 c && nat_le c r.1) ranges

-- whether a part is a run
abbrev pub is_run : Part → Bool
is_run Run = true
is_run part = false

-- whether some end of a list passes a test: the whole list, and the empty one, are ends too
abbrev pub some_end : (List ℕ → Bool) → List ℕ → Bool
some_end test [] = test []
some_end test (c ∷ rest) = test (c ∷ rest) || some_end test rest

-- whether characters can be split among parts, in order: a run has any number of them, any other part one that it takes
unfoldable pub are_split : List Part → List ℕ → Bool
are_split [] [] = true
are_split [] (c ∷ rest) = false
are_split (Run ∷ parts) name = some_end (are_split parts) name
are_split (part ∷ parts) [] = false
are_split (part ∷ parts) (c ∷ rest) = takes part c && are_split parts rest

-- the same for none of the parts, the last one, the last two, and so on
abbrev pub ends_split : List Part → List ℕ → List Bool
ends_split [] name = are_split [] name ∷ []
ends_split (part ∷ parts) name = ends_split parts name ++ are_split (part ∷ parts) name ∷ []

-- a hidden name begins with a dot
abbrev pub is_hidden : List ℕ → Bool
is_hidden [] = false
is_hidden (c ∷ rest) = c == dot

-- a pattern, read: hidden names fit where it begins with a dot itself
abbrev pub pattern_of : List ℕ → Pattern
pattern_of text = record { parts = items_of begun 0 (chars text); takes_hidden = is_hidden text }

-- whether a name fits
abbrev pub fits : Pattern → List ℕ → Bool
fits pattern name = (pattern.takes_hidden || not (is_hidden name)) && are_split pattern.parts (chars name)

-- whether there is a character in a text that a pattern reads as more than itself
abbrev pub has_wildcard : List ℕ → Bool
has_wildcard text = list_any (λ b. b == star || (b == question || b == opening)) text
