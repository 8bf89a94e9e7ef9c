-- What a value stands for that is given for a variable where an environment is cloned, or for one call: the variable's own
-- name in it stands for what the environment has, once. So SCons has it in `Clone` and in calls of builders.
use Rattle.std.specs.Prelude.{ℕ, ◌-◌, Bool, true, false, List, [], ◌∷◌, ◌++◌, Option, None, Some, map, take, drop, length, codes, if◌then◌else◌}
use Rattle.std.specs.Str.{bytes_eq}
use Rattle.std.specs.Fmt.{signed_decimal}
use Rattle.env_text.specs.Readings.{Reading, ends, part_at, bad_brace, reading_of}
use Rattle.env_text.specs.Alone.{whole_name, name_alone}
use Rattle.env_vars.specs.declared.value.Item.{Item}
use Rattle.env_vars.specs.declared.value.Item.TheVariants as item
use Rattle.env_vars.specs.declared.value.EnvValue.{EnvValue}
use Rattle.env_vars.specs.declared.value.EnvValue.TheVariants as value
use Rattle.env_vars.specs.Added.{as_items, as_pairs, text_items, word_list}

-- texts with a space between them
abbrev pub behind_spaces : List (List ℕ) → List ℕ
behind_spaces [] = []
behind_spaces (text ∷ texts) = 32 ∷ (text ++ behind_spaces texts)

abbrev pub spaced : List (List ℕ) → List ℕ
spaced [] = []
spaced (text ∷ texts) = text ++ behind_spaces texts

abbrev pub pair_with : List ℕ → Option (List ℕ) → List ℕ
pair_with name None = name
pair_with name (Some text) = name ++ 61 ∷ text

-- an item as a text: a pair is `name=value`
abbrev pub item_text : Item → List ℕ
item_text (item.Text text) = text
item_text (item.Int number) = signed_decimal number
item_text (item.Node path) = path
item_text (item.Pair name text) = pair_with name text

abbrev pub items_text : List Item → List ℕ
items_text items = spaced (map item_text items)

abbrev pub flag_text : Bool → List ℕ
flag_text true = codes "True"
flag_text false = codes "False"

-- a value as a text, and as items of a list
abbrev pub value_text : EnvValue → List ℕ
value_text value.Nil = []
value_text (value.Bool flag) = flag_text flag
value_text (value.Int number) = signed_decimal number
value_text (value.Text text) = text
value_text (value.Words words) = items_text (as_items words)
value_text (value.List items) = items_text items
value_text (value.Pairs pairs) = items_text (as_pairs pairs)

abbrev pub value_items : EnvValue → List Item
value_items value.Nil = []
value_items (value.Bool flag) = item.Text (flag_text flag) ∷ []
value_items (value.Int number) = item.Int number ∷ []
value_items (value.Text text) = text_items text
value_items (value.Words words) = as_items words
value_items (value.List items) = items
value_items (value.Pairs pairs) = as_pairs pairs

-- what isn't there is an empty text, and no item
abbrev pub old_text : Option EnvValue → List ℕ
old_text None = []
old_text (Some v) = value_text v

abbrev pub old_items : Option EnvValue → List Item
old_items None = []
old_items (Some v) = value_items v

-- whether this is the name
abbrev pub is_name : List ℕ → Option (List ℕ) → Bool
is_name name None = false
is_name name (Some n) = bytes_eq n name

-- the place where a reading begins, which is the text's end where nothing is left
abbrev pub place_of : List ℕ → Reading → ℕ
place_of text ends = length text
place_of text (part_at at p rest) = at
place_of text (bad_brace at) = at

-- what is left of a text, with `old` in place of each reference to the variable; all else stands as it is
abbrev pub replaced : List ℕ → List ℕ → List ℕ → Reading → List ℕ
replaced name old text ends = []
replaced name old text (part_at at p rest) =
    (if is_name name (whole_name p) then old else take (place_of text rest - at) (drop at text)) ++ replaced name old text rest
replaced name old text (bad_brace at) = drop at text

abbrev pub given_text : List ℕ → List ℕ → List ℕ → List ℕ
given_text name old text = replaced name old text (reading_of text)

-- an item that is the name alone stands for the old items
abbrev pub given_item : List ℕ → Option EnvValue → Item → List Item
given_item name old (item.Text text) =
    if is_name name (name_alone (reading_of text)) then old_items old else item.Text (given_text name (old_text old) text) ∷ []
given_item name old (item.Int number) = item.Int number ∷ []
given_item name old (item.Node path) = item.Node path ∷ []
given_item name old (item.Pair n text) = item.Pair n text ∷ []

abbrev pub given_items : List ℕ → Option EnvValue → List Item → List Item
given_items name old [] = []
given_items name old (x ∷ items) = given_item name old x ++ given_items name old items

-- the value that is meant, where the variable has the value `old`, if any
abbrev pub given : List ℕ → Option EnvValue → EnvValue → EnvValue
given name old (value.Text text) = value.Text (given_text name (old_text old) text)
given name old (value.Words words) = word_list (given_items name old (as_items words))
given name old (value.List items) = value.List (given_items name old items)
given name old value.Nil = value.Nil
given name old (value.Bool flag) = value.Bool flag
given name old (value.Int number) = value.Int number
given name old (value.Pairs pairs) = value.Pairs pairs

-- how many bytes items have as texts, with a space in front of each
unfoldable pub spaced_len : List Item → ℕ
spaced_len items = length (behind_spaces (map item_text items))

-- how many bytes what is given has as a text; what stays as it is has no limit
abbrev pub size_of : EnvValue → ℕ
size_of (value.Text text) = length text
size_of (value.Words words) = length (items_text (as_items words))
size_of (value.List items) = length (items_text items)
size_of value.Nil = 0
size_of (value.Bool flag) = 0
size_of (value.Int number) = 0
size_of (value.Pairs pairs) = 0
