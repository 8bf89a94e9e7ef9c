-- What a variable becomes: the forms that setting gives, and the table of what is added to what. The rules are this
-- project's own.
use Rattle.std.specs.Prelude.{ℕ, Bool, true, false, List, [], ◌∷◌, ◌++◌, ◌&&◌, ◌==◌, Option, Some, None, map, fold, length, if◌then◌else◌}
use Rattle.std.specs.Ordering.{int_eq}
use Rattle.std.specs.List.{list_any}
use Rattle.std.specs.Option.{option_map}
use Rattle.std.specs.Str.{bytes_eq}
use Rattle.std.specs.Fmt.{signed_decimal}
use Rattle.env_vars.specs.declared.value.Item.{Item}
use Rattle.env_vars.specs.declared.value.Item.TheVariants as item
use Rattle.env_vars.specs.declared.value.EnvValue.{EnvValue}
use Rattle.env_vars.specs.declared.value.EnvValue.TheVariants as value
use Rattle.env_vars.specs.declared.place.Place.{Place}
use Rattle.env_vars.specs.declared.place.Place.TheVariants as place
use Rattle.env_vars.specs.Names.{is_word_variable, is_list_variable, takes_dict}
use Rattle.env_text.specs.White.{words_of}

-- words as items of a list
abbrev pub as_items : List (List ℕ) → List Item
as_items words = map (λ w. item.Text w) words

-- the texts of a list that has nothing else
abbrev pub texts_of : List Item → Option (List (List ℕ))
texts_of [] = Some []
texts_of (item.Text text ∷ items) = option_map (λ texts. text ∷ texts) (texts_of items)
texts_of (item.Int number ∷ items) = None
texts_of (item.Node path ∷ items) = None
texts_of (item.Pair name text ∷ items) = None

abbrev pub words_from : List Item → Option (List (List ℕ)) → EnvValue
words_from items (Some words) = value.Words words
words_from items None = value.List items

-- a word list of these items, which is a list where an item is no text
abbrev pub word_list : List Item → EnvValue
word_list items = words_from items (texts_of items)

-- the text that a dict's item gives as the value of a pair
abbrev pub pair_text : Item → Option (List ℕ)
pair_text (item.Text text) = Some text
pair_text (item.Int number) = Some (signed_decimal number)
pair_text (item.Node path) = Some path
pair_text (item.Pair name text) = text

-- a dict as a list of its pairs
abbrev pub as_pairs : List (List ℕ × Item) → List Item
as_pairs pairs = map (λ p. item.Pair p.0 (pair_text p.1)) pairs

-- the form that a value takes in a word-list variable, and in a list variable
abbrev pub set_words : EnvValue → EnvValue
set_words (value.Text text) = value.Words (words_of text)
set_words (value.List items) = word_list items
set_words value.Nil = value.Nil
set_words (value.Bool flag) = value.Bool flag
set_words (value.Int number) = value.Int number
set_words (value.Words words) = value.Words words
set_words (value.Pairs pairs) = value.Pairs pairs

abbrev pub set_list : List ℕ → EnvValue → EnvValue
set_list name (value.Text text) = value.List (item.Text text ∷ [])
set_list name (value.Pairs pairs) = if takes_dict name then value.List (as_pairs pairs) else value.Pairs pairs
set_list name value.Nil = value.Nil
set_list name (value.Bool flag) = value.Bool flag
set_list name (value.Int number) = value.Int number
set_list name (value.Words words) = value.Words words
set_list name (value.List items) = value.List items

-- the value that setting a variable gives it
abbrev pub as_set : List ℕ → EnvValue → EnvValue
as_set name v =
    if is_word_variable name then set_words v else (if is_list_variable name then set_list name v else v)

-- whether two items are the same
abbrev pub text_eq : Option (List ℕ) → Option (List ℕ) → Bool
text_eq None None = true
text_eq None (Some b) = false
text_eq (Some a) None = false
text_eq (Some a) (Some b) = bytes_eq a b

abbrev pub item_eq : Item → Item → Bool
item_eq (item.Text a) (item.Text b) = bytes_eq a b
item_eq (item.Int a) (item.Int b) = int_eq a b
item_eq (item.Node a) (item.Node b) = bytes_eq a b
item_eq (item.Pair m a) (item.Pair n b) = bytes_eq m n && text_eq a b
item_eq _ _ = false

-- an item that isn't there yet goes last
abbrev pub add_new : List Item → Item → List Item
add_new items added = if list_any (item_eq added) items then items else items ++ added ∷ []

-- items put behind others, in front of them in their order, or behind them where they aren't there already
abbrev pub put_items : Place → List Item → List Item → List Item
put_items place.Behind old added = old ++ added
put_items place.InFront old added = added ++ old
put_items place.New old added = fold add_new old added

-- the same of things that may stand there twice
abbrev pub put_beside : {X : Type 0} → Place → List X → List X → List X
put_beside place.Behind old added = old ++ added
put_beside place.InFront old added = added ++ old
put_beside place.New old added = old ++ added

abbrev pub put_text : Place → List ℕ → List ℕ → List ℕ
put_text place.Behind old added = old ++ added
put_text place.InFront old added = added ++ old
put_text place.New old added = old ++ added

-- a text that isn't empty, as the items of a list
abbrev pub text_items : List ℕ → List Item
text_items text = if length text == 0 then [] else item.Text text ∷ []

-- the items that a text gets for neighbours: uniqueness isn't looked at here
abbrev pub beside_text : Place → List ℕ → List Item → List Item
beside_text place.Behind old added = text_items old ++ added
beside_text place.InFront old added = added ++ text_items old
beside_text place.New old added = text_items old ++ added

-- the items that an added value brings to a word list
abbrev pub items_for_words : EnvValue → Option (List Item)
items_for_words (value.Text text) = Some (as_items (words_of text))
items_for_words (value.Words words) = Some (as_items words)
items_for_words (value.List items) = Some items
items_for_words value.Nil = None
items_for_words (value.Bool flag) = None
items_for_words (value.Int number) = None
items_for_words (value.Pairs pairs) = None

-- and to a list
abbrev pub items_for_list : List ℕ → EnvValue → Option (List Item)
items_for_list name (value.Text text) = Some (item.Text text ∷ [])
items_for_list name (value.Words words) = Some (as_items words)
items_for_list name (value.List items) = Some items
items_for_list name (value.Int number) = Some (item.Int number ∷ [])
items_for_list name (value.Pairs pairs) = if takes_dict name then Some (as_pairs pairs) else None
items_for_list name value.Nil = None
items_for_list name (value.Bool flag) = None

abbrev pub added_to_text : Place → List ℕ → EnvValue → Option EnvValue
added_to_text at old (value.Text text) = Some (value.Text (put_text at old text))
added_to_text at old (value.Words words) = Some (value.List (beside_text at old (as_items words)))
added_to_text at old (value.List items) = Some (value.List (beside_text at old items))
added_to_text at old value.Nil = None
added_to_text at old (value.Bool flag) = None
added_to_text at old (value.Int number) = None
added_to_text at old (value.Pairs pairs) = None

-- a pair set in a dict: in the place of the one of that name, or last
abbrev pub set_pair : List (List ℕ × Item) → List ℕ × Item → List (List ℕ × Item)
set_pair [] pair = pair ∷ []
set_pair (p ∷ pairs) pair = if bytes_eq pair.0 p.0 then pair ∷ pairs else p ∷ set_pair pairs pair

abbrev pub added_to_dict : List (List ℕ × Item) → EnvValue → Option EnvValue
added_to_dict old (value.Pairs pairs) = Some (value.Pairs (fold set_pair old pairs))
added_to_dict old value.Nil = None
added_to_dict old (value.Bool flag) = None
added_to_dict old (value.Int number) = None
added_to_dict old (value.Text text) = None
added_to_dict old (value.Words words) = None
added_to_dict old (value.List items) = None

abbrev pub added_to_list : Place → List ℕ → List Item → EnvValue → Option EnvValue
added_to_list at name old v =
    if is_word_variable name then option_map (λ added. word_list (put_items at old added)) (items_for_words v)
    else option_map (λ added. value.List (put_items at old added)) (items_for_list name v)

-- the table, by what the variable holds. A list in a word-list variable counts as a word list.
abbrev pub added_to : Place → List ℕ → EnvValue → EnvValue → Option EnvValue
added_to at name (value.Words words) v = option_map (λ added. word_list (put_items at (as_items words) added)) (items_for_words v)
added_to at name (value.Text text) v = added_to_text at text v
added_to at name (value.List items) v = added_to_list at name items v
added_to at name (value.Pairs pairs) v = added_to_dict pairs v
added_to at name value.Nil v = None
added_to at name (value.Bool flag) v = None
added_to at name (value.Int number) v = None

-- what a variable becomes where a value is added: none where their kinds don't fit
abbrev pub added : Place → List ℕ → Option EnvValue → EnvValue → Option EnvValue
added at name None v = Some (as_set name v)
added at name (Some old) v = added_to at name old v
