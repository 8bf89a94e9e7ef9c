-- How long what is given is as a text.
use Rattle.std.proofs.Common.{◌≡◌, ◌∙◌, ◌≤◌, ◌<◌, ℕ, ◌+◌, true, false, List, [], ◌∷◌, ◌++◌, Some, None, length, map, drop, get_or, refl, sym, ap, append-nil, append_assoc, add-one, drop-cons, arith, length-append}
use Rattle.std.specs.Prelude.{◌≢◌, Result, Ok, Err, MatchResult, Option, if◌then◌else◌}
use Rattle.std.proofs.lemmas.Bool.{ne_eqb}
use Rattle.env_vars.specs.declared.fault.GivenFault.{GivenFault}
use Rattle.env_vars.specs.declared.fault.GivenFault.TheVariants.{Memory}
use Rattle.std.specs.Option.{option_map}
use Rattle.env_text.specs.Alone.{name_alone}
use Rattle.env_text.specs.Readings.{reading_of}
use Rattle.env_vars.specs.declared.value.Item.{Item}
use Rattle.env_vars.specs.declared.value.Item.TheVariants as item
use Rattle.env_vars.specs.declared.value.EnvValue.{EnvValue}
use Rattle.env_vars.specs.declared.value.EnvValue.TheVariants as value
use Rattle.env_vars.specs.Added.{as_items, texts_of, words_from, word_list}
use Rattle.env_vars.specs.Given.{behind_spaces, item_text, items_text, value_text, value_items, old_text, old_items, is_name, given_text, given_item, given_items, spaced_len, size_of}

pub len_none : spaced_len [] ≡ 0
unfolding spaced_len
len_none = refl

pub len_one : (x : Item) → spaced_len (x ∷ []) ≡ length (item_text x) + 1
unfolding spaced_len
len_one x = omega (arith, length-append (item_text x) [])

pub len_append : (xs ys : List Item) → spaced_len (xs ++ ys) ≡ spaced_len xs + spaced_len ys
unfolding spaced_len
len_append [] ys = omega arith
len_append (x ∷ xs) ys =
    omega (arith, len_append xs ys, length-append (item_text x) (behind_spaces (map item_text xs)), length-append (item_text x) (behind_spaces (map item_text (xs ++ ys))))

pub len_shown : (xs : List Item) → 0 < length xs → spaced_len xs ≡ length (items_text xs) + 1
unfolding spaced_len
len_shown [] h = absurd (omega arith)
len_shown (x ∷ xs) h = omega arith

pub none_shown : (xs : List Item) → length xs ≡ 0 → spaced_len xs ≡ 0
unfolding spaced_len
none_shown [] e = refl
none_shown (x ∷ xs) e = absurd (omega arith)

-- with a space in front of each they fit where they do as a text
pub fits_as_text : (xs : List Item) → spaced_len xs ≤ 16777217 → length (items_text xs) ≤ 16777216
fits_as_text [] h = omega arith
fits_as_text (x ∷ xs) h = omega (arith, len_shown (x ∷ xs) (omega arith))

pub too_long_as_text : (xs : List Item) → 16777217 < spaced_len xs → 16777216 < length (items_text xs)
too_long_as_text [] h = omega (arith, len_none)
too_long_as_text (x ∷ xs) h = omega (arith, len_shown (x ∷ xs) (omega arith))

-- a word list is as long as its items
one_back : (t : List ℕ) (items : List Item) (words : List (List ℕ)) (o : Option (List (List ℕ))) → ((texts : List (List ℕ)) → texts_of items ≡ Some texts → as_items texts ≡ items)
    → texts_of items ≡ o → option_map (λ texts. t ∷ texts) o ≡ Some words → as_items words ≡ item.Text t ∷ items
one_back t items words None rest n e = cc
one_back t items words (Some texts) rest n e =
    let k : t ∷ texts ≡ words = cc in sym (ap as_items k) ∙ ap (λ xs. item.Text t ∷ xs) (rest texts n)

words_back : (items : List Item) (words : List (List ℕ)) → texts_of items ≡ Some words → as_items words ≡ items
words_back [] words e = let k : [] ≡ words = cc in sym (ap as_items k)
words_back (item.Text t ∷ items) words e = one_back t items words (texts_of items) (words_back items) refl e
words_back (item.Int n ∷ items) words e = cc
words_back (item.Node n ∷ items) words e = cc
words_back (item.Pair n t ∷ items) words e = cc

pub words_size : (items : List Item) → size_of (word_list items) ≡ length (items_text items)
words_size items = by (texts_of items) refl
  where
    by : (o : Option (List (List ℕ))) → texts_of items ≡ o → size_of (words_from items o) ≡ length (items_text items)
    by None e = refl
    by (Some words) e = ap (λ xs. length (items_text xs)) (words_back items words e)

-- the old value as items is the old value as a text
old_shown : (v : EnvValue) → items_text (value_items v) ≡ value_text v
old_shown value.Nil = refl
old_shown (value.Bool flag) = append-nil _
old_shown (value.Int number) = append-nil _
old_shown (value.Text []) = refl
old_shown (value.Text (b ∷ text)) =
    ap (λ none. items_text (if none then [] else item.Text (b ∷ text) ∷ [])) (ne_eqb (length (b ∷ text)) 0 (λ e. omega (arith, e))) ∙ append-nil (b ∷ text)
old_shown (value.Words words) = refl
old_shown (value.List items) = refl
old_shown (value.Pairs pairs) = refl

pub old_len : (v : EnvValue) → 0 < length (value_items v) → spaced_len (value_items v) ≡ length (value_text v) + 1
old_len v h = len_shown (value_items v) h ∙ ap (λ t. length t + 1) (old_shown v)

-- a text among the items, by what it is
pub given_apart : (name : List ℕ) (old : Option EnvValue) (t : List ℕ) → is_name name (name_alone (reading_of t)) ≡ false → given_item name old (item.Text t) ≡ item.Text (given_text name (old_text old) t) ∷ []
given_apart name old t e = ap (λ b. if b then old_items old else item.Text (given_text name (old_text old) t) ∷ []) e

pub given_alone : (name : List ℕ) (old : Option EnvValue) (t : List ℕ) → is_name name (name_alone (reading_of t)) ≡ true → given_item name old (item.Text t) ≡ old_items old
given_alone name old t e = ap (λ b. if b then old_items old else item.Text (given_text name (old_text old) t) ∷ []) e

-- an item more
module _ (name : List ℕ) (old : Option EnvValue) (items : List Item) (i : ℕ) (x : Item) (there : i < length items) (is : x ≡ get_or items i x) where
  cut : drop i items ≡ get_or items i x ∷ drop (i + 1) items
  cut = drop-cons items i x there ∙ ap (λ n. get_or items i x ∷ drop n items) (sym (add-one i))

  pub given_next : given_items name old (drop i items) ≡ given_item name old x ++ given_items name old (drop (i + 1) items)
  given_next =
      ap (given_items name old) cut
      ∙ ap (λ y. given_item name old y ++ given_items name old (drop (i + 1) items)) (sym is)

  pub given_on : (done after whole : List Item) → after ≡ done ++ given_item name old x → done ++ given_items name old (drop i items) ≡ whole → after ++ given_items name old (drop (i + 1) items) ≡ whole
  given_on done after whole a w =
      ap (λ xs. xs ++ given_items name old (drop (i + 1) items)) a ∙ append_assoc done (given_item name old x) _ ∙ ap (λ xs. done ++ xs) (sym given_next) ∙ w

  -- where one item is too long behind others, all are
  pub given_too_long : (done whole : List Item) (limit len : ℕ) → len ≡ spaced_len done → done ++ given_items name old (drop i items) ≡ whole → limit < len + spaced_len (given_item name old x) → limit < spaced_len whole
  given_too_long done whole limit len l w h =
      omega (arith, ap spaced_len w, len_append done (given_items name old (drop i items)), ap spaced_len given_next, len_append (given_item name old x) (given_items name old (drop (i + 1) items)))

-- with a space and so many bytes more
pub longer_with : (len m more : ℕ) (r : Result ℕ GivenFault) → more ≡ m + 1 → MatchResult r (λ n. (n ≡ len + 1 + m) × (n ≤ 16777217)) (λ e. 16777217 < len + 1 + m)
    → MatchResult r (λ n. (n ≡ len + more) × (n ≤ 16777217)) (λ e. e ≢ Memory → 16777217 < len + more)
longer_with len m more (Ok n) e h = let k : n ≡ len + 1 + m = h.0 in (omega arith, h.1)
longer_with len m more (Err fault) e h = λ _. omega (arith, h)
