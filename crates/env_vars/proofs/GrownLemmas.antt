-- Items and words added to others in place.
use Rattle.std.proofs.Common.{arith, ◌≡◌, ◌<◌, ◌∙◌, ℕ, ◌+◌, List, [], ◌∷◌, ◌++◌, ◌||◌, Bool, true, false, ap, sym, refl, length, map, take, get_or, append_assoc, Option, Some, None}
use Rattle.std.specs.Prelude.{fold, if◌then◌else◌}
use Rattle.std.specs.List.{list_any}
use Rattle.std.specs.Option.{option_map}
use Rattle.std.specs.Str.{bytes_eq}
use Rattle.std.proofs.lemmas.List.{length-map, get_or-map}
use Rattle.std.proofs.lemmas.List.Folds.{list_any-append}
use Rattle.std.proofs.lemmas.List.Sums.{fold_more}
use Rattle.env_vars.specs.declared.place.Place.{Place}
use Rattle.env_vars.specs.declared.value.Item.{Item}
use Rattle.env_vars.specs.declared.value.Item.TheVariants as item
use Rattle.env_vars.specs.declared.value.EnvValue.TheVariants as value
use Rattle.env_vars.specs.Added.{as_items, texts_of, word_list, item_eq, add_new, put_items}

-- an item beside old and new ones
pub item_added : (old new : List Item) (x : Item) → add_new (old ++ new) x
    ≡ (if list_any (item_eq x) old || list_any (item_eq x) new then old ++ new else old ++ (new ++ x ∷ []))
item_added old new x = rw (list_any-append (item_eq x) old new) (by (list_any (item_eq x) old || list_any (item_eq x) new))
  where
    by : (b : Bool) → (if b then old ++ new else (old ++ new) ++ x ∷ []) ≡ (if b then old ++ new else old ++ (new ++ x ∷ []))
    by true = refl
    by false = append_assoc old new (x ∷ [])

words_any : (w : List ℕ) (words : List (List ℕ)) → list_any (item_eq (item.Text w)) (as_items words) ≡ list_any (bytes_eq w) words
words_any w [] = refl
words_any w (v ∷ words) = ap (λ b. bytes_eq w v || b) (words_any w words)

as_items-append : (xs ys : List (List ℕ)) → as_items (xs ++ ys) ≡ as_items xs ++ as_items ys
as_items-append [] ys = refl
as_items-append (x ∷ xs) ys = ap (λ rest. item.Text x ∷ rest) (as_items-append xs ys)

-- the same of a word
pub word_added : (old new : List (List ℕ)) (w : List ℕ) → add_new (as_items (old ++ new)) (item.Text w)
    ≡ (if list_any (bytes_eq w) old || list_any (bytes_eq w) new then as_items (old ++ new) else as_items (old ++ (new ++ w ∷ [])))
word_added old new w =
    rw (words_any w (old ++ new), list_any-append (bytes_eq w) old new) (by (list_any (bytes_eq w) old || list_any (bytes_eq w) new))
  where
    by : (b : Bool) → (if b then as_items (old ++ new) else as_items (old ++ new) ++ item.Text w ∷ []) ≡ (if b then as_items (old ++ new) else as_items (old ++ (new ++ w ∷ [])))
    by true = refl
    by false = sym (as_items-append (old ++ new) (w ∷ [])) ∙ ap as_items (append_assoc old new (w ∷ []))

-- a loop's turn over words
pub words_more : (start : List Item) (added : List (List ℕ)) (i : ℕ) (d : List ℕ) → i < length added
    → fold add_new start (take (i + 1) (as_items added)) ≡ add_new (fold add_new start (take i (as_items added))) (item.Text (get_or added i d))
words_more start added i d l =
    let text : List ℕ → Item = λ w. item.Text w in
    fold_more add_new start (as_items added) i (item.Text d) (omega (arith, length-map added text))
    ∙ ap (add_new (fold add_new start (take i (as_items added)))) (get_or-map text added i d (item.Text d) l)

texts_by : (t : List ℕ) (xs : List Item) (o : Option (List (List ℕ))) → texts_of xs ≡ o → (ts : List (List ℕ)) → option_map (λ rest. t ∷ rest) o ≡ Some ts
    → ((more : List (List ℕ)) → texts_of xs ≡ Some more → xs ≡ as_items more) → item.Text t ∷ xs ≡ as_items ts
texts_by t xs None o ts e rest = absurd (cc)
texts_by t xs (Some more) o ts e rest =
    let whole : t ∷ more ≡ ts = cc in
    ap (λ items. item.Text t ∷ items) (rest more o) ∙ ap as_items whole

-- items that are texts alone are those of words
texts_are : (xs : List Item) (ts : List (List ℕ)) → texts_of xs ≡ Some ts → xs ≡ as_items ts
texts_are [] ts e = let none : [] ≡ ts = cc in ap as_items none
texts_are (item.Text t ∷ xs) ts e = texts_by t xs (texts_of xs) refl ts e (texts_are xs)
texts_are (item.Int n ∷ xs) ts e = absurd (cc)
texts_are (item.Node p ∷ xs) ts e = absurd (cc)
texts_are (item.Pair n t ∷ xs) ts e = absurd (cc)

are_texts : (words : List (List ℕ)) → texts_of (as_items words) ≡ Some words
are_texts [] = refl
are_texts (w ∷ words) = ap (option_map (λ rest. w ∷ rest)) (are_texts words)

-- words with words put to them
pub words_grown : (place : Place) (old new ts : List (List ℕ)) (xs : List Item) → texts_of xs ≡ Some ts
    → put_items place (as_items old) (as_items ts) ≡ as_items new → word_list (put_items place (as_items old) xs) ≡ value.Words new
words_grown place old new ts xs t e =
    ap (λ added. word_list (put_items place (as_items old) added)) (texts_are xs ts t) ∙ ap word_list e ∙ rw (are_texts new) refl
