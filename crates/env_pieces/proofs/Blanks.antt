-- Texts that are white space alone have no words.
use Rattle.std.proofs.Common.{◌≡◌, ◌∙◌, ℕ, ◌==◌, Bool, true, false, not, cond, List, [], ◌∷◌, ◌++◌, refl, sym, ap, length, arith}
use Rattle.std.proofs.lemmas.Bool.{ne_eqb}
use Rattle.std.specs.Prelude.{◌&&◌, fold, filter}
use Rattle.std.specs.List.{list_all, slice_split, onto_first}
use Rattle.env_text.specs.Bytes.{is_white}
use Rattle.env_text.specs.White.{is_word}
use Rattle.env_pieces.specs.Forms.{put_word, squeezed}

abbrev is_empty : List ℕ → Bool
is_empty part = length part == 0

first : (b : ℕ) (text : List ℕ) → is_empty (b ∷ text) ≡ false
first b text = ne_eqb (length (b ∷ text)) 0 (λ e. let none : ⊥ = omega (arith, e) in none)

first_is_no_word : (x : ℕ) (parts : List (List ℕ)) → list_all is_empty (onto_first x parts) ≡ false
first_is_no_word x [] = refl
first_is_no_word x (part ∷ parts) = ap (λ e. e && list_all is_empty parts) (first x part)

empty_parts : (text : List ℕ) → list_all is_empty (slice_split is_white text) ≡ list_all is_white text
empty_parts [] = refl
empty_parts (b ∷ text) = by (is_white b) (empty_parts text)
  where
    by : (w : Bool) → list_all is_empty (slice_split is_white text) ≡ list_all is_white text
        → list_all is_empty (cond w ([] ∷ slice_split is_white text) (onto_first b (slice_split is_white text))) ≡ (w && list_all is_white text)
    by true further = further
    by false further = first_is_no_word b (slice_split is_white text)

words_stay : (b : ℕ) (front : List ℕ) (words : List (List ℕ)) → is_empty (fold put_word (b ∷ front) words) ≡ false
words_stay b front [] = first b front
words_stay b front (word ∷ words) = words_stay b (front ++ 32 ∷ word) words

no_words : (parts : List (List ℕ)) → is_empty (fold put_word [] (filter is_word parts)) ≡ list_all is_empty parts
no_words [] = refl
no_words ([] ∷ parts) = no_words parts
no_words ((b ∷ part) ∷ parts) =
    ap (λ e. is_empty (fold put_word [] (cond (not e) ((b ∷ part) ∷ filter is_word parts) (filter is_word parts)))) (first b part)
    ∙ words_stay b part (filter is_word parts) ∙ sym (ap (λ e. e && list_all is_empty parts) (first b part))

pub blank_text : (text : List ℕ) → (length (squeezed text) == 0) ≡ list_all is_white text
blank_text text = no_words (slice_split is_white text) ∙ empty_parts text
