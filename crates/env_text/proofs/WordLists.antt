-- The list of words, read one after another.
use Rattle.std.proofs.Common.{◌≡◌, ℕ, zero, suc, ◌+◌, ◌∷◌, [], cond, drop, add-one, add_comm, Bool, true, false, List, refl, sym, ap, ◌∙◌, subst, arith}
use Rattle.std.specs.List.{prefix_len}
use Rattle.std.specs.Char.{is_ascii_digit}
use Rattle.std.proofs.lemmas.Bool.Decides.{nat_tests}
use Rattle.env_text.specs.Bytes.{is_white, is_name_first}
use Rattle.scons_base.specs.Runs.{is_name_byte, front_run, after_run}
use Rattle.env_text.specs.Words.{PlainWord, name, number_of, word_at, words_behind, words_of}
use Rattle.env_text.specs.Views.{BeginsWord}
use Rattle.scons_base.proofs.Runs.{front_run_with, after_run_with}

pub words_skipped : (n : ℕ) (bytes : List ℕ) → words_behind n bytes ≡ words_of (drop n bytes)
words_skipped zero bytes = refl
words_skipped (suc n) [] = refl
words_skipped (suc n) (b ∷ bytes) = words_skipped n bytes

-- white space in front doesn't count
white_by : (t : Bool) (b : ℕ) (bytes : List ℕ) (n : ℕ) → is_white b ≡ t → words_of (drop n bytes) ≡ words_of bytes → words_of (drop (cond t (1 + n) 0) (b ∷ bytes)) ≡ words_of (b ∷ bytes)
white_by true b bytes n is rest = simp (add_comm 1 n, add-one) (rw is rest)
white_by false b bytes n is rest = refl

pub white_skipped : (bytes : List ℕ) → words_of (drop (prefix_len is_white bytes) bytes) ≡ words_of bytes
white_skipped [] = refl
white_skipped (b ∷ bytes) = white_by (is_white b) b bytes (prefix_len is_white bytes) refl (white_skipped bytes)

word_by : (t : Bool) (b : ℕ) (bytes : List ℕ) (n : ℕ) → is_white b ≡ t → BeginsWord (drop n bytes) → BeginsWord (drop (cond t (1 + n) 0) (b ∷ bytes))
word_by true b bytes n is rest = simp (add_comm 1 n, add-one) rest
word_by false b bytes n is rest = is

pub word_behind_white : (bytes : List ℕ) → BeginsWord (drop (prefix_len is_white bytes) bytes)
word_behind_white [] = tt
word_behind_white (b ∷ bytes) = word_by (is_white b) b bytes (prefix_len is_white bytes) refl (word_behind_white bytes)

word_read : (b : ℕ) (rest after : List ℕ) (w : PlainWord) → is_white b ≡ false → w ≡ (word_at b rest).0 → after ≡ drop (word_at b rest).1 rest → words_of (b ∷ rest) ≡ w ∷ words_of after
word_read b rest after w black is behind =
    rw (black, is, behind) (ap (λ ws. (word_at b rest).0 ∷ ws) (words_skipped (word_at b rest).1 rest))

pub word_found : (bytes black rest after : List ℕ) (b : ℕ) (w : PlainWord) → words_of black ≡ words_of bytes → BeginsWord black → black ≡ b ∷ rest
    → w ≡ (word_at b rest).0 → after ≡ drop (word_at b rest).1 rest → words_of bytes ≡ w ∷ words_of after
word_found bytes black rest after b w same word cut is behind =
    sym same ∙ ap words_of cut ∙ word_read b rest after w (subst BeginsWord cut word) is behind

-- a name
first_is_name : (b : ℕ) → is_name_first b ≡ true → is_name_byte b ≡ true
first_is_name b is = grind (arith, nat_tests)

pub name_read : (b : ℕ) (bytes rest n : List ℕ) → is_name_first b ≡ true → bytes ≡ b ∷ rest → n ≡ front_run is_name_byte bytes → name n ≡ (word_at b rest).0
name_read b bytes rest n is cut run =
    let here : name (b ∷ front_run is_name_byte rest) ≡ (word_at b rest).0 = rw is refl in
    ap name (run ∙ ap (front_run is_name_byte) cut ∙ front_run_with is_name_byte b rest (first_is_name b is)) ∙ here

pub behind_name : (b : ℕ) (bytes rest after : List ℕ) → is_name_first b ≡ true → bytes ≡ b ∷ rest → after ≡ after_run is_name_byte bytes → after ≡ drop (word_at b rest).1 rest
behind_name b bytes rest after is cut run =
    let here : after_run is_name_byte rest ≡ drop (word_at b rest).1 rest = rw is refl in
    run ∙ ap (after_run is_name_byte) cut ∙ after_run_with is_name_byte b rest (first_is_name b is) ∙ here

-- a number
pub number_read : (b : ℕ) (bytes rest ds : List ℕ) (w : PlainWord) → is_name_first b ≡ false → is_ascii_digit b ≡ true → bytes ≡ b ∷ rest
    → ds ≡ front_run is_ascii_digit bytes → w ≡ number_of false ds → w ≡ (word_at b rest).0
number_read b bytes rest ds w other is cut run same =
    let here : number_of false (b ∷ front_run is_ascii_digit rest) ≡ (word_at b rest).0 = rw (other, is) refl in
    same ∙ ap (number_of false) (run ∙ ap (front_run is_ascii_digit) cut ∙ front_run_with is_ascii_digit b rest is) ∙ here

pub behind_number : (b : ℕ) (bytes rest after : List ℕ) → is_name_first b ≡ false → is_ascii_digit b ≡ true → bytes ≡ b ∷ rest
    → after ≡ after_run is_ascii_digit bytes → after ≡ drop (word_at b rest).1 rest
behind_number b bytes rest after other is cut run =
    let here : after_run is_ascii_digit rest ≡ drop (word_at b rest).1 rest = rw (other, is) refl in
    run ∙ ap (after_run is_ascii_digit) cut ∙ after_run_with is_ascii_digit b rest is ∙ here
