-- The words of a text, part by part.
use Rattle.std.proofs.Common.{arith, ◌≡◌, ◌<◌, ◌∙◌, ℕ, List, [], ◌∷◌, ◌++◌, Bool, true, false, not, cond, ap, sym, refl, length, get_or, append_assoc, ⊎_elim, ◌==◌, leb, Some, None}
use Rattle.std.specs.Prelude.{position, nat_lt, filter}
use Rattle.std.specs.List.{slice_split, position_or_len, before_first, after_first}
use Rattle.std.proofs.lemmas.Bool.{ltb-false, leb-true, eqb-true, or_cases, and_parts}
use Rattle.std.proofs.lemmas.List.Quantifiers.{position-Some}
use Rattle.std.proofs.lemmas.List.Sums.{fails_before_first, position_or_len_is, prefix_len-le-length}
use Rattle.std.proofs.lemmas.List.Splits.{slice_split_first, slice_split_none}
use Rattle.env_text.specs.Bytes.{is_white}
use Rattle.env_text.specs.White.{is_word, words_of}

filter_first : {X : Type 0} → (p : X → Bool) (x : X) (xs : List X) → filter p (x ∷ xs) ≡ filter p (x ∷ []) ++ filter p xs
filter_first p x xs = by (p x)
  where
    by : (b : Bool) → cond b (x ∷ filter p xs) (filter p xs) ≡ cond b (x ∷ []) [] ++ filter p xs
    by true = refl
    by false = refl

pub words_first : (text : List ℕ) → position_or_len is_white text < length text → words_of text ≡ filter is_word (before_first is_white text ∷ []) ++ words_of (after_first is_white text)
words_first text l =
    ap (filter is_word) (slice_split_first is_white text 0 l) ∙ filter_first is_word (before_first is_white text) (slice_split is_white (after_first is_white text))

pub words_last : (text : List ℕ) → position_or_len is_white text ≡ length text → words_of text ≡ filter is_word (text ∷ [])
words_last text e = ap (filter is_word) (slice_split_none is_white text (λ i d l. fails_before_first is_white text i d (rw e l)))

-- what `position` tells of the first place
pub place_some : (text : List ℕ) (i : ℕ) → position is_white text ≡ Some i → (position_or_len is_white text ≡ i) × (i < length text) × (is_white (get_or text i 0) ≡ true)
place_some text i h =
    let k = position-Some is_white text i 0 h in
    (position_or_len_is is_white text i 0 (omega (arith, k.0)) k.2 (λ _. k.1), k.0, k.1)

pub place_none : (text : List ℕ) → position is_white text ≡ None → position_or_len is_white text ≡ length text
place_none text h = by (nat_lt (position_or_len is_white text) (length text)) refl
  where
    by : (b : Bool) → nat_lt (position_or_len is_white text) (length text) ≡ b → position_or_len is_white text ≡ length text
    by true e =
        let found : position is_white text ≡ Some (position_or_len is_white text) = rw e refl in
        let clash : Some (position_or_len is_white text) ≡ None = sym found ∙ h in cc
    by false e = omega (arith, ltb-false _ _ e, prefix_len-le-length (λ x. not (is_white x)) text)

pub white_ascii : (b : ℕ) → is_white b ≡ true → b < 128
white_ascii b h = ⊎_elim (λ e. let k = eqb-true b 32 e in omega arith) (λ e. let k = leb-true b 13 (and_parts (leb 9 b) (leb b 13) e).1 in omega arith) (or_cases (b == 32) _ h)

pub words_step : (old new : List (List ℕ)) (part after rest : List ℕ) → new ≡ old ++ filter is_word (part ∷ []) → position_or_len is_white rest < length rest
    → part ≡ before_first is_white rest → after ≡ after_first is_white rest → new ++ words_of after ≡ old ++ words_of rest
words_step old new part after rest n l p a =
    rw (n, p, a) (append_assoc old (filter is_word (before_first is_white rest ∷ [])) (words_of (after_first is_white rest)) ∙ ap (λ w. old ++ w) (sym (words_first rest l)))

pub words_end : (old new : List (List ℕ)) (rest : List ℕ) → new ≡ old ++ filter is_word (rest ∷ []) → position_or_len is_white rest ≡ length rest → new ≡ old ++ words_of rest
words_end old new rest n l = n ∙ ap (λ w. old ++ w) (sym (words_last rest l))
