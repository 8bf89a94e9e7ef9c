-- Words put one behind another, part by part.
use Rattle.std.proofs.Common.{◌≡◌, ◌<◌, ◌∙◌, ℕ, Bool, true, false, not, ◌==◌, cond, List, [], ◌∷◌, ◌++◌, sym, refl, length, ap}
use Rattle.std.specs.Prelude.{fold, filter, if◌then◌else◌}
use Rattle.std.specs.List.{position_or_len, before_first, after_first}
use Rattle.env_text.specs.Bytes.{is_white}
use Rattle.env_text.specs.White.{is_word, words_of}
use Rattle.env_text.proofs.Whites.{words_first, words_last}
use Rattle.env_pieces.specs.Forms.{put_word, put_part, squeezed}

-- a part in front of other words
part_first : (front part : List ℕ) (words : List (List ℕ)) → fold put_word front (filter is_word (part ∷ []) ++ words) ≡ fold put_word (put_part front part) words
part_first front part words = by (length part == 0)
  where
    by : (b : Bool) → fold put_word front (cond (not b) (part ∷ []) [] ++ words) ≡ fold put_word (if b then front else put_word front part) words
    by true = refl
    by false = refl

part_alone : (front part : List ℕ) → put_part front part ≡ fold put_word front (filter is_word (part ∷ []))
part_alone front part = by (length part == 0)
  where
    by : (b : Bool) → (if b then front else put_word front part) ≡ fold put_word front (cond (not b) (part ∷ []) [])
    by true = refl
    by false = refl

pub squeeze_step : (old new text rest part after : List ℕ) → fold put_word old (words_of rest) ≡ squeezed text → new ≡ put_part old part → position_or_len is_white rest < length rest
    → part ≡ before_first is_white rest → after ≡ after_first is_white rest → fold put_word new (words_of after) ≡ squeezed text
squeeze_step old new text rest part after inv n l p a =
    rw (n, p, a) (sym (part_first old (before_first is_white rest) (words_of (after_first is_white rest))) ∙ ap (fold put_word old) (sym (words_first rest l)) ∙ inv)

pub squeeze_end : (old new text rest : List ℕ) → fold put_word old (words_of rest) ≡ squeezed text → new ≡ put_part old rest → position_or_len is_white rest ≡ length rest → new ≡ squeezed text
squeeze_end old new text rest inv n e = n ∙ part_alone old rest ∙ ap (fold put_word old) (sym (words_last rest e)) ∙ inv
