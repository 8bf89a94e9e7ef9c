-- White space around a text and within it.
use Rattle.std.proofs.Common.{arith, ◌≡◌, ◌<◌, ◌+◌, ◌-◌, ◌∙◌, ℕ, suc, List, [], ◌∷◌, ◌++◌, Bool, true, false, not, cond, ap, sym, refl, length, take, drop, map, reverse, append_assoc, chars, encode_utf8_all, encode_utf8}
use Rattle.std.specs.Prelude.{filter}
use Rattle.std.specs.Str.{IsUtf8}
use Rattle.std.specs.List.{prefix_len, suffix_len, slice_split, position_or_len, before_first, after_first}
use Rattle.std.proofs.lemmas.List.{length-append, length-drop, reverse-append, take-append-le, take-append-drop, append_cancel_right, map-append, take_all}
use Rattle.std.proofs.lemmas.List.Sums.{prefix_len-le-length, fails_before_first}
use Rattle.std.proofs.lemmas.List.Splits.{slice_split_first, slice_split_none}
use Rattle.std.proofs.lemmas.Bool.{ne_eqb}
use Rattle.std.proofs.lemmas.Str.{encodes-chars, chars-append, length-encode, len_utf8_bounds}
use Rattle.py_text.specs.White.{is_white}
use Rattle.py_text.specs.Stripping.{without_white_front, without_white_end, lstrip, rstrip}
use Rattle.py_text.specs.Splitting.{is_word, words_of}
use Rattle.py_text.proofs.CharLemmas.{Follows, follows_none, follows_more}

prefix_more : (p : ℕ → Bool) (c : ℕ) (cs : List ℕ) → p c ≡ true → prefix_len p (c ∷ cs) ≡ suc (prefix_len p cs)
prefix_more p c cs w = rw w (omega arith)

prefix_stops : (p : ℕ → Bool) (c : ℕ) (cs : List ℕ) → p c ≡ false → prefix_len p (c ∷ cs) ≡ 0
prefix_stops p c cs w = rw w refl

front_more : (c : ℕ) (cs : List ℕ) → is_white c ≡ true → without_white_front (c ∷ cs) ≡ without_white_front cs
front_more c cs w = ap (λ n. drop n (c ∷ cs)) (prefix_more is_white c cs w)

pub lstrip_more : (rest after : List ℕ) (c : ℕ) → chars rest ≡ c ∷ chars after → is_white c ≡ true → lstrip after ≡ lstrip rest
lstrip_more rest after c e w = sym (ap (λ cs. encode_utf8_all (without_white_front cs)) e ∙ ap encode_utf8_all (front_more c (chars after) w))

pub lstrip_stops : (rest after : List ℕ) (c : ℕ) → IsUtf8 rest → chars rest ≡ c ∷ chars after → is_white c ≡ false → rest ≡ lstrip rest
lstrip_stops rest after c u e w =
    let n : prefix_len is_white (chars rest) ≡ 0 = ap (prefix_len is_white) e ∙ prefix_stops is_white c (chars after) w in
    sym (ap (λ i. encode_utf8_all (drop i (chars rest))) n ∙ encodes-chars rest u)

pub lstrip_empty : (rest : List ℕ) → IsUtf8 rest → chars rest ≡ [] → rest ≡ lstrip rest
lstrip_empty rest u e =
    let n : prefix_len is_white (chars rest) ≡ 0 = ap (prefix_len is_white) e in
    sym (ap (λ i. encode_utf8_all (drop i (chars rest))) n ∙ encodes-chars rest u)

suffix_push : (cs : List ℕ) (c : ℕ) → suffix_len is_white (cs ++ c ∷ []) ≡ prefix_len is_white (c ∷ reverse cs)
suffix_push cs c = ap (prefix_len is_white) (reverse-append cs (c ∷ []))

end_more : (c : ℕ) (cs : List ℕ) → is_white c ≡ true → without_white_end (cs ++ c ∷ []) ≡ without_white_end cs
end_more c cs w =
    let n : suffix_len is_white (cs ++ c ∷ []) ≡ suc (suffix_len is_white cs) = suffix_push cs c ∙ prefix_more is_white c (reverse cs) w in
    let i : length (cs ++ c ∷ []) - suffix_len is_white (cs ++ c ∷ []) ≡ length cs - suffix_len is_white cs = omega (arith, length-append cs (c ∷ [])) in
    ap (λ k. take k (cs ++ c ∷ [])) i ∙ take-append-le (length cs - suffix_len is_white cs) cs (c ∷ []) (omega arith)

pub rstrip_more : (rest before : List ℕ) (c : ℕ) → chars rest ≡ chars before ++ c ∷ [] → is_white c ≡ true → rstrip before ≡ rstrip rest
rstrip_more rest before c e w = sym (ap (λ cs. encode_utf8_all (without_white_end cs)) e ∙ ap encode_utf8_all (end_more c (chars before) w))

stays : (rest : List ℕ) → IsUtf8 rest → suffix_len is_white (chars rest) ≡ 0 → rest ≡ rstrip rest
stays rest u n = sym (ap encode_utf8_all (take_all (length (chars rest) - suffix_len is_white (chars rest)) (chars rest) (omega arith)) ∙ encodes-chars rest u)

pub rstrip_stops : (rest before : List ℕ) (c : ℕ) → IsUtf8 rest → chars rest ≡ chars before ++ c ∷ [] → is_white c ≡ false → rest ≡ rstrip rest
rstrip_stops rest before c u e w = stays rest u (ap (suffix_len is_white) e ∙ suffix_push (chars before) c ∙ prefix_stops is_white c (reverse (chars before)) w)

pub rstrip_empty : (rest : List ℕ) → IsUtf8 rest → chars rest ≡ [] → rest ≡ rstrip rest
rstrip_empty rest u e = stays rest u (ap (suffix_len is_white) e)

-- a character less in front, and one less at the end, make a text shorter
pub shorter_front : (rest after : List ℕ) (c : ℕ) → rest ≡ encode_utf8 c ++ after → length after < length rest
shorter_front rest after c e = omega (arith, ap length e, length-append (encode_utf8 c) after, length-encode c, (len_utf8_bounds c).0)

pub shorter_end : (rest before : List ℕ) (c : ℕ) → rest ≡ before ++ encode_utf8 c → length before < length rest
shorter_end rest before c e = omega (arith, ap length e, length-append before (encode_utf8 c), length-encode c, (len_utf8_bounds c).0)

-- no white space stands before what is left
pub record Passed (text rest : List ℕ) : Type 0 where
  pub count : ℕ
  pub follows : Follows text rest count
  pub whole : position_or_len is_white (chars text) ≡ count + position_or_len is_white (chars rest)

pub passed_none : (text : List ℕ) → IsUtf8 text → Passed text text
passed_none text u = record { count = 0; follows = follows_none text u; whole = omega arith }

pub passed_more : (text rest after : List ℕ) (c : ℕ) → Passed text rest → rest ≡ encode_utf8 c ++ after → chars rest ≡ c ∷ chars after → is_white c ≡ false → Passed text after
passed_more text rest after c p e f w =
    let black : not (is_white c) ≡ true = rw w refl in
    let n : position_or_len is_white (chars rest) ≡ suc (position_or_len is_white (chars after)) = ap (position_or_len is_white) f ∙ prefix_more (λ x. not (is_white x)) c (chars after) black in
    let whole = p.whole in
    record { count = p.count + 1; follows = follows_more text rest after c p.count p.follows e; whole = omega arith }

pub passed_all : (text rest : List ℕ) → Passed text rest → chars rest ≡ [] → position_or_len is_white (chars text) ≡ length (chars text)
passed_all text rest p e =
    let n : position_or_len is_white (chars rest) ≡ 0 = ap (position_or_len is_white) e in
    let gone : length (drop p.count (chars text)) ≡ 0 = ap length (sym p.follows.characters ∙ e) in
    omega (arith, p.whole, length-drop p.count (chars text), prefix_len-le-length (λ x. not (is_white x)) (chars text))

pub record FoundWhite (text front after : List ℕ) : Type 0 where
  pub within : position_or_len is_white (chars text) < length (chars text)
  pub before : chars front ≡ before_first is_white (chars text)
  pub behind : chars after ≡ after_first is_white (chars text)

pub passed_found : (text rest after front : List ℕ) (c : ℕ) → Passed text rest → rest ≡ encode_utf8 c ++ after → chars rest ≡ c ∷ chars after → is_white c ≡ true
    → IsUtf8 front → text ≡ front ++ rest → FoundWhite text front after
passed_found text rest after front c p e f w u parts =
    let white : not (is_white c) ≡ false = rw w refl in
    let n : position_or_len is_white (chars rest) ≡ 0 = ap (position_or_len is_white) f ∙ prefix_stops (λ x. not (is_white x)) c (chars after) white in
    let place : position_or_len is_white (chars text) ≡ p.count = omega (arith, p.whole) in
    let left : length (drop p.count (chars text)) ≡ suc (length (chars after)) = ap length (sym p.follows.characters ∙ f) in
    let front_chars : chars front ≡ take p.count (chars text) = append_cancel_right (chars front) (take p.count (chars text)) (drop p.count (chars text))
    (ap (λ l. chars front ++ l) (sym p.follows.characters) ∙ sym (ap chars parts ∙ chars-append front rest u) ∙ sym (take-append-drop p.count (chars text))) in
    record {
      within = omega (arith, length-drop p.count (chars text));
      before = front_chars ∙ ap (λ i. take i (chars text)) (sym place);
      behind = (follows_more text rest after c p.count p.follows e).characters ∙ ap (λ i. drop (i + 1) (chars text)) (sym place);
    }

-- a part is empty where it has no characters
word_of_chars : (cs part : List ℕ) → encode_utf8_all cs ≡ part → is_word cs ≡ is_word part
word_of_chars [] part e = ap is_word e
word_of_chars (c ∷ cs) part e =
    let long : 0 < length (encode_utf8 c ++ encode_utf8_all cs) = omega (arith, length-append (encode_utf8 c) (encode_utf8_all cs), length-encode c, (len_utf8_bounds c).0) in
    ap not (ne_eqb (suc (length cs)) 0 (λ z. omega arith)) ∙ sym (ap not (ne_eqb (length (encode_utf8 c ++ encode_utf8_all cs)) 0 (λ z. omega arith))) ∙ ap is_word e

word_bytes : (part : List ℕ) → IsUtf8 part → map encode_utf8_all (filter is_word (chars part ∷ [])) ≡ filter is_word (part ∷ [])
word_bytes part u = by (is_word part) (word_of_chars (chars part) part (encodes-chars part u))
  where
    by : (b : Bool) → is_word (chars part) ≡ b → map encode_utf8_all (cond (is_word (chars part)) (chars part ∷ []) []) ≡ cond b (part ∷ []) []
    by true e = rw e (ap (λ p. p ∷ []) (encodes-chars part u))
    by false e = rw e refl

filter_first : (p : List ℕ → Bool) (x : List ℕ) (xs : List (List ℕ)) → filter p (x ∷ xs) ≡ filter p (x ∷ []) ++ filter p xs
filter_first p x xs = by (p x)
  where
    by : (b : Bool) → cond b (x ∷ filter p xs) (filter p xs) ≡ cond b (x ∷ []) [] ++ filter p xs
    by true = refl
    by false = refl

words_first : (rest part after : List ℕ) → IsUtf8 part → FoundWhite rest part after → words_of rest ≡ filter is_word (part ∷ []) ++ words_of after
words_first rest part after u f =
    let first = before_first is_white (chars rest) in
    let later = slice_split is_white (after_first is_white (chars rest)) in
    ap (λ parts. map encode_utf8_all (filter is_word parts)) (slice_split_first is_white (chars rest) 0 f.within)
    ∙ ap (map encode_utf8_all) (filter_first is_word first later)
    ∙ map-append encode_utf8_all (filter is_word (first ∷ [])) (filter is_word later)
    ∙ ap (λ l. map encode_utf8_all (filter is_word (l ∷ [])) ++ map encode_utf8_all (filter is_word later)) (sym f.before)
    ∙ ap (λ l. map encode_utf8_all (filter is_word (chars part ∷ [])) ++ map encode_utf8_all (filter is_word (slice_split is_white l))) (sym f.behind)
    ∙ ap (λ l. l ++ words_of after) (word_bytes part u)

pub words_more : (old new : List (List ℕ)) (rest part after : List ℕ) → IsUtf8 part → new ≡ old ++ filter is_word (part ∷ []) → FoundWhite rest part after → new ++ words_of after ≡ old ++ words_of rest
words_more old new rest part after u n f =
    ap (λ l. l ++ words_of after) n ∙ append_assoc old (filter is_word (part ∷ [])) (words_of after) ∙ ap (λ l. old ++ l) (sym (words_first rest part after u f))

pub words_end : (old new : List (List ℕ)) (rest : List ℕ) → IsUtf8 rest → new ≡ old ++ filter is_word (rest ∷ []) → position_or_len is_white (chars rest) ≡ length (chars rest) → new ≡ old ++ words_of rest
words_end old new rest u n e =
    n ∙ ap (λ l. old ++ l) (sym (ap (λ parts. map encode_utf8_all (filter is_word parts))
    (slice_split_none is_white (chars rest) (λ i d l. fails_before_first is_white (chars rest) i d (rw e l))) ∙ word_bytes rest u))
