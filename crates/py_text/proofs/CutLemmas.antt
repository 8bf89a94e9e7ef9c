-- A text cut at a separator, part by part.
use Rattle.std.proofs.Common.{arith, ◌≡◌, ◌<◌, ◌≤◌, ◌+◌, ◌∙◌, ℕ, zero, suc, List, [], ◌∷◌, ◌++◌, Option, Some, None, ap, sym, refl, length, take, drop, map, append_assoc, chars, encode_utf8_all}
use Rattle.std.specs.Str.{IsUtf8}
use Rattle.std.specs.List.{flat_map}
use Rattle.std.proofs.lemmas.List.{length-append, take_at, drop_at, append-nil}
use Rattle.std.proofs.lemmas.Str.{encodes-chars}
use Rattle.py_text.specs.Finding.{first_place}
use Rattle.py_text.specs.Joining.{joined}
use Rattle.py_text.specs.Splitting.{split_up_to, split_of}

split_last : (n : ℕ) (s xs : List ℕ) → first_place s xs ≡ None → split_up_to n s xs ≡ xs ∷ []
split_last zero s xs none = refl
split_last (suc n) s xs none = rw (none, split_up_to) refl

split_first : (n : ℕ) (s xs a b : List ℕ) → first_place s xs ≡ Some (length a) → xs ≡ a ++ s ++ b → split_up_to (suc n) s xs ≡ a ∷ split_up_to n s b
split_first n s xs a b found e =
    let front : take (length a) xs ≡ a = ap (take (length a)) (e ∙ append_assoc a s b) ∙ take_at a (s ++ b) (length a) refl in
    let rest : drop (length a + length s) xs ≡ b = ap (drop (length a + length s)) e ∙ drop_at (a ++ s) b (length a + length s) (length-append a s) in
    rw (found, split_up_to) (rw (front, rest) refl)

chars_some : (cs text : List ℕ) → encode_utf8_all cs ≡ text → 0 < length text → 0 < length cs
chars_some [] text e l = absurd (omega (arith, ap length e))
chars_some (c ∷ cs) text e l = omega arith

-- a cut less is left
one_cut : (n : ℕ) (sep rest part after : List ℕ) → 0 < length sep → IsUtf8 sep → IsUtf8 part → length (chars rest) ≤ n
    → first_place (chars sep) (chars rest) ≡ Some (length (chars part)) → chars rest ≡ chars part ++ chars sep ++ chars after
    → (m : ℕ) × (length (chars after) ≤ m) × (map encode_utf8_all (split_up_to n (chars sep) (chars rest)) ≡ part ∷ map encode_utf8_all (split_up_to m (chars sep) (chars after)))
one_cut zero sep rest part after some u v l found e =
    let s = chars_some (chars sep) sep (encodes-chars sep u) some in
    absurd (omega (arith, ap length e, length-append (chars part ++ chars sep) (chars after), length-append (chars part) (chars sep)))
one_cut (suc m) sep rest part after some u v l found e =
    let s = chars_some (chars sep) sep (encodes-chars sep u) some in (
      m,
      omega (arith, ap length e, length-append (chars part ++ chars sep) (chars after), length-append (chars part) (chars sep)),
      ap (map encode_utf8_all) (split_first m (chars sep) (chars rest) (chars part) (chars after) found e)
          ∙ ap (λ p. p ∷ map encode_utf8_all (split_up_to m (chars sep) (chars after))) (encodes-chars part v),
    )

no_cut : (n : ℕ) (sep rest : List ℕ) → IsUtf8 rest → first_place (chars sep) (chars rest) ≡ None → map encode_utf8_all (split_up_to n (chars sep) (chars rest)) ≡ rest ∷ []
no_cut n sep rest u none = ap (map encode_utf8_all) (split_last n (chars sep) (chars rest) none) ∙ ap (λ p. p ∷ []) (encodes-chars rest u)

-- these parts, and those of what is left, are the parts of the text
pub record Cuts (sep text rest : List ℕ) (parts : List (List ℕ)) : Type 0 where
  pub cuts : ℕ
  pub enough : length (chars rest) ≤ cuts
  pub whole : parts ++ map encode_utf8_all (split_up_to cuts (chars sep) (chars rest)) ≡ split_of text sep

pub cuts_none : (sep text : List ℕ) → Cuts sep text text []
cuts_none sep text = record { cuts = length (chars text); enough = omega arith; whole = refl }

pub cuts_more : (sep text rest part after : List ℕ) (parts : List (List ℕ)) → 0 < length sep → IsUtf8 sep → IsUtf8 part → Cuts sep text rest parts
    → first_place (chars sep) (chars rest) ≡ Some (length (chars part)) → chars rest ≡ chars part ++ chars sep ++ chars after → Cuts sep text after (parts ++ part ∷ [])
cuts_more sep text rest part after parts some u v c found e =
    let k = one_cut c.cuts sep rest part after some u v c.enough found e in
    record {
      cuts = k.0;
      enough = k.1;
      whole = append_assoc parts (part ∷ []) (map encode_utf8_all (split_up_to k.0 (chars sep) (chars after))) ∙ ap (λ l. parts ++ l) (sym k.2) ∙ c.whole;
    }

pub cuts_end : (sep text rest : List ℕ) (parts : List (List ℕ)) → IsUtf8 rest → Cuts sep text rest parts → first_place (chars sep) (chars rest) ≡ None → parts ++ rest ∷ [] ≡ split_of text sep
cuts_end sep text rest parts u c none = ap (λ l. parts ++ l) (sym (no_cut c.cuts sep rest u none)) ∙ c.whole

-- what is made, and the joined parts of what is left, are the joined parts of the text
pub record Exchanges (new old text rest made : List ℕ) : Type 0 where
  pub cuts : ℕ
  pub enough : length (chars rest) ≤ cuts
  pub whole : made ++ joined new (map encode_utf8_all (split_up_to cuts (chars old) (chars rest))) ≡ joined new (split_of text old)

pub exchanges_none : (new old text : List ℕ) → Exchanges new old text text []
exchanges_none new old text = record { cuts = length (chars text); enough = omega arith; whole = refl }

split_shape : (n : ℕ) (s xs : List ℕ) → (part : List ℕ) × (parts : List (List ℕ)) × (split_up_to n s xs ≡ part ∷ parts)
split_shape zero s xs = (xs, [], refl)
split_shape (suc n) s xs = by (first_place s xs)
  where
    by : (o : Option ℕ) → (part : List ℕ) × (parts : List (List ℕ)) × (elim o [ None ↦ xs ∷ [] | Some place ↦ take place xs ∷ split_up_to n s (drop (place + length s) xs) ] ≡ part ∷ parts)
    by None = (xs, [], refl)
    by (Some place) = (take place xs, split_up_to n s (drop (place + length s) xs), refl)

joined_first : (new part : List ℕ) (parts : List (List ℕ)) (p : List ℕ) (ps : List (List ℕ)) → parts ≡ p ∷ ps → joined new (part ∷ parts) ≡ part ++ (new ++ joined new parts)
joined_first new part parts p ps e = rw e (ap (λ l. part ++ l) (append_assoc new p (flat_map (λ y. new ++ y) ps)))

pub exchanges_more : (new old text rest before after made : List ℕ) → 0 < length old → IsUtf8 old → IsUtf8 before → Exchanges new old text rest made
    → first_place (chars old) (chars rest) ≡ Some (length (chars before)) → chars rest ≡ chars before ++ chars old ++ chars after → Exchanges new old text after (made ++ before ++ new)
exchanges_more new old text rest before after made some u v c found e =
    let k = one_cut c.cuts old rest before after some u v c.enough found e in
    let left = map encode_utf8_all (split_up_to k.0 (chars old) (chars after)) in
    let s = split_shape k.0 (chars old) (chars after) in
    record {
      cuts = k.0;
      enough = k.1;
      whole = append_assoc (made ++ before) new (joined new left) ∙ append_assoc made before (new ++ joined new left)
          ∙ ap (λ l. made ++ l) (sym (joined_first new before left (encode_utf8_all s.0) (map encode_utf8_all s.1) (ap (map encode_utf8_all) s.2)) ∙ ap (joined new) (sym k.2))
          ∙ c.whole;
    }

pub exchanges_end : (new old text rest made : List ℕ) → IsUtf8 rest → Exchanges new old text rest made → first_place (chars old) (chars rest) ≡ None → made ++ rest ≡ joined new (split_of text old)
exchanges_end new old text rest made u c none =
    ap (λ l. made ++ l) (sym (append-nil rest) ∙ sym (ap (joined new) (no_cut c.cuts old rest u none))) ∙ c.whole

-- a cut makes the text shorter
pub cut_shorter : (rest part sep after : List ℕ) → 0 < length sep → rest ≡ part ++ sep ++ after → length after < length rest
cut_shorter rest part sep after some e = omega (arith, ap length e, length-append (part ++ sep) after, length-append part sep)
