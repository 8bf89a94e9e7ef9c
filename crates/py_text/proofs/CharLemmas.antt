-- A text and its characters.
use Rattle.std.proofs.Common.{arith, ◌≡◌, ◌≤◌, ◌+◌, ◌-◌, ◌∙◌, ℕ, zero, suc, List, [], ◌∷◌, ◌++◌, true, ap, sym, refl, subst, length, take, drop, append_assoc, add-one, chars, encode_utf8_all}
use Rattle.std.specs.Str.{IsUtf8, IsCharBoundary}
use Rattle.std.specs.Char.{encode_utf8 as encode}
use lib.Utf8.{scalar, scalars}
use Rattle.std.proofs.lemmas.Bool.{and_parts}
use Rattle.std.proofs.lemmas.Str.{chars-nil, chars-encodes, chars_past_char, chars-append, encodes-append, encodes-chars, IsUtf8-past_char, IsCharBoundary-at_seam, scalars-chars}
use Rattle.std.proofs.lemmas.List.{length-append, length-drop, take_all, drop_all, append-nil, take_at}

-- what follows the first n characters, which may be all
pub record Follows (text rest : List ℕ) (n : ℕ) : Type 0 where
  pub utf8 : IsUtf8 rest
  pub parts : text ≡ encode_utf8_all (take n (chars text)) ++ rest
  pub characters : chars rest ≡ drop n (chars text)

pub follows_none : (text : List ℕ) → IsUtf8 text → Follows text text 0
follows_none text u = record { utf8 = u; parts = refl; characters = refl }

drop_next : (xs ys : List ℕ) (c n : ℕ) → c ∷ ys ≡ drop n xs → (take (suc n) xs ≡ take n xs ++ c ∷ []) × (ys ≡ drop (suc n) xs)
drop_next [] ys c zero e = cc
drop_next [] ys c (suc n) e = cc
drop_next (x ∷ xs) ys c zero e = (cc, cc)
drop_next (x ∷ xs) ys c (suc n) e = let k = drop_next xs ys c n e in (ap (λ l. x ∷ l) k.0, k.1)

-- one character more
pub follows_more : (text rest after : List ℕ) (c n : ℕ) → Follows text rest n → rest ≡ encode c ++ after → Follows text after (n + 1)
follows_more text rest after c n f e =
    let k = drop_next (chars text) (chars after) c n (sym (chars_past_char rest after c f.utf8 e) ∙ f.characters) in
    rw add-one (record {
      utf8 = IsUtf8-past_char rest after c f.utf8 e;
      parts = f.parts ∙ ap (λ r. encode_utf8_all (take n (chars text)) ++ r) e ∙ sym (append_assoc (encode_utf8_all (take n (chars text))) (encode c) after)
          ∙ ap (λ l. l ++ after) (ap (λ l. encode_utf8_all (take n (chars text)) ++ l) (sym (append-nil (encode c))) ∙ sym (encodes-append (take n (chars text)) (c ∷ [])) ∙ ap encode_utf8_all (sym k.0));
      characters = k.1;
    })

-- no more follows the last character
pub follows_all : (text rest : List ℕ) (n m : ℕ) → Follows text rest n → length rest ≡ 0 → n ≤ m → Follows text rest m
follows_all text [] n m f e l =
    let gone : length (drop n (chars text)) ≡ 0 = ap length (sym f.characters) ∙ ap length chars-nil in
    let short : length (chars text) ≤ n = omega (arith, length-drop n (chars text)) in
    record {
      utf8 = f.utf8;
      parts = f.parts ∙ ap (λ l. encode_utf8_all l ++ []) (take_all n (chars text) short ∙ sym (take_all m (chars text) (omega arith)));
      characters = chars-nil ∙ sym (drop_all m (chars text) (omega arith));
    }
follows_all text (x ∷ rest) n m f e l = absurd (omega arith)

-- where the first characters end the text may be cut
pub seam : (text front rest : List ℕ) → text ≡ front ++ rest → IsUtf8 rest → IsCharBoundary text (length text - length rest)
seam text front rest e u =
    let n : length front ≡ length text - length rest = omega (arith, length-append front rest, ap length e) in
    subst (λ i. IsCharBoundary text i) n (IsCharBoundary-at_seam text front rest e u)

pub front_of : (text front rest : List ℕ) → text ≡ front ++ rest → take (length text - length rest) text ≡ front
front_of text front rest e =
    let n : length front ≡ length text - length rest = omega (arith, length-append front rest, ap length e) in
    rw e (take_at front rest (length (front ++ rest) - length rest) (rw e at n))

pub no_chars : (text : List ℕ) → length text ≡ 0 → chars text ≡ []
no_chars [] e = chars-nil
no_chars (x ∷ text) e = absurd (omega arith)

utf8_behind_chars : (cs ys : List ℕ) → IsUtf8 (encode_utf8_all cs ++ ys) → IsUtf8 ys
utf8_behind_chars [] ys u = u
utf8_behind_chars (c ∷ cs) ys u = utf8_behind_chars cs ys (IsUtf8-past_char (encode_utf8_all (c ∷ cs) ++ ys) (encode_utf8_all cs ++ ys) c u (append_assoc (encode c) (encode_utf8_all cs) ys))

-- what follows a text within a text is one
pub utf8_behind : (xs ys : List ℕ) → IsUtf8 xs → IsUtf8 (xs ++ ys) → IsUtf8 ys
utf8_behind xs ys u v = utf8_behind_chars (chars xs) ys (rw (encodes-chars xs u) v)

pub chars_before_char : (text before : List ℕ) (c : ℕ) → IsUtf8 text → IsUtf8 before → text ≡ before ++ encode c → chars text ≡ chars before ++ c ∷ []
chars_before_char text before c u v e =
    let w : IsUtf8 (encode c) = utf8_behind before (encode c) v (rw e at u) in
    ap chars e ∙ chars-append before (encode c) v ∙ ap (λ l. chars before ++ l) (chars_past_char (encode c) [] c w (sym (append-nil (encode c))) ∙ ap (λ l. c ∷ l) chars-nil)

scalars-drop : (n : ℕ) (cs : List ℕ) → scalars cs ≡ true → scalars (drop n cs) ≡ true
scalars-drop zero cs s = s
scalars-drop (suc n) [] s = s
scalars-drop (suc n) (c ∷ cs) s = scalars-drop n cs (and_parts (scalar c) (scalars cs) s).1

pub chars-drop : (n : ℕ) (text : List ℕ) → IsUtf8 text → chars (encode_utf8_all (drop n (chars text))) ≡ drop n (chars text)
chars-drop n text u = chars-encodes (drop n (chars text)) (scalars-drop n (chars text) (scalars-chars text u))
