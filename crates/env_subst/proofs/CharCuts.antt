-- Texts, cut between characters.
use Rattle.std.proofs.Common.{◌≡◌, ◌∙◌, ◌<◌, ◌≤◌, ◌+◌, ◌-◌, ℕ, zero, suc, true, List, [], ◌∷◌, ◌++◌, length, take, drop, refl, sym, ap, append_assoc, append-nil, arith, subst, ⊎_elim}
use Rattle.std.specs.Prelude.{encode_utf8, min, nat_lt, Bool, false, Option, Some, None, if◌then◌else◌}
use Rattle.std.specs.Str.{chars, IsUtf8, IsCharBoundary}
use lib.Utf8.{scalars, encodes, encode}
use Rattle.std.proofs.lemmas.Bool.{and_parts, cases_lt, ltb-false, le-ltb}
use Rattle.std.proofs.lemmas.List.{length-append, take-append-drop, take_all, take_at, drop_all}
use Rattle.std.proofs.Math.Seq.{drop-append_seam}
use Rattle.std.proofs.lemmas.Str.{encodes-append, encodes-chars, length-le-encodes, scalars-chars, chars-append, chars-nil, chars_past_char, IsUtf8-drop, IsCharBoundary-from_take, IsCharBoundary-at_seam}
use Rattle.env_text.specs.declared.part.Index.{Index}
use Rattle.env_text.specs.declared.part.Index.TheVariants.{FromFront, FromBack}
use Rattle.env_subst.specs.Selections.{slice_end, item_range, between, place_behind, end_place}

scalars_drop : (k : ℕ) (cs : List ℕ) → scalars cs ≡ true → scalars (drop k cs) ≡ true
scalars_drop zero cs h = h
scalars_drop (suc k) [] h = refl
scalars_drop (suc k) (c ∷ cs) h = scalars_drop k cs (and_parts _ (scalars cs) h).1

-- a text at a place between characters
cut_at : (text : List ℕ) → IsUtf8 text → (k : ℕ) → text ≡ encodes (take k (chars text)) ++ encodes (drop k (chars text))
cut_at text u k = sym (encodes-chars text u) ∙ ap encodes (sym (take-append-drop k (chars text))) ∙ encodes-append (take k (chars text)) (drop k (chars text))

pub place_boundary : (text : List ℕ) → IsUtf8 text → (k : ℕ) → IsCharBoundary text (place_behind k text)
place_boundary text u k =
    IsCharBoundary-at_seam text (encodes (take k (chars text))) (encodes (drop k (chars text))) (cut_at text u k)
    (drop k (chars text), (scalars_drop k (chars text) (scalars-chars text u), refl))

-- what is left behind a place
left_at : (text : List ℕ) → IsUtf8 text → (k : ℕ) → drop (place_behind k text) text ≡ encodes (drop k (chars text))
left_at text u k =
    ap (drop (place_behind k text)) (cut_at text u k) ∙ drop-append_seam (encodes (take k (chars text))) (encodes (drop k (chars text)))

take_none : (k : ℕ) → take k (let none : List ℕ = [] in none) ≡ []
take_none zero = refl
take_none (suc k) = refl

take_between : (i j : ℕ) (cs : List ℕ) → i ≤ j → take j cs ≡ take i cs ++ take (j - i) (drop i cs)
take_between zero j cs h = ap (λ k. take k cs) (let e : j ≡ j - 0 = omega arith in e)
take_between (suc i) zero cs h = absurd (omega arith)
take_between (suc i) (suc j) [] h = sym (take_none (suc j - suc i))
take_between (suc i) (suc j) (c ∷ cs) h =
    ap (λ l. c ∷ l) (take_between i j cs (omega arith) ∙ ap (λ k. take i cs ++ take k (drop i cs)) (let e : j - i ≡ suc j - suc i = omega arith in e))

-- the bytes between two places are those of the characters between
pub bytes_between : (text : List ℕ) → IsUtf8 text → (i j : ℕ) → take (place_behind j text - place_behind i text) (drop (place_behind i text) text) ≡ encodes (between (i, j) (chars text))
bytes_between text u i j = ⊎_elim later earlier (cases_lt i j)
  where
    part : List ℕ
    part = take (j - i) (drop i (chars text))

    later : i < j → take (place_behind j text - place_behind i text) (drop (place_behind i text) text) ≡ encodes (between (i, j) (chars text))
    later h =
        let long : place_behind j text ≡ place_behind i text + length (encodes (take (j - i) (drop i (chars text)))) =
        ap (λ cs. length (encodes cs)) (take_between i j (chars text) (omega arith)) ∙ ap length (encodes-append (take i (chars text)) (take (j - i) (drop i (chars text)))) ∙ length-append (encodes (take i (chars text))) (encodes (take (j - i) (drop i (chars text)))) in
        let size : place_behind j text - place_behind i text ≡ length (encodes (take (j - i) (drop i (chars text)))) = omega (arith, long) in
        let rest : encodes (drop i (chars text)) ≡ encodes (take (j - i) (drop i (chars text))) ++ encodes (drop (j - i) (drop i (chars text))) =
        ap encodes (sym (take-append-drop (j - i) (drop i (chars text)))) ∙ encodes-append (take (j - i) (drop i (chars text))) (drop (j - i) (drop i (chars text))) in
        ap (λ n. take n (drop (place_behind i text) text)) size
        ∙ ap (take (length (encodes (take (j - i) (drop i (chars text)))))) (left_at text u i ∙ rest)
        ∙ take_at (encodes (take (j - i) (drop i (chars text)))) (encodes (drop (j - i) (drop i (chars text)))) _ refl

    earlier : j ≤ i → take (place_behind j text - place_behind i text) (drop (place_behind i text) text) ≡ encodes (between (i, j) (chars text))
    earlier h =
        let none : j - i ≡ 0 = omega arith in
        let long : place_behind i text ≡ place_behind j text + length (encodes (take (i - j) (drop j (chars text)))) =
        ap (λ cs. length (encodes cs)) (take_between j i (chars text) h) ∙ ap length (encodes-append (take j (chars text)) (take (i - j) (drop j (chars text)))) ∙ length-append (encodes (take j (chars text))) (encodes (take (i - j) (drop j (chars text)))) in
        let size : place_behind j text - place_behind i text ≡ 0 = omega (arith, long) in
        ap (λ n. take n (drop (place_behind i text) text)) size ∙ ap (λ k. encodes (take k (drop i (chars text)))) (sym none)

-- characters that were passed from the front
pub record Passed (text : List ℕ) (front rest : List ℕ) (left count : ℕ) : Type 0 where
  pub bytes : text ≡ encodes front ++ rest
  pub characters : chars text ≡ front ++ chars rest
  pub counted : length front + left ≡ count

pub none_passed : (text : List ℕ) (count : ℕ) → Passed text [] text count count
none_passed text count = record { bytes = refl; characters = refl; counted = omega arith }

pub one_passed : (text front rest behind : List ℕ) (c left next count : ℕ) → Passed text front rest left count → IsUtf8 rest → rest ≡ encode_utf8 c ++ behind → next + 1 ≡ left → Passed text (front ++ c ∷ []) behind next count
one_passed text front rest behind c left next count p u e n = record {
  bytes = p.bytes ∙ ap (λ r. encodes front ++ r) e ∙ sym (append_assoc (encodes front) (encode_utf8 c) behind)
      ∙ ap (λ x. x ++ behind) (ap (λ x. encodes front ++ x) (sym (append-nil (encode_utf8 c))) ∙ sym (encodes-append front (c ∷ [])));
  characters = p.characters ∙ ap (λ cs. front ++ cs) (chars_past_char rest behind c u e) ∙ sym (append_assoc front (c ∷ []) (chars behind));
  counted = omega (arith, length-append front (c ∷ []), p.counted);
}

pub front_is : (text front rest : List ℕ) (left count : ℕ) → Passed text front rest left count → left ≡ 0 → length text - length rest ≡ place_behind count text
front_is text front rest left count p none =
    let same : count ≡ length front = omega (arith, p.counted) in
    let taken : take count (chars text) ≡ front = ap (take count) p.characters ∙ take_at front (chars rest) count (sym same) in
    let size : length text ≡ length (encodes front) + length rest = ap length p.bytes ∙ length-append (encodes front) rest in
    let e : length text - length rest ≡ length (encodes front) = omega (arith, size) in
    e ∙ ap (λ cs. length (encodes cs)) (sym taken)

pub all_passed : (text front rest : List ℕ) (left count : ℕ) → Passed text front rest left count → rest ≡ [] → length text ≡ place_behind count text
all_passed text front rest left count p none =
    let whole : chars text ≡ front = p.characters ∙ ap (λ r. front ++ chars r) none ∙ ap (λ cs. front ++ cs) chars-nil ∙ append-nil front in
    let taken : take count (chars text) ≡ front = ap (take count) whole ∙ take_all count front (omega (arith, p.counted)) in
    ap length (p.bytes ∙ ap (λ r. encodes front ++ r) none ∙ append-nil (encodes front)) ∙ ap (λ cs. length (encodes cs)) (sym taken)

-- and from the back
pub record Left (text : List ℕ) (back rest : List ℕ) (left count : ℕ) : Type 0 where
  pub characters : chars text ≡ chars rest ++ back
  pub counted : length back + left ≡ count

pub none_left : (text : List ℕ) (count : ℕ) → Left text [] text count count
none_left text count = record { characters = sym (append-nil (chars text)); counted = omega arith }

last_char : (rest before : List ℕ) (c : ℕ) → IsUtf8 rest → IsUtf8 before → rest ≡ before ++ encode_utf8 c → chars rest ≡ chars before ++ c ∷ []
last_char rest before c u v e =
    let front : take (length before) rest ≡ before = ap (take (length before)) e ∙ take_at before (encode_utf8 c) _ refl in
    let back : drop (length before) rest ≡ encode_utf8 c = ap (drop (length before)) e ∙ drop-append_seam before (encode_utf8 c) in
    let fits : length before ≤ length rest = omega (arith, ap length e, length-append before (encode_utf8 c)) in
    let seam : IsCharBoundary rest (length before) = IsCharBoundary-from_take rest (length before) u fits (subst IsUtf8 (sym front) v) in
    let one : IsUtf8 (encode_utf8 c) = subst IsUtf8 back (IsUtf8-drop rest (length before) u seam) in
    ap chars e ∙ chars-append before (encode_utf8 c) v ∙ ap (λ cs. chars before ++ cs) (chars_past_char (encode_utf8 c) [] c one (sym (append-nil (encode_utf8 c))) ∙ ap (λ cs. c ∷ cs) chars-nil)

pub one_left : (text back rest before : List ℕ) (c left next count : ℕ) → Left text back rest left count → IsUtf8 rest → IsUtf8 before → rest ≡ before ++ encode_utf8 c → next + 1 ≡ left → Left text (c ∷ back) before next count
one_left text back rest before c left next count p u v e n = record {
  characters = p.characters ∙ ap (λ cs. cs ++ back) (last_char rest before c u v e) ∙ append_assoc (chars before) (c ∷ []) back;
  counted = omega (arith, p.counted);
}

pub back_is : (text back rest : List ℕ) (left count : ℕ) → Left text back rest left count → IsUtf8 rest → left ≡ 0 → length rest ≡ place_behind (length (chars text) - count) text
back_is text back rest left count p u none =
    let size : length (chars text) - count ≡ length (chars rest) = omega (arith, p.counted, ap length p.characters, length-append (chars rest) back) in
    let taken : take (length (chars text) - count) (chars text) ≡ chars rest = ap (λ k. take k (chars text)) size ∙ ap (take (length (chars rest))) p.characters ∙ take_at (chars rest) back _ refl in
    ap length (sym (encodes-chars rest u)) ∙ ap (λ cs. length (encodes cs)) (sym taken)

pub nothing_left : (text back rest : List ℕ) (left count : ℕ) → Left text back rest left count → rest ≡ [] → 0 ≡ place_behind (length (chars text) - count) text
nothing_left text back rest left count p none =
    let whole : chars text ≡ back = p.characters ∙ ap (λ r. chars r ++ back) none ∙ ap (λ cs. cs ++ back) chars-nil in
    let size : length (chars text) - count ≡ 0 = omega (arith, p.counted, ap length whole) in
    ap (λ k. length (encodes (take k (chars text)))) (sym size)

-- the whole text, and its ends
pub whole_text : (text : List ℕ) → IsUtf8 text → text ≡ encodes (between (0, length (chars text)) (chars text))
whole_text text u = sym (ap encodes (take_all (length (chars text) - 0) (chars text) (omega arith)) ∙ encodes-chars text u)

pub text_end : (text : List ℕ) → IsUtf8 text → length text ≡ place_behind (length (chars text)) text
text_end text u = ap length (sym (encodes-chars text u)) ∙ ap (λ cs. length (encodes cs)) (sym (take_all (length (chars text)) (chars text) (omega arith)))

take_min : (k : ℕ) (cs : List ℕ) → take k cs ≡ take (min k (length cs)) cs
take_min k cs = ⊎_elim (λ h. let e : min k (length cs) ≡ k = omega arith in ap (λ n. take n cs) (sym e))
    (λ h. let e : min k (length cs) ≡ length cs = omega arith in take_all k cs h ∙ sym (take_all (length cs) cs (omega arith)) ∙ ap (λ n. take n cs) (sym e)) (cases_lt k (length cs))

-- an end of a slice is a place between characters
pub end_is : (index : Option Index) (missing characters : ℕ) (text : List ℕ) → missing ≡ place_behind characters text
    → end_place index missing text ≡ place_behind (slice_end index characters (length (chars text))) text
end_is None missing characters text h = h
end_is (Some (FromFront place)) missing characters text h = ap (λ cs. length (encodes cs)) (take_min place (chars text))
end_is (Some (FromBack place)) missing characters text h = refl

-- the character at a place from the front
pub item_front : (text : List ℕ) (place next : ℕ) → next ≡ place + 1 → between (place, next) (chars text) ≡ between (item_range (FromFront place) (length (chars text))) (chars text)
item_front text place next n = by (nat_lt place (length (chars text))) refl
  where
    by : (b : Bool) → nat_lt place (length (chars text)) ≡ b → take (next - place) (drop place (chars text)) ≡ between (if b then (place, place + 1) else (0, 0)) (chars text)
    by true e = ap (λ j. take (j - place) (drop place (chars text))) n
    by false e = ap (take (next - place)) (drop_all place (chars text) (ltb-false _ _ e)) ∙ take_none (next - place)

pub item_beyond : (text : List ℕ) (place : ℕ) → IsUtf8 text → length text ≤ place → between (0, 0) (chars text) ≡ between (item_range (FromFront place) (length (chars text))) (chars text)
item_beyond text place u h =
    let few : length (chars text) ≤ place = omega (arith, length-le-encodes (chars text), ap length (encodes-chars text u)) in
    let no : nat_lt place (length (chars text)) ≡ false = le-ltb _ _ few in
    ap (λ range. between range (chars text)) (let same : (0, 0) ≡ item_range (FromFront place) (length (chars text)) = rw no refl in same)
