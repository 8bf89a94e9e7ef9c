-- The first place of a part.
use Rattle.std.proofs.Common.{arith, ◌≡◌, ◌<◌, ◌≤◌, ◌+◌, ◌-◌, ◌∙◌, ℕ, zero, suc, List, [], ◌∷◌, ◌++◌, Bool, true, false, Some, None, ap, sym, refl, subst, length, take, drop, get_or, append_assoc, add-zero, chars, encode_utf8_all}
use Rattle.std.specs.Str.{IsUtf8, IsCharBoundary}
use Rattle.std.specs.Prelude.{option_map}
use Rattle.std.proofs.lemmas.Bool.Decides.{Decides-eqb}
use Rattle.std.proofs.lemmas.Slice.Eq.{starts_is}
use Rattle.std.proofs.lemmas.List.{length-append, length-take, length-drop, take-append-drop, take_at, drop_at, take-append-le}
use Rattle.std.proofs.lemmas.List.Prefix.{at_from_reads, at_reads}
use Rattle.std.proofs.lemmas.Str.{chars-append, encodes-append, encodes-chars, IsUtf8-take, IsUtf8-drop, IsCharBoundary-start, IsCharBoundary-from_drop, length-le-encodes}
use Rattle.memchr.specs.Find.{OccursAt, Nowhere, NoneBefore}
use Rattle.py_text.specs.Finding.{starts_with, first_place}
use Rattle.py_text.proofs.CharLemmas.{utf8_behind}

-- the part stands in the list, behind so many items
pub record Stands (part xs : List ℕ) (place : ℕ) : Type 0 where
  pub front : List ℕ
  pub rest : List ℕ
  pub whole : xs ≡ front ++ (part ++ rest)
  pub behind : length front ≡ place

starts : (part xs : List ℕ) → (starts_with xs part ≡ true → xs ≡ part ++ drop (length part) xs) × ((rest : List ℕ) → xs ≡ part ++ rest → starts_with xs part ≡ true)
starts part xs = starts_is Decides-eqb xs part (starts_with xs part) refl

stands_starts : (part xs : List ℕ) → Stands part xs 0 → starts_with xs part ≡ true
stands_starts part xs s = by s.front s.behind s.whole
  where
    by : (front : List ℕ) → length front ≡ 0 → xs ≡ front ++ (part ++ s.rest) → starts_with xs part ≡ true
    by [] n e = (starts part xs).1 s.rest e
    by (y ∷ front) n e = absurd (omega arith)

starts_stands : (part xs : List ℕ) → starts_with xs part ≡ true → Stands part xs 0
starts_stands part xs t = record { front = []; rest = drop (length part) xs; whole = (starts part xs).0 t; behind = refl }

stands_tail : (part xs : List ℕ) (x k : ℕ) → Stands part (x ∷ xs) (suc k) → Stands part xs k
stands_tail part xs x k s = by s.front s.behind s.whole
  where
    by : (front : List ℕ) → length front ≡ suc k → x ∷ xs ≡ front ++ (part ++ s.rest) → Stands part xs k
    by [] n e = absurd (omega arith)
    by (y ∷ front) n e = record { front = front; rest = s.rest; whole = cc; behind = omega arith }

stands_next : (part xs : List ℕ) (x k : ℕ) → Stands part xs k → Stands part (x ∷ xs) (suc k)
stands_next part xs x k s = record { front = x ∷ s.front; rest = s.rest; whole = ap (λ l. x ∷ l) s.whole; behind = omega arith }

stands_fits : (part xs : List ℕ) (k : ℕ) → Stands part xs k → k + length part ≤ length xs
stands_fits part xs k s = omega (arith, ap length s.whole, length-append s.front (part ++ s.rest), length-append part s.rest)

pub first_at : (part xs : List ℕ) (k : ℕ) → Stands part xs k → ((m : ℕ) → m < k → Stands part xs m → ⊥) → first_place part xs ≡ Some k
first_at part [] k s none =
    let fits = stands_fits part [] k s in
    let z : k ≡ 0 = omega arith in
    let t = stands_starts part [] (subst (λ i. Stands part [] i) z s) in
    rw t (ap Some (sym z))
first_at part (x ∷ xs) zero s none = let t = stands_starts part (x ∷ xs) s in rw t refl
first_at part (x ∷ xs) (suc k) s none =
    by (first_at part xs k (stands_tail part xs x k s) (λ m l h. none (suc m) (omega arith) (stands_next part xs x m h))) (starts_with (x ∷ xs) part) refl
  where
    by : first_place part xs ≡ Some k → (b : Bool) → starts_with (x ∷ xs) part ≡ b → first_place part (x ∷ xs) ≡ Some (suc k)
    by later true t = absurd (none 0 (omega arith) (starts_stands part (x ∷ xs) t))
    by later false t = rw t (ap (option_map suc) later)

pub first_none : (part xs : List ℕ) → ((k : ℕ) → Stands part xs k → ⊥) → first_place part xs ≡ None
first_none part [] none = by (starts_with [] part) refl
  where
    by : (b : Bool) → starts_with [] part ≡ b → first_place part [] ≡ None
    by true t = absurd (none 0 (starts_stands part [] t))
    by false t = rw t refl
first_none part (x ∷ xs) none = by (first_none part xs (λ m h. none (suc m) (stands_next part xs x m h))) (starts_with (x ∷ xs) part) refl
  where
    by : first_place part xs ≡ None → (b : Bool) → starts_with (x ∷ xs) part ≡ b → first_place part (x ∷ xs) ≡ None
    by later true t = absurd (none 0 (starts_stands part (x ∷ xs) t))
    by later false t = rw t (ap (option_map suc) later)

-- the same in bytes
occurs_rest : (part text : List ℕ) (k : ℕ) → OccursAt text part k → drop k text ≡ part ++ drop (k + length part) text
occurs_rest part text k o = at_from_reads 0 text part k o.fits o.reads

stands_occurs : (part text : List ℕ) (k : ℕ) → Stands part text k → OccursAt text part k
stands_occurs part text k s = record {
  fits = stands_fits part text k s;
  reads = at_reads 0 text part k s.rest (ap (drop k) s.whole ∙ drop_at s.front (part ++ s.rest) k s.behind);
}

-- a part that stands among the characters stands among the bytes
stands_bytes : (part text : List ℕ) (m : ℕ) → IsUtf8 text → IsUtf8 part → (s : Stands (chars part) (chars text) m) → Stands part text (length (encode_utf8_all s.front))
stands_bytes part text m u v s = record {
  front = encode_utf8_all s.front;
  rest = encode_utf8_all s.rest;
  whole = sym (encodes-chars text u) ∙ ap encode_utf8_all s.whole ∙ encodes-append s.front (chars part ++ s.rest)
      ∙ ap (λ l. encode_utf8_all s.front ++ l) (encodes-append (chars part) s.rest ∙ ap (λ l. l ++ encode_utf8_all s.rest) (encodes-chars part v));
  behind = refl;
}

boundary_at : (part text : List ℕ) (k : ℕ) → IsUtf8 part → OccursAt text part k → 0 < length part → IsCharBoundary text k
boundary_at part text k v o l =
    let e : get_or text k 0 ≡ get_or part 0 0 = rw add-zero at (o.reads 0 l) in
    let fits = o.fits in
    (omega arith, λ m h. rw e ((IsCharBoundary-start part v).1 l (rw e at h)))

-- a character begins where a text is found
pub boundary : (part text : List ℕ) (k : ℕ) → IsUtf8 text → IsUtf8 part → NoneBefore (OccursAt text part) 0 (length text + 1) k → OccursAt text part k → IsCharBoundary text k
boundary [] text zero u v n o = IsCharBoundary-start text u
boundary [] text (suc k) u v n o = absurd (n.before 0 (omega arith) (omega arith) (record { fits = omega arith; reads = λ j l. absurd (omega arith) }))
boundary (b ∷ part) text k u v n o = boundary_at (b ∷ part) text k v o (omega arith)

-- where the part is cut out of the text
pub record CutsAt (part text front rest : List ℕ) : Type 0 where
  pub first : first_place (chars part) (chars text) ≡ Some (length (chars front))
  pub whole : text ≡ front ++ part ++ rest
  pub characters : chars text ≡ chars front ++ chars part ++ chars rest

module _ (part text : List ℕ) (k : ℕ) (u : IsUtf8 text) (v : IsUtf8 part) (n : NoneBefore (OccursAt text part) 0 (length text + 1) k) (o : OccursAt text part k) where
  rest_utf8 : IsUtf8 (drop (k + length part) text)
  rest_utf8 = utf8_behind part (drop (k + length part) text) v (rw (occurs_rest part text k o) at (IsUtf8-drop text k u (boundary part text k u v n o)))

  pub boundary_behind : IsCharBoundary text (k + length part)
  boundary_behind = IsCharBoundary-from_drop text (k + length part) o.fits rest_utf8

  front_utf8 : IsUtf8 (take k text)
  front_utf8 = IsUtf8-take text k u (boundary part text k u v n o)

  whole_text : text ≡ take k text ++ (part ++ drop (k + length part) text)
  whole_text = sym (take-append-drop k text) ∙ ap (λ l. take k text ++ l) (occurs_rest part text k o)

  whole_chars : chars text ≡ chars (take k text) ++ (chars part ++ chars (drop (k + length part) text))
  whole_chars = ap chars whole_text ∙ chars-append (take k text) (part ++ drop (k + length part) text) front_utf8
      ∙ ap (λ l. chars (take k text) ++ l) (chars-append part (drop (k + length part) text) v)

  -- a place before it in characters is one in bytes
  earlier : (m : ℕ) → m < length (chars (take k text)) → (s : Stands (chars part) (chars text) m) → length (encode_utf8_all s.front) < k
  earlier m l s =
      let front = chars (take k text) in
      let same : s.front ≡ take m front = sym (take_at s.front (chars part ++ s.rest) m s.behind) ∙ ap (take m) (sym s.whole) ∙ ap (take m) whole_chars
      ∙ take-append-le m front (chars part ++ chars (drop (k + length part) text)) (omega arith) in
      let parts : encode_utf8_all (take m front) ++ encode_utf8_all (drop m front) ≡ take k text =
      sym (encodes-append (take m front) (drop m front)) ∙ ap encode_utf8_all (take-append-drop m front) ∙ encodes-chars (take k text) front_utf8 in
      let long : length (drop m front) ≤ length (encode_utf8_all (drop m front)) = length-le-encodes (drop m front) in
      let total : length (encode_utf8_all (take m front)) + length (encode_utf8_all (drop m front)) ≡ length (take k text) =
      sym (length-append (encode_utf8_all (take m front)) (encode_utf8_all (drop m front))) ∙ ap length parts in
      let cut : length (take k text) ≤ k = rw length-take (omega arith) in
      let left : length (drop m front) ≡ length front - m = length-drop m front in
      rw same (omega arith)

  pub cuts_at : CutsAt part text (take k text) (drop (k + length part) text)
  cuts_at = record {
    first = first_at (chars part) (chars text) (length (chars (take k text)))
        (record { front = chars (take k text); rest = chars (drop (k + length part) text); whole = whole_chars; behind = refl })
        (λ m l s. n.before (length (encode_utf8_all s.front)) (omega arith) (earlier m l s) (stands_occurs part text (length (encode_utf8_all s.front)) (stands_bytes part text m u v s)));
    whole = whole_text ∙ sym (append_assoc (take k text) part (drop (k + length part) text));
    characters = whole_chars ∙ sym (append_assoc (chars (take k text)) (chars part) (chars (drop (k + length part) text)));
  }

pub cuts_nowhere : (part text : List ℕ) → IsUtf8 text → IsUtf8 part → Nowhere (OccursAt text part) 0 (length text + 1) → first_place (chars part) (chars text) ≡ None
cuts_nowhere part text u v none = first_none (chars part) (chars text) (λ m s.
    let o = stands_occurs part text (length (encode_utf8_all s.front)) (stands_bytes part text m u v s) in
    let fits = o.fits in
    none (length (encode_utf8_all s.front)) (omega arith) (omega arith) o)
