-- Bytes put over others, and put back.
use Rattle.std.proofs.Common.{◌≡◌, ◌∙◌, sym, refl, ap, arith, ℕ, ◌+◌, ◌-◌, ◌≤◌, List, [], ◌∷◌, ◌++◌, length, take, drop, length-append, length-drop, append_assoc}
use Rattle.std.proofs.lemmas.List.{take-append-drop, take_at, drop_at, drop-drop, drop-take, length-take-le, take_all}
use Rattle.world_api.specs.Banks.{Torn}
use Rattle.mem_banks.specs.Past.{spliced, overwritten, last_of, without_last}

pub last_of_append : (xs ys : List ℕ) → last_of (length ys) (xs ++ ys) ≡ ys
last_of_append xs ys = drop_at xs ys (length (xs ++ ys) - length ys) (let e = length-append xs ys in omega (arith, e))

pub without_last_append : (xs ys : List ℕ) → without_last (length ys) (xs ++ ys) ≡ xs
without_last_append xs ys = take_at xs ys (length (xs ++ ys) - length ys) (let e = length-append xs ys in omega (arith, e))

-- a list and what is put over its front
front_back : (xs q : List ℕ) → take (length xs) q ++ drop (length (take (length xs) q)) (take (length q) (xs ++ drop (length xs) q)) ≡ q
front_back [] q = take_all (length q) q (omega arith)
front_back (x ∷ xs) [] = refl
front_back (x ∷ xs) (y ∷ q) = ap (λ rest. y ∷ rest) (front_back xs q)

module _ (old xs : List ℕ) (place : ℕ) (within : place ≤ length old) where
  abbrev p : List ℕ
  p = take place old

  abbrev q : List ℕ
  q = drop place old

  abbrev tail : List ℕ
  tail = drop (place + length xs) old

  size : length p ≡ place
  size = length-take-le place old within

  grouped : spliced place xs old ≡ p ++ (xs ++ tail)
  grouped = append_assoc p xs tail

  pub front_kept : take place (spliced place xs old) ≡ take place old
  front_kept = ap (take place) grouped ∙ take_at p (xs ++ tail) place size

  behind : drop place (spliced place xs old) ≡ xs ++ drop (length xs) q
  behind = ap (drop place) grouped ∙ drop_at p (xs ++ tail) place size ∙ ap (λ rest. xs ++ rest) (sym (drop-drop (length xs) place old))

  whole : length old ≡ place + length q
  whole = let e = length-drop place old in omega (arith, e)

  back_part : (kept : ℕ) → drop (place + kept) (take (length old) (spliced place xs old)) ≡ drop kept (take (length q) (xs ++ drop (length xs) q))
  back_part kept =
      ap (λ n. drop (place + kept) (take n (spliced place xs old))) whole
      ∙ sym (drop-drop kept place (take (place + length q) (spliced place xs old)))
      ∙ ap (drop kept) (drop-take place (length q) (spliced place xs old))
      ∙ ap (λ rest. drop kept (take (length q) rest)) behind

  -- what was overwritten, put back where it stood
  pub undone : (saved : List ℕ) → take place (spliced place xs old)
      ++ last_of (length (overwritten place xs old)) (saved ++ overwritten place xs old)
      ++ drop (place + length (overwritten place xs old)) (take (length old) (spliced place xs old)) ≡ old
  undone saved = let kept = overwritten place xs old in
      ap (λ front. front ++ last_of (length kept) (saved ++ kept) ++ drop (place + length kept) (take (length old) (spliced place xs old))) front_kept
      ∙ ap (λ mid. p ++ mid ++ drop (place + length kept) (take (length old) (spliced place xs old))) (last_of_append saved kept)
      ∙ ap (λ rest. p ++ kept ++ rest) (back_part (length kept))
      ∙ append_assoc p kept (drop (length kept) (take (length q) (xs ++ drop (length xs) q)))
      ∙ ap (λ rest. p ++ rest) (front_back xs q)
      ∙ take-append-drop place old

  pub splice_torn : (count : ℕ) → length xs ≤ count → Torn place count old (spliced place xs old)
  splice_torn count small = let more = count - length xs in let is : count ≡ length xs + more = omega arith in record {
    before = front_kept;
    after = sym (drop-drop count place (spliced place xs old)) ∙ ap (drop count) behind
        ∙ ap (λ n. drop n (xs ++ drop (length xs) q)) is ∙ sym (drop-drop more (length xs) (xs ++ drop (length xs) q))
        ∙ ap (drop more) (drop_at xs (drop (length xs) q) (length xs) refl)
        ∙ drop-drop more (length xs) q ∙ ap (λ n. drop n q) (sym is) ∙ drop-drop count place old;
    no_shorter = let a = length-append (p ++ xs) tail in let b = length-append p xs in let c = size in let d = length-drop (place + length xs) old in omega (arith, a, b, c, d);
    no_longer = let a = length-append (p ++ xs) tail in let b = length-append p xs in let c = size in let d = length-drop (place + length xs) old in omega (arith, a, b, c, d);
  }

-- an outcome is one of a write that left nothing
pub torn_same : (place count : ℕ) (bytes : List ℕ) → Torn place count bytes bytes
torn_same place count bytes = record { before = refl; after = refl; no_shorter = omega arith; no_longer = omega arith }
