-- The characters of a text, one after another.
use Rattle.std.proofs.Common.{arith, ◌≡◌, ◌∙◌, ◌<◌, ◌≤◌, ◌+◌, ◌-◌, ℕ, zero, suc, List, [], ◌∷◌, ◌++◌, Some, None, refl, ap, sym, length, map, take, drop, chars, encode_utf8, encode_utf8_all}
use Rattle.std.specs.Str.{IsUtf8}
use Rattle.std.proofs.lemmas.Str.{chars_past_char, IsUtf8-past_char}
use Rattle.std.proofs.lemmas.List.{append_assoc, append-nil, length-append}
use Rattle.py_text.specs.Characters.{char_at, slice_of}
use Rattle.py_compare.specs.Iterables.{total_length, characters}

total_length-encoded : (cs : List ℕ) → total_length (map encode_utf8 cs) ≡ length (encode_utf8_all cs)
total_length-encoded [] = refl
total_length-encoded (c ∷ cs) = ap (λ n. length (encode_utf8 c) + n) (total_length-encoded cs) ∙ sym (length-append (encode_utf8 c) (encode_utf8_all cs))

pub characters_told : (s part : List ℕ) (n : ℕ) → part ≡ slice_of s 0 n → length part ≡ total_length (characters n s)
characters_told s part n e =
    let all : n - 0 ≡ n = omega arith in
    ap length e ∙ ap (λ k. length (encode_utf8_all (take k (chars s)))) all ∙ sym (total_length-encoded (take n (chars s)))

-- the first character of a text
pub record Starts (text first after : List ℕ) : Type 0 where
  pub code : ℕ
  pub first_is : first ≡ encode_utf8 code
  pub chars_are : chars text ≡ code ∷ chars after
  pub utf8 : IsUtf8 after

starts_by : (text first after cs : List ℕ) → IsUtf8 text → text ≡ first ++ after → chars text ≡ cs → char_at text 0 ≡ Some first → Starts text first after
starts_by text first after [] u e is at = let none : None ≡ Some first = rw is at at in cc
starts_by text first after (c ∷ cs) u e is at =
    let some : Some (encode_utf8 c) ≡ Some first = rw is at at in
    let f : first ≡ encode_utf8 c = cc in
    let parts : text ≡ encode_utf8 c ++ after = e ∙ ap (λ s. s ++ after) f in
    record { code = c; first_is = f; chars_are = chars_past_char text after c u parts; utf8 = IsUtf8-past_char text after c u parts }

pub starts : (text first after : List ℕ) → IsUtf8 text → text ≡ first ++ after → char_at text 0 ≡ Some first → Starts text first after
starts text first after u e at = starts_by text first after (chars text) u e refl at

ends_by : (text cs : List ℕ) → chars text ≡ cs → char_at text 0 ≡ None → cs ≡ []
ends_by text [] is at = refl
ends_by text (c ∷ cs) is at = let some : Some (encode_utf8 c) ≡ None = rw is at at in cc

pub ends : (text : List ℕ) → char_at text 0 ≡ None → chars text ≡ []
ends text at = ends_by text (chars text) refl at

pub characters_more : (made new all : List (List ℕ)) (text first after : List ℕ) (n m : ℕ) → Starts text first after → n ≡ suc m → made ++ characters n text ≡ all → new ≡ made ++ first ∷ [] → new ++ characters m after ≡ all
characters_more made new all text first after n m s e inv i =
    let here : characters n text ≡ encode_utf8 s.code ∷ characters m after = ap (λ k. map encode_utf8 (take k (chars text))) e ∙ ap (λ cs. map encode_utf8 (take (suc m) cs)) s.chars_are in
    ap (λ xs. xs ++ characters m after) i ∙ append_assoc made (first ∷ []) (characters m after) ∙ ap (λ f. made ++ f ∷ characters m after) s.first_is ∙ ap (λ xs. made ++ xs) (sym here) ∙ inv

take-empty : (n : ℕ) → take {A = ℕ} n [] ≡ []
take-empty zero = refl
take-empty (suc n) = refl

pub characters_ended : (made all : List (List ℕ)) (text : List ℕ) (n : ℕ) → chars text ≡ [] → made ++ characters n text ≡ all → made ≡ all
characters_ended made all text n e inv =
    let none : characters n text ≡ [] = ap (λ cs. map encode_utf8 (take n cs)) e ∙ ap (λ cs. map encode_utf8 cs) (take-empty n) in
    sym (append-nil made) ∙ ap (λ xs. made ++ xs) (sym none) ∙ inv

pub characters_done : (made all : List (List ℕ)) (text : List ℕ) (n : ℕ) → n ≡ 0 → made ++ characters n text ≡ all → made ≡ all
characters_done made all text n e inv =
    let none : characters n text ≡ [] = ap (λ k. map encode_utf8 (take k (chars text))) e in
    sym (append-nil made) ∙ ap (λ xs. made ++ xs) (sym none) ∙ inv
