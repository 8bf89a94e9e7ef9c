-- The quotes around a text.
use Rattle.std.proofs.Common.{arith, ◌≡◌, ◌<◌, ◌+◌, ◌∷◌, [], List, ℕ, not, ◌==◌, ◌&&◌, ◌∙◌, ap, length, lit<, encode_utf8, flat_map, chars, ◌++◌}
use Rattle.std.specs.List.{list_any}
use Rattle.std.proofs.lemmas.Bool.{cond_both}
use Rattle.std.proofs.lemmas.List.{length-append}
use Rattle.std.proofs.lemmas.Str.{encode_ascii}
use Rattle.py_text.specs.Quoting.{quote_of, escaped, quoted}

quote_ascii : (text : List ℕ) → quote_of text < 128
quote_ascii text = cond_both (list_any (λ b. b == 39) text && not (list_any (λ b. b == 34) text)) 34 39 (λ n. n < 128) (λ _. lit< tt) (λ _. lit< tt)

pub quoted_is : (text : List ℕ) (quote : ℕ) → quote ≡ quote_of text → encode_utf8 quote ++ flat_map (escaped quote) (chars text) ++ encode_utf8 quote ≡ quoted text
quoted_is text quote q =
    ap (λ c. encode_utf8 c ++ flat_map (escaped c) (chars text) ++ encode_utf8 c) q
    ∙ ap (λ bytes. bytes ++ flat_map (escaped (quote_of text)) (chars text) ++ bytes) (encode_ascii (quote_of text) (quote_ascii text))

pub length-quoted : (text : List ℕ) (quote : ℕ) → quote ≡ quote_of text → 2 + length (flat_map (escaped quote) (chars text)) ≡ length (quoted text)
length-quoted text quote q =
    ap (λ c. 2 + length (flat_map (escaped c) (chars text))) q
    ∙ omega (arith, length-append (flat_map (escaped (quote_of text)) (chars text)) (quote_of text ∷ []))
