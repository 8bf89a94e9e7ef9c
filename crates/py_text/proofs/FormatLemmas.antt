-- The pieces of a format, run by run.
use Rattle.std.proofs.Common.{arith, ◌≡◌, ◌<◌, ◌+◌, ◌∙◌, subst, take, drop, chars, encode_utf8, encode_utf8_all, ℕ, suc, List, [], ◌∷◌, ◌++◌, Bool, true, false, cond, Option, Some, None, ap, sym, refl, length, get_or, append_assoc, ◌==◌}
use Rattle.std.specs.Prelude.{option_map}
use Rattle.std.specs.List.{list_any}
use Rattle.std.specs.Str.{IsUtf8}
use Rattle.std.proofs.lemmas.Bool.{or_from, or_parts, eqb-true, ne_eqb, false_from_ne_true}
use Rattle.std.proofs.lemmas.List.{length-append, length-take-le, take-append-drop, drop_more, get_or-take}
use Rattle.std.proofs.lemmas.Str.{encode_ascii, char_from_byte, encodes-chars}
use Rattle.memchr.specs.Find.{NoneBefore, Nowhere, Passes, is_byte}
use Rattle.py_text.specs.Formatting.{FormatPiece, literal, percent, any_value, integer, is_percent, onto_literal, piece_of, with_piece, pieces_of, literal_run, StandsFor, HasNoLetter}

pub no_percent : (text : List ℕ) → ((i : ℕ) → i < length text → is_percent (get_or text i 0) ≡ false) → list_any is_percent text ≡ false
no_percent [] h = refl
no_percent (x ∷ xs) h = or_from (is_percent x) (list_any is_percent xs) (h 0 (omega arith)) (no_percent xs (λ i l. h (suc i) (omega arith)))

literal_pieces : (text : List ℕ) → list_any is_percent text ≡ false → pieces_of text ≡ Some (literal_run text)
literal_pieces [] h = refl
literal_pieces (b ∷ []) h = rw (or_parts (is_percent b) false h).0 refl
literal_pieces (b ∷ c ∷ rest) h =
    let k = or_parts (is_percent b) (list_any is_percent (c ∷ rest)) h in
    rw k.0 (ap (option_map (onto_literal b)) (literal_pieces (c ∷ rest) k.1))

map_same : (o : Option (List FormatPiece)) → option_map (λ more. [] ++ more) o ≡ o
map_same None = refl
map_same (Some more) = refl

-- in front of a letter's piece a byte begins a run of its own
onto_letter : (letter b : ℕ) (o : Option (List FormatPiece))
    → option_map (onto_literal b) (with_piece (piece_of letter) o) ≡ option_map (λ more. literal (b ∷ []) ∷ more) (with_piece (piece_of letter) o)
onto_letter letter b o = by (letter == 37) (letter == 115) (letter == 100) o
  where
    by : (x y z : Bool) (o : Option (List FormatPiece))
        → option_map (onto_literal b) (with_piece (cond x (Some percent) (cond y (Some any_value) (cond z (Some integer) None))) o)
        ≡ option_map (λ more. literal (b ∷ []) ∷ more) (with_piece (cond x (Some percent) (cond y (Some any_value) (cond z (Some integer) None))) o)
    by true y z None = refl
    by true y z (Some more) = refl
    by false true z None = refl
    by false true z (Some more) = refl
    by false false true None = refl
    by false false true (Some more) = refl
    by false false false None = refl
    by false false false (Some more) = refl

onto_run : (b c : ℕ) (text : List ℕ) (o : Option (List FormatPiece))
    → option_map (onto_literal b) (option_map (λ more. (literal (c ∷ text) ∷ []) ++ more) o) ≡ option_map (λ more. (literal (b ∷ c ∷ text) ∷ []) ++ more) o
onto_run b c text None = refl
onto_run b c text (Some more) = refl

pieces_behind : (text : List ℕ) (letter : ℕ) (rest : List ℕ) → list_any is_percent text ≡ false
    → pieces_of (text ++ 37 ∷ letter ∷ rest) ≡ option_map (λ more. literal_run text ++ more) (with_piece (piece_of letter) (pieces_of rest))
pieces_behind [] letter rest h = sym (map_same (with_piece (piece_of letter) (pieces_of rest)))
pieces_behind (b ∷ []) letter rest h = rw (or_parts (is_percent b) false h).0 (onto_letter letter b (pieces_of rest))
pieces_behind (b ∷ c ∷ text) letter rest h =
    let k = or_parts (is_percent b) (list_any is_percent (c ∷ text)) h in
    rw k.0 (ap (option_map (onto_literal b)) (pieces_behind (c ∷ text) letter rest k.1) ∙ onto_run b c text (with_piece (piece_of letter) (pieces_of rest)))

no_end : (text : List ℕ) → list_any is_percent text ≡ false → pieces_of (text ++ 37 ∷ []) ≡ None
no_end [] h = refl
no_end (b ∷ []) h = rw (or_parts (is_percent b) false h).0 refl
no_end (b ∷ c ∷ text) h =
    let k = or_parts (is_percent b) (list_any is_percent (c ∷ text)) h in
    rw k.0 (ap (option_map (onto_literal b)) (no_end (c ∷ text) k.1))

-- these pieces, and those of what is left, are the pieces of the format
pub Read : List ℕ → List ℕ → List FormatPiece → Type 0
Read format rest pieces = pieces_of format ≡ option_map (λ more. pieces ++ more) (pieces_of rest)

pub read_none : (format : List ℕ) → Read format format []
unfolding Read
read_none format = sym (map_same (pieces_of format))

join_runs : (pieces run : List FormatPiece) (piece : FormatPiece) (o : Option (List FormatPiece))
    → option_map (λ more. pieces ++ more) (option_map (λ more. run ++ more) (option_map (λ more. piece ∷ more) o)) ≡ option_map (λ more. (pieces ++ run ++ piece ∷ []) ++ more) o
join_runs pieces run piece None = refl
join_runs pieces run piece (Some more) =
    ap Some (sym (append_assoc pieces run (piece ∷ more)) ∙ sym (append_assoc (pieces ++ run) (piece ∷ []) more))

pub read_more : (format rest text behind after : List ℕ) (pieces : List FormatPiece) (piece : FormatPiece) → Read format rest pieces → rest ≡ text ++ 37 ∷ behind
    → list_any is_percent text ≡ false → StandsFor behind piece after → Read format after (pieces ++ literal_run text ++ piece ∷ [])
unfolding Read
read_more format rest text behind after pieces piece r e h s =
    let whole : rest ≡ text ++ 37 ∷ s.0 ∷ after = e ∙ ap (λ l. text ++ 37 ∷ l) s.1 in
    r ∙ ap (option_map (λ more. pieces ++ more)) (ap pieces_of whole ∙ pieces_behind text s.0 after h ∙ ap (λ p. option_map (λ more. literal_run text ++ more) (with_piece p (pieces_of after))) s.2)
    ∙ join_runs pieces (literal_run text) piece (pieces_of after)

pub read_stops : (format rest text behind : List ℕ) (pieces : List FormatPiece) → Read format rest pieces → rest ≡ text ++ 37 ∷ behind
    → list_any is_percent text ≡ false → HasNoLetter behind → pieces_of format ≡ None
unfolding Read
read_stops format rest text [] pieces r e h s = r ∙ ap (option_map (λ more. pieces ++ more)) (ap pieces_of e ∙ no_end text h)
read_stops format rest text (letter ∷ behind) pieces r e h s =
    r ∙ ap (option_map (λ more. pieces ++ more)) (ap pieces_of e ∙ pieces_behind text letter behind h ∙ ap (λ p. option_map (λ more. literal_run text ++ more) (with_piece p (pieces_of behind))) s)

pub read_end : (format rest : List ℕ) (pieces : List FormatPiece) → Read format rest pieces → list_any is_percent rest ≡ false → pieces_of format ≡ Some (pieces ++ literal_run rest)
unfolding Read
read_end format rest pieces r h = r ∙ ap (option_map (λ more. pieces ++ more)) (literal_pieces rest h)

-- where a `%` stands first
pub percent_cut : (text : List ℕ) (k : ℕ) → NoneBefore (Passes (is_byte 37) text) 0 (length text) k → Passes (is_byte 37) text k
    → (text ≡ take k text ++ 37 ∷ drop (k + 1) text) × (list_any is_percent (take k text) ≡ false)
percent_cut text k n p =
    let short = n.high in
    let here : get_or text k 0 ≡ 37 = eqb-true (get_or text k 0) 37 p in
    let cut : length (take k text) ≡ k = length-take-le k text (omega arith) in (
      sym (take-append-drop k text) ∙ ap (λ l. take k text ++ l) (drop_more text k 0 short ∙ ap (λ b. b ∷ drop (k + 1) text) here),
      no_percent (take k text) (λ i l. rw (get_or-take k text i 0 (omega arith)) (false_from_ne_true (get_or text i 0 == 37) (n.before i (omega arith) (omega arith)))),
    )

pub percent_ascii : (text : List ℕ) (k : ℕ) → Passes (is_byte 37) text k → get_or text k 0 < 128
percent_ascii text k p = let here : get_or text k 0 ≡ 37 = eqb-true (get_or text k 0) 37 p in omega arith

pub percent_nowhere : (text : List ℕ) → Nowhere (Passes (is_byte 37) text) 0 (length text) → list_any is_percent text ≡ false
percent_nowhere text n = no_percent text (λ i l. false_from_ne_true (get_or text i 0 == 37) (n i (omega arith) l))

pub ascii_first : (text after : List ℕ) (c : ℕ) → c < 128 → text ≡ encode_utf8 c ++ after → text ≡ c ∷ after
ascii_first text after c l e = e ∙ ap (λ bytes. bytes ++ after) (encode_ascii c l)

pub no_letter : (text after : List ℕ) (c : ℕ) → text ≡ encode_utf8 c ++ after → (c ≡ 37 → ⊥) → (c ≡ 115 → ⊥) → (c ≡ 100 → ⊥) → HasNoLetter text
no_letter [] after c e x y z = tt
no_letter (b ∷ text) after c e x y z =
    let same : b < 128 → c ≡ b = λ l. char_from_byte (b ∷ text) after c e l (omega arith) in
    let first : b == 37 ≡ false = ne_eqb b 37 (λ h. x (same (omega arith) ∙ h)) in
    let second : b == 115 ≡ false = ne_eqb b 115 (λ h. y (same (omega arith) ∙ h)) in
    let third : b == 100 ≡ false = ne_eqb b 100 (λ h. z (same (omega arith) ∙ h)) in
    rw (first, second, third) refl

pub nothing_left : (text : List ℕ) → IsUtf8 text → chars text ≡ [] → HasNoLetter text
nothing_left text u e = subst HasNoLetter (sym (ap encode_utf8_all e) ∙ encodes-chars text u) tt

pub behind_shorter : (rest text behind after : List ℕ) (piece : FormatPiece) → rest ≡ text ++ 37 ∷ behind → StandsFor behind piece after → length after < length rest
behind_shorter rest text behind after piece e s = omega (arith, ap length e, length-append text (37 ∷ behind), ap length s.1)
