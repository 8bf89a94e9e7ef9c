-- A line up to its line feed, and the rest of the file.
use Rattle.std.proofs.Common.{◌≡◌, ◌==◌, ℕ, ◌<◌, ◌≤◌, ◌+◌, List, [], ◌∷◌, ◌++◌, Option, None, Some, false, take, drop, length, refl, ap, sym, ◌∙◌, arith, append_assoc, get_or}
use Rattle.std.proofs.lemmas.List.Splits.{slice_split_at, slice_split_none}
use Rattle.std.proofs.lemmas.Bool.{eqb-true, false_from_ne_true}
use Rattle.std.proofs.lemmas.List.{length-take-le, take-append-drop, drop_more, get_or-take, get_or_default}
use Rattle.std.specs.List.{All, cons_option, filter_map}
use Rattle.memchr.specs.Find.{NoneBefore, Nowhere, Passes, is_byte}
use Rattle.c_scanner.specs.Lines.{is_line_feed, lines_of}
use Rattle.c_scanner.specs.Includes.{include_of, includes_of}
use Rattle.c_scanner.specs.declared.line.Include.{Include}

pub cons_option-append : {A : Type 0} (x : Option A) (xs : List A) → cons_option x [] ++ xs ≡ cons_option x xs
cons_option-append None xs = refl
cons_option-append (Some x) xs = refl

-- one line more
pub adds_line : (found : List Include) (line behind : List ℕ) (rest : List ℕ) (all : List Include) → lines_of rest ≡ line ∷ lines_of behind → found ++ includes_of rest ≡ all → (found ++ cons_option (include_of line) []) ++ includes_of behind ≡ all
adds_line found line behind rest all split now =
    append_assoc found (cons_option (include_of line) []) (includes_of behind) ∙ ap (λ more. found ++ more) (cons_option-append (include_of line) (includes_of behind) ∙ sym (ap (filter_map include_of) split)) ∙ now

pub last_line : (found : List Include) (rest : List ℕ) (all : List Include) → lines_of rest ≡ rest ∷ [] → found ++ includes_of rest ≡ all → found ++ cons_option (include_of rest) [] ≡ all
last_line found rest all split now = ap (λ more. found ++ more) (sym (ap (filter_map include_of) split)) ∙ now

-- no line feed stands in front of the first one
pub before_feed : (text : List ℕ) (n : ℕ) → n ≤ length text → Nowhere (Passes (is_byte 10) text) 0 n → All (λ byte. is_line_feed byte ≡ false) (take n text)
before_feed text n fits none k d inside =
    let below : k < n = omega (arith, length-take-le n text fits) in
    let there : k < length text = omega arith in
    rw (get_or-take n text k d below, get_or_default text k d 0 there) (false_from_ne_true (get_or text k 0 == 10) (none k (omega arith) below))

pub cut_at_feed : (text : List ℕ) (n : ℕ) → NoneBefore (Passes (is_byte 10) text) 0 (length text) n → Passes (is_byte 10) text n → lines_of text ≡ take n text ∷ lines_of (drop (n + 1) text)
cut_at_feed text n none is =
    let fits : n ≤ length text = omega (arith, none.high) in
    let cut : text ≡ take n text ++ 10 ∷ drop (n + 1) text =
    sym (take-append-drop n text) ∙ ap (λ rest. take n text ++ rest) (drop_more text n 0 none.high ∙ ap (λ byte. byte ∷ drop (n + 1) text) (eqb-true (get_or text n 0) 10 is)) in
    ap lines_of cut ∙ slice_split_at is_line_feed (take n text) 10 (drop (n + 1) text) (before_feed text n fits none.before) refl

pub one_line : (text : List ℕ) → Nowhere (Passes (is_byte 10) text) 0 (length text) → lines_of text ≡ text ∷ []
one_line text none = slice_split_none is_line_feed text (λ k d inside. rw (get_or_default text k d 0 inside) (false_from_ne_true (get_or text k 0 == 10) (none k (omega arith) inside)))
