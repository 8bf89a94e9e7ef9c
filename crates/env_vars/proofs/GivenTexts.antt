-- A text that is given, part by part.
use Rattle.std.proofs.Common.{◌≡◌, ◌∙◌, ◌<◌, ◌≤◌, ◌-◌, ◌+◌, ℕ, Bool, length-append, List, [], ◌∷◌, ◌++◌, length, take, drop, refl, sym, ap, append_assoc, append-nil, arith}
use Rattle.std.specs.Prelude.{◌≢◌, Result, Ok, Err, IfErr, if◌then◌else◌}
use Rattle.env_vars.specs.declared.fault.GivenFault.{GivenFault}
use Rattle.env_vars.specs.declared.fault.GivenFault.TheVariants.{Memory}
use Rattle.std.proofs.lemmas.List.{length-drop}
use Rattle.env_text.specs.Parts.{PlainPart}
use Rattle.env_text.specs.Readings.{Reading, ends, part_at, bad_brace, Beginning, takes, refuses, then_rest, beginning_at, reading_behind, reading_from}
use Rattle.env_text.specs.Alone.{whole_name}
use Rattle.env_vars.specs.Given.{is_name, place_of, replaced}

-- what is read from a place on begins there
place_at : (text : List ℕ) (at : ℕ) → at ≤ length text → place_of text (reading_from text at) ≡ at
place_at text at h = by (drop at text) (length-drop at text)
  where
    front : (more : ℕ → Reading) (b : Beginning) → place_of text (then_rest at b more) ≡ at
    front more (takes p skipped) = refl
    front more refuses = refl

    by : (rest : List ℕ) → length rest ≡ length text - at → place_of text (reading_behind 0 at rest) ≡ at
    by [] e = omega arith
    by (b ∷ bytes) e = front (λ skipped. reading_behind skipped (at + 1) bytes) (beginning_at b bytes)

pub part_put : (name old text before after whole part : List ℕ) (at next : ℕ) (p : PlainPart) → reading_from text at ≡ part_at at p (reading_from text next) → next ≤ length text
    → part ≡ take (next - at) (drop at text) → after ≡ before ++ (if is_name name (whole_name p) then old else part)
    → before ++ replaced name old text (reading_from text at) ≡ whole → after ++ replaced name old text (reading_from text next) ≡ whole
part_put name old text before after whole part at next p reads fits is put inv =
    ap (λ x. x ++ rest) (put ∙ ap (λ y. before ++ (if is_name name (whole_name p) then old else y)) (is ∙ ap (λ n. take (n - at) (drop at text)) (sym (place_at text next fits))))
    ∙ append_assoc before _ rest
    ∙ ap (λ r. before ++ replaced name old text r) (sym reads)
    ∙ inv
  where
    rest : List ℕ
    rest = replaced name old text (reading_from text next)

pub text_ends : (name old text before whole : List ℕ) (at : ℕ) → reading_from text at ≡ ends → before ++ replaced name old text (reading_from text at) ≡ whole → before ≡ whole
text_ends name old text before whole at reads inv = sym (append-nil before) ∙ ap (λ r. before ++ replaced name old text r) (sym reads) ∙ inv

pub text_breaks : (name old text before after whole part : List ℕ) (at : ℕ) → reading_from text at ≡ bad_brace at → part ≡ drop at text → after ≡ before ++ part
    → before ++ replaced name old text (reading_from text at) ≡ whole → after ≡ whole
text_breaks name old text before after whole part at reads is put inv =
    put ∙ ap (λ x. before ++ x) is ∙ ap (λ r. before ++ replaced name old text r) (sym reads) ∙ inv

-- where a part is too long behind others, the whole is
pub part_too_long : (name old text before whole part : List ℕ) (at next limit : ℕ) (p : PlainPart) (b : Bool) → reading_from text at ≡ part_at at p (reading_from text next) → next ≤ length text
    → part ≡ take (next - at) (drop at text) → b ≡ is_name name (whole_name p) → before ++ replaced name old text (reading_from text at) ≡ whole
    → limit < length (before ++ (if b then old else part)) → limit < length whole
part_too_long name old text before whole part at next limit p b reads fits is same inv h =
    let k = part_put name old text before (before ++ (if is_name name (whole_name p) then old else part)) whole part at next p reads fits is refl inv in
    let e : length (before ++ (if b then old else part)) ≡ length (before ++ (if is_name name (whole_name p) then old else part)) = ap (λ c. length (before ++ (if c then old else part))) same in
    omega (arith, ap length k, e, length-append (before ++ (if is_name name (whole_name p) then old else part)) (replaced name old text (reading_from text next)))

pub rest_too_long : (name old text before whole part : List ℕ) (at limit : ℕ) → reading_from text at ≡ bad_brace at → part ≡ drop at text
    → before ++ replaced name old text (reading_from text at) ≡ whole → limit < length (before ++ part) → limit < length whole
rest_too_long name old text before whole part at limit reads is inv h =
    let k = text_breaks name old text before (before ++ part) whole part at reads is refl inv in omega (arith, ap length k)

pub rest_fails : {U : Type 0} (name old text before whole part : List ℕ) (at limit : ℕ) (r : Result U GivenFault) → reading_from text at ≡ bad_brace at → part ≡ drop at text
    → before ++ replaced name old text (reading_from text at) ≡ whole → IfErr r (λ e. e ≢ Memory → limit < length (before ++ part)) → IfErr r (λ e. e ≢ Memory → limit < length whole)
rest_fails name old text before whole part at limit (Ok u) reads is inv h = tt
rest_fails name old text before whole part at limit (Err e) reads is inv h = λ n. rest_too_long name old text before whole part at limit reads is inv (h n)
