use Rattle.std.proofs.Common.{◌++◌, length, sym, ap, ◌∙◌, encode_utf8}
use Rattle.py_text.proofs.CharLemmas.{no_chars, chars_before_char}
use Rattle.py_text.proofs.characters.last_char.Goals as goal

pub returns-in_err-last : goal.returns-in_err-last
returns-in_err-last c = rw c.from_residual.ensures (no_chars c.args.text.now (sym (ap length c.chars-rest.ensures.rest) ∙ (c.in_err-last.ensures {u = tt}).steps.0))

pub returns : goal.returns
returns c =
    let parts = sym c.chars-rest.ensures.rest ∙ (c.in_ok-last.ensures {u = tt}).steps ∙ ap (λ l. l ++ encode_utf8 c.in_ok-last.last) (sym c.as_str.ensures) in
    (parts, chars_before_char c.args.text.now c.as_str.result.now c.in_ok-last.last c.utf8.text c.as_str.utf8 parts)
