use Rattle.std.proofs.Common.{arith}
use Rattle.py_text.proofs.FormatLemmas.{ascii_first, no_letter, nothing_left}
use Rattle.std.proofs.Common.{◌≡◌, ◌++◌, encode_utf8, refl}
use Rattle.py_text.proofs.formatting.read_letter.Goals as goal

pub returns-in_err-letter : goal.returns-in_err-letter
returns-in_err-letter c = rw c.from_residual.ensures (nothing_left c.args.text.now c.utf8.text (c.in_err-letter.ensures {u = tt}))

pub returns-in-37 : goal.returns-in-37
returns-in-37 c =
    let parts : c.args.text.now ≡ encode_utf8 37 ++ c.in_ok-letter.after.now = rw (← c.in-37.is) (c.in_ok-letter.ensures {u = tt}).0 in
    (37, ascii_first c.args.text.now c.in_ok-letter.after.now 37 (omega arith) parts, refl)

pub returns-in-s : goal.returns-in-s
returns-in-s c =
    let parts : c.args.text.now ≡ encode_utf8 115 ++ c.in_ok-letter.after.now = rw (← c.in-s.is) (c.in_ok-letter.ensures {u = tt}).0 in
    (115, ascii_first c.args.text.now c.in_ok-letter.after.now 115 (omega arith) parts, refl)

pub returns-in-d : goal.returns-in-d
returns-in-d c =
    let parts : c.args.text.now ≡ encode_utf8 100 ++ c.in_ok-letter.after.now = rw (← c.in-d.is) (c.in_ok-letter.ensures {u = tt}).0 in
    (100, ascii_first c.args.text.now c.in_ok-letter.after.now 100 (omega arith) parts, refl)

pub returns-in_default : goal.returns-in_default
returns-in_default c =
    no_letter c.args.text.now c.in_ok-letter.after.now c.in_ok-letter.letter (c.in_ok-letter.ensures {u = tt}).0 (λ e. omega arith) (λ e. omega arith) (λ e. omega arith)
