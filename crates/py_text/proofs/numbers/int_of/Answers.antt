use Rattle.std.proofs.Common.{◌≡◌, true, sym, ◌∙◌}
use Rattle.py_text.specs.Numbers.{is_decimal}
use Rattle.py_text.proofs.NumberLemmas.{int_overflow}
use Rattle.py_text.proofs.numbers.int_of.Goals as goal

pub returns-in-Err : goal.returns-in-Err
returns-in-Err c =
    let decimal : is_decimal c.args.text.now ≡ true = sym c.is_decimal.ensures ∙ c.if-not-is_decimal.false in
    int_overflow c.args.text.now decimal (c.in-Err.ensures {u = tt}).value.0
