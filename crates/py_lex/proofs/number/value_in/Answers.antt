use Rattle.std.proofs.Common.{sym, ◌∙◌}
use Rattle.py_lex.proofs.Digits.{no_value, more_read}
use Rattle.py_lex.proofs.number.value_in.Goals as goal

pub returns-in_err-value : goal.returns-in_err-value
returns-in_err-value c =
    c.from_residual.ensures ∙ sym (no_value _ _ _ _ c.requires.low c.loop-byte.invariant c.loop-byte-test.true (sym c.with_digit.ensures ∙ c.in_err-value.was))

pub loop-byte-preserved : goal.loop-byte-preserved
loop-byte-preserved c =
    more_read _ _ _ _ _ c.loop-byte.invariant c.loop-byte-test.true (sym c.with_digit.ensures ∙ c.in_ok-value.was)
