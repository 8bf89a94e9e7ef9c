use Rattle.std.proofs.Common.{arith}
use Rattle.env_text.specs.Words.{value_of}
use Rattle.env_text.proofs.Digits.{digit_read, digits_read}
use Rattle.env_text.proofs.number.value_of.Goals as goal

pub loop-digit-preserved : goal.loop-digit-preserved
loop-digit-preserved c = (
  omega (arith, c.with_digit-value.ensures),
  digit_read c.args.digits.now c.loop-digit.digit-index c.loop-digit.value c.with_digit-value.result (value_of c.args.digits.now)
      c.loop-digit.invariant.1 c.loop-digit-test.true c.with_digit-value.ensures,
)

pub returns : goal.returns
returns c = digits_read c.args.digits.now c.loop-digit.digit-index c.loop-digit.value (value_of c.args.digits.now) c.loop-digit.invariant.1 c.loop-digit-test.false c.loop-digit.invariant.0
