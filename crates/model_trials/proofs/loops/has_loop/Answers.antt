use Rattle.std.proofs.Common.{ap, ◌∙◌, Ok, Some}
use Rattle.model_trials.proofs.Leading.{at_place, none_more, none_at_end}
use Rattle.model_trials.proofs.loops.has_loop.Goals as goal

pub returns-then-is_back-clause-some : goal.returns-then-is_back-clause-some
returns-then-is_back-clause-some c = λ is. (
  _,
  (
    at_place c.args.numbers.now c.loop-number.number-index 0 c.loop-number-test.true,
    c.in_ok-is_back.ensures.back (ap Ok (c.in-Some.is ∙ ap Some c.if-is_back.true)),
  ),
)

pub loop-number-preserved : goal.loop-number-preserved
loop-number-preserved c =
    none_more c.args.needs.now c.args.numbers.now c.loop-number.number-index 0 c.loop-number-test.true
    (c.in_ok-is_back.ensures.never (ap Ok (c.in-Some.is ∙ ap Some c.if-is_back.false))) c.loop-number.invariant

pub returns-clause-none : goal.returns-clause-none
returns-clause-none c = λ is.
    none_at_end c.args.needs.now c.args.numbers.now c.loop-number.number-index c.loop-number-test.false c.loop-number.invariant
