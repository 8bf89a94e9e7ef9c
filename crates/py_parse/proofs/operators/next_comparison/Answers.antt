use Rattle.py_parse.proofs.Comparing.{not_in_unfit, not_in_at, is_not_at, is_at, not_compared, comparison_at, comparison_there}
use Rattle.py_parse.proofs.operators.next_comparison.Goals as goal

pub returns-in_default-strip : goal.returns-in_default-strip
returns-in_default-strip c = λ d t. not_in_unfit d t _ _ _ c.in-Some.ensures c.in_default-strip.ensures

pub returns-in-Some : goal.returns-in-Some
returns-in-Some c = not_in_at _ _ _ _ _ c.in-Some.ensures c.in-Some-strip.ensures

pub returns-in-Some-strip-3 : goal.returns-in-Some-strip-3
returns-in-Some-strip-3 c = is_not_at _ _ _ _ _ c.in_default.ensures c.in-Some-strip-2.ensures c.in-Some-strip-3.ensures

pub returns-in-Some-strip-2 : goal.returns-in-Some-strip-2
returns-in-Some-strip-2 c = is_at _ _ _ c.in_default.ensures c.in-Some-strip-2.ensures c.in_default-strip-3.ensures

pub returns-in_default-strip-4 : goal.returns-in_default-strip-4
returns-in_default-strip-4 c = not_compared _ c.in_default.ensures c.in_default-strip-2.ensures c.in_default-strip-4.ensures

pub returns-in_default-comparison_of : goal.returns-in_default-comparison_of
returns-in_default-comparison_of c = absurd (comparison_there _ _ _ c.in-Some-strip-4.ensures c.in_default-comparison_of.ensures)

pub returns : goal.returns
returns c = comparison_at _ _ _ _ c.in_default.ensures c.in_default-strip-2.ensures c.in-Some-strip-4.ensures c.in-Some-comparison_of.ensures
