use Rattle.std.proofs.Common.{length, ap, arith}
use Rattle.explain_report.specs.Reasons.{IsNew}
use Rattle.explain_report.proofs.Firsts.{goes_on, is_behind}
use Rattle.explain_report.proofs.names.first_beside.Goals as goal

pub loop-dep-preserved : goal.loop-dep-preserved
loop-dep-preserved c =
    let is = c.in-Some.ensures in
    let not = c.in-Some-place_from.ensures.0 in
    record {
      whole = omega (arith, c.loop-dep.invariant.whole, ap length is);
      expected = omega (arith, c.in-Some-place_from.ensures.1);
      first = λ p f. c.loop-dep.invariant.first p (goes_on (IsNew c.args.others.now) c.loop-dep.place c.loop-dep.rest.now c.in-Some.dep.now c.in-Some.behind.now is not p f);
      later = λ s. is_behind (IsNew c.args.others.now) c.loop-dep.rest.now c.in-Some.dep.now c.in-Some.behind.now is not (c.loop-dep.invariant.later s);
    }
