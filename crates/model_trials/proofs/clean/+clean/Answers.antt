use Rattle.std.proofs.Common.{◌≤◌, List, length, subst, arith}
use Rattle.model_trials.specs.declared.clean.PlainLine.{PlainLine}
use Rattle.model_trials.proofs.Makings.{answers_dependencies, answers_source, answers_made}
use Rattle.model_trials.proofs.clean.+clean.Goals as goal

pub clean-returns-in_default : goal.clean-returns-in_default
clean-returns-in_default t c =
    answers_source c.args.graph.now c.args.height c.args.path.now c.as_slice.result.now c.as_slice-in_default.result.now c.source.result
    c.as_slice.ensures.value c.as_slice-in_default.ensures.value c.in_default.ensures c.source.ensures

pub clean-returns : goal.clean-returns
clean-returns t c =
    answers_made c.args.graph.now c.args.height c.args.path.now c.as_slice.result.now c.in-Some.rule.now c.made.result c.as_slice.ensures.value
    (omega arith) c.in-Some.ensures c.made.ensures

pub dependencies-returns : goal.dependencies-returns
dependencies-returns t c =
    let past = subst (λ (l : List PlainLine). length l ≤ c.loop-line.line-index) c.deref-line-items.ensures.value c.loop-line-test.false in
    answers_dependencies c.args.graph.now c.args.height c.loop-line.line-index c.args.rule.now c.loop-line.scans.items c.as_slice.result.now
    c.reach_over.result past c.loop-line.invariant c.as_slice.ensures.value c.reach_over.ensures
