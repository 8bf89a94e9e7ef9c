use Rattle.std.proofs.Common.{◌∙◌, sym}
use Rattle.build_files.proofs.Copying.{grew_same}
use Rattle.build_files.proofs.Knowing.{rule_none}
use Rattle.build_files.proofs.Truths.{kept_same, kept_settled}
use Rattle.build_files.proofs.inputs.Inputs.add_copy.Goals as goal

pub returns-then-is_some-clause-grows : goal.returns-then-is_some-clause-grows
returns-then-is_some-clause-grows g c = grew_same c.args.graph.now

pub returns-then-is_settled-clause-grows : goal.returns-then-is_settled-clause-grows
returns-then-is_settled-clause-grows g c = grew_same c.args.graph.now

pub returns-in_err-add_copy_of-clause-truth : goal.returns-in_err-add_copy_of-clause-truth
returns-in_err-add_copy_of-clause-truth g c = λ told b is.
    c.add_copy_of.ensures.truth (rule_none _ _ c.rule_of.ensures.of (sym c.is_some.ensures ∙ c.if-is_some.false)) told b is

pub returns-in_err-settle-clause-truth : goal.returns-in_err-settle-clause-truth
returns-in_err-settle-clause-truth g c = λ told b is.
    kept_same b _ _ _ _ c.in_err-settle.ensures.same
    (c.add_copy_of.ensures.truth (rule_none _ _ c.rule_of.ensures.of (sym c.is_some.ensures ∙ c.if-is_some.false)) told b is)

pub returns-clause-truth : goal.returns-clause-truth
returns-clause-truth g c = λ told b is.
    let none = rule_none _ _ c.rule_of.ensures.of (sym c.is_some.ensures ∙ c.if-is_some.false) in
    kept_settled b _ _ _ _ c.args.node.0 (c.in_ok-add_copy_of.ensures.left none told b is) c.in_ok-settle.ensures.done
    (c.add_copy_of.ensures.truth none told b is)
