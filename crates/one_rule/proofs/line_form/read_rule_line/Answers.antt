use Rattle.std.proofs.Common.{◌∙◌, sym}
use Rattle.one_rule.specs.Fields.{rule_fields}
use Rattle.one_rule.proofs.LineParts.{declares, none_declared}
use Rattle.one_rule.proofs.line_form.read_rule_line.Goals as goal

pub returns-clause-declared : goal.returns-clause-declared
returns-clause-declared c =
    let fields = rw c.in-Some.is at c.in_ok-fields.ensures in
    rw (c.in_ok-path_of.ensures, c.in_ok-path_of-2.ensures, c.in_ok-text_of.ensures)
    (declares c.args.line.now (rule_fields c.in-Some.fields) fields (sym c.are_well_formed.ensures ∙ c.if-not-are_well_formed.false))

pub returns-in_default-clause-no_rule : goal.returns-in_default-clause-no_rule
returns-in_default-clause-no_rule c = none_declared c.args.line.now (rw c.in_default.is at c.in_ok-fields.ensures)
