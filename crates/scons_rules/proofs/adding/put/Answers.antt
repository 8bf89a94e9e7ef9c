use Rattle.std.proofs.lemmas.Result.{err_from_is_err_and}
use Rattle.scons_rules.proofs.Seeing.{added, refused_rule}
use Rattle.scons_rules.proofs.adding.put.Goals as goal

pub returns-in_err-add_rule-clause-fault : goal.returns-in_err-add_rule-clause-fault
returns-in_err-add_rule-clause-fault c =
    let told = err_from_is_err_and c.from_residual.result c.from_residual.ensures.1 in
    rw told.1 (λ other.
    refused_rule c.args.graph.now c.laws.ensures.apart c.laws.ensures.named c.args.rule c.requires c.in_err-add_rule.field-0.0 told.0 told.2 other c.in_err-add_rule.ensures.fault)

pub returns-clause-ok : goal.returns-clause-ok
returns-clause-ok c =
    added c.args.graph.now c.laws.ensures.apart c.laws.ensures.named c.args.rule c.requires c.add_rule.new.self c.in_ok-add_rule.field-0.0
    c.in_ok-add_rule.ensures.ok c.in_ok-add_rule.ensures.no_fault
