use Rattle.std.proofs.Common.{List, subst, sym}
use Rattle.scons_base.specs.declared.ids.RuleId.{RuleId}
use Rattle.build_run.specs.Noted.{IsNoted}
use Rattle.build_run.proofs.Noting.{noted_beside, noted_now}
use Rattle.build_run.proofs.account.Account.note_faulty.Goals as goal

pub returns-in-Ok-clause-noted : goal.returns-in-Ok-clause-noted
returns-in-Ok-clause-noted c = λ graph rule n.
    let account = c.args.self.now in
    subst (λ (rules : List RuleId). IsNoted graph account.is_ended rules account.faults.items rule) (sym c.in-Ok.ensures.items)
    (noted_beside graph account.is_ended account.faulty.items account.faults.items c.args.rule rule n)

pub returns-in-Ok-clause-notes : goal.returns-in-Ok-clause-notes
returns-in-Ok-clause-notes c = λ f kept graph path named of.
    let account = c.args.self.now in
    subst (λ (rules : List RuleId). IsNoted graph account.is_ended rules account.faults.items c.args.rule.0) (sym c.in-Ok.ensures.items)
    (noted_now graph account.is_ended account.faulty.items account.faults.items c.args.rule f path named of kept)
