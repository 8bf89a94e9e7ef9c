use Rattle.scons_report.proofs.Judging.{lists_no, lists_yes}
use Rattle.scons_report.proofs.dry.list_stale.Goals as goal
use Rattle.scons_report.proofs.dry.list_stale.Goals.{then-branch+in_ok-list, else-branch}

pub returns-clause-lists : goal.returns-clause-lists
returns-clause-lists g c = λ tells idle own has b r grown numbered targets.
    let old = c.args.listed.now in
    let due = c.in_ok-is_due.ensures.due tells idle own has b r grown numbered targets in
    elim c.if-branch.branch [
      | then-branch+in_ok-list w ↦
          rw w.listed-is (lists_yes old w.list.new.listed c.args.rule _ _ due w.if-branch.true w.in_ok-list.ensures.marks w.in_ok-list.ensures.rules)
      | else-branch w ↦ rw w.listed-is (lists_no old c.args.rule _ _ due w.if-branch.false)
    ]
