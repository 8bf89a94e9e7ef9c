use Rattle.build_run.specs.Ledgers.{ledger_of}
use Rattle.build_run.proofs.Causing.{err_fault}
use Rattle.build_run.specs.FaultTexts.{is_printed, is_refused}
use Rattle.std.proofs.Common.{refl}
use Rattle.build_run.proofs.Faulted.{fault_out}
use Rattle.build_run.specs.Faulted.{none_added}
use Rattle.build_run.proofs.account.Account.write.Goals as goal

pub returns-in-Err-clause-reports : goal.returns-in-Err-clause-reports
returns-in-Err-clause-reports g c = record {
  shut = c.keep.ensures.keeps.shut;
  accounts = λ counts out start a. c.keep.ensures.keeps.accounts _ start (err_fault start (ledger_of c.args.self.now) counts out _ _ c.in-Err.ensures.err.faults a);
}

pub returns-in-Ok-clause-shows : goal.returns-in-Ok-clause-shows
returns-in-Ok-clause-shows g c = λ free. is_printed free c.in-Ok.ensures.ok refl

pub returns-in-Err-clause-shows : goal.returns-in-Err-clause-shows
returns-in-Err-clause-shows g c = λ free.
    let kept = c.keep.ensures.adds in
    is_refused free c.in-Err.ensures.err kept.shut kept.memory kept.faults

pub returns-in-Ok-clause-lists : goal.returns-in-Ok-clause-lists
returns-in-Ok-clause-lists g c = none_added

pub returns-in-Err-clause-lists : goal.returns-in-Err-clause-lists
returns-in-Err-clause-lists g c = fault_out _ _ c.keep.ensures.lists
