use Rattle.std.proofs.Common.{refl}
use Rattle.build_run.proofs.Noting.{noted_over}
use Rattle.std.proofs.Common.{[], ℤ, SFits, w32, to_z-of_z, rules, subst}
use Rattle.rule_graph.specs.declared.build_fault.BuildFault.TheVariants as fault
use Rattle.build_run.specs.Ledgers.{Reports, ledger_of, with_fault}
use Rattle.build_run.proofs.Causing.{wants_untold}
use Rattle.build_run.specs.Faulted.{AddsFault, was_lost, was_told}
use Rattle.build_run.proofs.ending.not_done.Goals as goal

pub returns-in_default-clause-notes : goal.returns-in_default-clause-notes
returns-in_default-clause-notes g c = noted_over c.want_memory.new.self c.want_memory.ensures.ends.ended c.args.graph.now c.args.rule.0

pub returns-in-Failed-clause-notes : goal.returns-in-Failed-clause-notes
returns-in-Failed-clause-notes g c = c.fail.ensures.notes c.args.graph.now c.in-Ok.target c.in-Ok.ensures refl

pub returns-in-Broken-clause-notes : goal.returns-in-Broken-clause-notes
returns-in-Broken-clause-notes g c = noted_over c.end.new.self c.end.ensures.ends.ended c.args.graph.now c.args.rule.0

pub returns-in_default-clause-reports : goal.returns-in_default-clause-reports
returns-in_default-clause-reports g c = ([], wants_untold g.E.Sink.meaning c.args.err.now c.args.account.now [] c.args.outcome c.want_memory.new.self c.want_memory.ensures.ledger)

pub returns-in-Failed-clause-reports : goal.returns-in-Failed-clause-reports
returns-in-Failed-clause-reports g c =
    let fits : SFits w32 c.in-Failed.code = search rules in
    let told = λ (code : ℤ). Reports g.E.Sink.meaning c.args.err.now c.args.account.now (with_fault (ledger_of c.args.account.now) (fault.ActionFailed c.in-Ok.target code)) c.fail.new.err c.fail.new.self in
    (c.in-Ok.target, rw c.in-Failed.is (subst told (to_z-of_z fits) c.fail.ensures.reports))

pub returns-in-Broken-clause-reports : goal.returns-in-Broken-clause-reports
returns-in-Broken-clause-reports g c = (c.in-Ok.target, rw c.in-Broken.is c.end.ensures.reports)

pub returns-in-NoMemory-clause-reports : goal.returns-in-NoMemory-clause-reports
returns-in-NoMemory-clause-reports g c = ([], wants_untold g.E.Sink.meaning c.args.err.now c.args.account.now [] c.args.outcome c.want_memory-in-NoMemory.new.self c.want_memory-in-NoMemory.ensures.ledger)

pub returns-in_default-clause-lists : goal.returns-in_default-clause-lists
returns-in_default-clause-lists g c = was_lost c.want_memory.ensures.memory c.want_memory.ensures.same.faults

pub returns-in-Failed-clause-lists : goal.returns-in-Failed-clause-lists
returns-in-Failed-clause-lists g c =
    let fits : SFits w32 c.in-Failed.code = search rules in
    let told = λ (code : ℤ). AddsFault c.args.account.now (fault.ActionFailed c.in-Ok.target code) c.fail.new.self in
    rw c.in-Failed.is (was_told c.in-Ok.target (fault.ActionFailed c.in-Ok.target c.in-Failed.code) c.in-Ok.ensures refl (subst told (to_z-of_z fits) c.fail.ensures.lists))

pub returns-in-Broken-clause-lists : goal.returns-in-Broken-clause-lists
returns-in-Broken-clause-lists g c =
    rw c.in-Broken.is (was_told c.in-Ok.target (fault.StartFault c.in-Ok.target) c.in-Ok.ensures refl c.end.ensures.lists)

pub returns-in-NoMemory-clause-lists : goal.returns-in-NoMemory-clause-lists
returns-in-NoMemory-clause-lists g c = was_lost c.want_memory-in-NoMemory.ensures.memory c.want_memory-in-NoMemory.ensures.same.faults
