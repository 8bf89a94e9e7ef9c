use Rattle.sign_store.proofs.DiskLemmas.{both_ok, settled_same}
use Rattle.sign_store.proofs.FillLemmas.{settled_on}
use Rattle.sign_store.proofs.StepLemmas.{endures_same, endures_run, mend_moments}
use Rattle.sign_store.proofs.OpenLemmas.{mended, closed_mended}
use Rattle.sign_store.proofs.opening.mend.Goals as goal

pub returns-in-Closed-clause-moments : goal.returns-in-Closed-clause-moments
returns-in-Closed-clause-moments g c = λ stood map edition can. endures_same g.W.Disk.meaning c.args.world.now stood map

pub returns-in-Closed-clause-mended : goal.returns-in-Closed-clause-mended
returns-in-Closed-clause-mended g c = λ stood map edition can. closed_mended g.W.Disk.meaning c.args.world.now c.args.bank c.args.gate c.args.end stood map edition c.in-Closed.is can

pub returns-in_default-clause-moments : goal.returns-in_default-clause-moments
returns-in_default-clause-moments g c = λ stood map edition can.
    endures_run g.W.Disk.meaning c.args.world.now c.write_synced.new.world stood map
    (mend_moments g.W.Disk.meaning c.args.world.now c.write_synced.new.world c.args.bank c.args.gate c.args.end stood map edition c.in_default.not-Closed c.write_synced.ensures.moments can)

pub returns-in_default-clause-mended : goal.returns-in_default-clause-mended
returns-in_default-clause-mended g c = λ stood map edition can.
    both_ok c.write_synced.result c.write_synced.ensures.written c.write_synced.ensures.settled (λ written settled.
    mended g.W.Disk.meaning c.args.world.now c.write_synced.new.world c.args.bank c.args.gate c.args.end stood map edition c.in_default.not-Closed c.write_synced.ensures.writes settled written can)

pub returns-in-Closed-clause-settled : goal.returns-in-Closed-clause-settled
returns-in-Closed-clause-settled g c = settled_same g.W.Disk.meaning c.args.world.now

pub returns-in_default-clause-settled : goal.returns-in_default-clause-settled
returns-in_default-clause-settled g c =
    both_ok c.write_synced.result c.write_synced.ensures.settled c.write_synced.ensures.settled (λ settled _. record {
      on = λ told rest. settled_on g.W.Disk.meaning c.args.world.now c.write_synced.new.world c.args.bank rest (settled told) (c.write_synced.ensures.writes.other told);
    })
