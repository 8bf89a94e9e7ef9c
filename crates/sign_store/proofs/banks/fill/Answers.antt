use Rattle.sign_store.proofs.StepLemmas.{endures_then}
use Rattle.sign_store.proofs.banks.fill.Goals as goal

pub returns-in_err-close-clause-moments : goal.returns-in_err-close-clause-moments
returns-in_err-close-clause-moments g c = λ stood map generation can is. c.close.ensures.moments stood map generation can

pub returns-clause-moments : goal.returns-clause-moments
returns-clause-moments g c = λ stood map generation can is.
    endures_then g.W.Disk.meaning c.args.world.now c.close.new.world c.fill_closed.new.world stood map (c.close.ensures.moments stood map generation can)
    (c.fill_closed.ensures.moments stood map generation (c.in_ok-close.ensures.spare stood map generation can) is)

pub returns-clause-filled : goal.returns-clause-filled
returns-clause-filled g c = λ stood map generation can is. c.fill_closed.ensures.filled stood map generation (c.in_ok-close.ensures.spare stood map generation can) is
