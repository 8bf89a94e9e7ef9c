use Rattle.std.proofs.Common.{sym, ◌∙◌}
use Rattle.sign_store.proofs.DiskLemmas.{both_ok}
use Rattle.sign_store.proofs.StepLemmas.{endures_run, endures_then, fill_read, fill_written, close_moments, closed_shut, zero_shut}
use Rattle.sign_store.proofs.banks.close.Goals as goal

pub returns-in_err-head_at-clause-moments : goal.returns-in_err-head_at-clause-moments
returns-in_err-head_at-clause-moments g c = λ stood map generation can. c.head_at.ensures.looks.moments stood map

pub returns-in-Closed-clause-moments : goal.returns-in-Closed-clause-moments
returns-in-Closed-clause-moments g c = λ stood map generation can. c.head_at.ensures.looks.moments stood map

pub returns-in-Closed-clause-spare : goal.returns-in-Closed-clause-spare
returns-in-Closed-clause-spare g c = λ stood map generation can.
    fill_read g.W.Disk.meaning c.args.world.now c.head_at.new.world c.args.bank stood map generation c.head_at.ensures.looks can

pub returns-in-Closed-clause-gate : goal.returns-in-Closed-clause-gate
returns-in-Closed-clause-gate g c = λ told. closed_shut (g.W.Disk.meaning.seen c.head_at.new.world c.args.bank) (sym (c.in_ok-head_at.ensures.head told) ∙ c.in-Closed.is)

pub returns-in_default-clause-moments : goal.returns-in_default-clause-moments
returns-in_default-clause-moments g c = λ stood map generation can.
    endures_then g.W.Disk.meaning c.args.world.now c.head_at.new.world c.write_synced.new.world stood map (c.head_at.ensures.looks.moments stood map)
    (endures_run g.W.Disk.meaning c.head_at.new.world c.write_synced.new.world stood map
    (close_moments g.W.Disk.meaning c.head_at.new.world c.write_synced.new.world c.args.bank stood map generation (λ told e. c.in_default.not-Closed (c.in_ok-head_at.ensures.head told ∙ e)) c.write_synced.ensures.moments
    (fill_read g.W.Disk.meaning c.args.world.now c.head_at.new.world c.args.bank stood map generation c.head_at.ensures.looks can)))

pub returns-in_default-clause-spare : goal.returns-in_default-clause-spare
returns-in_default-clause-spare g c = λ stood map generation can.
    let m = g.W.Disk.meaning in
    let before = fill_read m c.args.world.now c.head_at.new.world c.args.bank stood map generation c.head_at.ensures.looks can in
    both_ok c.write_synced.result c.write_synced.ensures.written c.write_synced.ensures.settled (λ written settled.
    fill_written m c.head_at.new.world c.write_synced.new.world c.args.bank stood map generation c.write_synced.ensures.writes settled (g.met.W.Disk.reads_as c.write_synced.new.world)
    (close_moments m c.head_at.new.world c.write_synced.new.world c.args.bank stood map generation (λ told e. c.in_default.not-Closed (c.in_ok-head_at.ensures.head told ∙ e)) c.write_synced.ensures.moments before)
    before)

pub returns-in_default-clause-gate : goal.returns-in_default-clause-gate
returns-in_default-clause-gate g c = λ told.
    both_ok c.write_synced.result c.write_synced.ensures.written c.write_synced.ensures.settled (λ written settled.
    zero_shut (g.W.Disk.meaning.seen c.head_at.new.world c.args.bank) (g.W.Disk.meaning.seen c.write_synced.new.world c.args.bank) (written told))
