use Rattle.std.proofs.Common.{◌+◌, length, drop}
use Rattle.sign_store.proofs.DiskLemmas.{both_ok}
use Rattle.sign_store.proofs.StepLemmas.{endures_run, endures_then, behind_shut_moments, fill_written, form_behind, form_there, open_moments, fill_done}
use Rattle.sign_store.proofs.banks.fill_closed.Goals as goal

pub returns-in_err-write_synced-clause-moments : goal.returns-in_err-write_synced-clause-moments
returns-in_err-write_synced-clause-moments g c = λ stood map generation can is.
    endures_run g.W.Disk.meaning c.args.world.now c.write_synced.new.world stood map
    (behind_shut_moments g.W.Disk.meaning c.args.world.now c.write_synced.new.world c.args.bank (length c.args.form.now) stood map generation c.requires.gate c.write_synced.ensures.moments can)

pub returns-clause-moments : goal.returns-clause-moments
returns-clause-moments g c = λ stood map generation can is.
    let m = g.W.Disk.meaning in
    let form = c.args.form.now in
    let bank = c.args.bank in
    let first = behind_shut_moments m c.args.world.now c.write_synced.new.world bank (length form) stood map generation c.requires.gate c.write_synced.ensures.moments can in
    let back = c.write_synced.ensures.told.told in
    endures_then m c.args.world.now c.write_synced.new.world c.write_synced-2.new.world stood map
    (endures_run m c.args.world.now c.write_synced.new.world stood map first)
    (endures_run m c.write_synced.new.world c.write_synced-2.new.world stood map
    (open_moments m c.write_synced.new.world c.write_synced-2.new.world bank stood map generation form (λ told. drop (1 + length form) (m.seen c.args.world.now bank)) is
    (λ told. form_there form (m.seen c.args.world.now bank) (m.seen c.write_synced.new.world bank) (c.requires.gate (back told)) (c.in_ok-write_synced.ensures.written told))
    (λ told. form_behind form (m.seen c.args.world.now bank) (m.seen c.write_synced.new.world bank) (c.requires.gate (back told)) (c.in_ok-write_synced.ensures.written told))
    c.write_synced-2.ensures.moments
    (fill_written m c.args.world.now c.write_synced.new.world bank stood map generation c.write_synced.ensures.writes c.in_ok-write_synced.ensures.settled (g.met.W.Disk.reads_as c.write_synced.new.world) first can)))

pub returns-clause-filled : goal.returns-clause-filled
returns-clause-filled g c = λ stood map generation can is.
    let m = g.W.Disk.meaning in
    let form = c.args.form.now in
    let bank = c.args.bank in
    let first = behind_shut_moments m c.args.world.now c.write_synced.new.world bank (length form) stood map generation c.requires.gate c.write_synced.ensures.moments can in
    let back = c.write_synced.ensures.told.told in
    both_ok c.write_synced-2.result c.write_synced-2.ensures.written c.write_synced-2.ensures.settled (λ written settled.
    fill_done m c.write_synced.new.world c.write_synced-2.new.world bank stood map generation form (λ told. drop (1 + length form) (m.seen c.args.world.now bank)) is
    (λ told. form_behind form (m.seen c.args.world.now bank) (m.seen c.write_synced.new.world bank) (c.requires.gate (back told)) (c.in_ok-write_synced.ensures.written told))
    c.write_synced-2.ensures.writes settled written
    (fill_written m c.args.world.now c.write_synced.new.world bank stood map generation c.write_synced.ensures.writes c.in_ok-write_synced.ensures.settled (g.met.W.Disk.reads_as c.write_synced.new.world) first can))
