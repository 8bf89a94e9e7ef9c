use Rattle.sign_store.proofs.DiskLemmas.{writes_joined, wrote, read}
use Rattle.sign_store.proofs.WriteLemmas.{write_moments, sync_moments}
use Rattle.sign_store.proofs.banks.write_synced.Goals as goal

pub returns-clause-writes : goal.returns-clause-writes
returns-clause-writes g c =
    writes_joined _ _ _ _ _
    (wrote g.W.Disk.meaning c.args.bank c.args.world.now c.write_at.new.self c.write_at.ensures.told c.write_at.ensures.recalls c.write_at.ensures.around c.write_at.ensures.other)
    (read g.W.Disk.meaning c.args.bank c.write_at.new.self c.sync.new.self c.sync.ensures.told c.sync.ensures.recalls c.sync.ensures.around c.sync.ensures.banks)

pub returns-in_err-write_at-clause-moments : goal.returns-in_err-write_at-clause-moments
returns-in_err-write_at-clause-moments g c =
    write_moments g.W.Disk.meaning c.args.world.now c.write_at.new.self c.args.bank _ _ c.write_at.ensures.time c.write_at.ensures.around c.write_at.ensures.image c.write_at.ensures.other

pub returns-clause-moments : goal.returns-clause-moments
returns-clause-moments g c =
    sync_moments g.W.Disk.meaning c.args.world.now c.write_at.new.self c.sync.new.self _
    (write_moments g.W.Disk.meaning c.args.world.now c.write_at.new.self c.args.bank _ _ c.write_at.ensures.time c.write_at.ensures.around c.write_at.ensures.image c.write_at.ensures.other)
    c.sync.ensures.time c.sync.ensures.around c.sync.ensures.banks
