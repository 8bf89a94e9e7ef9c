use Rattle.sign_store.proofs.DiskLemmas.{reads_joined, looked}
use Rattle.sign_store.proofs.banks.head_at.Goals as goal

pub returns-in_err-size-clause-looks : goal.returns-in_err-size-clause-looks
returns-in_err-size-clause-looks g c =
    looked g.W.Disk.meaning c.args.world.now c.size.new.self c.size.ensures.told c.size.ensures.recalls c.size.ensures.around c.size.ensures.banks c.size.ensures.time

pub returns-clause-looks : goal.returns-clause-looks
returns-clause-looks g c =
    reads_joined _ _ _ _
    (looked g.W.Disk.meaning c.args.world.now c.size.new.self c.size.ensures.told c.size.ensures.recalls c.size.ensures.around c.size.ensures.banks c.size.ensures.time)
    c.read_head.ensures.looks
