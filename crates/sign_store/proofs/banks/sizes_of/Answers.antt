use Rattle.sign_store.proofs.DiskLemmas.{reads_joined, looked}
use Rattle.sign_store.proofs.banks.sizes_of.Goals as goal

pub returns-in_err-a-clause-looks : goal.returns-in_err-a-clause-looks
returns-in_err-a-clause-looks g c =
    looked g.W.Disk.meaning c.args.world.now c.size.new.self c.size.ensures.told c.size.ensures.recalls c.size.ensures.around c.size.ensures.banks c.size.ensures.time

pub returns-in_err-b-clause-looks : goal.returns-in_err-b-clause-looks
returns-in_err-b-clause-looks g c =
    reads_joined _ _ _ _
    (looked g.W.Disk.meaning c.args.world.now c.size.new.self c.size.ensures.told c.size.ensures.recalls c.size.ensures.around c.size.ensures.banks c.size.ensures.time)
    (looked g.W.Disk.meaning c.size.new.self c.size-2.new.self c.size-2.ensures.told c.size-2.ensures.recalls c.size-2.ensures.around c.size-2.ensures.banks c.size-2.ensures.time)

pub returns-then-a-gt-BANK_LIMIT-clause-looks : goal.returns-then-a-gt-BANK_LIMIT-clause-looks
returns-then-a-gt-BANK_LIMIT-clause-looks g c =
    reads_joined _ _ _ _
    (looked g.W.Disk.meaning c.args.world.now c.size.new.self c.size.ensures.told c.size.ensures.recalls c.size.ensures.around c.size.ensures.banks c.size.ensures.time)
    (looked g.W.Disk.meaning c.size.new.self c.size-2.new.self c.size-2.ensures.told c.size-2.ensures.recalls c.size-2.ensures.around c.size-2.ensures.banks c.size-2.ensures.time)

pub returns-then-b-gt-BANK_LIMIT-clause-looks : goal.returns-then-b-gt-BANK_LIMIT-clause-looks
returns-then-b-gt-BANK_LIMIT-clause-looks g c =
    reads_joined _ _ _ _
    (looked g.W.Disk.meaning c.args.world.now c.size.new.self c.size.ensures.told c.size.ensures.recalls c.size.ensures.around c.size.ensures.banks c.size.ensures.time)
    (looked g.W.Disk.meaning c.size.new.self c.size-2.new.self c.size-2.ensures.told c.size-2.ensures.recalls c.size-2.ensures.around c.size-2.ensures.banks c.size-2.ensures.time)

pub returns-clause-looks : goal.returns-clause-looks
returns-clause-looks g c =
    reads_joined _ _ _ _
    (looked g.W.Disk.meaning c.args.world.now c.size.new.self c.size.ensures.told c.size.ensures.recalls c.size.ensures.around c.size.ensures.banks c.size.ensures.time)
    (looked g.W.Disk.meaning c.size.new.self c.size-2.new.self c.size-2.ensures.told c.size-2.ensures.recalls c.size-2.ensures.around c.size-2.ensures.banks c.size-2.ensures.time)
