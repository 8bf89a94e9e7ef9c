use Rattle.sign_store.proofs.DiskLemmas.{looked}
use Rattle.sign_store.proofs.banks.read_part.Goals as goal

pub returns-in_err-read_at-clause-looks : goal.returns-in_err-read_at-clause-looks
returns-in_err-read_at-clause-looks g c =
    looked g.W.Disk.meaning c.args.world.now c.read_at.new.self c.read_at.ensures.told c.read_at.ensures.recalls c.read_at.ensures.around c.read_at.ensures.banks c.read_at.ensures.time

pub returns-clause-looks : goal.returns-clause-looks
returns-clause-looks g c =
    looked g.W.Disk.meaning c.args.world.now c.read_at.new.self c.read_at.ensures.told c.read_at.ensures.recalls c.read_at.ensures.around c.read_at.ensures.banks c.read_at.ensures.time
