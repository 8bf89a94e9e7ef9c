use Rattle.sign_store.proofs.DiskLemmas.{reads_joined}
use Rattle.sign_store.proofs.opening.read_map.Goals as goal

pub returns-in_ok-read_bank-in-Live-A-default-clause-looks : goal.returns-in_ok-read_bank-in-Live-A-default-clause-looks
returns-in_ok-read_bank-in-Live-A-default-clause-looks g c =
    reads_joined g.W.Disk.meaning c.args.world.now c.look.new.world c.read_bank.new.world c.look.ensures.looks c.read_bank.ensures.looks

pub returns-in_ok-read_bank-in-Live-B-default-clause-looks : goal.returns-in_ok-read_bank-in-Live-B-default-clause-looks
returns-in_ok-read_bank-in-Live-B-default-clause-looks g c =
    reads_joined g.W.Disk.meaning c.args.world.now c.look.new.world c.read_bank-in-Live-B-default.new.world c.look.ensures.looks c.read_bank-in-Live-B-default.ensures.looks

pub returns-in_err-read_bank-in-Live-A-default-clause-looks : goal.returns-in_err-read_bank-in-Live-A-default-clause-looks
returns-in_err-read_bank-in-Live-A-default-clause-looks g c =
    reads_joined g.W.Disk.meaning c.args.world.now c.look.new.world c.read_bank.new.world c.look.ensures.looks c.read_bank.ensures.looks

pub returns-in_err-read_bank-in-Live-B-default-clause-looks : goal.returns-in_err-read_bank-in-Live-B-default-clause-looks
returns-in_err-read_bank-in-Live-B-default-clause-looks g c =
    reads_joined g.W.Disk.meaning c.args.world.now c.look.new.world c.read_bank-in-Live-B-default.new.world c.look.ensures.looks c.read_bank-in-Live-B-default.ensures.looks
