use Rattle.std.proofs.Common.{length, ap, ◌∙◌, arith}
use Rattle.sign_store.proofs.DiskLemmas.{looked}
use Rattle.sign_store.proofs.ReadLemmas.{front_head}
use Rattle.sign_store.proofs.banks.read_head.Goals as goal

pub returns-clause-head : goal.returns-clause-head
returns-clause-head g c = λ told.
    let before = c.requires (c.read_at.ensures.told.told told) in
    let same = (c.read_at.ensures.banks told c.args.bank).same in
    c.head_of.ensures
    ∙ front_head (g.W.Disk.meaning.seen c.read_at.new.self c.args.bank) _ (omega (arith, c.if-size.false, before, ap length same)) (c.in_ok-read_at.ensures.read told)

pub returns-in_err-read_at-clause-looks : goal.returns-in_err-read_at-clause-looks
returns-in_err-read_at-clause-looks g c =
    looked g.W.Disk.meaning c.args.world.now c.read_at.new.self c.read_at.ensures.told c.read_at.ensures.recalls c.read_at.ensures.around c.read_at.ensures.banks c.read_at.ensures.time

pub returns-clause-looks : goal.returns-clause-looks
returns-clause-looks g c =
    looked g.W.Disk.meaning c.args.world.now c.read_at.new.self c.read_at.ensures.told c.read_at.ensures.recalls c.read_at.ensures.around c.read_at.ensures.banks c.read_at.ensures.time
