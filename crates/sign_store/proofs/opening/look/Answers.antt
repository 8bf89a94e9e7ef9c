use Rattle.sign_store.proofs.DiskLemmas.{reads_joined}
use Rattle.sign_store.proofs.opening.look.Goals as goal

pub returns-in_err-a-clause-looks : goal.returns-in_err-a-clause-looks
returns-in_err-a-clause-looks g c = reads_joined g.W.Disk.meaning _ _ _ c.sizes_of.ensures.looks c.read_head.ensures.looks

pub returns-in_err-b-clause-looks : goal.returns-in_err-b-clause-looks
returns-in_err-b-clause-looks g c =
    reads_joined g.W.Disk.meaning _ _ _ c.sizes_of.ensures.looks (reads_joined g.W.Disk.meaning _ _ _ c.read_head.ensures.looks c.read_head-2.ensures.looks)

pub returns-clause-looks : goal.returns-clause-looks
returns-clause-looks g c =
    reads_joined g.W.Disk.meaning _ _ _ c.sizes_of.ensures.looks (reads_joined g.W.Disk.meaning _ _ _ c.read_head.ensures.looks c.read_head-2.ensures.looks)
