use Rattle.std.proofs.Common.{arith}
use Rattle.std.proofs.lemmas.Grind.{common_steps}
use Rattle.world_mem.proofs.Writes.{store_cut, store_image, write_other, write_recalls, write_time}
use Rattle.world_mem.proofs.disk.MemWorldDisk.write_at.Goals as goal

pub returns-then-eq-3-clause-cut : goal.returns-then-eq-3-clause-cut
returns-then-eq-3-clause-cut c = λ told. store_cut _ _ c.args.bank _ _ _ c.put.ensures.banks (c.requires.within tt) (grind (arith, common_steps))

pub returns-then-eq-3-clause-image : goal.returns-then-eq-3-clause-image
returns-then-eq-3-clause-image c = λ told. store_image _ _ c.args.bank _ _ _ c.put.ensures.banks (c.requires.within tt)

pub returns-then-eq-3-clause-other : goal.returns-then-eq-3-clause-other
returns-then-eq-3-clause-other c = λ told. write_other _ _ c.args.bank _ _ _ c.put.ensures.banks (c.requires.within tt)

pub returns-then-eq-3-clause-recalls : goal.returns-then-eq-3-clause-recalls
returns-then-eq-3-clause-recalls c = write_recalls _ _ c.put.ensures.turns c.put.ensures.horizon c.args.self.now.since c.put.ensures.state c.args.bank _ _ _ c.put.ensures.banks (c.requires.within tt)

pub returns-then-eq-3-clause-time : goal.returns-then-eq-3-clause-time
returns-then-eq-3-clause-time c = write_time _ _ c.put.ensures.turns c.put.ensures.horizon c.args.self.now.since c.put.ensures.state c.args.bank _ _ _ c.put.ensures.banks (c.requires.within tt)

pub returns-clause-image : goal.returns-clause-image
returns-clause-image c = λ told. store_image _ _ c.args.bank _ _ _ c.put-2.ensures.banks (c.requires.within tt)

pub returns-clause-other : goal.returns-clause-other
returns-clause-other c = λ told. write_other _ _ c.args.bank _ _ _ c.put-2.ensures.banks (c.requires.within tt)

pub returns-clause-recalls : goal.returns-clause-recalls
returns-clause-recalls c = write_recalls _ _ c.put-2.ensures.turns c.put-2.ensures.horizon c.args.self.now.since c.put-2.ensures.state c.args.bank _ _ _ c.put-2.ensures.banks (c.requires.within tt)

pub returns-clause-time : goal.returns-clause-time
returns-clause-time c = write_time _ _ c.put-2.ensures.turns c.put-2.ensures.horizon c.args.self.now.since c.put-2.ensures.state c.args.bank _ _ _ c.put-2.ensures.banks (c.requires.within tt)
