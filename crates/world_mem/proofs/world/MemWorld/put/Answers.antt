use Rattle.mem_banks.specs.AsStore.{store_of}
use Rattle.world_mem.proofs.Dirty.{counts_wrote}
use Rattle.world_mem.proofs.world.MemWorld.put.Goals as goal

pub invariant_of-self-clause-counts : goal.invariant_of-self-clause-counts
invariant_of-self-clause-counts c =
    counts_wrote (store_of c.args.self.now.banks) (store_of c.write.new.self) c.args.bank c.args.place c.args.count c.args.bytes.now c.write.ensures.wrote c.requires.some c.args.self.now.counts
