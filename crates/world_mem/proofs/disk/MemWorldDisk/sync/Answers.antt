use Rattle.std.proofs.Common.{refl}
use Rattle.mem_banks.specs.AsStore.{store_of}
use Rattle.world_mem.proofs.Dirty.{counts_synced}
use Rattle.world_mem.proofs.Writes.{sync_banks, sync_recalls, sync_time}
use Rattle.world_mem.proofs.disk.MemWorldDisk.sync.Goals as goal

pub invariant_of-self-2-clause-counts : goal.invariant_of-self-2-clause-counts
invariant_of-self-2-clause-counts c =
    counts_synced (store_of c.args.self.now.banks) (store_of c.sync.new.self) c.args.bank c.sync.ensures.synced c.args.self.now.counts

pub returns-clause-banks : goal.returns-clause-banks
returns-clause-banks c = λ told. sync_banks _ _ c.args.bank c.sync.ensures.synced

pub returns-clause-recalls : goal.returns-clause-recalls
returns-clause-recalls c = sync_recalls _ _ c.push.ensures.items refl c.args.self.now.since refl c.args.bank c.sync.ensures.synced

pub returns-clause-time : goal.returns-clause-time
returns-clause-time c = sync_time _ _ c.push.ensures.items refl c.args.self.now.since refl c.args.bank c.sync.ensures.synced
