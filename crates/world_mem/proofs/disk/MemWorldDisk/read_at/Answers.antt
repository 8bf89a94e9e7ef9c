use Rattle.std.proofs.Common.{refl}
use Rattle.world_mem.proofs.Passing.{idle_recalls, idle_disk}
use Rattle.world_mem.proofs.disk.MemWorldDisk.read_at.Goals as goal

pub returns-then-ne-clause-recalls : goal.returns-then-ne-clause-recalls
returns-then-ne-clause-recalls c = idle_recalls _ _ (record { turns = refl; horizon = refl; machine = refl })

pub returns-then-ne-clause-time : goal.returns-then-ne-clause-time
returns-then-ne-clause-time c = idle_disk _ _ (record { turns = refl; horizon = refl; machine = refl })

pub returns-clause-recalls : goal.returns-clause-recalls
returns-clause-recalls c = idle_recalls _ _ (record { turns = refl; horizon = refl; machine = refl })

pub returns-clause-time : goal.returns-clause-time
returns-clause-time c = idle_disk _ _ (record { turns = refl; horizon = refl; machine = refl })
