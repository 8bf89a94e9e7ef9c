-- The jobs of a world in memory.
use Rattle.std.specs.Prelude.{◌≡◌}
use Rattle.world_mem.specs.AsAround.{around_of}
use Rattle.world_mem.specs.declared.world.MemWorld.{MemWorld}

-- the same jobs run
abbrev pub KeepsJobs : MemWorld → MemWorld → Type 0
KeepsJobs old new = (around_of new.state).running ≡ (around_of old.state).running
