-- The room of a world in memory.
use Rattle.std.specs.Prelude.{ℕ, ◌+◌, ◌<◌, ◌≤◌, vec_len}
use Rattle.world_mem.specs.declared.world.MemWorld.{MemWorld}

-- how many writes, syncs and removals are recorded
abbrev pub recorded : MemWorld → ℕ
recorded world = vec_len world.banks.changes + world.state.removals

-- a write has room in its bank and in the record
pub record HasRoom (world : MemWorld) (place count : ℕ) : Type 0 where
  pub calls : recorded world < 262144
  pub bank : place + count ≤ 4194304
  pub written : world.banks.written + count ≤ 8388608
