use Rattle.world_mem.proofs.Directories.{Rest}
use Rattle.world_mem.proofs.slots.Slots.stands_below.Given as goal

abbrev pub invariant-loop-key : goal.invariant-loop-key
invariant-loop-key l = Rest l.self l.path l.key-iterator
