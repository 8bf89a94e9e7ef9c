use Rattle.world_mem.proofs.Idle.{idle_on}
use Rattle.world_mem.proofs.Unmade.{unmade_of}
use Rattle.world_mem.proofs.world.MemWorld.remove_file.Goals as goal

pub invariant_of-self-clause-unmade : goal.invariant_of-self-clause-unmade
invariant_of-self-clause-unmade c = unmade_of c.lose.new.self

pub returns-clause-idle : goal.returns-clause-idle
returns-clause-idle c = idle_on c.args.self.now.state c.lose.new.self c.lose.ensures.running
