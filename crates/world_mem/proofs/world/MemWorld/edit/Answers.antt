use Rattle.std.proofs.Common.{arith}
use Rattle.world_mem.proofs.Idle.{idle_on}
use Rattle.world_mem.proofs.Unmade.{unmade_of}
use Rattle.world_mem.proofs.world.MemWorld.edit.Goals as goal

pub invariant_of-self : goal.invariant_of-self
invariant_of-self c = record {
  unmade = unmade_of c.edit.new.self;
  turns_room = omega (arith, c.edit.ensures.jobs, c.edit.ensures.removals);
  since = c.args.self.now.since;
  recorded_within = omega (arith, c.edit.ensures.removals);
  turns_capacity = c.args.self.now.turns_capacity;
  counts = c.args.self.now.counts;
}

pub invariant_of-self-2-clause-unmade : goal.invariant_of-self-2-clause-unmade
invariant_of-self-2-clause-unmade c = unmade_of c.edit.new.self

pub returns-in_err-edit-clause-idle : goal.returns-in_err-edit-clause-idle
returns-in_err-edit-clause-idle c = idle_on c.args.self.now.state c.edit.new.self c.edit.ensures.jobs

pub returns-clause-idle : goal.returns-clause-idle
returns-clause-idle c = idle_on c.args.self.now.state c.edit.new.self c.edit.ensures.jobs
