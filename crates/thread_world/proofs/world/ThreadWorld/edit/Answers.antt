use Rattle.thread_world.proofs.world.ThreadWorld.edit.Goals as goal

pub returns-clause-keeps : goal.returns-clause-keeps
returns-clause-keeps g c = record {
  banks = c.edit.ensures.banks;
  table = c.edit.ensures.table;
  faults = c.edit.ensures.faults;
  calls = c.edit.ensures.calls;
  clock = c.edit.ensures.clock;
}
