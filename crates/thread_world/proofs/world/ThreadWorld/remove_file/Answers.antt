use Rattle.thread_world.proofs.world.ThreadWorld.remove_file.Goals as goal

pub returns-clause-keeps : goal.returns-clause-keeps
returns-clause-keeps g c = record {
  banks = c.remove_file.ensures.banks;
  table = c.remove_file.ensures.table;
  faults = c.remove_file.ensures.faults;
  calls = c.remove_file.ensures.calls;
  clock = c.remove_file.ensures.clock;
}
