-- A world in memory as what stands around.
use Rattle.std.specs.Prelude.{map, codes}
use Rattle.world_api.specs.Around.{Around}
use Rattle.world_mem.specs.InSlots.{slot_at, content_of, stamp_at}
use Rattle.world_mem.specs.Kept.{entry_of, running_of, met_of}
use Rattle.world_mem.specs.Standing.{is_dir}
use Rattle.world_mem.specs.Table.{law_of}
use Rattle.world_mem.specs.declared.state.State.{State}

abbrev pub around_of : State → Around
around_of state = record {
  tree = λ path. content_of (slot_at state.slots path);
  dirs = λ dir. is_dir state.dirs dir;
  stamps = λ path. stamp_at (slot_at state.slots path);
  running = map running_of state.running.items;
  log = map entry_of state.log.items;
  met = met_of state.met.items;
  law = law_of state.table;
  top = codes "/top";
}
