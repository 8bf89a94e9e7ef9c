-- A world in memory as what stands around, with what led to it.
use Rattle.std.specs.Prelude.{reverse}
use Rattle.world_mem.specs.AsAround.{around_of}
use Rattle.world_mem.specs.Past.{Course}
use Rattle.world_mem.specs.declared.state.State.{State}

abbrev pub course_of : State → Course
course_of state = record { around = around_of state; changes = reverse state.past.items }
