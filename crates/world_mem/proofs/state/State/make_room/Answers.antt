use Rattle.std.proofs.Common.{sym, subst, IsSome}
use Rattle.std.specs.List.{slice_index_or}
use Rattle.world_mem.specs.InSlots.{slot_at}
use Rattle.world_mem.specs.declared.dirs.Dirs.{Dirs}
use Rattle.world_mem.specs.declared.slots.Slots.{Slots}
use Rattle.world_mem.proofs.state.State.make_room.Goals as goal

pub returns-clause-places : goal.returns-clause-places
returns-clause-places c = λ k d lt.
    subst (λ (slots : Slots). IsSome (slot_at slots (slice_index_or c.args.entering.now.run.job.targets k d))) (sym c.in_ok-widen.ensures.slots) (c.in_ok-make_places.ensures.places k d lt)

pub returns-clause-fresh : goal.returns-clause-fresh
returns-clause-fresh c = λ k d lt.
    subst (λ (dirs : Dirs). IsSome (slot_at dirs.slots (slice_index_or c.args.entering.now.dirs k d))) (sym c.in_ok-widen.ensures.dirs) (c.in_ok-make_places.ensures.fresh k d lt)
