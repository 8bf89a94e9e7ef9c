use Rattle.std.proofs.Common.{◌≡◌, ap, subst, arith, ℕ, List, IsSome, length}
use Rattle.std.specs.List.{slice_index_or}
use Rattle.world_mem.specs.InSlots.{slot_at}
use Rattle.world_mem.proofs.slots.Slots.make_places.Goals as goal

pub returns-clause-stand : goal.returns-clause-stand
returns-clause-stand c = λ k d lt.
    let same : c.as_slice-path-items.result.now ≡ c.args.paths.now = c.as_slice-path-items.ensures in
    subst (λ (ps : List (List ℕ)). IsSome (slot_at c.loop-path.self (slice_index_or ps k d))) same
    (c.loop-path.invariant.stand k d (omega (arith, ap length same)))
