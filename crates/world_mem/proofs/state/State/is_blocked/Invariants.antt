use Rattle.std.proofs.Common.{ℕ, List, Contains, take}
use Rattle.world_mem.specs.AsAround.{around_of}
use Rattle.world_mem.specs.Blocked.{IsBarred}
use Rattle.world_mem.specs.InSlots.{Stands}
use Rattle.world_mem.proofs.Below.{AreApart}
use Rattle.world_mem.proofs.state.State.is_blocked.Given as goal

abbrev pub invariant-loop-target : goal.invariant-loop-target
invariant-loop-target l = record {
  only : (other : List ℕ) → Stands l.own other → Contains l.target-items other;
  stand : (other : List ℕ) → Contains (take l.target-index l.target-items) other → Stands l.own other;
  free : (other : List ℕ) → Contains (take l.target-index l.target-items) other → IsBarred (around_of l.self) other → ⊥;
  apart : AreApart (take l.target-index l.target-items);
}
