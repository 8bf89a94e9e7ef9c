use Rattle.std.proofs.Common.{◌≡◌, ℕ, List, ◌<◌, Some, IsSome}
use Rattle.std.specs.List.{slice_index_or}
use Rattle.world_mem.specs.InSlots.{slot_at, file_of, holds_live, content_of, mark_of}
use Rattle.world_mem.specs.declared.slots.Slot.{Slot}
use Rattle.world_mem.proofs.slots.Slots.make_places.Given as goal

abbrev pub invariant-loop-path : goal.invariant-loop-path
invariant-loop-path l = record {
  kept : (other : List ℕ) (slot : Slot) → slot_at l.initial.self other ≡ Some slot → slot_at l.self other ≡ Some slot;
  same : (other : List ℕ) → content_of (slot_at l.self other) ≡ content_of (slot_at l.initial.self other);
  files : (other : List ℕ) → file_of (slot_at l.self other) ≡ file_of (slot_at l.initial.self other);
  live : (other : List ℕ) → holds_live (slot_at l.self other) ≡ holds_live (slot_at l.initial.self other);
  marks : (other : List ℕ) → mark_of (slot_at l.self other) ≡ mark_of (slot_at l.initial.self other);
  stand : (k : ℕ) (d : List ℕ) → k < l.path-index → IsSome (slot_at l.self (slice_index_or l.path-items k d));
}
