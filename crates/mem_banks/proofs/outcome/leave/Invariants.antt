use Rattle.std.proofs.Common.{◌≡◌, ◌≤◌, ◌%◌, ◌/◌, ℕ, List, length, take, reverse}
use Rattle.mem_banks.specs.Past.{IsLeft, IsAt, synced_bytes}
use Rattle.mem_banks.specs.Picks.{left_as}
use Rattle.mem_banks.proofs.outcome.leave.Given as goal

abbrev pub decreases-loop-left : goal.decreases-loop-left
decreases-loop-left l = l.left

abbrev pub invariant-loop-left : goal.invariant-loop-left
invariant-loop-left l = record {
  within : l.left ≤ length l.changes;
  kept : l.end ≤ length l.saved;
  at : IsAt l.bank (reverse (take l.left l.changes)) l.bytes.items (take l.end l.saved);
  stands : l.pick ≡ 0 → (l.lost ≡ 0) × (l.bytes.items ≡ l.initial.bytes.items);
  lost : l.pick % 4 ≡ 1 → synced_bytes l.bank (reverse (take l.left l.changes)) l.bytes.items (take l.end l.saved) ≡ synced_bytes l.bank (reverse l.changes) l.initial.bytes.items l.saved;
  leads : (outcome : List ℕ) → IsLeft l.bank (reverse (take l.left l.changes)) l.bytes.items (take l.end l.saved) outcome → IsLeft l.bank (reverse l.changes) l.initial.bytes.items l.saved outcome;
  picked : left_as l.cut l.lost l.bank (reverse (take l.left l.changes)) l.bytes.items (take l.end l.saved) ≡ left_as l.cut (l.pick / 4) l.bank (reverse l.changes) l.initial.bytes.items l.saved;
}
