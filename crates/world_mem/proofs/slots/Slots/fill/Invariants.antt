use Rattle.std.proofs.Common.{◌≡◌, ◌<◌, ℕ, List, Some, None, take}
use Rattle.world_mem.specs.Blocked.{HasFile, IsRefused}
use Rattle.world_mem.specs.InSlots.{slot_at, file_of, content_of, mark_of, stamp_at, file_at, Stands}
use Rattle.world_mem.specs.declared.slots.File.{File}
use Rattle.world_mem.proofs.slots.Slots.fill.Given as goal

abbrev pub invariant-loop-place : goal.invariant-loop-place
invariant-loop-place l = record {
  files : (path : List ℕ) → content_of (slot_at l.self path) ≡ file_at (take l.place l.files) path;
  only : (path : List ℕ) → Stands l.self path → HasFile (take l.place l.files) path;
  stand : (path : List ℕ) → HasFile (take l.place l.files) path → Stands l.self path;
  unmarked : (path : List ℕ) → mark_of (slot_at l.self path) ≡ None;
  named : (path : List ℕ) (file : File) → file_of (slot_at l.self path) ≡ Some file → file.name ≡ path;
  stamps : (path : List ℕ) → stamp_at (slot_at l.self path) ≡ 0;
  none : (place : ℕ) → place < l.place → IsRefused l.files place → ⊥;
}
