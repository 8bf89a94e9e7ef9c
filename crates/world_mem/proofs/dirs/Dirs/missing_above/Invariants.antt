use Rattle.std.proofs.Common.{◌≡◌, ◌↔◌, ◌⊎◌, ◌<◌, ℕ, List, Contains, take, get_or, false}
use Rattle.world_mem.specs.Standing.{is_dir}
use Rattle.world_mem.proofs.dirs.Dirs.missing_above.Given as goal

abbrev pub invariant-loop-place : goal.invariant-loop-place
invariant-loop-place l = (dir : List ℕ) → Contains l.fresh dir ↔ (Contains l.initial.fresh dir ⊎ (((k : ℕ) × (k < l.place) × (get_or l.bytes k 0 ≡ 47) × (take k l.bytes ≡ dir)) × (is_dir l.self dir ≡ false)))
