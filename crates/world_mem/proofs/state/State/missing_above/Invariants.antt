use Rattle.std.proofs.Common.{◌≡◌, ◌↔◌, ℕ, List, Contains, take, false}
use Rattle.world_mem.specs.Blocked.{LiesBelow}
use Rattle.world_mem.specs.Standing.{is_dir}
use Rattle.world_mem.proofs.state.State.missing_above.Given as goal

abbrev pub invariant-loop-target : goal.invariant-loop-target
invariant-loop-target l = (dir : List ℕ) → Contains l.dirs dir ↔ (((target : List ℕ) × Contains (take l.target-index l.target-items) target × LiesBelow target dir) × (is_dir l.self.dirs dir ≡ false))
