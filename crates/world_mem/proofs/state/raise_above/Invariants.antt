use Rattle.std.proofs.Common.{◌↔◌, ◌⊎◌, ℕ, List, IsTrue, take}
use Rattle.world_mem.specs.Blocked.{HasBelow, HasFile}
use Rattle.world_mem.specs.Standing.{is_dir}
use Rattle.world_mem.proofs.state.raise_above.Given as goal

abbrev pub invariant-loop-path : goal.invariant-loop-path
invariant-loop-path l = (dir : List ℕ) → IsTrue (is_dir l.dirs dir) ↔ (IsTrue (is_dir l.initial.dirs dir) ⊎ HasBelow (HasFile (take l.path-index l.files)) dir)
