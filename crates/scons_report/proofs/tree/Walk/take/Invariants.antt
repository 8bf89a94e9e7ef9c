use Rattle.std.proofs.Common.{◌≡◌, ◌≤◌, ℕ, Bool, List, length, vec_len}
use Rattle.scons_report.specs.Trees.{Shown}
use Rattle.scons_report.specs.Walks.{over, sides_of}
use Rattle.scons_report.proofs.tree.Walk.take.Given as goal

-- what is left is what was, whatever levels with nothing left were dropped
abbrev pub invariant-loop-level : goal.invariant-loop-level
invariant-loop-level l = record {
  same : (shown : Shown) (depth : ℕ) (margin : List ℕ) (marks : List Bool) → over shown depth margin (sides_of l.fn.self) marks ≡ over shown depth margin (sides_of l.self) marks;
  fewer : length (sides_of l.self) ≤ length (sides_of l.fn.self);
  marks : l.self.is_open ≡ l.fn.self.is_open;
}

abbrev pub decreases-loop-level : goal.decreases-loop-level
decreases-loop-level l = vec_len l.self.levels
