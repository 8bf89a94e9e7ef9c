-- How often the outside was at fault, since the world was made.
use Rattle.std.specs.Prelude.{ℕ}

pub record Counts : Type 0 where
  pub disk_faults : ℕ
  pub tree_faults : ℕ
  pub start_faults : ℕ
  pub action_failures : ℕ
