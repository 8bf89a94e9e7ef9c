-- Counts that rose more than once, and faults by their kind.
use Rattle.std.specs.Prelude.{◌≤◌, ◌+◌, ◌-◌, ◌^◌, Bool, true, false, ℕ, min}
use Rattle.rule_graph.specs.declared.build_fault.BuildFault.{BuildFault}
use Rattle.rule_graph.specs.declared.build_fault.BuildFault.TheVariants as fault

-- a count that rose at least so often; it stands still at the greatest number of 64 bits
pub record RoseBy (often before now : ℕ) : Type 0 where
  pub later : before ≤ now
  pub more : min (before + often) (2 ^ 64 - 1) ≤ now

abbrev pub is_action_fault : BuildFault → Bool
is_action_fault (fault.Missing node target) = false
is_action_fault (fault.Cycle paths) = false
is_action_fault (fault.ActionFailed target code) = true
is_action_fault (fault.TreeFault path) = false
is_action_fault (fault.StartFault target) = false
is_action_fault fault.StoreFault = false
is_action_fault fault.OutFault = false
is_action_fault (fault.TooLarge path size) = false
is_action_fault (fault.TooMany what count) = false

abbrev pub is_start_fault : BuildFault → Bool
is_start_fault (fault.Missing node target) = false
is_start_fault (fault.Cycle paths) = false
is_start_fault (fault.ActionFailed target code) = false
is_start_fault (fault.TreeFault path) = false
is_start_fault (fault.StartFault target) = true
is_start_fault fault.StoreFault = false
is_start_fault fault.OutFault = false
is_start_fault (fault.TooLarge path size) = false
is_start_fault (fault.TooMany what count) = false

abbrev pub is_tree_fault : BuildFault → Bool
is_tree_fault (fault.Missing node target) = false
is_tree_fault (fault.Cycle paths) = false
is_tree_fault (fault.ActionFailed target code) = false
is_tree_fault (fault.TreeFault path) = true
is_tree_fault (fault.StartFault target) = false
is_tree_fault fault.StoreFault = false
is_tree_fault fault.OutFault = false
is_tree_fault (fault.TooLarge path size) = false
is_tree_fault (fault.TooMany what count) = false

abbrev pub is_out_fault : BuildFault → Bool
is_out_fault (fault.Missing node target) = false
is_out_fault (fault.Cycle paths) = false
is_out_fault (fault.ActionFailed target code) = false
is_out_fault (fault.TreeFault path) = false
is_out_fault (fault.StartFault target) = false
is_out_fault fault.StoreFault = false
is_out_fault fault.OutFault = true
is_out_fault (fault.TooLarge path size) = false
is_out_fault (fault.TooMany what count) = false
