-- How far a plan is with each rule, and whom it tells of what.
use Rattle.std.specs.Prelude.{ℕ, Bool, List, [], get_or, map}
use Rattle.std.specs.declared.alloc.Global.{Global}
use Rattle.std.specs.declared.vec.Vec.{Vec}
use Rattle.scons_base.specs.declared.ids.RuleId.{RuleId}
use Rattle.task_plan.specs.declared.task.Task.{Task}

-- the needs of a rule before one place are done, its files before another were scanned, and none before a third can be scanned now
pub record Places : Type 0 where
  pub passed : ℕ
  pub whole : ℕ
  pub next : ℕ

abbrev pub places_of : Task → Places
places_of t = record { passed = t.passed; whole = t.reach.whole; next = t.reach.next }

-- The places of each rule, by its number; the rules that are told when a file is done, by the file's number; whether the order fits what was
-- scanned; and the rules of the requested nodes.
pub record Notes : Type 0 where
  pub places : List Places
  pub waiters : List (List RuleId)
  pub is_ordered : Bool
  pub roots : List RuleId

abbrev pub lists_of : List (Vec RuleId Global) → List (List RuleId)
lists_of waiters = map (λ w. w.items) waiters

abbrev pub notes_of : List Task → List (Vec RuleId Global) → Bool → List RuleId → Notes
notes_of tasks waiters is_ordered roots = record { places = map places_of tasks; waiters = lists_of waiters; is_ordered = is_ordered; roots = roots }

-- the rules that are told when a file is done
abbrev pub waiters_of : List (List RuleId) → ℕ → List RuleId
waiters_of waiters node = get_or waiters node []
