use Rattle.std.proofs.Common.{◌≡◌, ◌<◌, ℕ, true, Some}
use Rattle.std.specs.Prelude.{map, slice_get}
use Rattle.scons_base.specs.declared.ids.RuleId.{RuleId}
use Rattle.task_plan.specs.Settled.{kept_of}
use Rattle.task_plan.specs.Held.{waits_for}
use Rattle.task_plan.specs.Walks.{is_seen}
use Rattle.task_plan.specs.Holding.{FindsIn, IsToldOf}
use Rattle.task_plan.proofs.held.Held.add_told.Given as goal

abbrev pub invariant-loop-rule : goal.invariant-loop-rule
invariant-loop-rule l = record {
  finds : FindsIn (IsToldOf l.states (map kept_of l.tasks) l.rules l.fn.file) l.fn.fault l.initial.self l.self;
  all : (n : ℕ) (rule : RuleId) → n < l.rule-index → slice_get l.rules n ≡ Some rule → waits_for l.states (map kept_of l.tasks) rule.0 l.fn.file ≡ true → is_seen l.self.seen.items rule.0 ≡ true;
}
