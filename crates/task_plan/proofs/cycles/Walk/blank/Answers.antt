use Rattle.task_plan.proofs.CycleLemmas.{begun_new}
use Rattle.task_plan.proofs.cycles.Walk.blank.Goals as goal

pub returns : goal.returns
returns c = begun_new _ c.args.rules c.new-2.ensures.items c.new.ensures.items (c.in_ok-from_elem.ensures.items_if_clones_equal (λ y h. cc))
