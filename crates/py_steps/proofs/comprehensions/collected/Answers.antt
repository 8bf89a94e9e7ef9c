use Rattle.std.proofs.Common.{◌∙◌, ◌-◌, ℕ, ap, sym, subst}
use Rattle.py_steps.specs.Leads.{Steps, left_at}
use Rattle.py_steps.proofs.Items.{list_as}
use Rattle.py_steps.proofs.comprehensions.collected.Goals as goal

pub returns : goal.returns
returns c =
    let base = c.saturating_sub-base.ensures ∙ ap (λ (n : ℕ). n - c.args.collecting.count) c.height.ensures in
    subst (λ p. Steps p c.display.result (left_at c.display.new.desk c.display.new.machine c.close.new.self))
    (sym (list_as c.args.collecting c.saturating_sub-base.result c.args.desk.now c.args.machine.now c.args.frame.now c.close.new.self c.close.ensures base))
    c.display.ensures
