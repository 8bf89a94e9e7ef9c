use Rattle.std.proofs.Common.{arith, ◌≡◌, ◌∙◌, List, min, length, reverse, ap}
use Rattle.py_heap.specs.declared.value.Value.{Value}
use Rattle.py_steps.specs.Desks.{Stacks, tasks_of}
use Rattle.py_steps.proofs.Stacks.{above_is, under_is}
use Rattle.py_steps.proofs.desk.Desk.take_above.Goals as goal

pub returns-clause-values : goal.returns-clause-values
returns-clause-values c =
    let from : c.min-from.result ≡ min c.args.height (length c.args.self.now.values.items) = omega (arith, c.args.self.now.values.ok.0) in
    c.in_ok-taken.ensures.tail ∙ above_is c.args.self.now.values.items c.min-from.result c.args.height from

pub returns-clause-left : goal.returns-clause-left
returns-clause-left c =
    let from : c.min-from.result ≡ min c.args.height (length c.args.self.now.values.items) = omega (arith, c.args.self.now.values.ok.0) in
    let with_values : List Value → Stacks = λ vs. record { tasks = tasks_of c.args.self.now; values = vs } in
    ap with_values (ap reverse c.in_ok-taken.ensures.items ∙ under_is c.args.self.now.values.items c.min-from.result c.args.height from)
