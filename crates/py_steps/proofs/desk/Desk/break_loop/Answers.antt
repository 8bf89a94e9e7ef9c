use Rattle.std.proofs.Common.{arith, ◌≡◌, ◌∙◌, ap, sym, length, reverse}
use Rattle.py_steps.proofs.Leaving.{stacks_are, loop_taken, other_taken, none_taken}
use Rattle.py_steps.proofs.desk.Desk.break_loop.Goals as goal

pub returns-then-is_loop : goal.returns-then-is_loop
returns-then-is_loop c =
    stacks_are _ _ _ _ (loop_taken c.tasks.self.tasks.items c.pop.new.self.items c.args.self.now.tasks.items c.in-Some.task c.tasks.invariant.0 c.in-Some.ensures.items (sym c.is_loop.ensures ∙ c.if-is_loop.true))
    (ap (λ vs. reverse vs.items) c.tasks.invariant.1)

pub tasks-preserved : goal.tasks-preserved
tasks-preserved c =
    (other_taken c.tasks.self.tasks.items c.pop.new.self.items c.args.self.now.tasks.items c.in-Some.task c.tasks.invariant.0 c.in-Some.ensures.items (sym c.is_loop.ensures ∙ c.if-is_loop.false), c.tasks.invariant.1)

pub returns : goal.returns
returns c =
    let none : length c.tasks.self.tasks.items ≡ 0 = omega (arith, c.tasks.self.tasks.ok.0, c.in_default.ensures.cases.0) in
    let rest : length c.pop.new.self.items ≡ 0 = omega (arith, c.pop.new.self.ok.0, c.in_default.ensures.cases.1) in
    stacks_are _ _ _ _ (none_taken c.tasks.self.tasks.items c.pop.new.self.items c.args.self.now.tasks.items c.tasks.invariant.0 none rest)
    (ap (λ vs. reverse vs.items) c.tasks.invariant.1)
