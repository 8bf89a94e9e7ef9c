use Rattle.std.proofs.Common.{◌∙◌, ap, sym, reverse}
use Rattle.py_steps.proofs.Leaving.{stacks_are, loop_seen, none_seen}
use Rattle.py_steps.proofs.desk.Desk.continue_loop.Goals as goal

pub returns-then-is_loop : goal.returns-then-is_loop
returns-then-is_loop c =
    stacks_are _ _ _ _ (loop_seen c.tasks.self.tasks.items c.deref.result.now c.args.self.now.tasks.items c.in-Some.task.now c.tasks.invariant.0 c.deref.ensures.value c.in-Some.ensures.value (sym c.is_loop.ensures ∙ c.if-is_loop.true))
    (ap (λ vs. reverse vs.items) c.tasks.invariant.1)

pub returns : goal.returns
returns c =
    stacks_are _ _ _ _ (none_seen c.tasks.self.tasks.items c.deref.result.now c.args.self.now.tasks.items c.tasks.invariant.0 c.deref.ensures.value c.in_default.ensures.value)
    (ap (λ vs. reverse vs.items) c.tasks.invariant.1)
