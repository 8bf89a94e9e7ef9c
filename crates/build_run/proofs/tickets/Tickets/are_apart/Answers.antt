use Rattle.std.proofs.Common.{◌∙◌, sym, ap, subst, Contains, arith}
use Rattle.build_run.specs.Holds.{KeepsApart, holds_in}
use Rattle.build_run.proofs.Holding.{below_one_more, each_mapped}
use Rattle.build_run.proofs.tickets.Tickets.are_apart.Goals as goal

pub loop-busy-preserved : goal.loop-busy-preserved
loop-busy-preserved c = below_one_more (KeepsApart c.args.job.now) c.deref-busy-items.result.now c.loop-busy.busy-index c.busy-item.result (omega arith) c.busy-item.is c.loop-busy.invariant (c.is_apart.ensures c.if-not-is_apart.false)

pub returns : goal.returns
returns c = λ e hold h. each_mapped (KeepsApart c.args.job.now) c.deref-busy-items.result.now (λ k d lt. c.loop-busy.invariant k d (omega arith)) hold
    (subst (λ hs. Contains hs hold) (ap holds_in (sym c.self.view_is) ∙ ap holds_in (sym c.deref-busy-items.ensures.value)) h)
