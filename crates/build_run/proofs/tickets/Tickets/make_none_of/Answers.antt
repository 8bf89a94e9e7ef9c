use Rattle.std.proofs.Common.{◌∙◌, ℕ, List, sym, subst, Contains, arith}
use Rattle.build_run.specs.Holds.{Busy, holds_in}
use Rattle.build_run.specs.Outs.{ShareNone}
use Rattle.build_run.specs.declared.tickets.Hold.{Hold}
use Rattle.build_run.proofs.Holding.{below_one_more, each_mapped}
use Rattle.build_run.proofs.Outs.{held_in}
use Rattle.build_run.proofs.tickets.Tickets.make_none_of.Goals as goal

pub loop-busy-preserved : goal.loop-busy-preserved
loop-busy-preserved c =
    let apart = λ (path : List ℕ) (a : Contains c.args.job.now.targets path) (b : Contains c.busy-item.result.hold.targets path).
    c.shares.ensures c.if-shares.false path (subst (λ (xs : List (List ℕ)). Contains xs path) (sym c.as_slice.ensures) a) b in
    below_one_more (λ (hold : Hold). ShareNone c.args.job.now.targets hold.targets) c.deref-busy-items.result.now c.loop-busy.busy-index c.busy-item.result (omega arith) c.busy-item.is c.loop-busy.invariant apart

pub returns : goal.returns
returns c = λ e busy h.
    let among : Contains (holds_in c.deref-busy-items.result.now) busy.hold =
    held_in c.deref-busy-items.result.now busy (subst (λ (bs : List Busy). Contains bs busy) (sym c.self.view_is ∙ sym c.deref-busy-items.ensures.value) h) in
    each_mapped (λ (hold : Hold). ShareNone c.args.job.now.targets hold.targets) c.deref-busy-items.result.now (λ k d lt. c.loop-busy.invariant k d (omega arith)) busy.hold among
