use Rattle.std.proofs.Common.{arith, sym}
use Rattle.std.proofs.lemmas.List.{take_all}
use Rattle.build_history.proofs.Truth.{refused_at, refused_exit, so_far_at, so_far_first, told_all}
use Rattle.build_history.proofs.course.history.Goals as goal

pub loop-place-init : goal.loop-place-init
loop-place-init c =
    let new = c.new-told in
    so_far_first new.result c.args.world new.ensures.world new.ensures.trees new.ensures.reports new.ensures.outs c.requires.idle

pub after-requires : goal.after-requires
after-requires c = record { idle = c.loop-place.invariant.idle }

pub loop-place-preserved : goal.loop-place-preserved
loop-place-preserved c =
    so_far_at c.args.events.now c.loop-place.place c.index-events-place.result c.loop-place-test.true
    (sym c.index-events-place.is) c.loop-place.invariant c.in_ok-told.ensures.goes

pub returns-in_err-told-clause-fault : goal.returns-in_err-told-clause-fault
returns-in_err-told-clause-fault c =
    refused_exit c.from_residual.result _ _ c.from_residual.ensures.1
    (refused_at c.args.events.now c.loop-place.place c.index-events-place.result _ c.loop-place-test.true (sym c.index-events-place.is)
    c.loop-place.invariant c.in_err-told.ensures.fault)

pub returns-clause-told : goal.returns-clause-told
returns-clause-told c =
    told_all c.args.events.now c.loop-place.place (take_all c.loop-place.place c.args.events.now (omega arith)) c.loop-place.invariant
