use Rattle.scons_top.specs.Asked.{NamesNone}
use Rattle.scons_top.proofs.Opening.{bytes_exit}
use Rattle.scons_top.proofs.Asking.{asked_exit}
use Rattle.scons_top.proofs.Membership.{tells_not}
use Rattle.scons_top.proofs.Causing.{world_exit}
use Rattle.scons_top.proofs.members.is_kept.Goals as goal

pub returns-in_err-is_left_over-clause-step : goal.returns-in_err-is_left_over-clause-step
returns-in_err-is_left_over-clause-step g c = world_exit _ _ c.from_residual.result _ c.from_residual.ensures.1 c.in_err-is_left_over.ensures.step

pub returns-in_err-is_left_over-clause-stops : goal.returns-in_err-is_left_over-clause-stops
returns-in_err-is_left_over-clause-stops g c = asked_exit NamesNone c.from_residual.result _ c.from_residual.ensures.1 c.in_err-is_left_over.ensures.stops

pub returns-in_err-is_left_over-clause-bytes : goal.returns-in_err-is_left_over-clause-bytes
returns-in_err-is_left_over-clause-bytes g c = λ t. bytes_exit _ c.from_residual.result _ c.from_residual.ensures.1 (c.in_err-is_left_over.ensures.bytes t)

pub returns-clause-kept : goal.returns-clause-kept
returns-clause-kept g c = λ known rest. tells_not _ (c.in_ok-is_left_over.ensures.left known rest)
