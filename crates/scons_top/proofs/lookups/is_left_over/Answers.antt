use Rattle.scons_top.proofs.Opening.{bytes_exit, bytes_list}
use Rattle.scons_top.proofs.Asking.{asked_exit, asked_list, look_at}
use Rattle.scons_top.specs.Asked.{NamesNone}
use Rattle.scons_top.proofs.Finding.{records_on}
use Rattle.scons_top.proofs.Watching.{watches_on}
use Rattle.scons_top.proofs.Causing.{world_back, world_exit, look_exit}
use Rattle.scons_top.proofs.lookups.is_left_over.Goals as goal

pub returns-in_err-read_records-clause-step : goal.returns-in_err-read_records-clause-step
returns-in_err-read_records-clause-step g c = world_exit _ _ c.from_residual.result _ c.from_residual.ensures.1 c.in_err-read_records.ensures.step

pub returns-in_err-has_leftover-clause-watches : goal.returns-in_err-has_leftover-clause-watches
returns-in_err-has_leftover-clause-watches g c = watches_on _ _ _ _ c.read_records.ensures.watches c.has_leftover.ensures.watches

pub returns-in_err-has_leftover-clause-step : goal.returns-in_err-has_leftover-clause-step
returns-in_err-has_leftover-clause-step g c =
    let r = c.from_residual-in_err-has_leftover in
    world_back _ _ _ r.result c.in_ok-read_records.ensures.step (look_exit _ _ r.result _ r.ensures.1 c.in_err-has_leftover.ensures.cause)

pub returns-clause-watches : goal.returns-clause-watches
returns-clause-watches g c = watches_on _ _ _ _ c.read_records.ensures.watches c.has_leftover.ensures.watches

pub returns-in_err-read_records-clause-stops : goal.returns-in_err-read_records-clause-stops
returns-in_err-read_records-clause-stops g c = asked_exit NamesNone c.from_residual.result _ c.from_residual.ensures.1 c.in_err-read_records.ensures.stops

pub returns-in_err-has_leftover-clause-stops : goal.returns-in_err-has_leftover-clause-stops
returns-in_err-has_leftover-clause-stops g c = asked_list NamesNone c.from_residual-in_err-has_leftover.result _ c.from_residual-in_err-has_leftover.ensures.1 (look_at NamesNone _ _ _ c.in_err-has_leftover.ensures.cause)

pub returns-in_err-read_records-clause-bytes : goal.returns-in_err-read_records-clause-bytes
returns-in_err-read_records-clause-bytes g c = λ t. bytes_exit _ c.from_residual.result _ c.from_residual.ensures.1 (c.in_err-read_records.ensures.bytes t)

pub returns-in_err-has_leftover-clause-bytes : goal.returns-in_err-has_leftover-clause-bytes
returns-in_err-has_leftover-clause-bytes g c = λ t. bytes_list _ c.from_residual-in_err-has_leftover.result _ c.from_residual-in_err-has_leftover.ensures.1

pub returns-clause-records : goal.returns-clause-records
returns-clause-records g c = λ known.
    records_on g.W.Disk.meaning c.read_records.new.world c.has_leftover.new.world c.read_records.new.view c.has_leftover.ensures.watches.looks (c.read_records.ensures.records known)
