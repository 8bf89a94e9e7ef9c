use Rattle.std.proofs.Common.{◌∙◌, sym}
use Rattle.sign_store.specs.Ends.{image_in}
use Rattle.scons_top.specs.Asked.{NamesNone}
use Rattle.scons_top.proofs.Opening.{bytes_after, bytes_list}
use Rattle.scons_top.proofs.Asking.{asked_list, look_at}
use Rattle.scons_top.proofs.Finding.{records_on}
use Rattle.scons_top.proofs.Membership.{counts_absent, counts_dir, counts_file}
use Rattle.scons_top.proofs.Watching.{watches_on}
use Rattle.scons_top.proofs.Causing.{look_exit, world_back}
use Rattle.scons_top.proofs.members.stands.Goals as goal

pub returns-in_err-kind_of-clause-step : goal.returns-in_err-kind_of-clause-step
returns-in_err-kind_of-clause-step g c = look_exit _ _ c.from_residual.result _ c.from_residual.ensures.1 c.in_err-kind_of.ensures.cause

pub returns-in-File-clause-step : goal.returns-in-File-clause-step
returns-in-File-clause-step g c = world_back _ _ _ c.is_kept.result c.in_ok-kind_of.ensures.cause c.is_kept.ensures.step

pub returns-in-File-clause-watches : goal.returns-in-File-clause-watches
returns-in-File-clause-watches g c = watches_on _ _ _ _ c.kind_of.ensures.watches c.is_kept.ensures.watches

pub returns-in_err-kind_of-clause-stops : goal.returns-in_err-kind_of-clause-stops
returns-in_err-kind_of-clause-stops g c = asked_list NamesNone c.from_residual.result _ c.from_residual.ensures.1 (look_at NamesNone _ _ _ c.in_err-kind_of.ensures.cause)

pub returns-in_err-kind_of-clause-bytes : goal.returns-in_err-kind_of-clause-bytes
returns-in_err-kind_of-clause-bytes g c = λ t. bytes_list _ c.from_residual.result _ c.from_residual.ensures.1

pub returns-in-File-clause-bytes : goal.returns-in-File-clause-bytes
returns-in-File-clause-bytes g c =
    bytes_after g.W.Disk.meaning c.args.world.now c.kind_of.new.world c.is_kept.new.world c.is_kept.result c.kind_of.ensures.watches.looks c.is_kept.ensures.watches.looks.told.told
    c.is_kept.ensures.bytes

pub returns-in_err-kind_of-clause-records : goal.returns-in_err-kind_of-clause-records
returns-in_err-kind_of-clause-records g c = λ known. records_on g.W.Disk.meaning c.args.world.now c.kind_of.new.world c.args.view.now c.kind_of.ensures.watches.looks known

pub returns-in-File-clause-records : goal.returns-in-File-clause-records
returns-in-File-clause-records g c = λ known.
    c.is_kept.ensures.records (records_on g.W.Disk.meaning c.args.world.now c.kind_of.new.world c.args.view.now c.kind_of.ensures.watches.looks known)

pub returns-in-Dir-clause-records : goal.returns-in-Dir-clause-records
returns-in-Dir-clause-records g c = λ known. records_on g.W.Disk.meaning c.args.world.now c.kind_of.new.world c.args.view.now c.kind_of.ensures.watches.looks known

pub returns-in-Absent-clause-records : goal.returns-in-Absent-clause-records
returns-in-Absent-clause-records g c = λ known. records_on g.W.Disk.meaning c.args.world.now c.kind_of.new.world c.args.view.now c.kind_of.ensures.watches.looks known

pub returns-in-File-clause-stands : goal.returns-in-File-clause-stands
returns-in-File-clause-stands g c = λ known.
    let m = g.W.Disk.meaning in
    counts_file m c.args.graph.now c.args.path.now c.kind_of.new.world c.is_kept.new.world c.is_kept.result c.is_kept.ensures.watches.looks
    (λ t. sym (c.in_ok-kind_of.ensures.kind t) ∙ c.in-File.is)
    (c.is_kept.ensures.kept (records_on m c.args.world.now c.kind_of.new.world c.args.view.now c.kind_of.ensures.watches.looks known))

pub returns-in-Dir-clause-stands : goal.returns-in-Dir-clause-stands
returns-in-Dir-clause-stands g c = λ known rest.
    let m = g.W.Disk.meaning in
    let new = c.kind_of.new.world in
    counts_dir c.args.graph.now (m.around new) (image_in (m.seen new)) c.args.path.now (sym (c.in_ok-kind_of.ensures.kind rest.0) ∙ c.in-Dir.is)

pub returns-in-Absent-clause-stands : goal.returns-in-Absent-clause-stands
returns-in-Absent-clause-stands g c = λ known rest.
    let m = g.W.Disk.meaning in
    let new = c.kind_of.new.world in
    counts_absent c.args.graph.now (m.around new) (image_in (m.seen new)) c.args.path.now (sym (c.in_ok-kind_of.ensures.kind rest.0) ∙ c.in-Absent.is)
